pub mod RefuseText
