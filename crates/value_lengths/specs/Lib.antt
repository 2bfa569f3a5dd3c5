pub mod SaidCalls
