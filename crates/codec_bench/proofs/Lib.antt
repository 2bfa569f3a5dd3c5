mod StructFits
mod LastDeclared
mod Reading
