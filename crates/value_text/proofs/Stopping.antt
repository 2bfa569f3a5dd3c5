-- Where reading meets an unexpected byte: the longest prefix that some text of the form goes on after ends there.
pub mod Languages
pub mod Signs
pub mod Units
pub mod Texts
pub mod Blobs
pub mod Numbers
pub mod Names
pub mod ItemNames
pub mod Passing
pub mod Lists
pub mod Maps
pub mod Structs
pub mod Plain
pub mod Values
pub mod Prefixes
