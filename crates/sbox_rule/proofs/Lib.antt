pub mod SBox
