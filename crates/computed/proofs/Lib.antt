-- The definitions checked by computing: FIPS 197's inverses and worked examples, values of AEZ, and document 01's twelve facts.
pub mod ByTable
pub mod Inverses
pub mod Rounds
pub mod Values
pub mod TwelveFacts
