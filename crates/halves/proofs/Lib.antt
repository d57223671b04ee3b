pub mod ByteHalves
pub mod PackedHalves
pub mod ColumnBits
