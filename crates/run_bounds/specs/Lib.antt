pub mod BoundTables
pub mod Floors
