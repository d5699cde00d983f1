pub mod PackedValues
