pub mod BookNumbers
