pub mod CodeBytes
