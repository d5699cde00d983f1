pub mod Spreading
mod Told
