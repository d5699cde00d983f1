pub mod Lifting
mod Told
