pub mod Simplifying
