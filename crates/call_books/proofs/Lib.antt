pub mod BookTests
pub mod Found
