pub mod LastTests
