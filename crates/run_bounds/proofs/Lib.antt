pub mod RisingBounds
