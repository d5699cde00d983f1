pub mod Bits
pub mod MemberNodes
pub mod Seating
pub mod Joining
pub mod Counting
