pub mod HeldNotes
pub mod Passing
pub mod FactorChildren
