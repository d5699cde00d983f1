-- The rules as a relation, and the form that they keep.
pub mod Changes
pub mod Inversion
pub mod FineKept
pub mod ShapeKept
-- Steps grow fewer: the weight, the measure, the bound.
pub mod Mass
pub mod Measure
pub mod Steps
-- The strategy, and runs.
pub mod Least
pub mod Bounds
pub mod Strategy
pub mod Runs
pub mod Reached
-- Rules on the stretch of a sheet from a place on: its head, its children, the families.
pub mod SheetPlaces
pub mod Heads
pub mod Children
pub mod Turns
