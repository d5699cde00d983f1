-- Places and zones; what stands at the places of a tree's children; what a step did, with its family.
pub mod Zones
pub mod ChildPlaces
pub mod Turned
-- What families make of a node. From the zone on the nodes are the old ones, moved.
pub mod Made
pub mod After
-- No rule makes an option occur that did not.
pub mod Mentions
-- Forests that differ in one tree, and forests that look alike down to a level.
pub mod Differ
pub mod Alike
pub mod Looks
-- Nodes read onto such forests.
pub mod Levels
-- Trees in which a literal is assigned.
pub mod Assigned
-- Before the zone rules do not come to apply.
pub mod Before
pub mod Front
pub mod Sides
-- The theorems.
pub mod Locality
-- Inside the tree of a step of rule 9 or 10, but where a child became a constant, rules do not come to apply.
pub mod Inside
