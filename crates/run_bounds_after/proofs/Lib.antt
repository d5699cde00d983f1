pub mod ZoneChildren
pub mod SheetZones
pub mod RenewedEntries
pub mod FallenSizes
pub mod ConstantChildren
pub mod BoundsSetBack
