pub mod LookupFits
