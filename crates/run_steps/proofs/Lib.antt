pub mod StartAndEnd
