pub mod LeastHeads
