pub mod Regrouped
