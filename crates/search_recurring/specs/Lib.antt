pub mod Recurring
