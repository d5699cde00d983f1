pub mod CompleteMeaning
