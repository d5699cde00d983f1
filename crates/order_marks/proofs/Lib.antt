pub mod MarksSoFar
