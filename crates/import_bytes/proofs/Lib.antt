pub mod Places
mod CommentLines
