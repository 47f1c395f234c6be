pub mod Places
pub mod HoldersRead
