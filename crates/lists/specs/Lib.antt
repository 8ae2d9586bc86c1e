pub mod Account
pub mod Cursor
pub mod Contract
pub mod inner
