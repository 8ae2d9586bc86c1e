pub mod Flags
pub mod Merging
pub mod Writing
pub mod WholeRun
pub mod Deleting
pub mod Groups
pub mod inner
