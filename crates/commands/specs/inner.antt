pub mod Orders
pub mod Writes
pub mod Counts
pub mod TextParts
pub mod Programs
