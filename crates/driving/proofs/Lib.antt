pub mod Laying
pub mod Slices
pub mod Telling
