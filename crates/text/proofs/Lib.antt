pub mod Laying
pub mod Same
