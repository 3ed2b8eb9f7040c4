mod Changed
mod Fitting
mod MessageLemmas
mod Asserted
pub mod Leaving
