mod Lists
mod PlaceLemmas
mod Walks
mod Leaving
pub mod ServiceLemmas
mod EffectLemmas
