mod NameLemmas
pub mod HandlingLemmas
