pub mod NameLemmas
pub mod Twins
pub mod SlotLemmas
pub mod TableLemmas
pub mod FreshLemmas
