pub mod SlotLemmas
pub mod MadeLemmas
pub mod LabelLemmas
pub mod DeviceLemmas
