pub mod StepLemmas
pub mod HeldLemmas
