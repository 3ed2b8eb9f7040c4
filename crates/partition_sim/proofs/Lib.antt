mod PlanLaws
mod ContextLaws
pub mod HeldLaws
pub mod ResumeLaws
pub mod StepLemmas
pub mod ContextLemmas
pub mod ClientLemmas
pub mod HeldLemmas
pub mod PlanLemmas
pub mod TurnLemmas
pub mod ScheduleLemmas
pub mod WorkerLemmas
