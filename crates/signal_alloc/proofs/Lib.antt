pub mod SignalLemmas
