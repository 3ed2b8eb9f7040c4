mod ServiceLemmas
mod SendLemmas
mod ConnectLemmas
mod HeldLemmas
mod NameLemmas
mod RequestLemmas
