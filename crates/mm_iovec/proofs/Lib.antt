pub mod TableLemmas
pub mod VectorLemmas
pub mod WindowLemmas
pub mod NotedLemmas
pub mod OwnLemmas
