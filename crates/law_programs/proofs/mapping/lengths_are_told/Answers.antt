use Rattle.law_programs.proofs.Lengths.{lengths-are-told}
use Rattle.law_programs.proofs.mapping.lengths_are_told.Goals as goal

pub returns : goal.returns
returns c = lengths-are-told
