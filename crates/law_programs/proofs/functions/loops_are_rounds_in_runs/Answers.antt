use Rattle.law_programs.proofs.Answered.{loops-are-rounds}
use Rattle.law_programs.proofs.functions.loops_are_rounds_in_runs.Goals as goal

pub returns : goal.returns
returns c = loops-are-rounds
