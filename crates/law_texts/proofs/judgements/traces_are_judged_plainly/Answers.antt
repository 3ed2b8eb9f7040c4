use Rattle.law_texts.proofs.JudgedLemmas.{judged_plainly}
use Rattle.law_texts.proofs.judgements.traces_are_judged_plainly.Goals as goal

pub returns : goal.returns
returns c = judged_plainly
