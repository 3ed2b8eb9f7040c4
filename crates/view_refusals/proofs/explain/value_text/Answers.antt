-- proofs/explain/value_text/Answers.antt
-- The text in place of one that tells a place is the line that says so, with the words behind it.
use Rattle.view_refusals.proofs.ToldLemmas.{told_none}
use Rattle.view_refusals.proofs.explain.value_text.Goals as goal

pub returns-in_default-get : goal.returns-in_default-get
returns-in_default-get c = told_none _ _ _ _ c.in_ok-no_place-2.ensures
