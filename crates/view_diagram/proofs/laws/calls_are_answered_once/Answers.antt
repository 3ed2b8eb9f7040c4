use Rattle.view_diagram.proofs.Places.{each-answered-once}
use Rattle.view_diagram.proofs.laws.calls_are_answered_once.Goals as goal

pub returns : goal.returns
returns c = each-answered-once
