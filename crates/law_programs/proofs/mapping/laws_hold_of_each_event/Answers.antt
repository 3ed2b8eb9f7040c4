use Rattle.law_programs.proofs.Events.{each-is-event}
use Rattle.law_programs.proofs.mapping.laws_hold_of_each_event.Goals as goal

pub returns : goal.returns
returns c = each-is-event
