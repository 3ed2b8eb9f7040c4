use Rattle.law_manager.proofs.After.{stands-after, stands-got, stands-quiet, stands-stepped}
use Rattle.law_manager.proofs.standing.tables_stand_after_events.Goals as goal

pub returns : goal.returns
returns c = record { event = stands-after; quiet = stands-quiet; get = stands-got; step = stands-stepped }
