use Rattle.std.proofs.Common.{◌≡◌, drop}
use Rattle.view_scripts.specs.Standings.{end_of}
use Rattle.view_scripts.proofs.standing.end_of.Given as goal

-- no entry so far ended the actor
abbrev pub invariant-loop-entry : goal.invariant-loop-entry
invariant-loop-entry l = end_of l.actor (drop l.entry-index l.entries) ≡ end_of l.actor l.entries
