use Rattle.std.proofs.Common.{ℕ, ◌≡◌, ◌<◌, [], get_or, length}
use Rattle.view_scripts.specs.Standings.{IsStanding, no_standing}
use Rattle.view_scripts.proofs.standing.standings.Given as goal

-- those of the actors so far
abbrev pub invariant-loop-actor : goal.invariant-loop-actor
invariant-loop-actor l = record {
  long : length l.standings.items ≡ l.actor;
  each : (a : ℕ) → a < l.actor → IsStanding l.system a (get_or l.scripts a []) l.entries (get_or l.standings.items a no_standing);
}
