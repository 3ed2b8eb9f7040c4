use Rattle.std.proofs.Common.{◌≡◌, []}
use Rattle.std.specs.Prelude.{replicate}
use Rattle.system_json.proofs.actor_scripts.no_scripts.Given as goal

abbrev pub invariant-loop-actor : goal.invariant-loop-actor
invariant-loop-actor l = l.scripts.items ≡ replicate l.actor []
