use Rattle.std.proofs.Common.{◌≡◌, drop, length}
use Rattle.ffm_model.specs.Actors.{actor_count}
use Rattle.actor_programs.specs.Programs.{AreMade, first_made, made_from}
use Rattle.actor_programs.proofs.made.made_of.Given as goal

-- the programs so far lead to all of them
abbrev pub invariant-loop-number : goal.invariant-loop-number
invariant-loop-number l = record {
  leads : made_from l.system l.scenario l.number (drop l.number l.order) l.made.items ≡ made_from l.system l.scenario 0 l.scenario.order (first_made l.system l.scenario);
  each : AreMade l.system l.made.items;
  long : length l.made.items ≡ actor_count l.system;
}
