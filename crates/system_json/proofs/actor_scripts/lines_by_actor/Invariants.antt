use Rattle.std.proofs.Common.{◌≡◌, ◌++◌, length, map}
use Rattle.std.specs.Vec.Iter.{into_iter_items, into_iter_len}
use Rattle.ffm_model.specs.Scenarios.{or_empty_script}
use Rattle.system_json.proofs.actor_scripts.lines_by_actor.Given as goal

-- the scripts of the actors so far, and those of the actors that are left
abbrev pub invariant-loop-own : goal.invariant-loop-own
invariant-loop-own l = record {
  placed : l.lines.items ++ map or_empty_script (into_iter_items l.own-iterator) ≡ map or_empty_script (into_iter_items l.initial.own-iterator);
  counted : into_iter_len l.own-iterator ≡ length (into_iter_items l.own-iterator);
}
