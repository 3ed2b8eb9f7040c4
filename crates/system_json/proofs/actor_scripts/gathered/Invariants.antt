use Rattle.std.proofs.Common.{◌≡◌, ◌<◌, [], length, fold, replicate}
use Rattle.std.specs.List.{AllByRecursion}
use Rattle.std.specs.Vec.Iter.{into_iter_items, into_iter_len}
use Rattle.system_json.specs.Gathering.{with_script}
use Rattle.system_json.proofs.actor_scripts.gathered.Given as goal

-- the scripts that are left, put after those gathered, make what all scripts make
abbrev pub invariant-loop-script : goal.invariant-loop-script
invariant-loop-script l = record {
  placed : fold with_script l.by_actor.items (into_iter_items l.script-iterator) ≡ fold with_script (replicate l.count []) (into_iter_items l.initial.script-iterator);
  within : AllByRecursion (λ script. script.actor.0 < l.count) (into_iter_items l.script-iterator);
  whole : length l.by_actor.items ≡ l.count;
  counted : into_iter_len l.script-iterator ≡ length (into_iter_items l.script-iterator);
}
