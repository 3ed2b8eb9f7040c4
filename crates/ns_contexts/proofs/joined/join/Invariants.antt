use Rattle.std.proofs.Common.{◌≡◌, ◌+◌, ◌++◌, length}
use Rattle.std.specs.List.{AllByRecursion, flat_map}
use Rattle.std.specs.Vec.Iter.{into_iter_items, into_iter_len}
use Rattle.ffm_model.specs.Scripts.{IsPart}
use Rattle.ns_contexts.proofs.joined.join.Given as goal

-- the parts so far, and those of the scripts that are left
abbrev pub invariant-loop-script : goal.invariant-loop-script
invariant-loop-script l = record {
  joined : l.joined.items ++ flat_map (λ parts. parts) (into_iter_items l.script-iterator) ≡ flat_map (λ parts. parts) (into_iter_items l.initial.script-iterator);
  each : AllByRecursion IsPart l.joined.items;
  plain : AllByRecursion (λ s. length s ≡ 1) (into_iter_items l.script-iterator);
  numbered : length l.joined.items + length (into_iter_items l.script-iterator) ≡ length (into_iter_items l.initial.script-iterator);
  counted : into_iter_len l.script-iterator ≡ length (into_iter_items l.script-iterator);
}
