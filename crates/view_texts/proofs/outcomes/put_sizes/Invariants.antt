use Rattle.std.proofs.Common.{◌≡◌, ◌++◌, drop}
use Rattle.std.specs.List.{flat_map}
use Rattle.ffm_model.specs.TraceText.{size_fields, spaced_field}
use Rattle.view_texts.proofs.outcomes.put_sizes.Given as goal

-- the sizes so far, and then the others
abbrev pub invariant-loop-size : goal.invariant-loop-size
invariant-loop-size l = l.text.items ++ flat_map spaced_field (size_fields (drop l.size-index l.sizes)) ≡ l.initial.text.items ++ flat_map spaced_field (size_fields l.sizes)
