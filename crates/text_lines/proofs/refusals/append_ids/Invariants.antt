use Rattle.std.proofs.Common.{◌≡◌, ◌++◌, drop}
use Rattle.std.specs.List.{flat_map}
use Rattle.text_lines.specs.Refusals.{id_text}
use Rattle.text_lines.proofs.refusals.append_ids.Given as goal

-- the IDs so far, and then the others
abbrev pub invariant-loop-id : goal.invariant-loop-id
invariant-loop-id l = l.line.items ++ flat_map id_text (drop l.id-index l.ids) ≡ l.initial.line.items ++ flat_map id_text l.ids
