use Rattle.std.proofs.Common.{◌≡◌, ◌++◌, drop}
use Rattle.std.specs.List.{flat_map}
use Rattle.view_texts.specs.CountsText.{moved_line}
use Rattle.view_texts.proofs.counts_text.put_moved_lines.Given as goal

-- the lines so far, and then the others
abbrev pub invariant-loop-moved : goal.invariant-loop-moved
invariant-loop-moved l = l.text.items ++ flat_map (moved_line l.system) (drop l.moved-index l.all_moved) ≡ l.initial.text.items ++ flat_map (moved_line l.system) l.all_moved
