use Rattle.std.proofs.Common.{◌≡◌, ◌++◌, drop}
use Rattle.std.specs.List.{flat_map}
use Rattle.view_scripts.specs.ScriptsText.{row_text}
use Rattle.view_scripts.proofs.text.put_rows.Given as goal

-- the rows so far, and then the others
abbrev pub invariant-loop-row : goal.invariant-loop-row
invariant-loop-row l = l.text.items ++ flat_map (row_text l.system) (drop l.row-index l.rows) ≡ l.initial.text.items ++ flat_map (row_text l.system) l.rows
