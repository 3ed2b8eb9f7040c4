use Rattle.std.proofs.Common.{◌≡◌, ◌++◌, drop, map}
use Rattle.serde_json.specs.View.{view}
use Rattle.view_json.specs.ScriptsJson.{script_json}
use Rattle.view_json.proofs.scripts.script_list.Given as goal

-- the values so far, and then those of the others
abbrev pub invariant-loop-row : goal.invariant-loop-row
invariant-loop-row l = map view l.list.items ++ map (script_json l.system) (drop l.row-index l.rows) ≡ map (script_json l.system) l.rows
