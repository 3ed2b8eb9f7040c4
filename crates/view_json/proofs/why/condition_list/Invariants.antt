use Rattle.std.proofs.Common.{◌≡◌, ◌++◌, drop, map}
use Rattle.view_json.specs.WhyJson.{condition_json}
use Rattle.serde_json.specs.View.{view}
use Rattle.view_json.proofs.why.condition_list.Given as goal

-- the values so far, and then those of the others
abbrev pub invariant-loop-condition : goal.invariant-loop-condition
invariant-loop-condition l = map view l.list.items ++ map (condition_json l.otherwise) (drop l.condition-index l.conditions) ≡ map (condition_json l.otherwise) l.conditions
