use Rattle.std.proofs.Common.{◌≡◌, ◌++◌, drop, map}
use Rattle.std.specs.List.{enumerate_from, filter_map}
use Rattle.serde_json.specs.View.{view}
use Rattle.view_json.specs.ScriptsJson.{registers_json, set_register}
use Rattle.view_json.proofs.scripts.register_list.Given as goal

-- the registers so far, and then the others
abbrev pub invariant-loop-register : goal.invariant-loop-register
invariant-loop-register l =
    map view l.list.items ++ filter_map set_register (enumerate_from l.register (drop l.register l.registers)) ≡ registers_json l.registers
