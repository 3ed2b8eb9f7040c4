use Rattle.std.proofs.Common.{◌≡◌, ◌++◌, drop}
use Rattle.std.specs.List.{enumerate_from, flat_map}
use Rattle.view_scripts.specs.ScriptsText.{register_text}
use Rattle.view_scripts.proofs.text.put_some_registers.Given as goal

-- the registers so far, and then the others
abbrev pub invariant-loop-register : goal.invariant-loop-register
invariant-loop-register l =
    l.text.items ++ flat_map register_text (enumerate_from l.register (drop l.register l.registers)) ≡ l.initial.text.items ++ flat_map register_text (enumerate_from 0 l.registers)
