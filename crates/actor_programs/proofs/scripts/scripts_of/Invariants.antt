use Rattle.std.proofs.Common.{◌≡◌, ◌≤◌, ◌+◌, ◌++◌, length, vec_capacity}
use Rattle.actor_programs.specs.Programs.{AreScriptsOf}
use Rattle.actor_programs.proofs.scripts.scripts_of.Given as goal

-- the scripts so far, and the programs left
abbrev pub invariant-loop-program : goal.invariant-loop-program
invariant-loop-program l = record {
  made : AreScriptsOf l.system l.yielded l.scripts.items;
  left : l.yielded ++ l.program-iterator.rest.items ≡ l.fn.programs;
  room : length l.scripts.items + length l.program-iterator.rest.items ≤ vec_capacity l.scripts;
}
