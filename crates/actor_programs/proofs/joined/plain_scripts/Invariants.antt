use Rattle.std.proofs.Common.{◌≡◌, ◌++◌, map}
use Rattle.std.specs.List.{AllByRecursion}
use Rattle.actor_programs.specs.Programs.{IsOnePart, parts_of}
use Rattle.actor_programs.proofs.joined.plain_scripts.Given as goal

-- the scripts so far, and those of the programs that are left
abbrev pub invariant-loop-program : goal.invariant-loop-program
invariant-loop-program l = record {
  all : l.scripts.items ++ map parts_of l.program-iterator.rest.items ≡ map parts_of l.fn.programs.items;
  left : AllByRecursion IsOnePart l.program-iterator.rest.items;
}
