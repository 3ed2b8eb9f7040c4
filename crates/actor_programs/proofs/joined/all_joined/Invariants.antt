use Rattle.std.proofs.Common.{◌≡◌, ◌++◌}
use Rattle.actor_programs.specs.Programs.{all_joined}
use Rattle.actor_programs.proofs.joined.all_joined.Given as goal

-- the programs so far, and those of the actors that are left
abbrev pub invariant-loop-own : goal.invariant-loop-own
invariant-loop-own l = record {
  made : l.yielded ++ l.own-iterator.rest.items ≡ l.fn.made.items;
  all : l.programs.items ≡ all_joined l.system l.yielded;
}
