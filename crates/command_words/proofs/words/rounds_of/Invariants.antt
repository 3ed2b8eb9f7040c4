use Rattle.std.proofs.Common.{◌≡◌, ◌≤◌, drop}
use Rattle.command_words.specs.declared.limits.TheConstants.{MAX_ROUNDS}
use Rattle.command_words.specs.Words.{rounds_after}
use Rattle.command_words.proofs.words.rounds_of.Given as goal

-- the digits so far, and then the others
abbrev pub invariant-loop-digit : goal.invariant-loop-digit
invariant-loop-digit l = record {
  small : l.rounds ≤ MAX_ROUNDS;
  rest : rounds_after l.rounds (drop l.digit-index l.digits) ≡ rounds_after 0 l.digits;
}
