use Rattle.std.proofs.Common.{◌≡◌, ◌<◌, ◌^◌, drop}
use Rattle.script_asm.specs.Words.{decimal_after}
use Rattle.script_asm.proofs.words.decimal_number.Given as goal

abbrev pub invariant-loop-digit : goal.invariant-loop-digit
invariant-loop-digit l = record {
  small : l.number < 2 ^ 32;
  rest : decimal_after l.limit l.number (drop l.digit-index l.digits) ≡ decimal_after l.limit 0 l.digits;
}
