use Rattle.std.proofs.Common.{◌≡◌, drop}
use Rattle.trace_print.specs.Numbers.{number_after}
use Rattle.trace_print.proofs.number.number.Given as goal

abbrev pub invariant-loop-byte : goal.invariant-loop-byte
invariant-loop-byte l = number_after l.base l.n (drop l.byte-index l.digits) ≡ number_after l.base 0 l.digits
