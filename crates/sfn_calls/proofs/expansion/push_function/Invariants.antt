use Rattle.std.proofs.Common.{◌≡◌, ◌+◌, ◌++◌, drop}
use Rattle.sfn_calls.specs.Loop.{lines_code, function_code, place_in}
use Rattle.sfn_calls.proofs.expansion.push_function.Given as goal

abbrev pub invariant-loop-line : goal.invariant-loop-line
invariant-loop-line l = l.code.items ++ lines_code (λ t. l.from + place_in l.lines t) (drop l.line-index l.lines) ≡ l.initial.code.items ++ function_code l.lines l.from
