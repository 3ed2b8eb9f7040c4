use Rattle.std.proofs.Common.{◌≡◌, ◌≤◌, ◌*◌}
use Rattle.sfn_calls.specs.Loop.{place_in}
use Rattle.sfn_calls.proofs.expansion.place_in.Given as goal

abbrev pub invariant-loop-i : goal.invariant-loop-i
invariant-loop-i l = record { place : l.place ≡ place_in l.lines l.i; few : l.place ≤ 2 * l.i; before : l.i ≤ l.t }
