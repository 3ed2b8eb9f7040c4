use Rattle.std.proofs.Common.{◌≡◌, map, take, string_bytes}
use Rattle.std.specs.Prelude.{IfSome}
use Rattle.outside_io.proofs.words.given_words.Given as goal

-- the words so far
abbrev pub invariant-loop-number : goal.invariant-loop-number
invariant-loop-number g l = IfSome (g.W.Words.told l.words) (λ told. map string_bytes l.given.items ≡ take l.number told)
