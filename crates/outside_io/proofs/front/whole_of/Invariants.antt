use Rattle.std.proofs.Common.{◌≡◌, ◌+◌, ◌-◌, ◌<◌, length}
use Rattle.std.specs.Io.KnownBytes.{Consumes}
use Rattle.outside_io.specs.Counted.{count_of, value_of}
use Rattle.outside_io.proofs.front.whole_of.Given as goal

-- the bytes so far
abbrev pub invariant-loop-from : goal.invariant-loop-from
invariant-loop-from g l = record {
  taken : Consumes (g.T.Read.remaining (value_of l.initial.from)) (g.T.Read.remaining (value_of l.from)) l.bytes.items;
  no_fault : count_of l.from ≡ count_of l.initial.from;
  room : 0 < length l.piece.items;
}

abbrev pub decreases-loop-from : goal.decreases-loop-from
decreases-loop-from g l = l.limit + 1 - length l.bytes.items
