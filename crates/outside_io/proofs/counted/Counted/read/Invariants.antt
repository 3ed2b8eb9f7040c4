use Rattle.std.proofs.Common.{◌≡◌}
use Rattle.std.specs.Io.KnownBytes.{Keeps}
use Rattle.outside_io.specs.Counted.{count_of, value_of}
use Rattle.outside_io.proofs.counted.Counted.read.Given as goal

-- nothing was taken yet
abbrev pub invariant-loop : goal.invariant-loop
invariant-loop g l = record {
  kept : Keeps (g.T.Read.remaining (value_of l.initial.self)) (g.T.Read.remaining (value_of l.self));
  no_fault : count_of l.self ≡ count_of l.initial.self;
}
