use Rattle.std.proofs.Common.{◌-◌, []}
use Rattle.outside_io.specs.Sink.{Took}
use Rattle.outside_io.specs.Gathering.{seen_through}
use Rattle.outside_io.proofs.gathering.Gathering.hand_on.Given as goal

abbrev pub invariant-loop-self : goal.invariant-loop-self
invariant-loop-self g l = Took (seen_through g.S.Sink.seen l.initial.self) (seen_through g.S.Sink.seen l.self) []

abbrev pub decreases-loop-self : goal.decreases-loop-self
decreases-loop-self g l = l.self.len - l.self.at
