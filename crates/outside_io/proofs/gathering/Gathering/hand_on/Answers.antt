use Rattle.std.proofs.Common.{rules, take}
use Rattle.std.proofs.lemmas.Result.{err_from_is_err_and}
use Rattle.outside_io.specs.Gathering.{seen_through}
use Rattle.outside_io.proofs.After.{hand_more, hand_failed}
use Rattle.outside_io.proofs.gathering.Gathering.hand_on.Goals as goal

pub returns-in_err-self : goal.returns-in_err-self
returns-in_err-self g c =
    let p = err_from_is_err_and c.from_residual.result c.from_residual.ensures.1 in
    rw p.1 (hand_failed (seen_through g.S.Sink.seen c.args.self.now) (g.S.Sink.seen c.loop-self.self.sink) (g.S.Sink.seen c.put.new.self) (take c.loop-self.self.len c.loop-self.self.held) c.loop-self.self.at
    (search rules) c.loop-self.invariant c.in_err-self.ensures.puts)

pub loop-self-preserved : goal.loop-self-preserved
loop-self-preserved g c =
    hand_more (seen_through g.S.Sink.seen c.args.self.now) (g.S.Sink.seen c.loop-self.self.sink) (g.S.Sink.seen c.put.new.self) (take c.loop-self.self.len c.loop-self.self.held) c.loop-self.self.at c.in_ok-self.field-0
    c.loop-self.invariant (rw c.part_of-waiting.ensures at c.in_ok-self.ensures.puts)
