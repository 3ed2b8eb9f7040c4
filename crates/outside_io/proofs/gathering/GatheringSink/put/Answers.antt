use Rattle.outside_io.specs.Gathering.{seen_through}
use Rattle.outside_io.proofs.After.{gathered, put_through, same_faults, still}
use Rattle.outside_io.proofs.gathering.GatheringSink.put.Goals as goal

pub returns-then-add-2-clause-puts : goal.returns-then-add-2-clause-puts
returns-then-add-2-clause-puts g c =
    rw (← c.if-add.ensures.unchanged) (gathered _ _ _ c.args.piece.now c.in_ok-hand_on.ensures.0 c.if-add-2.ensures.added (same_faults g.S.Sink.seen _ _ c.if-add-2.ensures.same_sink))

pub returns-else-add-2-clause-puts : goal.returns-else-add-2-clause-puts
returns-else-add-2-clause-puts g c =
    rw (← c.if-add.ensures.unchanged) (put_through _ _ _ _ c.put.result c.args.piece.now
    (still g.S.Sink.seen (seen_through g.S.Sink.seen c.add.new.self) c.hand_on.new.self c.add-2.new.self c.if-add-2.ensures.unchanged c.in_ok-hand_on.ensures) c.put.ensures.puts)
