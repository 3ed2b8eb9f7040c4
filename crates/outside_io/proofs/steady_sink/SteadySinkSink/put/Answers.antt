use Rattle.std.proofs.Common.{arith, refl}
use Rattle.std.proofs.lemmas.Grind.{common_steps}
use Rattle.outside_io.proofs.SinkSteps.{kept_whole, took_at_once}
use Rattle.outside_io.proofs.steady_sink.SteadySinkSink.put.Goals as goal

pub returns-then-self-clause-puts : goal.returns-then-self-clause-puts
returns-then-self-clause-puts c = took_at_once _ _ _ refl refl tt refl

pub returns-clause-puts : goal.returns-clause-puts
returns-clause-puts c = took_at_once _ _ _ refl refl (kept_whole c.args.self.now.is_over _ _ c.args.piece.now c.if-self.false (grind (arith, common_steps))) refl
