use Rattle.std.proofs.Common.{ap, ◌∙◌}
use Rattle.view_texts.specs.Waited.{closed_at}
use Rattle.view_texts.specs.declared.counts.TraceCounts.{TraceCounts}
use Rattle.view_texts.proofs.Ranges.{fold_step}
use Rattle.view_texts.proofs.counts.TraceCounts.close_waits.Goals as goal

pub loop-actor-preserved : goal.loop-actor-preserved
loop-actor-preserved c = record {
  rest = c.close_wait.ensures.rest
      ∙ ap (λ (t : TraceCounts). record t { longest = c.close_wait.new.self.longest; pending = c.close_wait.new.self.pending }) c.loop-actor.invariant.rest;
  waits = fold_step (closed_at c.args.self.now.count) c.loop-actor.actor _ _ _ _ c.loop-actor-test.true c.close_wait.ensures.waits c.loop-actor.invariant.waits;
}
