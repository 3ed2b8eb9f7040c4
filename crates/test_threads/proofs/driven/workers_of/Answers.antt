use Rattle.std.proofs.Common.{List, [], ◌∷◌, ◌++◌, ◌∙◌, ap}
use Rattle.std.proofs.lemmas.List.Elements.{All-push, All-same}
use Rattle.partition_sim.specs.declared.workers.Worker.{Worker}
use Rattle.spm_lock.specs.Passes.{PassView}
use Rattle.test_threads.specs.Workers.{IsUnstarted, passes_in}
use Rattle.test_threads.proofs.Workers.{passes_more}
use Rattle.test_threads.proofs.driven.workers_of.Goals as goal

pub loop-pass-preserved : goal.loop-pass-preserved
loop-pass-preserved g c =
    let i = c.loop-pass.invariant in
    let ws = c.loop-pass.workers.items in
    let w = c.in_ok-worker_of.field-0 in
    let later = c.next.new.self.rest.items in
    let items = c.in_ok-push.ensures.items in
    record {
      passes =
          ap (λ (xs : List (Worker PassView)). passes_in xs ++ later) items
          ∙ passes_more ws w c.in-Some.pass c.loop-pass.pass-iterator.rest.items later c.args.passes i.passes c.in-Some.ensures.steps.0 c.in_ok-worker_of.ensures.pass;
      unstarted = All-same IsUnstarted _ (ws ++ w ∷ []) items (All-push IsUnstarted ws w i.unstarted c.in_ok-worker_of.ensures.unstarted);
    }
