use Rattle.std.proofs.Common.{[], ◌∷◌, ◌++◌}
use Rattle.std.proofs.lemmas.List.Elements.{All-push, All-same}
use Rattle.partition_sim.specs.Workers.{IsFresh}
use Rattle.test_threads.specs.declared.alone.Alone.{Alone}
use Rattle.test_threads.specs.declared.alone.Log.{Log}
use Rattle.test_threads.proofs.drives.workers.Goals as goal

pub loop-driven-preserved : goal.loop-driven-preserved
loop-driven-preserved g c =
    let api : Alone = c.args.api.now in
    let fresh = IsFresh (λ (a : Alone) (l : Log). Unit {0}) (λ (l : Log). l.entries.items) api in
    let ws = c.loop-driven.workers.items in
    let w = c.worker.result in
    All-same fresh _ (ws ++ w ∷ []) c.in_ok-push.ensures.items (All-push fresh ws w c.loop-driven.invariant (c.worker.ensures api))
