use Rattle.std.proofs.Common.{◌≡◌, ◌<◌, refl, sym, ◌∙◌, true, true≢false, length, get_or, arith}
use Rattle.std.proofs.lemmas.List.Elements.{All-get_or, All-set, AllWithin-more_set}
use Rattle.std.proofs.Math.Seq.{map-set_same}
use Rattle.partition_sim.specs.Standing.{role_of}
use Rattle.partition_sim.specs.Workers.{IsGood}
use Rattle.partition_sim.proofs.workers.turn_over.Goals as goal
use Rattle.partition_sim.proofs.workers.turn_over.Goals.{then-not-worker, else-not-worker}

pub loop-worker-preserved : goal.loop-worker-preserved
loop-worker-preserved g c =
    let ws = c.loop-worker.workers in
    let i = c.loop-worker.worker-index in
    let old = c.worker-item.result in
    let kept = c.loop-worker.invariant in
    let good = IsGood g.A.Api.own g.A.Api.record_of g.A.Api.is_done c.args.api.now in
    let inside : i < length ws = omega (arith, c.loop-worker-test.true, c.loop-worker.auto.workers) in
    elim c.if-not-worker.branch [
      | then-not-worker w ↦
          let new = w.visit.new.worker in
          rw w.workers-is (
            All-set good ws i new w.visit.ensures.good kept.0,
            map-set_same (λ x. x.script) ws i new old w.visit.ensures.script ∙ kept.1,
            map-set_same (λ x. role_of x.runner) ws i new old w.visit.ensures.role ∙ kept.2,
            map-set_same (λ x. g.A.Api.actor_of x.pass) ws i new old w.visit.ensures.actor ∙ kept.3,
            (λ all. absurd (true≢false (sym all ∙ w.all_done-is))),
          )
      | else-not-worker w ↦
          let same = get_or ws i old in
          rw w.workers-is (
            All-set good ws i same (All-get_or good ws i old inside kept.0) kept.0,
            map-set_same (λ x. x.script) ws i same old refl ∙ kept.1,
            map-set_same (λ x. role_of x.runner) ws i same old refl ∙ kept.2,
            map-set_same (λ x. g.A.Api.actor_of x.pass) ws i same old refl ∙ kept.3,
            (λ all. AllWithin-more_set ws i same inside (λ x. x.done ≡ true) (kept.4 (sym w.all_done-is ∙ all)) w.if-not-worker.false),
          )
    ]
