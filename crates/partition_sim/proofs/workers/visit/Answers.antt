use Rattle.std.proofs.Common.{refl}
use Rattle.partition_sim.proofs.TurnLemmas.{parts-long}
use Rattle.partition_sim.proofs.WorkerLemmas.{plan-due, good-made}
use Rattle.partition_sim.proofs.workers.visit.Goals as goal

pub next-call-requires : goal.next-call-requires
next-call-requires g c = parts-long _ _ _ _ c.requires.good.follows

pub ask-requires-clause-due : goal.ask-requires-clause-due
ask-requires-clause-due g c =
    plan-due c.plans_resume_after_blocked.ensures.held c.plans_resume_after_blocked.ensures.contexts _ _ (g.A.Api.record_of c.args.worker.now.pass) _ (c.next-call.ensures.call _ _ c.requires.good.follows)

pub returns-in-Made-clause-good : goal.returns-in-Made-clause-good
returns-in-Made-clause-good g c =
    good-made g.A.Api.own g.A.Api.record_of g.A.Api.is_done c.args.api.now c.args.worker.now _ _ _ _ c.next-call.new.self c.requires.good c.in-Made.ensures.own c.in-Made.ensures.answer
    c.next-call.ensures.call c.next-call.ensures.asked c.after.ensures.follows refl c.is_stop-worker.ensures c.saturating_add-worker.ensures
