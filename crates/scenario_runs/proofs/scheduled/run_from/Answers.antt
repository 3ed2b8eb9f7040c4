use Rattle.std.proofs.Common.{ℕ, ◌≡◌, ◌≤◌, ◌<◌, ◌∙◌, ap, false, subst, sym}
use Rattle.ffm_model.specs.Actors.{actor_count}
use Rattle.ffm_model.specs.Plans.{PlanRun}
use Rattle.ffm_model.specs.Records.{entries_of}
use Rattle.ffm_model.specs.Schedule.{Scheduled}
use Rattle.memory_image.specs.Pieces.{byte_at}
use Rattle.partition_sim.specs.ActorPlans.{plan_at}
use Rattle.spm_core.specs.Manager.{Managed, Opening}
use Rattle.scenario_runs.proofs.Programs.{opening_of, ran_by_manager}
use Rattle.scenario_runs.proofs.scheduled.run_from.Goals as goal

pub returns-clause-ran : goal.returns-clause-ran
returns-clause-ran c =
    let s = c.args.system in
    let scenario = c.args.scenario.now in
    let scripts = c.args.scripts.now in
    let y : Managed = c.drive_scheduled.new.spm in
    let made : c.in_ok-spm.spm.opening ≡ opening_of s c.args.memory scenario.limit = ap (λ (m : Managed). m.opening) c.in_ok-spm.ensures in
    let driven = c.in_ok-drive_scheduled.ensures in
    let planned = subst (λ (o : Opening). (a : ℕ) → a < actor_count o.system → PlanRun (plan_at o.system scripts a) (entries_of a y.history)) made driven.runs in
    let scheduled = subst (λ (o : Opening). Scheduled o.system (byte_at o.memory) scenario.schedule y.history) made driven.scheduled in
    let length = c.length-length.ensures in
    ran_by_manager s c.args.memory scenario scripts false y c.in-Some.verdict (driven.opening ∙ made) length.run (subst (λ (n : ℕ). n ≤ y.opening.limit) length.exact length.within) length.named (sym c.verdict.ensures ∙ c.in-Some.is) planned (λ e. scheduled)
