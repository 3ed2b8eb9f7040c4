-- A run with threads: it ended, and it is one that the scenario's run may have.
use Rattle.std.proofs.Common.{ℕ, ◌≡◌, ◌<◌, ◌≤◌, true, true≢false, List, length, map, sym, ap, ◌∙◌, subst}
use Rattle.std.specs.Prelude.{Some, None, Option, IsSome, slice_get}
use Rattle.ffm_model.specs.declared.machine.Entry.{Entry}
use Rattle.ffm_model.specs.declared.machine.Verdict.{Verdict}
use Rattle.ffm_model.specs.declared.scenario.Bytes.{Bytes}
use Rattle.ffm_model.specs.declared.scenario.Scenario.{Scenario}
use Rattle.ffm_model.specs.declared.system.System.{System}
use Rattle.ffm_model.specs.Actors.{actor_count}
use Rattle.ffm_model.specs.Memory.{ByteMap, opening_memory}
use Rattle.ffm_model.specs.Names.{names}
use Rattle.ffm_model.specs.Plans.{PlanRun}
use Rattle.ffm_model.specs.Records.{entries_of}
use Rattle.ffm_model.specs.Verdicts.{verdict_of}
use Rattle.memory_image.specs.Pieces.{byte_at}
use Rattle.partition_sim.specs.ActorPlans.{plan_at}
use Rattle.spm_core.specs.Manager.{Opening, Managed}
use Rattle.spm_lock.specs.Histories.{IsRun}
use Rattle.spm_lock.specs.Passes.{SharedView, PassView, ArePasses, IsDoneAt, Keeps, has_verdict, record_of}
use Rattle.actor_programs.specs.declared.program.Program.TheVariants.{Plain}
use Rattle.scenario_runs.specs.Runs.{RanBy}
use Rattle.scenario_runs.proofs.Programs.{opening_of, ran_by_manager}
use Rattle.scenario_runs.specs.declared.threads.Start.{Start}
use Rattle.scenario_runs.specs.Threads.{Crew, CrewedBy, AreDoneBy, StartsFrom}
use Rattle.actor_programs.specs.Programs.{Parts}
use Rattle.scenario_runs.proofs.Crews.{IsDriven, driven_long, driven_is, at_each}
use Rattle.scenario_runs.proofs.Ends.{DoneInFront, ended}

-- what is known once all passes were given back
pub record GaveBack (s : SharedView) (scripts : List Parts) (y : Managed) : Type 0 where
  pub opening_is : y.opening ≡ s.opening
  pub run : IsRun s.opening y.history
  pub within : length y.history ≤ y.opening.limit
  pub driven : (a : ℕ) → a < actor_count s.opening.system → (p : PassView) × IsDriven s scripts a p × Keeps y.history p

pub gave_back : (s : SharedView) (passes after : List PassView) (scripts : List Parts) (xs : List Start) (crews : List Crew) (y : Managed) → ArePasses s passes → StartsFrom s.opening.system 0 scripts xs → CrewedBy s passes xs crews → AreDoneBy s crews after
    → y.opening ≡ s.opening → IsRun s.opening y.history → ((k : ℕ) (p : PassView) → slice_get after k ≡ Some p → Keeps y.history p) → length y.history ≤ y.opening.limit → GaveBack s scripts y
gave_back s passes after scripts xs crews y are starts crewed done opening run fronts within = record {
  opening_is = opening;
  run = run;
  within = within;
  driven = λ a lt.
      let it = at_each (actor_count s.opening.system) after a (driven_long s passes after xs crews crewed done ∙ are.all) lt in
      (it.0, driven_is s passes after scripts xs crews are starts crewed done a it.0 it.1, fronts a it.0 it.1);
}

-- the run has a verdict
pub has_ended : (s : SharedView) (scripts : List Parts) (y : Managed) → GaveBack s scripts y → has_verdict y.opening y.history
has_ended s scripts y g =
    let each : (a : ℕ) → a < actor_count s.opening.system → DoneInFront s.opening y.history a =
    λ a lt.
    let it = g.driven a lt in
    let p : PassView = it.0 in
    record {
      front = p.front;
      begins = it.2.begins;
      done = subst (λ (n : ℕ). IsDoneAt s.opening n p.front) it.1.actor (subst (λ (o : Opening). IsDoneAt o p.actor p.front) it.1.own.1 it.1.done);
    } in
    subst (λ (o : Opening). has_verdict o y.history) (sym g.opening_is) (ended s.opening y.history g.run (subst (λ (o : Opening). length y.history ≤ o.limit) g.opening_is g.within) each)

-- so it isn't without one
pub no_none : (o : Opening) (history : List Entry) (v : Option Verdict) → has_verdict o history → v ≡ verdict_of o.system (byte_at o.memory) o.limit history → v ≡ None → ⊥
no_none o history v has is none = true≢false (sym (subst IsSome (sym is ∙ none) has))

-- the history is one that a run with threads may have
pub ran_with_threads : (system : System) (memory : List Bytes) (c : Scenario) (scripts : List Parts) (s : SharedView) (y : Managed) (v : Verdict) → s.opening ≡ opening_of system memory c.limit → byte_at memory ≡ opening_memory c.memory → GaveBack s scripts y
    → names y.opening.system (byte_at y.opening.memory) y.history ≡ true → verdict_of y.opening.system (byte_at y.opening.memory) y.opening.limit y.history ≡ Some v → RanBy system (opening_memory c.memory) c (map Plain scripts) true y.history v
ran_with_threads system memory c scripts s y v made bytes g named verdict =
    let planned : (a : ℕ) → a < actor_count system → PlanRun (plan_at system scripts a) (entries_of a y.history) =
    λ a lt.
    let it = g.driven a (subst (λ (o : Opening). a < actor_count o.system) (sym made) lt) in
    let entries : entries_of a y.history ≡ record_of it.0 = ap (λ (n : ℕ). entries_of n y.history) (sym it.1.actor) ∙ it.2.own in
    subst (PlanRun (plan_at system scripts a)) (sym entries) (subst (λ (o : Opening). PlanRun (plan_at o.system scripts a) (record_of it.0)) made it.1.runs) in
    let run : IsRun y.opening y.history = subst (λ (o : Opening). IsRun o y.history) (sym g.opening_is) g.run in
    subst (λ (m : ByteMap). RanBy system m c (map Plain scripts) true y.history v) bytes
    (ran_by_manager system memory c scripts true y v (g.opening_is ∙ made) run g.within named verdict planned (λ e. absurd (true≢false e)))
