-- Tries of workers.
use Rattle.std.proofs.Common.{ℕ, ◌+◌, ◌-◌, ◌^◌, ◌≡◌, List, [], ◌∷◌, ◌++◌, length, ap, sym, ◌∙◌, arith, length-append}
use Rattle.std.specs.Prelude.{min}
use Rattle.ffm_model.proofs.RecordLemmas.{outcomes_of-push}
use Rattle.ffm_model.specs.declared.machine.Call.{Call}
use Rattle.ffm_model.specs.declared.machine.Entry.{Entry}
use Rattle.ffm_model.specs.declared.machine.Outcome.{Outcome}
use Rattle.ffm_model.specs.declared.script.Instruction.{Instruction}
use Rattle.ffm_model.specs.Passes.{AddsEntry}
use Rattle.ffm_model.specs.Plans.{is_stop}
use Rattle.ffm_model.specs.Records.{ends_blocked, outcomes_of}
use Rattle.spm_core.specs.Manager.{is_resume}
use Rattle.partition_sim.specs.declared.workers.Worker.{Worker}
use Rattle.partition_sim.specs.declared.runner.Runner.{Runner}
use Rattle.partition_sim.specs.ActorPlans.{Role, plan_of_role}
use Rattle.partition_sim.specs.Standing.{Follows, Asked, role_of}
use Rattle.partition_sim.specs.Workers.{IsGood}
use Rattle.partition_sim.proofs.PlanLemmas.{RunFrom-push, HeldResumes, ContextsResume, plan-resume}
use Rattle.partition_sim.proofs.TurnLemmas.{role-is}

-- the plan's call is a return exactly after Blocked
pub plan-due : HeldResumes → ContextsResume → (role : Role) (parts : List (List Instruction)) (es : List Entry) (c : Call) → c ≡ plan_of_role role parts (outcomes_of es)
    → is_resume c ≡ ends_blocked (outcomes_of es)
plan-due held contexts role parts es c called = ap is_resume called ∙ plan-resume held contexts role parts (outcomes_of es)

-- a runner keeps its role
pub role-kept : (role : Role) (parts : List (List Instruction)) (before after : List Outcome) (old new : Runner) → Follows role parts before old → Follows role parts after new → role_of new ≡ role_of old
role-kept role parts before after old new f g = role-is role parts after new g ∙ sym (role-is role parts before old f)

module _ {S P : Type 0} (own : S → P → Type 0) (record_of : P → List Entry) (is_done : P → Type 0) where
  -- an entry more
  pub good-made : (api : S) (old new : Worker P) (a : ℕ) (c : Call) (e : Entry) (asked : Runner) → IsGood own record_of is_done api old → own api new.pass
      → AddsEntry a c e (record_of old.pass) (record_of new.pass) (is_done new.pass)
      → ((role : Role) (os : List Outcome) → Follows role old.script os old.runner → c ≡ plan_of_role role old.script os)
      → ((role : Role) (os : List Outcome) → Follows role old.script os old.runner → Asked role old.script os asked)
      → ((role : Role) (parts : List (List Instruction)) (os : List Outcome) → Asked role parts os asked → Follows role parts (os ++ e.outcome ∷ []) new.runner)
      → new.script ≡ old.script → new.done ≡ is_stop c → new.number ≡ min (old.number + 1) (2 ^ 32 - 1)
      → IsGood own record_of is_done api new
  good-made api old new a c e asked good mine adds calls asks follows script done number =
      let role = role_of old.runner in
      let os = outcomes_of (record_of old.pass) in
      let called = adds.called ∙ calls role os good.follows in
      let behind = follows role old.script os (asks role os good.follows) in
      let kept : role_of new.runner ≡ role = role-kept role old.script os (os ++ e.outcome ∷ []) old.runner new.runner good.follows behind in
      record {
        own_is = mine;
        runs = rw (kept, script, adds.added) (RunFrom-push (plan_of_role role old.script) [] (record_of old.pass) e good.runs called);
        follows = rw (kept, script, adds.added, outcomes_of-push (record_of old.pass) e) behind;
        ends = λ ended. adds.stopped (sym done ∙ ended);
        numbered =
            let n = good.numbered in
            let more = ap length adds.added ∙ length-append (record_of old.pass) (e ∷ []) in
            omega arith;
      }
