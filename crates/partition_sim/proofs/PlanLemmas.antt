-- The plans of actors: what a run in turns needs of them.
use Rattle.std.proofs.Common.{◌≡◌, Bool, true, false, List, [], ◌∷◌, ◌++◌, refl, ap, sym, ◌∙◌, append-nil, append_assoc, true≢false}
use Rattle.std.specs.Prelude.{◌↔◌}
use Rattle.partition_sim.specs.Resuming.{ResumesAfterBlocked}
use Rattle.ffm_model.specs.declared.machine.Call.{Call}
use Rattle.ffm_model.specs.declared.machine.Call.TheVariants as call
use Rattle.ffm_model.specs.declared.machine.Entry.{Entry}
use Rattle.ffm_model.specs.declared.machine.Outcome.{Outcome}
use Rattle.ffm_model.specs.declared.script.Instruction.{Instruction}
use Rattle.ffm_model.specs.Contexts.{context_plan}
use Rattle.ffm_model.specs.Held.{Holder}
use Rattle.ffm_model.specs.HeldPlans.{held_plan}
use Rattle.ffm_model.specs.Plans.{Plan, RunFrom}
use Rattle.ffm_model.specs.Records.{ends_blocked, outcomes_of}
use Rattle.ffm_model.specs.ScriptRuns.{only_part}
use Rattle.spm_core.specs.Manager.{is_resume}
use Rattle.partition_sim.specs.ActorPlans.{Role, plan_of_role}
use Rattle.partition_sim.specs.ActorPlans.Role.{holds, takes_turns}

-- one entry more
pub RunFrom-push : (plan : Plan) (os : List Outcome) (es : List Entry) (e : Entry) → RunFrom plan os es → e.call ≡ plan (os ++ outcomes_of es) → RunFrom plan os (es ++ e ∷ [])
RunFrom-push plan os [] e h c = (c ∙ ap plan (append-nil os), tt)
RunFrom-push plan os (d ∷ es) e h c = (h.0, RunFrom-push plan (os ++ d.outcome ∷ []) es e h.1 (c ∙ ap plan (sym (append_assoc os (d.outcome ∷ []) (outcomes_of es)))))

-- ---- the return of a blocked call

not-resume : (c : Call) → (c ≡ call.Resume → ⊥) → is_resume c ≡ false
not-resume call.Resume h = absurd (h refl)
not-resume _ h = refl

resume-by : (c : Call) (b : Bool) → (c ≡ call.Resume) ↔ (b ≡ true) → is_resume c ≡ b
resume-by c true h = ap is_resume (h.1 refl)
resume-by c false h = not-resume c (λ e. true≢false (sym (h.0 e)))

-- what plans of each kind give
abbrev pub HeldResumes : Type 0
HeldResumes = (p : Holder) (script : List Instruction) → ResumesAfterBlocked (held_plan p script)

abbrev pub ContextsResume : Type 0
ContextsResume = (scripts : List (List Instruction)) → ResumesAfterBlocked (context_plan scripts)

-- the next call is Resume exactly after Blocked
pub plan-resume : HeldResumes → ContextsResume → (role : Role) (parts : List (List Instruction)) (os : List Outcome) → is_resume (plan_of_role role parts os) ≡ ends_blocked os
plan-resume held contexts (holds p) parts os = resume-by (held_plan p (only_part parts) os) (ends_blocked os) (held p (only_part parts) os)
plan-resume held contexts takes_turns parts os = resume-by (context_plan parts os) (ends_blocked os) (contexts parts os)
