-- A program fixes an actor's next call: a plan from the outcomes before it, and functions from the stage of the round.
use Rattle.std.proofs.Common.{ℕ, ◌≡◌, List, [], ◌∷◌, ◌++◌, ap, sym, subst, ◌∙◌}
use Rattle.std.specs.Prelude.{Option, Some}
use Rattle.ffm_model.specs.declared.system.System.{System}
use Rattle.ffm_model.specs.declared.machine.Call.TheVariants as call
use Rattle.ffm_model.specs.declared.machine.Message.{Message}
use Rattle.ffm_model.specs.declared.machine.Outcome.{Outcome}
use Rattle.ffm_model.specs.declared.machine.Outcome.TheVariants as outcome
use Rattle.ffm_model.specs.Functions.{SfnService, SfnPartition, function_registers, lowest}
use Rattle.ffm_model.specs.Plans.{Plan, RunFrom}
use Rattle.ffm_model.specs.SfnRuns.{SfnRunFrom, Stage, idle, waiting, signalled, working, begun, stage_after, sfn_partition}
use Rattle.actor_programs.specs.declared.program.Program.{Program}
use Rattle.actor_programs.specs.declared.program.Program.TheVariants.{Plain, Functions}
use Rattle.partition_sim.specs.ActorPlans.{plan_of_role, role_at}
use Rattle.scenario_runs.specs.Runs.{ProgramRun}
use Rattle.law_scenarios.proofs.Fronts.{FixesCalls}

plan-fixes : (plan : Plan) (os : List Outcome) → FixesCalls (RunFrom plan os)
plan-fixes plan os [] us vs e f g h = g.0 ∙ sym h.0
plan-fixes plan os (x ∷ xs) us vs e f g h = plan-fixes plan (os ++ x.outcome ∷ []) xs us vs e f g.1 h.1

-- ---- functions

abbrev signals_told : Outcome → ℕ
signals_told (outcome.Signals n) = n
signals_told _ = 0

same-signals : (o : Outcome) (n k : ℕ) → o ≡ outcome.Signals n → o ≡ outcome.Signals k → n ≡ k
same-signals o n k p q = ap signals_told (sym p ∙ q)

same-message : (o : Outcome) (m n : Message) → o ≡ outcome.Got m → o ≡ outcome.Got n → m ≡ n
same-message o m n p q = let both : outcome.Got m ≡ outcome.Got n = sym p ∙ q in cc

same-service : (o : Option SfnService) (v w : SfnService) → o ≡ Some v → o ≡ Some w → v ≡ w
same-service o v w p q = let both : Some v ≡ Some w = sym p ∙ q in cc

functions-fix : (p : SfnPartition) (stage : Stage) → FixesCalls (SfnRunFrom p stage)
functions-fix p (idle registers) [] us vs e f g h = g.0 ∙ sym h.0
functions-fix p (idle registers) (x ∷ xs) us vs e f g h = functions-fix p (waiting registers) xs us vs e f g.1.1 h.1.1
functions-fix p (waiting registers) [] us vs e f g h = g.0 ∙ sym h.0
functions-fix p (waiting registers) (x ∷ xs) us vs e f g h =
    let same : g.1.0 ≡ h.1.0 = same-signals x.outcome g.1.0 h.1.0 g.1.1.0 h.1.1.0 in
    functions-fix p (signalled registers g.1.0) xs us vs e f g.1.1.1 (subst (λ (n : ℕ). SfnRunFrom p (signalled registers n) (xs ++ f ∷ vs)) (sym same) h.1.1.1)
functions-fix p (signalled registers signals) [] us vs e f g h =
    let same : g.0 ≡ h.0 = same-service (lowest p.services signals) g.0 h.0 g.1.0 h.1.0 in
    g.1.1.0 ∙ ap (λ (v : SfnService). call.Get v.signal p.base) same ∙ sym h.1.1.0
functions-fix p (signalled registers signals) (x ∷ xs) us vs e f g h =
    let service : g.0 ≡ h.0 = same-service (lowest p.services signals) g.0 h.0 g.1.0 h.1.0 in
    let of_g = g.1.1.1 in
    let of_h = h.1.1.1 in
    let message : of_g.0 ≡ of_h.0 = same-message x.outcome of_g.0 of_h.0 of_g.1.0 of_h.1.0 in
    let moved : SfnRunFrom p (working (begun g.0 of_h.0 registers)) (xs ++ f ∷ vs) = subst (λ (v : SfnService). SfnRunFrom p (working (begun v of_h.0 registers)) (xs ++ f ∷ vs)) (sym service) of_h.1.1 in
    functions-fix p (working (begun g.0 of_g.0 registers)) xs us vs e f of_g.1.1 (subst (λ (m : Message). SfnRunFrom p (working (begun g.0 m registers)) (xs ++ f ∷ vs)) (sym message) moved)
functions-fix p (working w) [] us vs e f g h = g.0 ∙ sym h.0
functions-fix p (working w) (x ∷ xs) us vs e f g h = functions-fix p (stage_after w x.outcome) xs us vs e f g.1 h.1

-- ---- both

pub program-fixes : (s : System) (a : ℕ) (program : Program) → FixesCalls (ProgramRun s a program)
program-fixes s a (Plain parts) = plan-fixes (plan_of_role (role_at s a) parts) []
program-fixes s a (Functions functions) = functions-fix (sfn_partition s a functions) (idle function_registers)
