-- The functions of an SFN partition whose numbers fit make calls whose numbers fit, where they were answered with numbers that fit.
use Rattle.std.proofs.Common.{ℕ, zero, suc, ◌≡◌, ◌+◌, Bool, true, false, List, [], ◌∷◌, ◌++◌, map, arith, refl, sym, subst}
use Rattle.std.specs.Prelude.{All, Option, Some, None, IfSome, bit_or, fold, slice_get, if◌then◌else◌}
use Rattle.std.specs.List.{AllByRecursion}
use Rattle.std.specs.Option.{option_map_or}
use Rattle.std.proofs.lemmas.Nat.{or_of_32}
use Rattle.std.proofs.lemmas.List.Elements.{All-head, All-replicate, All-tail}
use Rattle.law_lists.proofs.Lists.{AllByRecursion-at}
use Rattle.law_lists.proofs.Options.{each_made}
use Rattle.law_lists.proofs.Tests.{find-all}
use Rattle.ffm_model.specs.declared.machine.Call.TheVariants as call
use Rattle.ffm_model.specs.declared.machine.Entry.{Entry}
use Rattle.ffm_model.specs.declared.machine.Handle.{Handle}
use Rattle.ffm_model.specs.declared.machine.Outcome.{Outcome}
use Rattle.ffm_model.specs.declared.script.SfnInstruction.{SfnInstruction}
use Rattle.ffm_model.specs.declared.script.SfnInstruction.TheVariants.{Plain, Return}
use Rattle.ffm_model.specs.Functions.{SfnPartition, SfnService, answer, asserts, function_call_at, function_effect, function_line_call, function_registers, function_step, function_steps, lowest, returns_at, signals_in}
use Rattle.ffm_model.specs.Records.{is_blocked_outcome}
use Rattle.ffm_model.specs.ScriptRuns.{Point, most_lines, noted, point}
use Rattle.ffm_model.specs.SfnRuns.{SfnRunFrom, Stage, Work, begun, idle, reached, signalled, stage_after, waiting, work_after, work_call, working}
use Rattle.ffm_model.specs.TraceText.{CallFits, IsI32, IsU32, MessageFits, OutcomeFits}
use Rattle.law_scenarios.specs.Ranges.{FunctionLineFits}
use Rattle.law_scenarios.proofs.Numbers.{signed-fits, zero-fits}
use Rattle.law_scenarios.proofs.Plans.{PointFits, RegistersFit, line-calls, line-leads, message-noted, noted-fits, value-fits}

-- ---- a partition

abbrev pub LinesFit : List SfnInstruction → Type 0
LinesFit lines = AllByRecursion FunctionLineFits lines

abbrev pub ServiceFits : SfnService → Type 0
ServiceFits v = IsU32 v.signal × LinesFit v.lines

pub record PartitionFits (p : SfnPartition) : Type 0 where
  pub base : IsU32 p.base
  pub services : All ServiceFits p.services

union-fits : (start : ℕ) (vs : List SfnService) → IsU32 start → All ServiceFits vs → IsU32 (fold bit_or start (map (λ v. v.signal) vs))
union-fits start [] h all = h
union-fits start (v ∷ vs) h all = union-fits (bit_or start v.signal) vs (or_of_32 start v.signal h (All-head ServiceFits v vs all).0) (All-tail ServiceFits v vs all)

signals-fit : (vs : List SfnService) → All ServiceFits vs → IsU32 (signals_in vs)
unfolding signals_in
signals-fit vs all = union-fits 0 vs zero-fits all

lowest-fits : (vs : List SfnService) (signals : ℕ) (v : SfnService) → lowest vs signals ≡ Some v → All ServiceFits vs → ServiceFits v
unfolding lowest
lowest-fits vs signals v e all = find-all ServiceFits (asserts signals) vs v e all

-- ---- a function at work

pub record WorkFits (w : Work) : Type 0 where
  pub lines : LinesFit w.lines
  pub handle : IsI32 w.handle.0
  pub registers : RegistersFit w.at.registers

leads : (p : Point) (i : SfnInstruction) → FunctionLineFits i → PointFits p → IfSome (function_effect p i) PointFits
leads p (Plain i) h all = line-leads p i h all
leads p (Return operand) h all = tt

step-fits : (lines : List SfnInstruction) (p : Point) → LinesFit lines → PointFits p → IfSome (function_step lines p) PointFits
unfolding function_step
step-fits lines p fit all = each_made PointFits (function_effect p) (slice_get lines p.place) (λ i e. leads p i (AllByRecursion-at FunctionLineFits lines p.place i fit e) all)

steps-fit : (lines : List SfnInstruction) (n : ℕ) (p : Point) → LinesFit lines → PointFits p → PointFits (function_steps lines n p)
unfolding function_steps
steps-fit lines zero p fit all = all
steps-fit lines (suc n) p fit all =
    let go : (o : Option Point) → IfSome o PointFits → PointFits (option_map_or (function_steps lines n) o p) = elim [ None ↦ λ h. all | Some q ↦ λ h. steps-fit lines n q fit h ] in
    go (function_step lines p) (step-fits lines p fit all)

reached-fits : (w : Work) → WorkFits w → PointFits (reached w)
unfolding reached
reached-fits w f = steps-fit w.lines w.budget w.at f.lines f.registers

line-call-fits : (h : Handle) (registers : List ℕ) (i : SfnInstruction) → IsI32 h.0 → FunctionLineFits i → RegistersFit registers → CallFits (function_line_call h registers i)
line-call-fits h registers (Plain i) handle fit all = line-calls registers i fit all
line-call-fits h registers (Return operand) handle fit all = (handle, (signed-fits _ (value-fits registers operand fit all), tt))

call-at-fits : (lines : List SfnInstruction) (h : Handle) (p : Point) → LinesFit lines → IsI32 h.0 → PointFits p → CallFits (function_call_at lines h p)
unfolding function_call_at
call-at-fits lines h p fit handle all =
    let go : (o : Option SfnInstruction) → slice_get lines p.place ≡ o → CallFits (option_map_or (function_line_call h p.registers) o (answer h 0)) = elim [
      | None ↦ λ e. (handle, (signed-fits 0 zero-fits, tt))
      | Some i ↦ λ e. line-call-fits h p.registers i handle (AllByRecursion-at FunctionLineFits lines p.place i fit e) all
    ] in
    go (slice_get lines p.place) refl

work-call-fits : (w : Work) → WorkFits w → CallFits (work_call w)
work-call-fits w f =
    elim w.pending as (λ (b : Bool). CallFits (if b then call.Resume else function_call_at w.lines w.handle (reached w))) [ true ↦ tt | false ↦ call-at-fits w.lines w.handle (reached w) f.lines f.handle (reached-fits w f) ]

work-goes : (w : Work) (o : Outcome) → OutcomeFits o → WorkFits w → WorkFits (work_after w o)
work-goes w o h f =
    elim (is_blocked_outcome o) as (λ (b : Bool). WorkFits (if b then record w { pending = true } else record w { budget = most_lines; at = point (noted o (reached w).registers) ((reached w).place + 1); pending = false })) [
      | true ↦ record { lines = f.lines; handle = f.handle; registers = f.registers }
      | false ↦ record { lines = f.lines; handle = f.handle; registers = noted-fits o (reached w).registers h (reached-fits w f) }
    ]

-- ---- rounds

abbrev pub StageFits : Stage → Type 0
StageFits (idle registers) = RegistersFit registers
StageFits (waiting registers) = RegistersFit registers
StageFits (signalled registers signals) = RegistersFit registers
StageFits (working w) = WorkFits w

pub first-stage : StageFits (idle function_registers)
first-stage = All-replicate IsU32 14 0 zero-fits

stage-goes : (w : Work) (o : Outcome) → OutcomeFits o → WorkFits w → StageFits (stage_after w o)
stage-goes w o h f =
    elim (returns_at w.lines (reached w)) as (λ (b : Bool). StageFits (if b then idle (reached w).registers else working (work_after w o))) [ true ↦ reached-fits w f | false ↦ work-goes w o h f ]

abbrev pub Answered : List Entry → Type 0
Answered es = AllByRecursion (λ e. OutcomeFits e.outcome) es

-- the call after entries that were answered with numbers that fit
pub round-calls : (p : SfnPartition) → PartitionFits p → (stage : Stage) (xs us : List Entry) (e : Entry) → StageFits stage → SfnRunFrom p stage (xs ++ e ∷ us) → Answered xs → CallFits e.call
round-calls p f (idle registers) [] us e h run all = subst CallFits (sym run.0) (signals-fit p.services f.services, (omega arith, tt))
round-calls p f (idle registers) (x ∷ xs) us e h run all = round-calls p f (waiting registers) xs us e h run.1.1 all.1
round-calls p f (waiting registers) [] us e h run all = subst CallFits (sym run.0) tt
round-calls p f (waiting registers) (x ∷ xs) us e h run all = round-calls p f (signalled registers run.1.0) xs us e h run.1.1.1 all.1
round-calls p f (signalled registers signals) [] us e h run all =
    let service : ServiceFits run.0 = lowest-fits p.services signals run.0 run.1.0 f.services in
    subst CallFits (sym run.1.1.0) (service.0, (f.base, tt))
round-calls p f (signalled registers signals) (x ∷ xs) us e h run all =
    let service : ServiceFits run.0 = lowest-fits p.services signals run.0 run.1.0 f.services in
    let got = run.1.1.1 in
    let message : MessageFits got.0 = subst OutcomeFits got.1.0 all.0 in
    let begins : WorkFits (begun run.0 got.0 registers) = record { lines = service.1; handle = message.0.1.0; registers = message-noted got.0 registers message h } in
    round-calls p f (working (begun run.0 got.0 registers)) xs us e begins got.1.1 all.1
round-calls p f (working w) [] us e h run all = subst CallFits (sym run.0) (work-call-fits w h)
round-calls p f (working w) (x ∷ xs) us e h run all = round-calls p f (stage_after w x.outcome) xs us e (stage-goes w x.outcome all.0 h) run.1 all.1
