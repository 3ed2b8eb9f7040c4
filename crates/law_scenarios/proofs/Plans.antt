-- A script whose numbers fit makes calls whose numbers fit, where it was answered with numbers that fit.
use Rattle.std.proofs.Common.{ℕ, zero, suc, ◌≡◌, Bool, true, false, List, [], ◌∷◌, length, map, get_or, inl, inr, arith, refl, sym, subst}
use Rattle.std.specs.Prelude.{ℤ, All, Option, Some, None, IfSome, slice_get, slice_set, if◌then◌else◌}
use Rattle.std.specs.List.{AllByRecursion, list_any}
use Rattle.std.specs.Option.{option_map_or}
use Rattle.std.specs.Int.{w32, cast_unsigned}
use Rattle.std.proofs.Math.Facts.{Fits-of_z}
use Rattle.std.proofs.lemmas.Bool.{cases_lt}
use Rattle.std.proofs.lemmas.Nat.{and_le_l, or_of_32, xor_of_32}
use Rattle.std.proofs.lemmas.List.{get_or_past}
use Rattle.std.proofs.lemmas.List.Elements.{All-cons, All-get_or, All-head, All-nil, All-tail, All-replicate, All-set}
use Rattle.law_lists.proofs.Lists.{AllByRecursion-at}
use Rattle.law_lists.proofs.Options.{each_made}
use Rattle.ffm_model.specs.declared.machine.Call.{Call}
use Rattle.ffm_model.specs.declared.machine.Call.TheVariants as call
use Rattle.ffm_model.specs.declared.machine.Message.{Message}
use Rattle.ffm_model.specs.declared.machine.Outcome.{Outcome}
use Rattle.ffm_model.specs.declared.machine.Outcome.TheVariants as outcome
use Rattle.ffm_model.specs.declared.script.CallName.{CallName}
use Rattle.ffm_model.specs.declared.script.CallName.TheVariants as name
use Rattle.ffm_model.specs.declared.script.Instruction.{Instruction}
use Rattle.ffm_model.specs.declared.script.Instruction.TheVariants.{Change, Jump, JumpIf, Make, Map}
use Rattle.ffm_model.specs.declared.script.Operand.{Operand}
use Rattle.ffm_model.specs.declared.script.Operand.TheVariants.{Register, Number}
use Rattle.ffm_model.specs.declared.script.Operation.{Operation}
use Rattle.ffm_model.specs.declared.script.Operation.TheVariants.{Set, Add, Sub, And, Or, Xor}
use Rattle.ffm_model.specs.Contexts.{Contexts, context_engine, context_plan, contexts_then, contexts_call, caller, is_spent, next_calls, opening_contexts, picked_context, script_of}
use Rattle.ffm_model.specs.Plans.{Engine, Plan, engine_after, engine_answered, plan_of}
use Rattle.ffm_model.specs.Records.{ends_blocked, is_blocked_outcome}
use Rattle.ffm_model.specs.ScriptRuns.{Point, arrived, call_at, call_of, changed, line_call, line_effect, local_step, local_steps, most_lines, noted, start, value_of, with_message}
use Rattle.ffm_model.specs.TraceText.{CallFits, IsI32, IsU32, MessageFits, OutcomeFits}
use Rattle.law_scenarios.specs.Ranges.{LineFits, OperandFits, PartsFit}
use Rattle.law_scenarios.proofs.Numbers.{signed-fits, zero-fits}

-- ---- registers and values

abbrev pub RegistersFit : List ℕ → Type 0
RegistersFit registers = All IsU32 registers

pub register-fits : (registers : List ℕ) (r : ℕ) → RegistersFit registers → IsU32 (get_or registers r 0)
register-fits registers r all = elim (cases_lt r (length registers)) [
  | inl below ↦ All-get_or IsU32 registers r 0 below all
  | inr past ↦ subst IsU32 (sym (get_or_past registers r 0 past)) zero-fits
]

pub register-put : (registers : List ℕ) (r v : ℕ) → IsU32 v → RegistersFit registers → RegistersFit (slice_set registers r v)
register-put registers r v h all = All-set IsU32 registers r v h all

pub value-fits : (registers : List ℕ) (o : Operand) → OperandFits o → RegistersFit registers → IsU32 (value_of registers o)
value-fits registers (Register r) h all = register-fits registers r all
value-fits registers (Number n) h all = h

pub operand-fits : (os : List Operand) (i : ℕ) → AllByRecursion OperandFits os → OperandFits (get_or os i (Number 0))
operand-fits [] i h = zero-fits
operand-fits (o ∷ os) zero h = h.0
operand-fits (o ∷ os) (suc i) h = operand-fits os i h.1

changed-fits : (o : Operation) (x v : ℕ) → IsU32 x → IsU32 v → IsU32 (changed o x v)
changed-fits Set x v h k = k
changed-fits Add x v h k = omega arith
changed-fits Sub x v h k = omega arith
changed-fits And x v h k = omega (arith, and_le_l x v, h)
changed-fits Or x v h k = or_of_32 x v h k
changed-fits Xor x v h k = xor_of_32 x v h k

pub bits-fit : (z : ℤ) → IsI32 z → IsU32 (cast_unsigned w32 z)
bits-fit z h = omega (arith, Fits-of_z {w = w32} {z = z} h)

pub message-noted : (m : Message) (registers : List ℕ) → MessageFits m → RegistersFit registers → RegistersFit (with_message m registers)
message-noted m registers h all =
    let front = h.0 in
    let r0 : List ℕ = slice_set registers 0 0 in
    let r1 : List ℕ = slice_set r0 1 (cast_unsigned w32 m.kind) in
    let r2 : List ℕ = slice_set r1 2 (cast_unsigned w32 m.handle.0) in
    let r3 : List ℕ = slice_set r2 3 (cast_unsigned w32 m.client_id) in
    let one : RegistersFit r1 = register-put r0 1 (cast_unsigned w32 m.kind) (bits-fit m.kind front.0) (register-put registers 0 0 zero-fits all) in
    let two : RegistersFit r2 = register-put r1 2 (cast_unsigned w32 m.handle.0) (bits-fit m.handle.0 front.1.0) one in
    register-put r3 4 m.rhandle front.1.1.1.0 (register-put r2 3 (cast_unsigned w32 m.client_id) (bits-fit m.client_id front.1.1.0) two)

pub noted-fits : (o : Outcome) (registers : List ℕ) → OutcomeFits o → RegistersFit registers → RegistersFit (noted o registers)
noted-fits (outcome.Value z) registers h all = register-put registers 0 (cast_unsigned w32 z) (bits-fit z h) all
noted-fits (outcome.Number n) registers h all = register-put registers 0 n h all
noted-fits (outcome.Signals n) registers h all = register-put registers 0 n h all
noted-fits (outcome.Got m) registers h all = message-noted m registers h all
noted-fits outcome.Blocked registers h all = all
noted-fits outcome.Done registers h all = all
noted-fits outcome.Panicked registers h all = all

-- ---- lines

abbrev pub PointFits : Point → Type 0
PointFits p = RegistersFit p.registers

pub start-fits : PointFits start
start-fits = All-replicate IsU32 16 0 zero-fits

pub line-leads : (p : Point) (i : Instruction) → LineFits i → PointFits p → IfSome (line_effect p i) PointFits
line-leads p (Change o r v) h all = register-put p.registers r _ (changed-fits o _ _ (register-fits p.registers r all) (value-fits p.registers v h all)) all
line-leads p (Jump target) h all = all
line-leads p (JumpIf c r v target) h all = all
line-leads p (Make n operands) h all = tt
line-leads p (Map n operands) h all = tt

call_of-fits : (n : CallName) (v : ℕ → ℕ) → ((i : ℕ) → IsU32 (v i)) → CallFits (call_of n v)
call_of-fits name.FrameworkVersion v h = tt
call_of-fits name.Version v h = (h 0, tt)
call_of-fits name.Connect v h = (h 0, (h 1, tt))
call_of-fits name.Invoke v h = (signed-fits (v 0) (h 0), (signed-fits (v 1) (h 1), (h 2, (h 3, (h 4, (h 5, tt))))))
call_of-fits name.Close v h = (signed-fits (v 0) (h 0), tt)
call_of-fits name.Wait v h = (h 0, (h 1, tt))
call_of-fits name.Get v h = (h 0, (h 1, tt))
call_of-fits name.SetRhandle v h = (signed-fits (v 0) (h 0), (h 1, tt))
call_of-fits name.Read v h = (signed-fits (v 0) (h 0), (h 1, (h 2, (h 3, tt))))
call_of-fits name.Skip v h = (signed-fits (v 0) (h 0), (h 1, (h 2, tt)))
call_of-fits name.Write v h = (signed-fits (v 0) (h 0), (h 1, (h 2, (h 3, tt))))
call_of-fits name.Reply v h = (signed-fits (v 0) (h 0), (signed-fits (v 1) (h 1), tt))
call_of-fits name.Notify v h = (signed-fits (v 0) (h 0), tt)
call_of-fits name.Clear v h = tt
call_of-fits name.Eoi v h = (h 0, tt)
call_of-fits name.IrqEnable v h = (h 0, tt)
call_of-fits name.IrqDisable v h = (h 0, tt)
call_of-fits name.ResetSignal v h = (h 0, tt)
call_of-fits name.Panic v h = tt
call_of-fits name.Load v h = (h 0, (h 1, tt))
call_of-fits name.Store v h = (h 0, (h 1, (h 2, tt)))
call_of-fits name.Raise v h = (h 0, tt)
call_of-fits name.Fire v h = (h 0, (h 1, tt))
call_of-fits name.Stop v h = tt

pub line-calls : (registers : List ℕ) (i : Instruction) → LineFits i → RegistersFit registers → CallFits (line_call registers i)
line-calls registers (Make n operands) h all = call_of-fits n _ (λ i. value-fits registers (get_or operands i (Number 0)) (operand-fits operands i h) all)
line-calls registers (Change o r v) h all = tt
line-calls registers (Jump target) h all = tt
line-calls registers (JumpIf c r v target) h all = tt
line-calls registers (Map n operands) h all = tt

-- ---- scripts

step-fits : (script : List Instruction) (p : Point) → AllByRecursion LineFits script → PointFits p → IfSome (local_step script p) PointFits
unfolding local_step
step-fits script p lines all = each_made PointFits (line_effect p) (slice_get script p.place) (λ i e. line-leads p i (AllByRecursion-at LineFits script p.place i lines e) all)

steps-fit : (script : List Instruction) (n : ℕ) (p : Point) → AllByRecursion LineFits script → PointFits p → PointFits (local_steps script n p)
unfolding local_steps
steps-fit script zero p lines all = all
steps-fit script (suc n) p lines all =
    let go : (o : Option Point) → IfSome o PointFits → PointFits (option_map_or (local_steps script n) o p) = elim [ None ↦ λ h. all | Some q ↦ λ h. steps-fit script n q lines h ] in
    go (local_step script p) (step-fits script p lines all)

arrived-fits : (script : List Instruction) (p : Point) → AllByRecursion LineFits script → PointFits p → PointFits (arrived script p)
unfolding arrived
arrived-fits script p lines all = steps-fit script most_lines p lines all

call_at-fits : (script : List Instruction) (p : Point) → AllByRecursion LineFits script → PointFits p → CallFits (call_at script p)
unfolding call_at
call_at-fits script p lines all =
    let go : (o : Option Instruction) → slice_get script p.place ≡ o → CallFits (option_map_or (line_call p.registers) o (call.Stop false)) = elim [
      | None ↦ λ e. tt
      | Some i ↦ λ e. line-calls p.registers i (AllByRecursion-at LineFits script p.place i lines e) all
    ] in
    go (slice_get script p.place) refl

-- ---- engines

-- a state that keeps I makes calls that fit, and keeps I after outcomes that fit
pub record EngineFits {X : Type 0} (I : X → Type 0) (m : Engine X) : Type 0 where
  pub calls : (x : X) → I x → CallFits (m.call x)
  pub goes : (o : Outcome) (x : X) → OutcomeFits o → I x → I (m.behind o x)

-- what calls a plan makes, after outcomes that fit
abbrev pub PlanFits : Plan → Type 0
PlanFits plan = (os : List Outcome) → AllByRecursion OutcomeFits os → CallFits (plan os)

after-fits : {X : Type 0} (I : X → Type 0) (m : Engine X) → EngineFits I m → (x : X) (os : List Outcome) → I x → AllByRecursion OutcomeFits os → I (engine_after m x os)
unfolding engine_after
after-fits I m k x [] h fits = h
after-fits I m k x (o ∷ os) h fits =
    let one : I (engine_answered m o x) = elim (is_blocked_outcome o) as (λ (b : Bool). I (if b then x else m.behind o x)) [ true ↦ h | false ↦ k.goes o x fits.0 h ] in
    after-fits I m k (engine_answered m o x) os one fits.1

pub plan-fits : {X : Type 0} (I : X → Type 0) (m : Engine X) → EngineFits I m → (x : X) → I x → PlanFits (plan_of m x)
unfolding plan_of
plan-fits I m k x h os fits =
    elim (ends_blocked os) as (λ (b : Bool). CallFits (if b then call.Resume else m.call (engine_after m x os))) [ true ↦ tt | false ↦ k.calls (engine_after m x os) (after-fits I m k x os h fits) ]

-- ---- the contexts of a client

abbrev ContextsFit : Contexts → Type 0
ContextsFit x = All PointFits x.points

part-fits : (parts : List (List Instruction)) (k : ℕ) → PartsFit parts → AllByRecursion LineFits (get_or parts k [])
part-fits [] k h = tt
part-fits (p ∷ ps) zero h = h.0
part-fits (p ∷ ps) (suc k) h = part-fits ps k h.1

point-fits : (ps : List Point) (k : ℕ) → All PointFits ps → PointFits (get_or ps k start)
point-fits ps k all = elim (cases_lt k (length ps)) [
  | inl below ↦ All-get_or PointFits ps k start below all
  | inr past ↦ subst PointFits (sym (get_or_past ps k start past)) start-fits
]

calls-fit : (parts : List (List Instruction)) (ps : List Point) (k : ℕ) → PartsFit parts → All PointFits ps → CallFits (get_or (next_calls parts ps) k (call.Stop false))
unfolding next_calls
calls-fit [] ps k h all = tt
calls-fit (script ∷ parts) [] k h all = tt
calls-fit (script ∷ parts) (p ∷ ps) zero h all = call_at-fits script (arrived script p) h.0 (arrived-fits script p h.0 (All-head PointFits p ps all))
calls-fit (script ∷ parts) (p ∷ ps) (suc k) h all = calls-fit parts ps k h.1 (All-tail PointFits p ps all)

stop-fits : (spent : Bool) → CallFits (call.Stop spent)
stop-fits true = tt
stop-fits false = tt

contexts-call : (parts : List (List Instruction)) (x : Contexts) → PartsFit parts → ContextsFit x → CallFits (contexts_call parts x)
unfolding contexts_call
contexts-call parts x h all =
    let calls : List Call = next_calls parts x.points in
    let go : (o : Option ℕ) → CallFits (option_map_or (λ k. get_or calls k (call.Stop false)) o (call.Stop (list_any is_spent calls))) = elim [
      | None ↦ stop-fits (list_any is_spent calls)
      | Some k ↦ calls-fit parts x.points k h all
    ] in
    go (picked_context parts x)

contexts-go : (parts : List (List Instruction)) (o : Outcome) (x : Contexts) → PartsFit parts → OutcomeFits o → ContextsFit x → ContextsFit (contexts_then parts o x)
unfolding contexts_then
contexts-go parts o x h fits all =
    let k : ℕ = caller parts x in
    let lines : AllByRecursion LineFits (script_of parts k) = part-fits parts k h in
    let here : PointFits (arrived (script_of parts k) (get_or x.points k start)) = arrived-fits (script_of parts k) (get_or x.points k start) lines (point-fits x.points k all) in
    All-set PointFits x.points k _ (noted-fits o _ fits here) all

starts-fit : (parts : List (List Instruction)) → All PointFits (map (λ _. start) parts)
starts-fit [] = All-nil PointFits
starts-fit (p ∷ ps) = All-cons PointFits start (map (λ _. start) ps) start-fits (starts-fit ps)

pub context-plan-fits : (parts : List (List Instruction)) → PartsFit parts → PlanFits (context_plan parts)
context-plan-fits parts h =
    plan-fits ContextsFit (context_engine parts) (record { calls = λ x. contexts-call parts x h; goes = λ o x. contexts-go parts o x h }) (opening_contexts parts) (starts-fit parts)
