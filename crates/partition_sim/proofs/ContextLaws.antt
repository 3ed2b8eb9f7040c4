-- One context runs its script.
use Rattle.std.proofs.Common.{ℕ, ◌≡◌, Bool, true, false, List, [], ◌∷◌, get_or, refl, ap, ◌∙◌}
use Rattle.std.specs.Prelude.{Option, Some, None, if◌then◌else◌, ◌↔◌, slice_set, ◌||◌}
use Rattle.std.specs.Option.{option_map_or, unwrap_or}
use Rattle.law_lists.proofs.Bools.{or_false}
use Rattle.ffm_model.specs.declared.machine.Entry.{Entry}
use Rattle.ffm_model.specs.declared.machine.Call.{Call}
use Rattle.ffm_model.specs.declared.machine.Call.TheVariants as call
use Rattle.ffm_model.specs.declared.machine.Outcome.{Outcome}
use Rattle.ffm_model.specs.declared.script.Instruction.{Instruction}
use Rattle.ffm_model.specs.Plans.{engine_answered, engine_after, is_stop, plan_of}
use Rattle.ffm_model.specs.Records.{is_blocked_outcome, ends_blocked}
use Rattle.ffm_model.specs.ScriptRuns.{Point, start, arrived, call_at, behind, script_engine, script_plan, ScriptRun}
use Rattle.ffm_model.specs.Contexts.{Contexts, first_from, next_context, picked, is_spent, next_calls, contexts_call, contexts_then, context_engine, context_plan, ContextRun}
use Rattle.partition_sim.proofs.PlanLaws.{same-runs}

-- a client with one context, which stands at a point
abbrev one : Point → Contexts
one p = record { points = p ∷ []; turn = 0 }

-- ---- its call

-- Stop with the flag that it has
stop-of : (c : Call) → is_stop c ≡ true → call.Stop (is_spent c) ≡ c
stop-of (call.Stop spent) e = refl
stop-of call.FrameworkVersion e = cc
stop-of (call.Version sid) e = cc
stop-of (call.Connect sid version) e = cc
stop-of (call.Invoke h k a b c d) e = cc
stop-of (call.Close h) e = cc
stop-of (call.Wait m t) e = cc
stop-of (call.Get s m) e = cc
stop-of (call.SetRhandle h r) e = cc
stop-of (call.Read h i b l) e = cc
stop-of (call.Skip h i l) e = cc
stop-of (call.Write h i b l) e = cc
stop-of (call.Reply h s) e = cc
stop-of (call.Notify p) e = cc
stop-of call.Clear e = cc
stop-of (call.Eoi s) e = cc
stop-of (call.IrqEnable s) e = cc
stop-of (call.IrqDisable s) e = cc
stop-of (call.ResetSignal s) e = cc
stop-of call.Panic e = cc
stop-of (call.Load a s) e = cc
stop-of (call.Store a s v) e = cc
stop-of (call.Raise s) e = cc
stop-of (call.Fire s r) e = cc
stop-of call.Resume e = cc

one-call-by : (c : Call) (b : Bool) → is_stop c ≡ b
    → option_map_or (λ k. get_or (c ∷ []) k (call.Stop false)) (if b then None else Some 0) (call.Stop (is_spent c || false)) ≡ c
one-call-by c true e = ap call.Stop (or_false (is_spent c)) ∙ stop-of c e
one-call-by c false e = refl

picked-one : (c : Call) → picked (record { count = 1; turn = 0 }) (is_stop c ∷ []) ≡ (if is_stop c then None else Some 0)
unfolding first_from
picked-one c = refl

one-call : (script : List Instruction) (p : Point) → contexts_call (script ∷ []) (one p) ≡ call_at script (arrived script p)
unfolding contexts_call next_calls
one-call script p =
    let c : Call = call_at script (arrived script p) in
    ap (λ (o : Option ℕ). option_map_or (λ k. get_or (c ∷ []) k (call.Stop false)) o (call.Stop (is_spent c || false))) (picked-one c)
    ∙ one-call-by c (is_stop c) refl

-- ---- after it

caller-by : (b : Bool) → ◌≡◌ {A = ℕ} (unwrap_or (if b then None else Some 0) 0) 0
caller-by true = refl
caller-by false = refl

one-then : (script : List Instruction) (o : Outcome) (p : Point) → contexts_then (script ∷ []) o (one p) ≡ one (behind script o (arrived script p))
unfolding contexts_then next_calls
one-then script o p =
    let c : Call = call_at script (arrived script p) in
    let me : unwrap_or (picked (record { count = 1; turn = 0 }) (is_stop c ∷ [])) 0 ≡ 0 = ap (λ (x : Option ℕ). unwrap_or x 0) (picked-one c) ∙ caller-by (is_stop c) in
    ap (λ (k : ℕ). record { points = slice_set (p ∷ []) k (behind (get_or (script ∷ []) k []) o (arrived (get_or (script ∷ []) k []) (get_or (p ∷ []) k start))); turn = next_context 1 k }) me

one-answered-by : (script : List Instruction) (o : Outcome) (p : Point) (b : Bool)
    → (if b then one p else contexts_then (script ∷ []) o (one p)) ≡ one (if b then p else behind script o (arrived script p))
one-answered-by script o p true = refl
one-answered-by script o p false = one-then script o p

one-after : (script : List Instruction) (os : List Outcome) (p : Point) → engine_after (context_engine (script ∷ [])) (one p) os ≡ one (engine_after (script_engine script) p os)
unfolding engine_after
one-after script [] p = refl
one-after script (o ∷ os) p =
    ap (λ (x : Contexts). engine_after (context_engine (script ∷ [])) x os) (one-answered-by script o p (is_blocked_outcome o))
    ∙ one-after script os (engine_answered (script_engine script) o p)

-- ---- the plan

pub one-plan : (script : List Instruction) (os : List Outcome) → context_plan (script ∷ []) os ≡ script_plan script os
unfolding plan_of
one-plan script os =
    ap (λ (c : Call). if ends_blocked os then call.Resume else c)
    (ap (contexts_call (script ∷ [])) (one-after script os start) ∙ one-call script (engine_after (script_engine script) start os))

pub one-run : (script : List Instruction) (es : List Entry) → ContextRun (script ∷ []) es ↔ ScriptRun script es
one-run script es = same-runs (context_plan (script ∷ [])) (script_plan script) (one-plan script) es
