-- No engine of a plan resumes by itself, so the plan resumes exactly after Blocked.
use Rattle.std.proofs.Common.{ℕ, zero, suc, ◌≡◌, Bool, true, false, List, [], ◌∷◌, get_or, refl, ap, sym, ◌∙◌}
use Rattle.std.specs.Prelude.{Option, Some, None, if◌then◌else◌, ◌↔◌, slice_get}
use Rattle.std.specs.List.{list_any}
use Rattle.std.specs.Option.{option_map_or}
use Rattle.ffm_model.specs.declared.machine.Handle.{Handle}
use Rattle.ffm_model.specs.declared.machine.Call.{Call}
use Rattle.ffm_model.specs.declared.machine.Call.TheVariants as call
use Rattle.ffm_model.specs.declared.script.CallName.{CallName}
use Rattle.ffm_model.specs.declared.script.CallName.TheVariants as name
use Rattle.ffm_model.specs.declared.script.MapName.{MapName}
use Rattle.ffm_model.specs.declared.script.MapName.TheVariants.{MapIn, UnmapIn, MapOut, UnmapOut}
use Rattle.ffm_model.specs.declared.script.Instruction.{Instruction}
use Rattle.ffm_model.specs.declared.script.Instruction.TheVariants as line
use Rattle.ffm_model.specs.Plans.{Engine, engine_after, plan_of}
use Rattle.ffm_model.specs.Records.{ends_blocked}
use Rattle.ffm_model.specs.ScriptRuns.{Point, start, arrived, call_of, line_call, call_at, script_engine, script_plan}
use Rattle.ffm_model.specs.Held.{Holder, is_refused, can_map_in, can_map_out, can_unmap_in, can_unmap_out}
use Rattle.ffm_model.specs.HeldPlans.{Holding, holding_none, line_step, map_line, call_made, held_call, held_arrived, held_engine, held_plan}
use Rattle.ffm_model.specs.HeldPlans.LineStep.{leads, makes}
use Rattle.ffm_model.specs.Contexts.{Contexts, opening_contexts, next_calls, picked_context, is_spent, contexts_call, context_engine, context_plan}
use Rattle.partition_sim.specs.Resuming.{ResumesAfterBlocked}

abbrev resumes : Call → Bool
resumes call.Resume = true
resumes _ = false

-- ---- plans of engines

due-by : (b : Bool) (c : Call) → resumes c ≡ false → ((if b then call.Resume else c) ≡ call.Resume) ↔ (b ≡ true)
due-by true c h = ((λ e. refl), (λ e. refl))
due-by false c h = ((λ e. sym h ∙ ap resumes e), (λ e. cc))

engine-resumes : {X : Type 0} (m : Engine X) (x : X) → ((y : X) → resumes (m.call y) ≡ false) → ResumesAfterBlocked (plan_of m x)
unfolding plan_of
engine-resumes m x h os = due-by (ends_blocked os) (m.call (engine_after m x os)) (h (engine_after m x os))

-- ---- lines

call_of-no : (n : CallName) (v : ℕ → ℕ) → resumes (call_of n v) ≡ false
call_of-no name.Stop v = refl
call_of-no _ v = refl

line-no : (rs : List ℕ) (i : Instruction) → resumes (line_call rs i) ≡ false
line-no rs (line.Change o r v) = refl
line-no rs (line.Jump t) = refl
line-no rs (line.JumpIf c r v t) = refl
line-no rs (line.Make n vs) = call_of-no n _
line-no rs (line.Map n vs) = refl

-- ---- a script

some-no : (rs : List ℕ) (o : Option Instruction) → resumes (option_map_or (line_call rs) o (call.Stop false)) ≡ false
some-no rs None = refl
some-no rs (Some i) = line-no rs i

at-no : (script : List Instruction) (p : Point) → resumes (call_at script p) ≡ false
unfolding call_at
at-no script p = some-no p.registers (slice_get script p.place)

pub script-resumes : (script : List Instruction) → ResumesAfterBlocked (script_plan script)
script-resumes script = engine-resumes (script_engine script) start (λ p. at-no script (arrived script p))

-- ---- a script with messages held

either-no : (b : Bool) (c d : Call) → resumes c ≡ false → resumes d ≡ false → resumes (if b then c else d) ≡ false
either-no true c d h k = h
either-no false c d h k = k

led-no : (b : Bool) (x : Holding) → resumes (call_made (if b then leads x else makes call.Panic)) ≡ false
led-no true x = refl
led-no false x = refl

map-no : (p : Holder) (x : Holding) (n : MapName) (h : Handle) (i len : ℕ) → resumes (call_made (map_line p x n h i len)) ≡ false
map-no p x MapIn h i len = either-no (can_map_in p x.table h i) _ _ refl refl
map-no p x MapOut h i len = led-no (can_map_out p x.table h i) _
map-no p x UnmapIn h i len = led-no (can_unmap_in x.table h i) _
map-no p x UnmapOut h i len = either-no (can_unmap_out x.table h i len) _ _ refl refl

step-no : (p : Holder) (x : Holding) (i : Instruction) → resumes (call_made (line_step p x i)) ≡ false
step-no p x (line.Change o r v) = refl
step-no p x (line.Jump t) = refl
step-no p x (line.JumpIf c r v t) = refl
step-no p x (line.Make n vs) = either-no (is_refused x.table (line_call x.at.registers (line.Make n vs))) _ _ refl (line-no x.at.registers (line.Make n vs))
step-no p x (line.Map n vs) = map-no p x n _ _ _

held-some-no : (p : Holder) (x : Holding) (o : Option Instruction) → resumes (option_map_or (λ i. call_made (line_step p x i)) o (call.Stop false)) ≡ false
held-some-no p x None = refl
held-some-no p x (Some i) = step-no p x i

held-no : (p : Holder) (script : List Instruction) (x : Holding) → resumes (held_call p script x) ≡ false
unfolding held_call
held-no p script x = held-some-no p x (slice_get script x.at.place)

pub held-resumes : (p : Holder) (script : List Instruction) → ResumesAfterBlocked (held_plan p script)
held-resumes p script = engine-resumes (held_engine p script) holding_none (λ x. held-no p script (held_arrived p script x))

-- ---- contexts

one-of-no : (scripts : List (List Instruction)) (ps : List Point) (k : ℕ) → resumes (get_or (next_calls scripts ps) k (call.Stop false)) ≡ false
unfolding next_calls
one-of-no [] ps k = refl
one-of-no (script ∷ scripts) [] k = refl
one-of-no (script ∷ scripts) (p ∷ ps) zero = at-no script (arrived script p)
one-of-no (script ∷ scripts) (p ∷ ps) (suc k) = one-of-no scripts ps k

picked-no : (scripts : List (List Instruction)) (ps : List Point) (o : Option ℕ) (spent : Bool)
    → resumes (option_map_or (λ k. get_or (next_calls scripts ps) k (call.Stop false)) o (call.Stop spent)) ≡ false
picked-no scripts ps None spent = refl
picked-no scripts ps (Some k) spent = one-of-no scripts ps k

contexts-no : (scripts : List (List Instruction)) (x : Contexts) → resumes (contexts_call scripts x) ≡ false
unfolding contexts_call
contexts-no scripts x = picked-no scripts x.points (picked_context scripts x) (list_any is_spent (next_calls scripts x.points))

pub contexts-resume : (scripts : List (List Instruction)) → ResumesAfterBlocked (context_plan scripts)
contexts-resume scripts = engine-resumes (context_engine scripts) (opening_contexts scripts) (contexts-no scripts)
