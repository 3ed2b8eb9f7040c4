-- The lines of a partition's script, and where it goes on after a call.
-- Source: this simulator's script language; FF-M 1.1, mapped vectors (MM-IOVEC).
use Rattle.std.proofs.Common.{ℕ, zero, suc, ◌≡◌, ◌<◌, ◌-◌, Bool, true, false, List, refl, ap, sym, ◌∙◌, arith}
use Rattle.std.specs.Prelude.{Option, Some, None, option_and_then, slice_get, if◌then◌else◌}
use Rattle.ffm_model.specs.declared.machine.Handle.{Handle}
use Rattle.ffm_model.specs.declared.machine.Call.{Call}
use Rattle.ffm_model.specs.declared.machine.Call.TheVariants as call
use Rattle.ffm_model.specs.declared.machine.Outcome.{Outcome}
use Rattle.ffm_model.specs.declared.script.Instruction.{Instruction}
use Rattle.ffm_model.specs.declared.script.Instruction.TheVariants as line
use Rattle.ffm_model.specs.Held.{Holder, HeldMessage}
use Rattle.ffm_model.specs.HeldPlans.{Holding, call_made, led_to, line_step, other_line, held_step, held_steps, held_arrived, held_call, held_after, registers_noted, table_noted}
use Rattle.ffm_model.specs.HeldPlans.LineStep.{leads, makes}
use Rattle.ffm_model.specs.ScriptRuns.{Point, line_effect, local_step, most_lines, place_after}
use Rattle.mm_iovec.specs.declared.line.MmLine.{MmLine}
use Rattle.mm_iovec.specs.declared.line.MmLine.TheVariants.{UnmapIn, MapOut}
use Rattle.mm_iovec.specs.declared.line.MmStep.TheVariants.{Calls, Fault}
use Rattle.mm_iovec.specs.Lines.{can_do, engine_line, step_done, step_of, table_done, table_of}
use Rattle.script_engines.specs.Holdings.{holding}

-- ---- lines, one after another

pub held-one : (p : Holder) (script : List Instruction) (n : ℕ) (x y : Holding) → 0 < n → held_step p script x ≡ Some y → held_steps p script n x ≡ held_steps p script (n - 1) y
unfolding held_steps
held-one p script zero x y h e = absurd (omega arith)
held-one p script (suc n) x y h e =
    let less : suc n - 1 ≡ n = omega arith in
    rw (e, less) refl

pub held-none : (p : Holder) (script : List Instruction) (n : ℕ) (x : Holding) → held_step p script x ≡ None → held_steps p script n x ≡ x
unfolding held_steps
held-none p script zero x e = refl
held-none p script (suc n) x e = rw e refl

pub held-zero : (p : Holder) (script : List Instruction) (n : ℕ) (x : Holding) → n ≡ 0 → held_steps p script n x ≡ x
unfolding held_steps
held-zero p script n x e = rw e refl

pub held-begins : (p : Holder) (script : List Instruction) (x : Holding) → held_steps p script most_lines x ≡ held_arrived p script x
unfolding held_arrived
held-begins p script x = refl

-- ---- a local line does the same where messages are held

leads-local : (p : Holder) (t : List HeldMessage) (x y : Point) (i : Instruction) → line_effect x i ≡ Some y → led_to (line_step p (record { at = x; table = t }) i) ≡ Some (record { at = y; table = t })
leads-local p t x y (line.Make n operands) e = cc
leads-local p t x y (line.Map n operands) e = cc
leads-local p t x y (line.Change o r v) e = ap (λ (q : Option Point). led_to (other_line (record { at = x; table = t }) (line.Change o r v) q)) e
leads-local p t x y (line.Jump target) e = ap (λ (q : Option Point). led_to (other_line (record { at = x; table = t }) (line.Jump target) q)) e
leads-local p t x y (line.JumpIf c r v target) e = ap (λ (q : Option Point). led_to (other_line (record { at = x; table = t }) (line.JumpIf c r v target) q)) e

local-by : (p : Holder) (t : List HeldMessage) (x y : Point) (o : Option Instruction) → option_and_then (line_effect x) o ≡ Some y
    → option_and_then (λ i. led_to (line_step p (record { at = x; table = t }) i)) o ≡ Some (record { at = y; table = t })
local-by p t x y None e = cc
local-by p t x y (Some i) e = leads-local p t x y i e

pub held-local : (p : Holder) (script : List Instruction) (t : List HeldMessage) (x y : Point) → local_step script x ≡ Some y
    → held_step p script (record { at = x; table = t }) ≡ Some (record { at = y; table = t })
unfolding local_step held_step
held-local p script t x y e = local-by p t x y (slice_get script x.place) e

-- ---- one line

-- a line that makes a call leaves the table to the call's outcome
keeps-by : (p : Holder) (t : List HeldMessage) (l : MmLine) (b : Bool) (c : Call) → Calls c ≡ (if b then step_done p t l else Fault) → (if b then table_done l t else t) ≡ t
keeps-by p t l false c e = refl
keeps-by p t (UnmapIn h i) true c e = cc
keeps-by p t (MapOut h i) true c e = cc
keeps-by p t _ true c e = refl

pub call-keeps : (p : Holder) (t : List HeldMessage) (l : MmLine) (c : Call) → Calls c ≡ step_of p t l → table_of p t l ≡ t
call-keeps p t l c e = keeps-by p t l (can_do p t l) c e

pub fault-keeps : (p : Holder) (t : List HeldMessage) (l : MmLine) → can_do p t l ≡ false → table_of p t l ≡ t
fault-keeps p t l e = ap (λ (b : Bool). if b then table_done l t else t) e

-- a line that would lead on ends the script
ends-or-faults : (b : Bool) (x : Holding) → call_made (if b then leads x else makes call.Panic) ≡ (if b then call.Stop true else call.Panic)
ends-or-faults true x = refl
ends-or-faults false x = refl

pub unmap-in-call : (p : Holder) (x : Holding) (t : List HeldMessage) (h : Handle) (i : ℕ) → x.table ≡ t
    → (if can_do p t (UnmapIn h i) then call.Stop true else call.Panic) ≡ call_made (engine_line p x (UnmapIn h i))
unmap-in-call p x t h i e =
    ap (λ (u : List HeldMessage). if can_do p u (UnmapIn h i) then call.Stop true else call.Panic) (sym e) ∙ sym (ends-or-faults (can_do p x.table (UnmapIn h i)) _)

pub map-out-call : (p : Holder) (x : Holding) (t : List HeldMessage) (h : Handle) (i : ℕ) → x.table ≡ t
    → (if can_do p t (MapOut h i) then call.Stop true else call.Panic) ≡ call_made (engine_line p x (MapOut h i))
map-out-call p x t h i e =
    ap (λ (u : List HeldMessage). if can_do p u (MapOut h i) then call.Stop true else call.Panic) (sym e) ∙ sym (ends-or-faults (can_do p x.table (MapOut h i)) _)

-- ---- after a call

pub after-is : (p : Holder) (script : List Instruction) (o : Outcome) (x : Holding) (line : Option Instruction) (c : Call) (after : ℕ) → line ≡ slice_get script x.at.place → c ≡ held_call p script x
    → after ≡ place_after script x.at.place → held_after p script o x ≡ holding (registers_noted line c o x.at.registers) after (table_noted p line c o x.table)
unfolding held_after
after-is p script o x line c after l e a = rw (l, e, a) refl
