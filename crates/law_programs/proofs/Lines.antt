-- What the lines of a partition's script make of its table, and which call its plan makes.
use Rattle.std.proofs.Common.{ℕ, zero, suc, ◌≡◌, Bool, true, false, List, [], ◌∷◌, ◌++◌, refl, ap, ap₂, sym, ◌∙◌, subst, append_assoc}
use Rattle.std.specs.Prelude.{Option, Some, None, slice_get, option_and_then, if◌then◌else◌}
use Rattle.std.specs.Option.{option_map_or}
use Rattle.std.proofs.lemmas.List.{append-nil}
use Rattle.ffm_model.specs.declared.machine.Handle.{Handle}
use Rattle.ffm_model.specs.declared.machine.Entry.{Entry}
use Rattle.ffm_model.specs.declared.machine.Call.{Call}
use Rattle.ffm_model.specs.declared.machine.Call.TheVariants as call
use Rattle.ffm_model.specs.declared.machine.Outcome.{Outcome}
use Rattle.ffm_model.specs.declared.script.Operand.{Operand}
use Rattle.ffm_model.specs.declared.script.MapName.{MapName}
use Rattle.ffm_model.specs.declared.script.MapName.TheVariants.{MapIn, UnmapIn, MapOut, UnmapOut}
use Rattle.ffm_model.specs.declared.script.Instruction.{Instruction}
use Rattle.ffm_model.specs.declared.script.Instruction.TheVariants as line
use Rattle.ffm_model.specs.Plans.{Plan, RunFrom, Engine, engine_after, plan_of}
use Rattle.ffm_model.specs.Records.{ends_blocked, outcomes_of}
use Rattle.ffm_model.specs.ScriptRuns.{most_lines, line_call}
use Rattle.ffm_model.specs.Held.{Holder, HeldMessage, can_map_in, can_map_out, can_unmap_in, can_unmap_out, changed_at, input_size, input_window, is_refused, output_window, table_after, table_touched, touched, with_input, with_output}
use Rattle.ffm_model.specs.Held.VectorState.{mapped, unmapped}
use Rattle.ffm_model.specs.HeldPlans.{Holding, call_made, handle_operand, held_arrived, held_after, held_call, held_step, held_steps, led_to, line_step, map_line, next_line, number_operand, table_noted}
use Rattle.ffm_model.specs.HeldPlans.LineStep.{leads, makes}
use Rattle.law_programs.proofs.Changes.{is_vector_call}

-- ---- lines without a call

-- P is kept by the lines that change the table without a call
pub record IsLocal (p : Holder) (P : List HeldMessage → Type 0) : Type 0 where
  pub map_out : (t : List HeldMessage) (h : Handle) (index : ℕ) → can_map_out p t h index ≡ true → P t → P (changed_at h (with_output mapped index) t)
  pub unmap_in : (t : List HeldMessage) (h : Handle) (index : ℕ) → P t → P (changed_at h (with_input unmapped index) t)

led-same : (P : List HeldMessage → Type 0) (x y : Holding) (z : Holding) → Some z ≡ Some y → P z.table → P y.table
led-same P x y z e h = let same : z ≡ y = cc in subst (λ (w : Holding). P w.table) same h

map_out-has : (p : Holder) (P : List HeldMessage → Type 0) (x y : Holding) (h : Handle) (index : ℕ) (registers : List ℕ) (b : Bool) → can_map_out p x.table h index ≡ b → IsLocal p P → P x.table
    → led_to (if b then leads (next_line x registers (changed_at h (with_output mapped index) x.table)) else makes call.Panic) ≡ Some y → P y.table
map_out-has p P x y h index registers true can keeps old e = led-same P x y _ e (keeps.map_out x.table h index can old)
map_out-has p P x y h index registers false can keeps old e = cc

unmap_in-has : (p : Holder) (P : List HeldMessage → Type 0) (x y : Holding) (h : Handle) (index : ℕ) (b : Bool) → IsLocal p P → P x.table
    → led_to (if b then leads (next_line x x.at.registers (changed_at h (with_input unmapped index) x.table)) else makes call.Panic) ≡ Some y → P y.table
unmap_in-has p P x y h index true keeps old e = led-same P x y _ e (keeps.unmap_in x.table h index old)
unmap_in-has p P x y h index false keeps old e = cc

map-has : (p : Holder) (P : List HeldMessage → Type 0) (x y : Holding) (n : MapName) (h : Handle) (index len : ℕ) → IsLocal p P → P x.table → led_to (map_line p x n h index len) ≡ Some y → P y.table
map-has p P x y MapIn h index len keeps old e = cc
map-has p P x y MapOut h index len keeps old e = map_out-has p P x y h index _ (can_map_out p x.table h index) refl keeps old e
map-has p P x y UnmapIn h index len keeps old e = unmap_in-has p P x y h index (can_unmap_in x.table h index) keeps old e
map-has p P x y UnmapOut h index len keeps old e = cc

line-has : (p : Holder) (P : List HeldMessage → Type 0) (x y : Holding) (i : Instruction) → IsLocal p P → P x.table → led_to (line_step p x i) ≡ Some y → P y.table
line-has p P x y (line.Make n operands) keeps old e = cc
line-has p P x y (line.Map n operands) keeps old e = map-has p P x y n _ _ _ keeps old e
line-has p P x y _ keeps old e = led-same P x y _ e old

step-has : (p : Holder) (script : List Instruction) (P : List HeldMessage → Type 0) (x y : Holding) → IsLocal p P → P x.table → held_step p script x ≡ Some y → P y.table
unfolding held_step
step-has p script P x y keeps old e =
    let go : (o : Option Instruction) → option_and_then (λ i. led_to (line_step p x i)) o ≡ Some y → P y.table = elim [ None ↦ λ f. cc | Some i ↦ λ f. line-has p P x y i keeps old f ] in
    go (slice_get script x.at.place) e

steps-has : (p : Holder) (script : List Instruction) (P : List HeldMessage → Type 0) (n : ℕ) (x : Holding) → IsLocal p P → P x.table → P (held_steps p script n x).table
unfolding held_steps
steps-has p script P zero x keeps old = old
steps-has p script P (suc n) x keeps old =
    let go : (o : Option Holding) → held_step p script x ≡ o → P (option_map_or (held_steps p script n) o x).table =
    elim [ None ↦ λ f. old | Some y ↦ λ f. steps-has p script P n y keeps (step-has p script P x y keeps old f) ] in
    go (held_step p script x) refl

pub arrived-has : (p : Holder) (script : List Instruction) (P : List HeldMessage → Type 0) (x : Holding) → IsLocal p P → P x.table → P (held_arrived p script x).table
unfolding held_arrived
arrived-has p script P x keeps old = steps-has p script P most_lines x keeps old

-- ---- the table after a call

-- no other call changes it
pub other-noted : (p : Holder) (i : Option Instruction) (c : Call) (o : Outcome) (t : List HeldMessage) → is_vector_call c ≡ false → table_noted p i c o t ≡ table_after p c o (table_touched c t)
other-noted p (Some (line.Map MapIn operands)) (call.Read h index buffer len) o t off = cc
other-noted p (Some (line.Map UnmapOut operands)) (call.Write h index buffer len) o t off = cc
other-noted p _ _ o t off = refl

other-same : (p : Holder) (c : Call) (o : Outcome) (t : List HeldMessage) → is_vector_call c ≡ false → table_after p c o (table_touched c t) ≡ t
other-same p (call.Get signal msg) o t off = cc
other-same p (call.Read h index buffer len) o t off = cc
other-same p (call.Skip h index len) o t off = cc
other-same p (call.Write h index buffer len) o t off = cc
other-same p (call.Reply h status) o t off = cc
other-same p _ o t off = refl

pub other-keeps : (p : Holder) (i : Option Instruction) (c : Call) (o : Outcome) (t : List HeldMessage) → is_vector_call c ≡ false → table_noted p i c o t ≡ t
other-keeps p i c o t off = other-noted p i c o t off ∙ other-same p c o t off

-- a read that maps, or any other
pub read-noted : (p : Holder) (i : Option Instruction) (h : Handle) (index buffer len : ℕ) (o : Outcome) (t : List HeldMessage) (P : List HeldMessage → Type 0) → P (changed_at h (λ m. record m { input = touched index m.input }) t)
    → P (changed_at h (with_input mapped index) t) → P (table_noted p i (call.Read h index buffer len) o t)
read-noted p (Some (line.Map MapIn operands)) h index buffer len o t P other maps = maps
read-noted p _ h index buffer len o t P other maps = other

pub skip-noted : (p : Holder) (i : Option Instruction) (h : Handle) (index len : ℕ) (o : Outcome) (t : List HeldMessage) → table_noted p i (call.Skip h index len) o t ≡ changed_at h (λ m. record m { input = touched index m.input }) t
skip-noted p (Some (line.Map MapIn operands)) h index len o t = refl
skip-noted p _ h index len o t = refl

-- ---- which write a line makes

made-write : (t : List HeldMessage) (c : Call) (h : Handle) (index buffer len : ℕ) (b : Bool) → is_refused t c ≡ b → (if b then call.Panic else c) ≡ call.Write h index buffer len → is_refused t (call.Write h index buffer len) ≡ false
made-write t c h index buffer len true e is = cc
made-write t c h index buffer len false e is = ap (is_refused t) (sym is) ∙ e

chosen-panic : (b : Bool) (c d : Call) → (if b then c else call.Panic) ≡ d → (d ≡ call.Panic → ⊥) → (b ≡ true) × (c ≡ d)
chosen-panic true c d e off = (refl, e)
chosen-panic false c d e off = absurd (off (sym e))

unmapped-by : (p : Holder) (t : List HeldMessage) (k h : Handle) (i index n buffer len : ℕ) → (can_unmap_out t k i n ≡ true) × (call.Write k i (output_window p i) n ≡ call.Write h index buffer len)
    → (can_unmap_out t h index len ≡ true) × (buffer ≡ output_window p index)
unmapped-by p t k h i index n buffer len e =
    let one : k ≡ h = let it = e.1 in cc in
    let two : i ≡ index = let it = e.1 in cc in
    let three : n ≡ len = let it = e.1 in cc in
    let four : output_window p i ≡ buffer = let it = e.1 in cc in
    (subst (λ (x : Handle). can_unmap_out t x index len ≡ true) one (subst (λ (x : ℕ). can_unmap_out t k x len ≡ true) two (subst (λ (x : ℕ). can_unmap_out t k i x ≡ true) three e.0)), sym four ∙ ap (output_window p) two)

never-writes : (b : Bool) (y : Holding) (h : Handle) (index buffer len : ℕ) → call_made (if b then leads y else makes call.Panic) ≡ call.Write h index buffer len → ⊥
never-writes true y h index buffer len e = cc
never-writes false y h index buffer len e = cc

-- a write by unmap_out, or any other, which isn't refused
write-by : (p : Holder) (x : Holding) (i : Option Instruction) (h : Handle) (index buffer len : ℕ) (o : Outcome) (P : List HeldMessage → Type 0)
    → option_map_or (λ i. call_made (line_step p x i)) i (call.Stop false) ≡ call.Write h index buffer len
    → (is_refused x.table (call.Write h index buffer len) ≡ false → P (changed_at h (λ m. record m { output = touched index m.output }) x.table))
    → ((operands : List Operand) → i ≡ Some (line.Map UnmapOut operands) → can_unmap_out x.table h index len ≡ true → P (changed_at h (with_output unmapped index) x.table)) → P (table_noted p i (call.Write h index buffer len) o x.table)
write-by p x (Some (line.Make n operands)) h index buffer len o P is other unmaps =
    other (made-write x.table (line_call x.at.registers (line.Make n operands)) h index buffer len (is_refused x.table (line_call x.at.registers (line.Make n operands))) refl is)
write-by p x (Some (line.Map UnmapOut operands)) h index buffer len o P is other unmaps =
    let registers : List ℕ = x.at.registers in
    unmaps operands refl (unmapped-by p x.table (handle_operand registers operands 0) h (number_operand registers operands 1) index (number_operand registers operands 2) buffer len
    (chosen-panic (can_unmap_out x.table (handle_operand registers operands 0) (number_operand registers operands 1) (number_operand registers operands 2)) _ (call.Write h index buffer len) is (λ z. cc))).0
write-by p x (Some (line.Map MapIn operands)) h index buffer len o P is other unmaps =
    let registers : List ℕ = x.at.registers in
    let bad = chosen-panic (can_map_in p x.table (handle_operand registers operands 0) (number_operand registers operands 1)) _ (call.Write h index buffer len) is (λ z. cc) in
    let no = bad.1 in cc
write-by p x (Some (line.Map MapOut operands)) h index buffer len o P is other unmaps = absurd (never-writes (can_map_out p x.table (handle_operand x.at.registers operands 0) (number_operand x.at.registers operands 1)) _ h index buffer len is)
write-by p x (Some (line.Map UnmapIn operands)) h index buffer len o P is other unmaps = absurd (never-writes (can_unmap_in x.table (handle_operand x.at.registers operands 0) (number_operand x.at.registers operands 1)) _ h index buffer len is)
write-by p x _ h index buffer len o P is other unmaps = cc

pub write-noted : (p : Holder) (script : List Instruction) (x : Holding) (h : Handle) (index buffer len : ℕ) (o : Outcome) (P : List HeldMessage → Type 0) → held_call p script x ≡ call.Write h index buffer len
    → (is_refused x.table (call.Write h index buffer len) ≡ false → P (changed_at h (λ m. record m { output = touched index m.output }) x.table))
    → ((operands : List Operand) → slice_get script x.at.place ≡ Some (line.Map UnmapOut operands) → can_unmap_out x.table h index len ≡ true → P (changed_at h (with_output unmapped index) x.table))
    → P (table_noted p (slice_get script x.at.place) (call.Write h index buffer len) o x.table)
unfolding held_call
write-noted p script x h index buffer len o P is other unmaps = write-by p x (slice_get script x.at.place) h index buffer len o P is other unmaps

-- ---- the call of a line that maps

pub record MapsIn (p : Holder) (t : List HeldMessage) (h : Handle) (index buffer len : ℕ) : Type 0 where
  pub may : can_map_in p t h index ≡ true
  pub window : buffer ≡ input_window p index
  pub size : len ≡ input_size t h index

maps-by : (p : Holder) (t : List HeldMessage) (k h : Handle) (i index buffer len : ℕ) → (can_map_in p t k i ≡ true) × (call.Read k i (input_window p i) (input_size t k i) ≡ call.Read h index buffer len) → MapsIn p t h index buffer len
maps-by p t k h i index buffer len e =
    let one : k ≡ h = let it = e.1 in cc in
    let two : i ≡ index = let it = e.1 in cc in
    let three : input_window p i ≡ buffer = let it = e.1 in cc in
    let four : input_size t k i ≡ len = let it = e.1 in cc in
    record {
      may = subst (λ (x : Handle). can_map_in p t x index ≡ true) one (subst (λ (x : ℕ). can_map_in p t k x ≡ true) two e.0);
      window = sym three ∙ ap (input_window p) two;
      size = sym four ∙ ap₂ (input_size t) one two;
    }

pub map_in-call : (p : Holder) (script : List Instruction) (x : Holding) (operands : List Operand) (h : Handle) (index buffer len : ℕ) → slice_get script x.at.place ≡ Some (line.Map MapIn operands)
    → held_call p script x ≡ call.Read h index buffer len → MapsIn p x.table h index buffer len
unfolding held_call
map_in-call p script x operands h index buffer len at is =
    let registers : List ℕ = x.at.registers in
    let made = sym (ap (λ (o : Option Instruction). option_map_or (λ i. call_made (line_step p x i)) o (call.Stop false)) at) ∙ is in
    maps-by p x.table (handle_operand registers operands 0) h (number_operand registers operands 1) index buffer len
    (chosen-panic (can_map_in p x.table (handle_operand registers operands 0) (number_operand registers operands 1)) _ (call.Read h index buffer len) made (λ z. cc))

pub unmap_out-call : (p : Holder) (script : List Instruction) (x : Holding) (operands : List Operand) (h : Handle) (index buffer len : ℕ) → slice_get script x.at.place ≡ Some (line.Map UnmapOut operands)
    → held_call p script x ≡ call.Write h index buffer len → (can_unmap_out x.table h index len ≡ true) × (buffer ≡ output_window p index)
unfolding held_call
unmap_out-call p script x operands h index buffer len at is =
    let registers : List ℕ = x.at.registers in
    let made = sym (ap (λ (o : Option Instruction). option_map_or (λ i. call_made (line_step p x i)) o (call.Stop false)) at) ∙ is in
    unmapped-by p x.table (handle_operand registers operands 0) h (number_operand registers operands 1) index (number_operand registers operands 2) buffer len
    (chosen-panic (can_unmap_out x.table (handle_operand registers operands 0) (number_operand registers operands 1) (number_operand registers operands 2)) _ (call.Write h index buffer len) made (λ z. cc))

-- ---- runs of a plan

-- what a plan's run says of its last entry
pub runs-back : (plan : Plan) (os : List Outcome) (xs : List Entry) (e : Entry) → RunFrom plan os (xs ++ e ∷ []) → RunFrom plan os xs × (e.call ≡ plan (os ++ outcomes_of xs))
runs-back plan os [] e r = (tt, r.0 ∙ ap plan (sym (append-nil os)))
runs-back plan os (x ∷ xs) e r =
    let rest = runs-back plan (os ++ x.outcome ∷ []) xs e r.1 in
    ((r.0, rest.0), rest.1 ∙ ap plan (append_assoc os (x.outcome ∷ []) (outcomes_of xs)))

-- the call that the plan makes
pub plan-call : {X : Type 0} (m : Engine X) (x : X) (os : List Outcome) (b : Bool) → ends_blocked os ≡ b → plan_of m x os ≡ (if b then call.Resume else m.call (engine_after m x os))
unfolding plan_of
plan-call m x os b e = ap (λ (y : Bool). if y then call.Resume else m.call (engine_after m x os)) e

pub after-table : (p : Holder) (script : List Instruction) (o : Outcome) (x : Holding) → (held_after p script o x).table ≡ table_noted p (slice_get script x.at.place) (held_call p script x) o x.table
unfolding held_after
after-table p script o x = refl
