-- A partition's script whose numbers fit makes calls whose numbers fit, also where it maps vectors.
use Rattle.std.proofs.Common.{ℕ, zero, suc, ◌≡◌, ◌<◌, ◌≤◌, ◌+◌, ◌-◌, ◌*◌, ◌/◌, Bool, true, false, ◌&&◌, List, [], ◌∷◌, ◌++◌, length, map, inl, inr, arith, refl, sym, subst}
use Rattle.std.specs.Prelude.{All, Option, Some, None, IfSome, find, int_le, nat_lt, nat_le, pos, slice_get, if◌then◌else◌, ◌==◌}
use Rattle.std.specs.List.{AllByRecursion}
use Rattle.std.specs.Option.{option_map_or}
use Rattle.std.proofs.lemmas.Bool.{and_parts, cases_lt}
use Rattle.std.proofs.lemmas.Bool.Decides.{nat_tests}
use Rattle.std.proofs.lemmas.List.{get_or_past}
use Rattle.std.proofs.lemmas.List.Elements.{All-cons, All-get_or, All-head, All-nil, All-push, All-set, All-tail}
use Rattle.law_lists.proofs.Lists.{AllByRecursion-at}
use Rattle.law_lists.proofs.Options.{each_made}
use Rattle.law_lists.proofs.Tests.{find-all}
use Rattle.ffm_model.specs.declared.machine.Call.{Call}
use Rattle.ffm_model.specs.declared.machine.Call.TheVariants as call
use Rattle.ffm_model.specs.declared.machine.Handle.{Handle}
use Rattle.ffm_model.specs.declared.machine.Message.{Message}
use Rattle.ffm_model.specs.declared.machine.Outcome.{Outcome}
use Rattle.ffm_model.specs.declared.machine.Outcome.TheVariants as outcome
use Rattle.ffm_model.specs.declared.script.Instruction.{Instruction}
use Rattle.ffm_model.specs.declared.script.Instruction.TheVariants as line
use Rattle.ffm_model.specs.declared.script.MapName.{MapName}
use Rattle.ffm_model.specs.declared.script.MapName.TheVariants.{MapIn, UnmapIn, MapOut, UnmapOut}
use Rattle.ffm_model.specs.Held.{Holder, HolderService, HeldMessage, HeldVector, VectorState, can_map_in, can_map_out, can_unmap_in, can_unmap_out, changed_at, fresh_vector, held, holds, input_size, is_input_free, input_window, is_fresh, is_held_as, is_mappable, is_mapped, is_refused, most_held, no_vector, output_window, table_after, table_touched, touched, vector_at, window, window_size, with_message_of, with_state, without}
use Rattle.ffm_model.specs.Held.VectorState.{used, mapped, unmapped}
use Rattle.ffm_model.specs.HeldPlans.{Holding, LineStep, leads, makes, call_made, handle_operand, held_arrived, held_after, held_call, held_engine, held_plan, held_step, held_steps, holding_none, led_to, line_step, map_line, number_operand, other_line, registers_noted, table_noted}
use Rattle.ffm_model.specs.ScriptRuns.{Point, line_call, line_effect, most_lines, noted}
use Rattle.ffm_model.specs.TraceText.{CallFits, IsU32, OutcomeFits}
use Rattle.law_scenarios.specs.Ranges.{LineFits}
use Rattle.law_scenarios.proofs.Numbers.{signed-fits, zero-fits}
use Rattle.law_scenarios.proofs.Plans.{PlanFits, PointFits, RegistersFit, line-calls, line-leads, noted-fits, operand-fits, plan-fits, register-put, start-fits, value-fits}

-- ---- windows

-- where a partition has windows, each begins below 2^32
abbrev pub RamEnds : Holder → Type 0
RamEnds p = (p.base + p.size ≤ 4294967296) × (p.heap ≤ p.size)

window-ends : (i w : ℕ) → i < 8 → i * w + w ≤ 8 * w
window-ends i w lt = grind arith

window-fits : (p : Holder) (i : ℕ) → RamEnds p → i < 8 → 0 < window_size p → IsU32 (window p i)
window-fits p i ends few some =
    let w : ℕ = p.heap / 8 in
    let own : 0 < p.heap / 8 = some in
    let whole : 8 * (p.heap / 8) ≤ p.heap = omega arith in
    let last : i * (p.heap / 8) + p.heap / 8 ≤ 8 * (p.heap / 8) = window-ends i (p.heap / 8) few in
    let high : p.base + p.size - 8 * (p.heap / 8) + i * (p.heap / 8) < 4294967296 = omega (arith, ends.0, ends.1, own, whole, last) in
    high

-- ---- what a table keeps: vectors are mapped only where there are windows

abbrev VectorFits : Holder → HeldVector → Type 0
VectorFits p v = is_mapped v.state ≡ true → 0 < window_size p

abbrev MessageFits : Holder → HeldMessage → Type 0
MessageFits p m = All (VectorFits p) m.output

abbrev TableFits : Holder → List HeldMessage → Type 0
TableFits p t = All (MessageFits p) t

vector-fits : (p : Holder) (vs : List HeldVector) (i : ℕ) → All (VectorFits p) vs → VectorFits p (vector_at vs i)
vector-fits p vs i all = elim (cases_lt i (length vs)) [
  | inl below ↦ All-get_or (VectorFits p) vs i no_vector below all
  | inr past ↦ subst (VectorFits p) (sym (get_or_past vs i no_vector past)) (λ never. absurd (cc))
]

state-put : (p : Holder) (u : VectorState) (i : ℕ) (vs : List HeldVector) → (is_mapped u ≡ true → 0 < window_size p) → All (VectorFits p) vs → All (VectorFits p) (with_state u i vs)
state-put p u i vs h all = All-set (VectorFits p) vs i _ h all

touched-fits : (p : Holder) (i : ℕ) (vs : List HeldVector) → All (VectorFits p) vs → All (VectorFits p) (touched i vs)
touched-fits p i vs all =
    elim (is_fresh (vector_at vs i).state) as (λ (b : Bool). All (VectorFits p) (if b then with_state used i vs else vs)) [ true ↦ state-put p used i vs (λ never. absurd (cc)) all | false ↦ all ]

changed-fits : (p : Holder) (h : Handle) (f : HeldMessage → HeldMessage) (t : List HeldMessage) → ((m : HeldMessage) → MessageFits p m → MessageFits p (f m)) → TableFits p t → TableFits p (changed_at h f t)
unfolding changed_at
changed-fits p h f [] keeps all = all
changed-fits p h f (m ∷ ms) keeps all =
    let own : MessageFits p m = All-head (MessageFits p) m ms all in
    let rest : TableFits p ms = All-tail (MessageFits p) m ms all in
    elim (is_held_as h m) as (λ (b : Bool). TableFits p (if b then f m ∷ ms else m ∷ changed_at h f ms)) [
      | true ↦ All-cons (MessageFits p) (f m) ms (keeps m own) rest
      | false ↦ All-cons (MessageFits p) m (changed_at h f ms) own (changed-fits p h f ms keeps rest)
    ]

gone-fits : (p : Holder) (h : Handle) (t : List HeldMessage) → TableFits p t → TableFits p (without h t)
unfolding without
gone-fits p h [] all = all
gone-fits p h (m ∷ ms) all =
    let own : MessageFits p m = All-head (MessageFits p) m ms all in
    let rest : TableFits p ms = All-tail (MessageFits p) m ms all in
    elim (is_held_as h m) as (λ (b : Bool). TableFits p (if b then ms else m ∷ without h ms)) [ true ↦ rest | false ↦ All-cons (MessageFits p) m (without h ms) own (gone-fits p h ms rest) ]

fresh-fit : (p : Holder) (sizes : List ℕ) → All (VectorFits p) (map fresh_vector sizes)
fresh-fit p [] = All-nil (VectorFits p)
fresh-fit p (n ∷ ns) = All-cons (VectorFits p) (fresh_vector n) (map fresh_vector ns) (λ never. absurd (cc)) (fresh-fit p ns)

taken-fits : (p : Holder) (v : HolderService) (m : Message) (t : List HeldMessage) → TableFits p t → TableFits p (with_message_of v m t)
taken-fits p v m t all =
    elim (nat_lt (length t) most_held) as (λ (b : Bool). TableFits p (if b then t ++ record { handle = m.handle; kind = m.kind; mm = v.mm; input = map fresh_vector m.in_size; output = map fresh_vector m.out_size } ∷ [] else t)) [
      | true ↦ All-push (MessageFits p) t _ all (fresh-fit p m.out_size)
      | false ↦ all
    ]

touch-fits : (p : Holder) (c : Call) (t : List HeldMessage) → TableFits p t → TableFits p (table_touched c t)
touch-fits p (call.Read h i buffer len) t all = changed-fits p h _ t (λ m own. own) all
touch-fits p (call.Skip h i len) t all = changed-fits p h _ t (λ m own. own) all
touch-fits p (call.Write h i buffer len) t all = changed-fits p h _ t (λ m own. touched-fits p i m.output own) all
touch-fits p _ t all = all

then-fits : (p : Holder) (c : Call) (o : Outcome) (t : List HeldMessage) → TableFits p t → TableFits p (table_after p c o t)
then-fits p (call.Get signal msg) (outcome.Got m) t all =
    elim (find (λ v. v.signal == signal) p.services) as (λ (x : Option HolderService). TableFits p (option_map_or (λ v. with_message_of v m t) x t)) [ None ↦ all | Some v ↦ taken-fits p v m t all ]
then-fits p (call.Reply h status) outcome.Done t all = gone-fits p h t all
then-fits p _ _ t all = all

noted-table : (p : Holder) (i : Option Instruction) (c : Call) (o : Outcome) (t : List HeldMessage) → TableFits p t → TableFits p (table_noted p i c o t)
noted-table p (Some (line.Map MapIn operands)) (call.Read h index buffer len) o t all = changed-fits p h _ t (λ m own. own) all
noted-table p (Some (line.Map UnmapOut operands)) (call.Write h index buffer len) o t all = changed-fits p h _ t (λ m own. state-put p unmapped index m.output (λ never. absurd (cc)) own) all
noted-table p i c o t all = then-fits p c o (table_touched c t) (touch-fits p c t all)

-- ---- lines

pub record HoldingFits (p : Holder) (x : Holding) : Type 0 where
  pub registers : RegistersFit x.at.registers
  pub table : TableFits p x.table

abbrev StepFits : Holder → LineStep → Type 0
StepFits p (leads x) = HoldingFits p x
StepFits p (makes c) = CallFits c

step-if : (p : Holder) (b : Bool) (x y : LineStep) → (b ≡ true → StepFits p x) → StepFits p y → StepFits p (if b then x else y)
step-if p true x y h k = h refl
step-if p false x y h k = k

call-if : (b : Bool) (c : Call) → (b ≡ true → CallFits c) → CallFits (if b then c else call.Panic)
call-if true c h = h refl
call-if false c h = tt

-- what is held of a message: the index is below 4, and the fact holds
abbrev HeldBy : (HeldMessage → Bool) → Holder → List HeldMessage → Type 0
HeldBy fact p t = (m : HeldMessage) × (fact m ≡ true) × MessageFits p m

held-by : (p : Holder) (t : List HeldMessage) (h : Handle) (i : ℕ) (fact : HeldMessage → Bool) → TableFits p t → holds t h i fact ≡ true → (i < 4) × HeldBy fact p t
held-by p t h i fact all e =
    let parts = and_parts (nat_lt i 4) _ e in
    let few : i < 4 = (let test : nat_lt i 4 ≡ true = parts.0 in grind (arith, nat_tests)) in
    let go : (o : Option HeldMessage) → held t h ≡ o → option_map_or fact o false ≡ true → HeldBy fact p t = elim [
      | None ↦ λ q k. absurd (cc)
      | Some m ↦ λ q k. (m, k, find-all (MessageFits p) (is_held_as h) t m q all)
    ] in
    (few, go (held t h) refl parts.1)

-- a vector that may be mapped has bytes, no more than a window
mappable : (p : Holder) (m : HeldMessage) (v : HeldVector) (other : Bool) → (is_mappable p m v && other) ≡ true → (0 < window_size p) × (v.size ≤ window_size p)
mappable p m v other e =
    let one = and_parts (is_mappable p m v) other e in
    let two = and_parts (int_le (pos 0) m.kind) _ one.0 in
    let three = and_parts m.mm _ two.1 in
    let four = and_parts (nat_lt 0 v.size) _ three.1 in
    let five = and_parts (nat_le v.size (window_size p)) _ four.1 in
    let some : 0 < v.size = (let test : nat_lt 0 v.size ≡ true = four.0 in grind (arith, nat_tests)) in
    let short : v.size ≤ window_size p = (let test : nat_le v.size (window_size p) ≡ true = five.0 in grind (arith, nat_tests)) in
    (omega (arith, some, short), short)

window-short : (p : Holder) → RamEnds p → window_size p < 4294967296
window-short p ends = omega (arith, ends.0, ends.1)

-- a vector that may be mapped in has a size that fits
input-size : (p : Holder) (t : List HeldMessage) (h : Handle) (i : ℕ) → RamEnds p → can_map_in p t h i ≡ true → IsU32 (input_size t h i)
input-size p t h i ends e =
    let parts = and_parts (nat_lt i 4) _ e in
    let go : (o : Option HeldMessage) → option_map_or (λ m. is_mappable p m (vector_at m.input i) && is_input_free t i) o false ≡ true → IsU32 (option_map_or (λ m. (vector_at m.input i).size) o 0) = elim [
      | None ↦ λ k. zero-fits
      | Some m ↦ λ k. omega (arith, (mappable p m (vector_at m.input i) (is_input_free t i) k).1, window-short p ends)
    ] in
    go (held t h) parts.1

map-fits : (p : Holder) (x : Holding) (n : MapName) (h : Handle) (i len : ℕ) → RamEnds p → HoldingFits p x → CallFits (call.Close h) → IsU32 i → IsU32 len → StepFits p (map_line p x n h i len)
map-fits p x MapIn h i len ends f handle index bytes =
    call-if (can_map_in p x.table h i) (call.Read h i (input_window p i) (input_size x.table h i)) (λ e.
    let own = held-by p x.table h i _ f.table e in
    let may = mappable p own.1.0 (vector_at own.1.0.input i) _ own.1.1 in
    let size : IsU32 (input_size x.table h i) = input-size p x.table h i ends e in
    (handle.0, (index, (window-fits p i ends (omega (arith, own.0)) may.0, (size, tt)))))
map-fits p x MapOut h i len ends f handle index bytes =
    step-if p (can_map_out p x.table h i) _ (makes call.Panic) (λ e.
    let own = held-by p x.table h i _ f.table e in
    let may = mappable p own.1.0 (vector_at own.1.0.output i) _ own.1.1 in
    record {
      registers = register-put x.at.registers 0 (output_window p i) (window-fits p (4 + i) ends (omega (arith, own.0)) may.0) f.registers;
      table = changed-fits p h _ x.table (λ m it. state-put p mapped i m.output (λ is. may.0) it) f.table;
    }) tt
map-fits p x UnmapIn h i len ends f handle index bytes =
    step-if p (can_unmap_in x.table h i) _ (makes call.Panic) (λ e. record { registers = f.registers; table = changed-fits p h _ x.table (λ m it. it) f.table }) tt
map-fits p x UnmapOut h i len ends f handle index bytes =
    call-if (can_unmap_out x.table h i len) (call.Write h i (output_window p i) len) (λ e.
    let own = held-by p x.table h i _ f.table e in
    let is : is_mapped (vector_at own.1.0.output i).state ≡ true = (and_parts _ _ own.1.1).0 in
    let some : 0 < window_size p = vector-fits p own.1.0.output i own.1.2 is in
    (handle.0, (index, (window-fits p (4 + i) ends (omega (arith, own.0)) some, (bytes, tt)))))

other-fits : (p : Holder) (x : Holding) (i : Instruction) → LineFits i → HoldingFits p x → StepFits p (other_line x i (line_effect x.at i))
other-fits p x i h f =
    let made : CallFits (if is_refused x.table (line_call x.at.registers i) then call.Panic else line_call x.at.registers i) =
    elim (is_refused x.table (line_call x.at.registers i)) as (λ (b : Bool). CallFits (if b then call.Panic else line_call x.at.registers i)) [ true ↦ tt | false ↦ line-calls x.at.registers i h f.registers ] in
    let go : (o : Option Point) → IfSome o PointFits → StepFits p (other_line x i o) = elim [ None ↦ λ k. made | Some q ↦ λ k. record { registers = k; table = f.table } ] in
    go (line_effect x.at i) (line-leads x.at i h f.registers)

line-fits : (p : Holder) (x : Holding) (i : Instruction) → RamEnds p → LineFits i → HoldingFits p x → StepFits p (line_step p x i)
line-fits p x (line.Map n operands) ends h f =
    let own : (k : ℕ) → IsU32 (number_operand x.at.registers operands k) = λ k. value-fits x.at.registers _ (operand-fits operands k h) f.registers in
    map-fits p x n (handle_operand x.at.registers operands 0) (number_operand x.at.registers operands 1) (number_operand x.at.registers operands 2) ends f (signed-fits _ (own 0), tt) (own 1) (own 2)
line-fits p x (line.Change o r v) ends h f = other-fits p x (line.Change o r v) h f
line-fits p x (line.Jump target) ends h f = other-fits p x (line.Jump target) h f
line-fits p x (line.JumpIf c r v target) ends h f = other-fits p x (line.JumpIf c r v target) h f
line-fits p x (line.Make n operands) ends h f = other-fits p x (line.Make n operands) h f

-- ---- up to the next call

module _ (p : Holder) (script : List Instruction) (ends : RamEnds p) (lines : AllByRecursion LineFits script) where
  led-fits : (x : LineStep) → StepFits p x → IfSome (led_to x) (HoldingFits p)
  led-fits (leads x) h = h
  led-fits (makes c) h = tt

  made-fits : (x : LineStep) → StepFits p x → CallFits (call_made x)
  made-fits (leads x) h = tt
  made-fits (makes c) h = h

  at-line : (x : Holding) (i : Instruction) → HoldingFits p x → slice_get script x.at.place ≡ Some i → StepFits p (line_step p x i)
  at-line x i f e = line-fits p x i ends (AllByRecursion-at LineFits script x.at.place i lines e) f

  step-fits : (x : Holding) → HoldingFits p x → IfSome (held_step p script x) (HoldingFits p)
  unfolding held_step
  step-fits x f = each_made (HoldingFits p) (λ i. led_to (line_step p x i)) (slice_get script x.at.place) (λ i e. led-fits (line_step p x i) (at-line x i f e))

  steps-fit : (n : ℕ) (x : Holding) → HoldingFits p x → HoldingFits p (held_steps p script n x)
  unfolding held_steps
  steps-fit zero x f = f
  steps-fit (suc n) x f =
      let go : (o : Option Holding) → IfSome o (HoldingFits p) → HoldingFits p (option_map_or (held_steps p script n) o x) = elim [ None ↦ λ h. f | Some y ↦ λ h. steps-fit n y h ] in
      go (held_step p script x) (step-fits x f)

  arrived-fits : (x : Holding) → HoldingFits p x → HoldingFits p (held_arrived p script x)
  unfolding held_arrived
  arrived-fits x f = steps-fit most_lines x f

  call-fits : (x : Holding) → HoldingFits p x → CallFits (held_call p script x)
  unfolding held_call
  call-fits x f =
      let go : (o : Option Instruction) → slice_get script x.at.place ≡ o → CallFits (option_map_or (λ i. call_made (line_step p x i)) o (call.Stop false)) = elim [
        | None ↦ λ e. tt
        | Some i ↦ λ e. made-fits (line_step p x i) (at-line x i f e)
      ] in
      go (slice_get script x.at.place) refl

  registers-fit : (i : Option Instruction) (c : Call) (o : Outcome) (registers : List ℕ) → CallFits c → OutcomeFits o → RegistersFit registers → RegistersFit (registers_noted i c o registers)
  registers-fit (Some (line.Map MapIn operands)) (call.Read h index buffer len) o registers fits h' all = register-put (noted o registers) 0 buffer fits.1.1.0 (noted-fits o registers h' all)
  registers-fit i c o registers fits h all = noted-fits o registers h all

  goes : (o : Outcome) (x : Holding) → OutcomeFits o → HoldingFits p x → HoldingFits p (held_after p script o x)
  unfolding held_after
  goes o x h f = record {
    registers = registers-fit (slice_get script x.at.place) (held_call p script x) o x.at.registers (call-fits x f) h f.registers;
    table = noted-table p (slice_get script x.at.place) (held_call p script x) o x.table f.table;
  }

  pub held-plan-fits : PlanFits (held_plan p script)
  held-plan-fits =
      plan-fits (HoldingFits p) (held_engine p script) (record { calls = λ x f. call-fits (held_arrived p script x) (arrived-fits x f); goes = λ o x h f. goes o (held_arrived p script x) h (arrived-fits x f) }) holding_none
      (record { registers = start-fits; table = All-nil (MessageFits p) })
