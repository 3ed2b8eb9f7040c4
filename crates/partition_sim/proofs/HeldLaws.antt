-- A script that maps nothing goes on as if no message were held.
use Rattle.std.proofs.Common.{ℕ, zero, suc, ◌≡◌, Bool, true, false, List, [], ◌∷◌, ◌++◌, length, refl, ap, sym, ◌∙◌, subst}
use Rattle.std.specs.Prelude.{Option, Some, None, if◌then◌else◌, slice_get, slice_set, option_and_then, map, find, nat_lt, ◌↔◌}
use Rattle.std.specs.Option.{option_map, option_map_or}
use Rattle.std.specs.List.{AllByRecursion}
use Rattle.std.proofs.lemmas.Bool.{and_right}
use Rattle.law_lists.proofs.Lists.{AllByRecursion-append}
use Rattle.ffm_model.specs.declared.machine.Handle.{Handle}
use Rattle.ffm_model.specs.declared.machine.Message.{Message}
use Rattle.ffm_model.specs.declared.machine.Entry.{Entry}
use Rattle.ffm_model.specs.declared.machine.Call.{Call}
use Rattle.ffm_model.specs.declared.machine.Call.TheVariants as call
use Rattle.ffm_model.specs.declared.machine.Outcome.{Outcome}
use Rattle.ffm_model.specs.declared.machine.Outcome.TheVariants as outcome
use Rattle.ffm_model.specs.declared.script.Instruction.{Instruction}
use Rattle.ffm_model.specs.declared.script.Instruction.TheVariants as line
use Rattle.ffm_model.specs.Plans.{PlanRun, engine_after, plan_of}
use Rattle.ffm_model.specs.Records.{is_blocked_outcome, ends_blocked}
use Rattle.ffm_model.specs.Scripts.{maps, MapsNothing}
use Rattle.ffm_model.specs.ScriptRuns.{Point, start, most_lines, line_effect, local_step, local_steps, arrived, call_at, line_call, behind, script_engine, script_plan, ScriptRun}
use Rattle.ffm_model.specs.Held.{Holder, HolderService, HeldVector, HeldMessage, is_fresh, is_or_was_mapped, is_held_as, held, vector_at, changed_at, without, with_state, touched, fresh_vector, with_message_of, table_after, table_touched, holds, is_refused, most_held}
use Rattle.ffm_model.specs.Held.VectorState.{used}
use Rattle.ffm_model.specs.HeldPlans.{Holding, holding_none, line_step, led_to, call_made, held_step, held_steps, held_arrived, held_call, table_noted, registers_noted, held_after, held_engine, held_plan}
use Rattle.partition_sim.proofs.PlanLaws.{same-runs}

-- ---- no vector is or was mapped

abbrev CleanVector : HeldVector → Type 0
CleanVector v = is_or_was_mapped v.state ≡ false

abbrev CleanMessage : HeldMessage → Type 0
CleanMessage m = AllByRecursion CleanVector m.input × AllByRecursion CleanVector m.output

abbrev Clean : List HeldMessage → Type 0
Clean t = AllByRecursion CleanMessage t

clean-at : (vs : List HeldVector) (i : ℕ) → AllByRecursion CleanVector vs → is_or_was_mapped (vector_at vs i).state ≡ false
clean-at [] i h = refl
clean-at (v ∷ vs) zero h = h.0
clean-at (v ∷ vs) (suc i) h = clean-at vs i h.1

clean-set : (vs : List HeldVector) (i : ℕ) (v : HeldVector) → CleanVector v → AllByRecursion CleanVector vs → AllByRecursion CleanVector (slice_set vs i v)
clean-set [] i v c h = tt
clean-set (w ∷ vs) zero v c h = (c, h.1)
clean-set (w ∷ vs) (suc i) v c h = (h.0, clean-set vs i v c h.1)

touched-by : (b : Bool) (vs : List HeldVector) (i : ℕ) → AllByRecursion CleanVector vs → AllByRecursion CleanVector (if b then with_state used i vs else vs)
touched-by true vs i h = clean-set vs i _ refl h
touched-by false vs i h = h

clean-touched : (vs : List HeldVector) (i : ℕ) → AllByRecursion CleanVector vs → AllByRecursion CleanVector (touched i vs)
clean-touched vs i h = touched-by (is_fresh (vector_at vs i).state) vs i h

clean-fresh : (sizes : List ℕ) → AllByRecursion CleanVector (map fresh_vector sizes)
clean-fresh [] = tt
clean-fresh (n ∷ sizes) = (refl, clean-fresh sizes)

-- ---- tables

changed-by : (b : Bool) (f : HeldMessage → HeldMessage) (m : HeldMessage) (ms rest : List HeldMessage) → CleanMessage (f m) → CleanMessage m → Clean ms → Clean rest → Clean (if b then f m ∷ ms else m ∷ rest)
changed-by true f m ms rest c d h k = (c, h)
changed-by false f m ms rest c d h k = (d, k)

clean-changed : (h : Handle) (f : HeldMessage → HeldMessage) → ((m : HeldMessage) → CleanMessage m → CleanMessage (f m)) → (t : List HeldMessage) → Clean t → Clean (changed_at h f t)
unfolding changed_at
clean-changed h f keeps [] c = tt
clean-changed h f keeps (m ∷ ms) c = changed-by (is_held_as h m) f m ms (changed_at h f ms) (keeps m c.0) c.0 c.1 (clean-changed h f keeps ms c.1)

without-by : (b : Bool) (m : HeldMessage) (ms rest : List HeldMessage) → CleanMessage m → Clean ms → Clean rest → Clean (if b then ms else m ∷ rest)
without-by true m ms rest c h k = h
without-by false m ms rest c h k = (c, k)

clean-without : (h : Handle) (t : List HeldMessage) → Clean t → Clean (without h t)
unfolding without
clean-without h [] c = tt
clean-without h (m ∷ ms) c = without-by (is_held_as h m) m ms (without h ms) c.0 c.1 (clean-without h ms c.1)

got-by : (b : Bool) (v : HolderService) (m : Message) (t : List HeldMessage) → Clean t
    → Clean (if b then t ++ record { handle = m.handle; kind = m.kind; mm = v.mm; input = map fresh_vector m.in_size; output = map fresh_vector m.out_size } ∷ [] else t)
got-by true v m t c = AllByRecursion-append CleanMessage t _ c ((clean-fresh m.in_size, clean-fresh m.out_size), tt)
got-by false v m t c = c

got-in : (o : Option HolderService) (m : Message) (t : List HeldMessage) → Clean t → Clean (option_map_or (λ v. with_message_of v m t) o t)
got-in None m t c = c
got-in (Some v) m t c = got-by (nat_lt (length t) most_held) v m t c

clean-input : (h : Handle) (i : ℕ) (t : List HeldMessage) → Clean t → Clean (changed_at h (λ m. record m { input = touched i m.input }) t)
clean-input h i t c = clean-changed h (λ m. record m { input = touched i m.input }) (λ m d. (clean-touched m.input i d.0, d.1)) t c

clean-output : (h : Handle) (i : ℕ) (t : List HeldMessage) → Clean t → Clean (changed_at h (λ m. record m { output = touched i m.output }) t)
clean-output h i t c = clean-changed h (λ m. record m { output = touched i m.output }) (λ m d. (d.0, clean-touched m.output i d.1)) t c

clean-call : (k : Call) (t : List HeldMessage) → Clean t → Clean (table_touched k t)
clean-call (call.Read h i b l) t c = clean-input h i t c
clean-call (call.Skip h i l) t c = clean-input h i t c
clean-call (call.Write h i b l) t c = clean-output h i t c
clean-call _ t c = c

clean-after : (p : Holder) (k : Call) (o : Outcome) (t : List HeldMessage) → Clean t → Clean (table_after p k o t)
clean-after p (call.Get signal msg) (outcome.Got m) t c = got-in (find _ p.services) m t c
clean-after p (call.Reply h status) outcome.Done t c = clean-without h t c
clean-after p _ _ t c = c

-- ---- no call is refused

find-clean : (b : Bool) (m : HeldMessage) (o : Option HeldMessage) (f : HeldMessage → Bool) → f m ≡ false → option_map_or f o false ≡ false → option_map_or f (if b then Some m else o) false ≡ false
find-clean true m o f e h = e
find-clean false m o f e h = h

held-clean : (f : HeldMessage → Bool) → ((m : HeldMessage) → CleanMessage m → f m ≡ false) → (h : Handle) (t : List HeldMessage) → Clean t → option_map_or f (held t h) false ≡ false
held-clean f off h [] c = refl
held-clean f off h (m ∷ ms) c = find-clean (is_held_as h m) m (find (is_held_as h) ms) f (off m c.0) (held-clean f off h ms c.1)

holds-clean : (f : HeldMessage → Bool) → ((m : HeldMessage) → CleanMessage m → f m ≡ false) → (h : Handle) (i : ℕ) (t : List HeldMessage) → Clean t → holds t h i f ≡ false
holds-clean f off h i t c = and_right (nat_lt i 4) _ (held-clean f off h t c)

not-refused : (t : List HeldMessage) (k : Call) → Clean t → is_refused t k ≡ false
not-refused t (call.Read h i b l) c = holds-clean (λ m. is_or_was_mapped (vector_at m.input i).state) (λ m d. clean-at m.input i d.0) h i t c
not-refused t (call.Skip h i l) c = holds-clean (λ m. is_or_was_mapped (vector_at m.input i).state) (λ m d. clean-at m.input i d.0) h i t c
not-refused t (call.Write h i b l) c = holds-clean (λ m. is_or_was_mapped (vector_at m.output i).state) (λ m d. clean-at m.output i d.1) h i t c
not-refused t _ c = refl

-- ---- lines

-- the line at a place maps nothing
abbrev MapsNone : Option Instruction → Type 0
MapsNone None = Unit {0}
MapsNone (Some i) = maps i ≡ false

maps-none : (script : List Instruction) → MapsNothing script → (k : ℕ) → MapsNone (slice_get script k)
maps-none [] h k = tt
maps-none (i ∷ is) h zero = h.0
maps-none (i ∷ is) h (suc k) = maps-none is h.1 k

step-by : (p : Holder) (x : Holding) (i : Instruction) → maps i ≡ false → led_to (line_step p x i) ≡ option_map (λ (q : Point). record x { at = q }) (line_effect x.at i)
step-by p x (line.Change o r v) n = refl
step-by p x (line.Jump t) n = refl
step-by p x (line.JumpIf c r v t) n = refl
step-by p x (line.Make k vs) n = refl
step-by p x (line.Map k vs) n = cc

step-of : (p : Holder) (x : Holding) (o : Option Instruction) → MapsNone o → option_and_then (λ i. led_to (line_step p x i)) o ≡ option_map (λ (q : Point). record x { at = q }) (option_and_then (line_effect x.at) o)
step-of p x None n = refl
step-of p x (Some i) n = step-by p x i n

step-same : (p : Holder) (script : List Instruction) (x : Holding) → MapsNothing script → held_step p script x ≡ option_map (λ (q : Point). record x { at = q }) (local_step script x.at)
unfolding held_step local_step
step-same p script x n = step-of p x (slice_get script x.at.place) (maps-none script n x.at.place)

steps-by : (p : Holder) (script : List Instruction) (n : ℕ) (x : Holding) (o : Option Point) → ((y : Holding) → held_steps p script n y ≡ record y { at = local_steps script n y.at })
    → option_map_or (held_steps p script n) (option_map (λ (q : Point). record x { at = q }) o) x ≡ record x { at = option_map_or (local_steps script n) o x.at }
steps-by p script n x None go = refl
steps-by p script n x (Some q) go = go (record x { at = q })

steps-same : (p : Holder) (script : List Instruction) → MapsNothing script → (n : ℕ) (x : Holding) → held_steps p script n x ≡ record x { at = local_steps script n x.at }
unfolding held_steps local_steps
steps-same p script m zero x = refl
steps-same p script m (suc n) x =
    ap (λ (o : Option Holding). option_map_or (held_steps p script n) o x) (step-same p script x m) ∙ steps-by p script n x (local_step script x.at) (λ y. steps-same p script m n y)

arrived-same : (p : Holder) (script : List Instruction) (x : Holding) → MapsNothing script → held_arrived p script x ≡ record x { at = arrived script x.at }
unfolding held_arrived arrived
arrived-same p script x m = steps-same p script m most_lines x

-- ---- calls

call-by : (p : Holder) (x : Holding) (i : Instruction) → maps i ≡ false → Clean x.table → call_made (line_step p x i) ≡ line_call x.at.registers i
call-by p x (line.Change o r v) n c = refl
call-by p x (line.Jump t) n c = refl
call-by p x (line.JumpIf k r v t) n c = refl
call-by p x (line.Make k vs) n c =
    ap (λ (b : Bool). if b then call.Panic else line_call x.at.registers (line.Make k vs)) (not-refused x.table (line_call x.at.registers (line.Make k vs)) c)
call-by p x (line.Map k vs) n c = cc

call-of : (p : Holder) (x : Holding) (o : Option Instruction) → MapsNone o → Clean x.table
    → option_map_or (λ i. call_made (line_step p x i)) o (call.Stop false) ≡ option_map_or (line_call x.at.registers) o (call.Stop false)
call-of p x None n c = refl
call-of p x (Some i) n c = call-by p x i n c

call-same : (p : Holder) (script : List Instruction) (x : Holding) → MapsNothing script → Clean x.table → held_call p script x ≡ call_at script x.at
unfolding held_call call_at
call-same p script x n c = call-of p x (slice_get script x.at.place) (maps-none script n x.at.place) c

-- ---- after calls

noted-by : (p : Holder) (o : Option Instruction) (k : Call) (u : Outcome) (t : List HeldMessage) → MapsNone o → table_noted p o k u t ≡ table_after p k u (table_touched k t)
noted-by p None k u t n = refl
noted-by p (Some (line.Change c r v)) k u t n = refl
noted-by p (Some (line.Jump to)) k u t n = refl
noted-by p (Some (line.JumpIf c r v to)) k u t n = refl
noted-by p (Some (line.Make c vs)) k u t n = refl
noted-by p (Some (line.Map c vs)) k u t n = cc

registers-by : (o : Option Instruction) (k : Call) (u : Outcome) (rs : List ℕ) → MapsNone o → registers_noted o k u rs ≡ registers_noted None k u rs
registers-by None k u rs n = refl
registers-by (Some (line.Change c r v)) k u rs n = refl
registers-by (Some (line.Jump to)) k u rs n = refl
registers-by (Some (line.JumpIf c r v to)) k u rs n = refl
registers-by (Some (line.Make c vs)) k u rs n = refl
registers-by (Some (line.Map c vs)) k u rs n = cc

-- it stands where the script alone does, and its table is clean
record IsAt (p : Point) (x : Holding) : Type 0 where
  at : x.at ≡ p
  clean : Clean x.table

then-same : (p : Holder) (script : List Instruction) (o : Outcome) (x : Holding) → MapsNothing script → Clean x.table → IsAt (behind script o x.at) (held_after p script o x)
unfolding held_after
then-same p script o x n c =
    let i = slice_get script x.at.place in
    let k = held_call p script x in
    let none = maps-none script n x.at.place in
    record {
      at = ap (λ (rs : List ℕ). record { registers = rs; place = (behind script o x.at).place }) (registers-by i k o x.at.registers none);
      clean = subst Clean (sym (noted-by p i k o x.table none)) (clean-after p k o (table_touched k x.table) (clean-call k x.table c));
    }

answered-by : (p : Holder) (script : List Instruction) (o : Outcome) (q : Point) (x : Holding) (b : Bool) → MapsNothing script → IsAt q x
    → IsAt (if b then q else behind script o (arrived script q)) (if b then x else held_after p script o (held_arrived p script x))
answered-by p script o q x true n is = is
answered-by p script o q x false n is =
    let there = arrived-same p script x n in
    let clean : Clean (held_arrived p script x).table = subst (λ (y : Holding). Clean y.table) (sym there) is.clean in
    let it = then-same p script o (held_arrived p script x) n clean in
    record { at = it.at ∙ ap (λ (y : Holding). behind script o y.at) there ∙ ap (λ (r : Point). behind script o (arrived script r)) is.at; clean = it.clean }

after-same : (p : Holder) (script : List Instruction) → MapsNothing script → (os : List Outcome) (q : Point) (x : Holding) → IsAt q x
    → IsAt (engine_after (script_engine script) q os) (engine_after (held_engine p script) x os)
unfolding engine_after
after-same p script n [] q x is = is
after-same p script n (o ∷ os) q x is = after-same p script n os _ _ (answered-by p script o q x (is_blocked_outcome o) n is)

-- ---- the plan

pub unmapped-plan : (p : Holder) (script : List Instruction) (os : List Outcome) → MapsNothing script → held_plan p script os ≡ script_plan script os
unfolding plan_of
unmapped-plan p script os n =
    let is = after-same p script n os start holding_none (record { at = refl; clean = tt }) in
    let x : Holding = engine_after (held_engine p script) holding_none os in
    let there = arrived-same p script x n in
    let clean : Clean (held_arrived p script x).table = subst (λ (y : Holding). Clean y.table) (sym there) is.clean in
    ap (λ (c : Call). if ends_blocked os then call.Resume else c)
    (call-same p script (held_arrived p script x) n clean ∙ (ap (λ (y : Holding). call_at script y.at) there ∙ ap (λ (q : Point). call_at script (arrived script q)) is.at))

pub unmapped-run : (p : Holder) (script : List Instruction) (es : List Entry) → MapsNothing script → PlanRun (held_plan p script) es ↔ ScriptRun script es
unmapped-run p script es n = same-runs (held_plan p script) (script_plan script) (λ os. unmapped-plan p script os n) es
