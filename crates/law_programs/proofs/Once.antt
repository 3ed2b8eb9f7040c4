-- In each run an output vector of a handle is unmapped once at most.
use Rattle.std.proofs.Common.{ℕ, zero, suc, ◌<◌, ◌≤◌, ◌≡◌, ◌==◌, Bool, true, false, List, [], ◌∷◌, ◌++◌, length, refl, ap, ap₂, sym, ◌∙◌, subst, arith}
use Rattle.std.specs.Prelude.{Option, Some, None, if◌then◌else◌, ◌&&◌, count_by, find, map, nat_le, nat_lt, option_and_then, slice_get}
use Rattle.std.specs.List.{list_any}
use Rattle.std.specs.Option.{option_map, option_map_or, option_or}
use Rattle.std.proofs.lemmas.Bool.{and_parts, false_from_ne_true}
use Rattle.std.proofs.lemmas.List.Folds.{find-append}
use Rattle.law_lists.proofs.Counts.{none-count}
use Rattle.ffm_model.proofs.RecordLemmas.{engine_after-push, entries_of-other, entries_of-own, outcomes_of-push}
use Rattle.ffm_model.specs.declared.system.System.{System}
use Rattle.ffm_model.specs.declared.machine.Handle.{Handle}
use Rattle.ffm_model.specs.declared.machine.Status.{Status}
use Rattle.ffm_model.specs.declared.machine.Message.{Message}
use Rattle.ffm_model.specs.declared.machine.Entry.{Entry}
use Rattle.ffm_model.specs.declared.machine.Call.{Call}
use Rattle.ffm_model.specs.declared.machine.Call.TheVariants as call
use Rattle.ffm_model.specs.declared.machine.Outcome.{Outcome}
use Rattle.ffm_model.specs.declared.machine.Outcome.TheVariants as outcome
use Rattle.ffm_model.specs.declared.script.Operand.{Operand}
use Rattle.ffm_model.specs.declared.script.MapName.TheVariants.{UnmapOut}
use Rattle.ffm_model.specs.declared.script.Instruction.{Instruction}
use Rattle.ffm_model.specs.declared.script.Instruction.TheVariants as line
use Rattle.ffm_model.specs.declared.system.ActorKind.TheVariants.{Partition}
use Rattle.ffm_model.specs.Actors.{kind_of}
use Rattle.ffm_model.specs.Memory.{ByteMap}
use Rattle.ffm_model.specs.State.{State, handle_eq}
use Rattle.ffm_model.specs.Plans.{PlanRun}
use Rattle.ffm_model.specs.Records.{ends_blocked, entries_of, is_blocked_outcome, outcomes_of}
use Rattle.ffm_model.specs.Step.{after, step}
use Rattle.ffm_model.specs.Held.{Holder, HolderService, HeldMessage, HeldVector, VectorState, changed_at, fresh_vector, held, holder_of, is_fresh, is_held_as, is_mappable, is_mapped, is_output_free, most_held, table_after, touched, vector_at, with_input, with_message_of, with_output, with_state, without}
use Rattle.ffm_model.specs.Held.VectorState.{used, mapped, unmapped}
use Rattle.ffm_model.specs.HeldPlans.{Holding, held_arrived, held_after, held_call, held_engine, held_plan, holding_none, table_noted}
use Rattle.ffm_model.proofs.StepLemmas.{after-push}
use Rattle.law_counting.proofs.Parts.{flipped, is_itself, same_or_not}
use Rattle.law_counting.proofs.Resume.{times}
use Rattle.law_counting.proofs.Runs.{run-has}
use Rattle.law_programs.specs.Windows.{IsEvent, WasUnmapped, line_at, standing_at}
use Rattle.law_programs.proofs.Changes.{is_vector_call}
use Rattle.law_programs.proofs.Copies.{at-event, outputs-are-copied, tested}
use Rattle.law_programs.proofs.Fits.{holds-at, mappable}
use Rattle.law_programs.proofs.Kept.{Kept, arrived-given, run-kept, standing, step-grows}
use Rattle.law_programs.proofs.Lines.{arrived-has, after-table, other-keeps, plan-call, read-noted, runs-back, skip-noted, unmap_out-call}
use Rattle.law_programs.proofs.Own.{AreGiven, get-new}
use Rattle.law_counting.proofs.Walk.{handle-same}
use Rattle.law_programs.proofs.Tables.{changed-other, changed-same, is_unmapped, none-held, same_handle, without-other, without-same}
use Rattle.law_counting.proofs.Entries.{never-nil, push-split}
use Rattle.law_counting.proofs.OwnSteps.{Own, own-step}
use Rattle.law_counting.proofs.Owners.{is-partition}
use Rattle.ffm_model.proofs.HeldLemmas.{noted-get, noted-reply}

-- ---- a vector that stays unmapped

-- where the handle's message is in the table, the vector is unmapped
abbrev Gone : List HeldMessage → Handle → ℕ → Type 0
Gone t k i = (y : HeldMessage) → held t k ≡ Some y → is_unmapped (vector_at y.output i).state ≡ true

changed-gone : (h k : Handle) (i : ℕ) (f : HeldMessage → HeldMessage) (t : List HeldMessage) → ((m : HeldMessage) → (f m).handle ≡ m.handle)
    → ((y : HeldMessage) → held t h ≡ Some y → is_unmapped (vector_at y.output i).state ≡ true → is_unmapped (vector_at (f y).output i).state ≡ true) → Gone t k i → Gone (changed_at h f t) k i
changed-gone h k i f t keep stays gone y e =
    same_handle h k (is_unmapped (vector_at y.output i).state ≡ true)
    (λ same.
    let at : option_map f (held t h) ≡ Some y = sym (changed-same h f keep t) ∙ (ap (held (changed_at h f t)) same ∙ e) in
    let go : (o : Option HeldMessage) → held t h ≡ o → option_map f o ≡ Some y → is_unmapped (vector_at y.output i).state ≡ true =
    elim [
      | None ↦ λ g z. cc
      | Some x ↦ λ g z. let it : f x ≡ y = cc in subst (λ (w : HeldMessage). is_unmapped (vector_at w.output i).state ≡ true) it (stays x g (gone x (ap (held t) (sym same) ∙ g)))
    ] in
    go (held t h) refl at)
    (λ apart. gone y (sym (changed-other h k f apart keep t) ∙ e))

state-stays : (vs : List HeldVector) (u : VectorState) (k i : ℕ) → (i ≡ k → is_unmapped u ≡ true) → is_unmapped (vector_at vs i).state ≡ true → is_unmapped (vector_at (with_state u k vs) i).state ≡ true
state-stays [] u k i h e = cc
state-stays (v ∷ vs) u zero zero h e = h refl
state-stays (v ∷ vs) u (suc k) (suc i) h e = state-stays vs u k i (λ z. h (ap suc z)) e
state-stays (v ∷ vs) u _ _ h e = e

not-fresh : (u : VectorState) → is_unmapped u ≡ true → is_fresh u ≡ false
not-fresh unmapped e = refl
not-fresh _ e = cc

not-mapped : (u : VectorState) → is_unmapped u ≡ true → is_mapped u ≡ false
not-mapped unmapped e = refl
not-mapped _ e = cc

-- no fresh vector is unmapped
fresh-apart : (vs : List HeldVector) (k i : ℕ) (P : Type 0) → is_fresh (vector_at vs k).state ≡ true → is_unmapped (vector_at vs i).state ≡ true → i ≡ k → P
fresh-apart vs k i P new e same =
    let off : is_fresh (vector_at vs k).state ≡ false = ap (λ (j : ℕ). is_fresh (vector_at vs j).state) (sym same) ∙ not-fresh (vector_at vs i).state e in
    cc

touched-stays-by : (b : Bool) (vs : List HeldVector) (k i : ℕ) → is_fresh (vector_at vs k).state ≡ b → is_unmapped (vector_at vs i).state ≡ true → is_unmapped (vector_at (if b then with_state used k vs else vs) i).state ≡ true
touched-stays-by true vs k i new e = state-stays vs used k i (fresh-apart vs k i (is_unmapped used ≡ true) new e) e
touched-stays-by false vs k i new e = e

touched-stays : (vs : List HeldVector) (k i : ℕ) → is_unmapped (vector_at vs i).state ≡ true → is_unmapped (vector_at (touched k vs) i).state ≡ true
touched-stays vs k i e = touched-stays-by (is_fresh (vector_at vs k).state) vs k i refl e

-- ---- lines

arrived-gone : (p : Holder) (script : List Instruction) (x : Holding) (k : Handle) (i : ℕ) → Gone x.table k i → Gone (held_arrived p script x).table k i
arrived-gone p script x k i gone =
    arrived-has p script (λ t. Gone t k i) x
    (record {
      map_out = λ t h index can old. changed-gone h k i (with_output mapped index) t (λ m. refl)
          (λ y at e.
          let may = holds-at t h index (λ m. is_mappable p m (vector_at m.output index) && is_output_free t index) y can at in
          let new = mappable p y (vector_at y.output index) (and_parts (is_mappable p y (vector_at y.output index)) (is_output_free t index) may).0 in
          state-stays y.output mapped index i (fresh-apart y.output index i (is_unmapped mapped ≡ true) new.unused e) e) old;
      unmap_in = λ t h index old. changed-gone h k i (with_input unmapped index) t (λ m. refl) (λ y at e. e) old;
    }) gone

-- ---- calls

write-either : (p : Holder) (i : Option Instruction) (h : Handle) (index buffer len : ℕ) (o : Outcome) (t : List HeldMessage) (P : List HeldMessage → Type 0) → P (changed_at h (λ m. record m { output = touched index m.output }) t)
    → P (changed_at h (with_output unmapped index) t) → P (table_noted p i (call.Write h index buffer len) o t)
write-either p (Some (line.Map UnmapOut operands)) h index buffer len o t P other unmaps = unmaps
write-either p _ h index buffer len o t P other unmaps = other

pushed-gone : (t : List HeldMessage) (x : HeldMessage) (k : Handle) (i : ℕ) → handle_eq x.handle k ≡ false → Gone t k i → Gone (t ++ x ∷ []) k i
pushed-gone t x k i apart gone y e =
    let at : option_or (held t k) (if is_held_as k x then Some x else None) ≡ Some y = sym (find-append (is_held_as k) t (x ∷ [])) ∙ e in
    let off : option_or (held t k) None ≡ Some y = sym (ap (λ (b : Bool). option_or (held t k) (if b then Some x else None)) apart) ∙ at in
    let go : (o : Option HeldMessage) → held t k ≡ o → option_or o None ≡ Some y → held t k ≡ Some y = elim [ None ↦ λ g z. cc | Some w ↦ λ g z. g ∙ z ] in
    gone y (go (held t k) refl off)

kept-gone : (v : HolderService) (m : Message) (t : List HeldMessage) (k : Handle) (i : ℕ) (b : Bool) → handle_eq m.handle k ≡ false → Gone t k i
    → Gone (if b then t ++ record { handle = m.handle; kind = m.kind; mm = v.mm; input = map fresh_vector m.in_size; output = map fresh_vector m.out_size } ∷ [] else t) k i
kept-gone v m t k i true apart gone = pushed-gone t _ k i apart gone
kept-gone v m t k i false apart gone = gone

got-gone : (o : Option HolderService) (m : Message) (t : List HeldMessage) (k : Handle) (i : ℕ) → handle_eq m.handle k ≡ false → Gone t k i → Gone (option_map_or (λ v. with_message_of v m t) o t) k i
got-gone None m t k i apart gone = gone
got-gone (Some v) m t k i apart gone = kept-gone v m t k i (nat_lt (length t) most_held) apart gone

get-gone : (p : Holder) (signal msg : ℕ) (o : Outcome) (t : List HeldMessage) (k : Handle) (i : ℕ) → ((m : Message) → o ≡ outcome.Got m → handle_eq m.handle k ≡ false) → Gone t k i → Gone (table_after p (call.Get signal msg) o t) k i
get-gone p signal msg (outcome.Got m) t k i new gone = got-gone (find (λ v. v.signal == signal) p.services) m t k i (new m refl) gone
get-gone p signal msg _ t k i new gone = gone

without-gone : (h k : Handle) (i : ℕ) (t : List HeldMessage) → count_by (is_held_as h) t ≤ 1 → Gone t k i → Gone (without h t) k i
without-gone h k i t few gone y e =
    same_handle h k (is_unmapped (vector_at y.output i).state ≡ true)
    (λ same. let none : held (without h t) h ≡ None = without-same h t few in let some : held (without h t) h ≡ Some y = ap (held (without h t)) same ∙ e in cc)
    (λ apart. gone y (sym (without-other h k apart t) ∙ e))

reply-gone : (p : Holder) (h : Handle) (status : Status) (o : Outcome) (t : List HeldMessage) (k : Handle) (i : ℕ) → count_by (is_held_as h) t ≤ 1 → Gone t k i → Gone (table_after p (call.Reply h status) o t) k i
reply-gone p h status outcome.Done t k i few gone = without-gone h k i t few gone
reply-gone p h status _ t k i few gone = gone

noted-gone : (p : Holder) (l : Option Instruction) (c : Call) (o : Outcome) (t : List HeldMessage) (k : Handle) (i : ℕ) → ((h : Handle) → count_by (is_held_as h) t ≤ 1)
    → ((signal msg : ℕ) (m : Message) → c ≡ call.Get signal msg → o ≡ outcome.Got m → handle_eq m.handle k ≡ false) → Gone t k i → Gone (table_noted p l c o t) k i
noted-gone p l (call.Get signal msg) o t k i few new gone = subst (λ (u : List HeldMessage). Gone u k i) (sym (noted-get p l signal msg o t)) (get-gone p signal msg o t k i (λ m e. new signal msg m refl e) gone)
noted-gone p l (call.Read h index buffer len) o t k i few new gone =
    read-noted p l h index buffer len o t (λ (u : List HeldMessage). Gone u k i)
    (changed-gone h k i (λ m. record m { input = touched index m.input }) t (λ m. refl) (λ y at e. e) gone) (changed-gone h k i (with_input mapped index) t (λ m. refl) (λ y at e. e) gone)
noted-gone p l (call.Skip h index len) o t k i few new gone =
    subst (λ (u : List HeldMessage). Gone u k i) (sym (skip-noted p l h index len o t)) (changed-gone h k i (λ m. record m { input = touched index m.input }) t (λ m. refl) (λ y at e. e) gone)
noted-gone p l (call.Write h index buffer len) o t k i few new gone =
    write-either p l h index buffer len o t (λ (u : List HeldMessage). Gone u k i)
    (changed-gone h k i (λ m. record m { output = touched index m.output }) t (λ m. refl) (λ y at e. touched-stays y.output index i e) gone)
    (changed-gone h k i (with_output unmapped index) t (λ m. refl) (λ y at e. state-stays y.output unmapped index i (λ z. refl) e) gone)
noted-gone p l (call.Reply h status) o t k i few new gone = subst (λ (u : List HeldMessage). Gone u k i) (sym (noted-reply p l h status o t)) (reply-gone p h status o t k i (few h) gone)
noted-gone p l c o t k i few new gone = subst (λ (u : List HeldMessage). Gone u k i) (sym (other-keeps p l c o t refl)) gone

-- ---- an entry more

-- the last entry is an unmap_out
record Unmaps (s : System) (a : ℕ) (script : List Instruction) (es : List Entry) (e : Entry) (k : Handle) (i n : ℕ) : Type 0 where
  operands : List Operand
  buffer : ℕ
  own : e.actor.0 ≡ a
  at_line : line_at s a script es ≡ Some (line.Map UnmapOut operands)
  is_write : e.call ≡ call.Write k i buffer n

was-split : (s : System) (a : ℕ) (script : List Instruction) (es : List Entry) (e : Entry) (k : Handle) (i n : ℕ) (P : Type 0) → WasUnmapped s a script (es ++ e ∷ []) k i n
    → (WasUnmapped s a script es k i n → P) → (Unmaps s a script es e k i n → P) → P
was-split s a script es e k i n P was old new =
    push-split es was.earlier was.later e was.entry P was.place
    (λ past same. new (record {
      operands = was.operands;
      buffer = was.buffer;
      own = ap (λ (x : Entry). x.actor.0) same ∙ was.own;
      at_line = ap (line_at s a script) past ∙ was.is_line;
      is_write = ap (λ (x : Entry). x.call) same ∙ was.is_write;
    }))
    (λ rest past. old (record { earlier = was.earlier; entry = was.entry; later = rest; operands = was.operands; buffer = was.buffer; place = past; own = was.own; is_line = was.is_line; is_write = was.is_write }))

-- ---- what a run keeps

record OnceAt (s : System) (a : ℕ) (script : List Instruction) (es : List Entry) (x : Holding) (st : State) : Type 0 where
  given : (k : Handle) (i n : ℕ) → WasUnmapped s a script es k i n → 1 ≤ times st.handles_given k
  gone : (k : Handle) (i n : ℕ) → WasUnmapped s a script es k i n → Gone x.table k i
  one : (k : Handle) (i n j : ℕ) → WasUnmapped s a script es k i n → WasUnmapped s a script es k i j → n ≡ j

record Once (s : System) (m : ByteMap) (a : ℕ) (script : List Instruction) (es : List Entry) (st : State) : Type 0 where
  run : after s m es ≡ Some st
  once : PlanRun (held_plan (holder_of s a) script) (entries_of a es) → OnceAt s a script es (standing s a script (outcomes_of (entries_of a es))) st

-- a handle that was given isn't given again
given-apart : (given : List Handle) (h k : Handle) → list_any (handle_eq h) given ≡ false → 1 ≤ times given k → handle_eq h k ≡ false
given-apart given h k new once =
    false_from_ne_true (handle_eq h k)
    (λ e. let same : h ≡ k = handle-same h k e in omega (arith, once, none-count (handle_eq h) given new, ap (times given) same))

-- what is in the table was given
held-given : (t : List HeldMessage) (given : List Handle) (k : Handle) (y : HeldMessage) → AreGiven t given → held t k ≡ Some y → 1 ≤ times given k
held-given t given k y all at =
    let go : (n : ℕ) → count_by (is_held_as k) t ≡ n → 1 ≤ n =
    elim [ zero ↦ λ e. (let none : held t k ≡ None = none-held k t e in cc) | suc n ↦ λ e. omega arith ] in
    omega (arith, all k, go (count_by (is_held_as k) t) refl)

unmapped-set : (vs : List HeldVector) (i : ℕ) → is_mapped (vector_at vs i).state ≡ true → is_unmapped (vector_at (with_state unmapped i vs) i).state ≡ true
unmapped-set [] i e = cc
unmapped-set (v ∷ vs) zero e = refl
unmapped-set (v ∷ vs) (suc i) e = unmapped-set vs i e

set-gone : (k : Handle) (i : ℕ) (t : List HeldMessage) → ((y : HeldMessage) → held t k ≡ Some y → is_mapped (vector_at y.output i).state ≡ true) → Gone (changed_at k (with_output unmapped i) t) k i
set-gone k i t maps y e =
    let at : option_map (with_output unmapped i) (held t k) ≡ Some y = sym (changed-same k (with_output unmapped i) (λ m. refl) t) ∙ e in
    let go : (o : Option HeldMessage) → held t k ≡ o → option_map (with_output unmapped i) o ≡ Some y → is_unmapped (vector_at y.output i).state ≡ true =
    elim [
      | None ↦ λ g z. cc
      | Some x ↦ λ g z. let it : with_output unmapped i x ≡ y = cc in subst (λ (w : HeldMessage). is_unmapped (vector_at w.output i).state ≡ true) it (unmapped-set x.output i (maps x g))
    ] in
    go (held t k) refl at

-- ---- its own event

-- the handle that the call after the outcomes gives is new
fresh-call : (s : System) (a : ℕ) (script : List Instruction) (y : Holding) (st new : State) (e : Entry) (b : Bool) → kind_of s a ≡ Partition → step s st e ≡ Some new → e.actor.0 ≡ a
    → (b ≡ true → is_vector_call (held_call (holder_of s a) script y) ≡ false) → e.call ≡ (if b then call.Resume else held_call (holder_of s a) script y)
    → (signal msg : ℕ) (m : Message) → held_call (holder_of s a) script y ≡ call.Get signal msg → e.outcome ≡ outcome.Got m → list_any (handle_eq m.handle) st.handles_given ≡ false
fresh-call s a script y st new e true kind h mine waits is signal msg m get got =
    let off : is_vector_call (held_call (holder_of s a) script y) ≡ false = waits refl in
    let on : is_vector_call (held_call (holder_of s a) script y) ≡ true = ap is_vector_call get in
    cc
fresh-call s a script y st new e false kind h mine waits is signal msg m get got =
    get-new s st new a signal msg m kind (subst (λ (o : Outcome). Own s st new a (call.Get signal msg) o) got (own-step s st new e a (call.Get signal msg) h mine (is ∙ get)))

answered-gone : (p : Holder) (script : List Instruction) (x : Holding) (o : Outcome) (k : Handle) (i : ℕ) (b : Bool) → ((h : Handle) → count_by (is_held_as h) (held_arrived p script x).table ≤ 1)
    → ((signal msg : ℕ) (m : Message) → held_call p script (held_arrived p script x) ≡ call.Get signal msg → o ≡ outcome.Got m → handle_eq m.handle k ≡ false) → Gone x.table k i
    → Gone (if b then x else held_after p script o (held_arrived p script x)).table k i
answered-gone p script x o k i true few new gone = gone
answered-gone p script x o k i false few new gone =
    let y : Holding = held_arrived p script x in
    subst (λ (u : List HeldMessage). Gone u k i) (sym (after-table p script o y)) (noted-gone p (slice_get script y.at.place) (held_call p script y) o y.table k i few new (arrived-gone p script x k i gone))

-- what an unmap_out leaves
record Unmapped (s : System) (a : ℕ) (script : List Instruction) (x : Holding) (o : Outcome) (k : Handle) (i : ℕ) (given : List Handle) : Type 0 where
  shown : 1 ≤ times given k
  behind : Gone (if is_blocked_outcome o then x else held_after (holder_of s a) script o (held_arrived (holder_of s a) script x)).table k i
  message : HeldMessage
  at : held (held_arrived (holder_of s a) script x).table k ≡ Some message
  maps : is_mapped (vector_at message.output i).state ≡ true

unmapped-now : (s : System) (m : ByteMap) (a : ℕ) (script : List Instruction) (es : List Entry) (e : Entry) (st new : State) (k : Handle) (i n : ℕ) → IsEvent s m a script es e st new → AreGiven (standing_at s a script es).table st.handles_given
    → Unmaps s a script es e k i n → Unmapped s a script (standing s a script (outcomes_of (entries_of a es))) e.outcome k i st.handles_given
unmapped-now s m a script es e st new k i n event given now =
    let p : Holder = holder_of s a in
    let y : Holding = standing_at s a script es in
    let at = at-event s m a script es e st new (call.Write k i now.buffer n) event now.is_write (λ z. cc) in
    let can = (unmap_out-call p script y now.operands k i now.buffer n now.at_line at.call_made).0 in
    let fact : HeldMessage → Bool = λ z. is_mapped (vector_at z.output i).state && nat_le n (vector_at z.output i).size in
    let test = tested y.table k i fact can in
    let maps : (z : HeldMessage) → held y.table k ≡ Some z → is_mapped (vector_at z.output i).state ≡ true =
    λ z there. (and_parts (is_mapped (vector_at z.output i).state) (nat_le n (vector_at z.output i).size) (holds-at y.table k i fact z can there)).0 in
    let done : e.outcome ≡ outcome.Done = (outputs-are-copied s m a script es e st new now.operands k i now.buffer n event now.at_line now.is_write).answered in
    let table : (held_after p script e.outcome y).table ≡ changed_at k (with_output unmapped i) y.table =
    after-table p script e.outcome y ∙ ap₂ (λ (l : Option Instruction) (c : Call). table_noted p l c e.outcome y.table) now.at_line at.call_made in
    record {
      shown = held-given y.table st.handles_given k test.message given test.at;
      behind = subst (λ (b : Bool). Gone (if b then standing s a script (outcomes_of (entries_of a es)) else held_after p script e.outcome y).table k i) (sym (ap is_blocked_outcome done))
          (subst (λ (u : List HeldMessage). Gone u k i) (sym table) (set-gone k i y.table maps));
      message = test.message;
      at = test.at;
      maps = maps test.message test.at;
    }

own-once : (s : System) (m : ByteMap) (a : ℕ) (script : List Instruction) (es : List Entry) (e : Entry) (st new : State) → IsEvent s m a script es e st new
    → (PlanRun (held_plan (holder_of s a) script) (entries_of a es) → OnceAt s a script es (standing s a script (outcomes_of (entries_of a es))) st)
    → OnceAt s a script (es ++ e ∷ []) (if is_blocked_outcome e.outcome then standing s a script (outcomes_of (entries_of a es)) else held_after (holder_of s a) script e.outcome (standing_at s a script es)) new
own-once s m a script es e st new event before =
    let p : Holder = holder_of s a in
    let os : List Outcome = outcomes_of (entries_of a es) in
    let x : Holding = standing s a script os in
    let y : Holding = standing_at s a script es in
    let plan = held_plan p script in
    let mine : (e.actor.0 == a) ≡ true = ap (λ (z : ℕ). z == a) event.own ∙ is_itself a in
    let back = runs-back plan [] (entries_of a es) e (subst (PlanRun plan) (entries_of-own a es e mine) event.run) in
    let kept : Kept s a script es st = run-kept s a script m es st event.partition event.before in
    let follows = kept.follows back.0 in
    let given : AreGiven y.table st.handles_given = arrived-given s a script x st.handles_given follows.given in
    let few : (h : Handle) → count_by (is_held_as h) y.table ≤ 1 = λ h. omega (arith, given h, kept.balanced.single h) in
    let is = back.1 ∙ plan-call (held_engine p script) holding_none os (ends_blocked os) refl in
    let old : OnceAt s a script es x st = before back.0 in
    let grown = step-grows s st new e event.behind in
    let now : (k : Handle) (i n : ℕ) → Unmaps s a script es e k i n → Unmapped s a script x e.outcome k i st.handles_given = λ k i n u. unmapped-now s m a script es e st new k i n event given u in
    let new_one : (k : Handle) (i n j : ℕ) (P : Type 0) → Unmaps s a script es e k i n → WasUnmapped s a script es k i j → P =
    λ k i n j P u was.
    let it = now k i n u in
    let on : is_unmapped (vector_at it.message.output i).state ≡ true = arrived-gone p script x k i (old.gone k i j was) it.message it.at in
    let bad : true ≡ false = sym it.maps ∙ not-mapped (vector_at it.message.output i).state on in
    cc in
    record {
      given = λ k i n was. was-split s a script es e k i n (1 ≤ times new.handles_given k) was (λ w. omega (arith, old.given k i n w, grown k)) (λ u. omega (arith, (now k i n u).shown, grown k));
      gone = λ k i n was. was-split s a script es e k i n _ was
          (λ w. answered-gone p script x e.outcome k i (is_blocked_outcome e.outcome) few
          (λ signal msg shown get got. given-apart st.handles_given shown.handle k
          (fresh-call s a script y st new e (ends_blocked os) (is-partition s a event.partition) event.behind event.own follows.waits is signal msg shown get got) (old.given k i n w))
          (old.gone k i n w))
          (λ u. (now k i n u).behind);
      one = λ k i n j was other. was-split s a script es e k i n (n ≡ j) was
          (λ w. was-split s a script es e k i j (n ≡ j) other (λ v. old.one k i n j w v) (λ v. new_one k i j n (n ≡ j) v w))
          (λ u. was-split s a script es e k i j (n ≡ j) other (λ v. new_one k i n j (n ≡ j) u v) (λ v. let both : call.Write k i u.buffer n ≡ call.Write k i v.buffer j = sym u.is_write ∙ v.is_write in cc));
    }

-- ---- each step

step-once : (s : System) (m : ByteMap) (a : ℕ) (script : List Instruction) → a < length s.partitions → (es : List Entry) (st new : State) (e : Entry) → Once s m a script es st → step s st e ≡ Some new → Once s m a script (es ++ e ∷ []) new
step-once s m a script inside es st new e o h = record {
  run = after-push s m es e ∙ (ap (λ (x : Option State). option_and_then (λ y. step s y e) x) o.run ∙ h);
  once = λ run. same_or_not a e.actor.0 (OnceAt s a script (es ++ e ∷ []) (standing s a script (outcomes_of (entries_of a (es ++ e ∷ [])))) new)
      (λ k.
      let mine : (e.actor.0 == a) ≡ true = ap (λ (x : ℕ). e.actor.0 == x) k ∙ is_itself e.actor.0 in
      let os : List Outcome = outcomes_of (entries_of a es) in
      let pushed : outcomes_of (entries_of a (es ++ e ∷ [])) ≡ os ++ e.outcome ∷ [] = ap outcomes_of (entries_of-own a es e mine) ∙ outcomes_of-push (entries_of a es) e in
      let place = ap (standing s a script) pushed ∙ engine_after-push (held_engine (holder_of s a) script) holding_none os e.outcome in
      subst (λ (x : Holding). OnceAt s a script (es ++ e ∷ []) x new) (sym place)
      (own-once s m a script es e st new (record { partition = inside; own = sym k; before = o.run; behind = h; run = run }) o.once))
      (λ k.
      let same = entries_of-other a es e (flipped a e.actor.0 k) in
      let old = o.once (subst (PlanRun (held_plan (holder_of s a) script)) same run) in
      let grown = step-grows s st new e h in
      let back : (j : Handle) (i n : ℕ) → WasUnmapped s a script (es ++ e ∷ []) j i n → WasUnmapped s a script es j i n =
      λ j i n was. was-split s a script es e j i n (WasUnmapped s a script es j i n) was (λ w. w) (λ u. let yes : (a == e.actor.0) ≡ true = ap (λ (y : ℕ). a == y) u.own ∙ is_itself a in cc) in
      subst (λ (l : List Entry). OnceAt s a script (es ++ e ∷ []) (standing s a script (outcomes_of l)) new) (sym same)
      (record {
        given = λ j i n was. omega (arith, old.given j i n (back j i n was), grown j);
        gone = λ j i n was. old.gone j i n (back j i n was);
        one = λ j i n z was other. old.one j i n z (back j i n was) (back j i z other);
      }));
}

none-yet : (s : System) (a : ℕ) (script : List Instruction) (k : Handle) (i n : ℕ) (P : Type 0) → WasUnmapped s a script [] k i n → P
none-yet s a script k i n P was = absurd (never-nil was.earlier was.later was.entry was.place)

run-once : (s : System) (m : ByteMap) (a : ℕ) (script : List Instruction) (es : List Entry) (st : State) → a < length s.partitions → after s m es ≡ Some st → Once s m a script es st
run-once s m a script es st inside run =
    run-has s m (Once s m a script)
    (record {
      run = refl;
      once = λ r. record {
        given = λ k i n was. none-yet s a script k i n _ was;
        gone = λ k i n was. none-yet s a script k i n _ was;
        one = λ k i n j was other. none-yet s a script k i n _ was;
      };
    })
    (λ xs x new e. step-once s m a script inside xs x new e) es st run

-- what an unmap_out of a held message has copied is one number, and none where the vector isn't unmapped
pub record IsOnce (s : System) (a : ℕ) (script : List Instruction) (es : List Entry) (h : Handle) (index : ℕ) : Type 0 where
  pub gone : (n : ℕ) (y : HeldMessage) → WasUnmapped s a script es h index n → held (standing_at s a script es).table h ≡ Some y → is_mapped (vector_at y.output index).state ≡ false
  pub one : (n j : ℕ) → WasUnmapped s a script es h index n → WasUnmapped s a script es h index j → n ≡ j

pub unmapped-once : (s : System) (m : ByteMap) (a : ℕ) (script : List Instruction) (es : List Entry) (e : Entry) (st new : State) (h : Handle) (index : ℕ) → IsEvent s m a script es e st new → IsOnce s a script es h index
unmapped-once s m a script es e st new h index event =
    let p : Holder = holder_of s a in
    let plan = held_plan p script in
    let mine : (e.actor.0 == a) ≡ true = ap (λ (z : ℕ). z == a) event.own ∙ is_itself a in
    let back = runs-back plan [] (entries_of a es) e (subst (PlanRun plan) (entries_of-own a es e mine) event.run) in
    let once = (run-once s m a script es st event.partition event.before).once back.0 in
    record {
      gone = λ n y was at. not-mapped (vector_at y.output index).state (arrived-gone p script (standing s a script (outcomes_of (entries_of a es))) h index (once.gone h index n was) y at);
      one = λ n j was other. once.one h index n j was other;
    }
