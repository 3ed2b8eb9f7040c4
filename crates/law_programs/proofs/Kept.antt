-- In each run a partition's table fits the machine's messages.
use Rattle.std.proofs.Common.{ℕ, ◌≡◌, ◌≤◌, ◌<◌, ◌==◌, Bool, true, false, ◌&&◌, List, [], ◌∷◌, ◌++◌, length, get_or, refl, ap, ap₂, sym, ◌∙◌, subst, arith, append_assoc, inl, inr}
use Rattle.std.specs.Prelude.{Option, Some, nat_le, nat_lt, slice_get, if◌then◌else◌}
use Rattle.std.specs.Option.{option_map_or}
use Rattle.std.proofs.lemmas.Bool.{and_parts}
use Rattle.std.proofs.lemmas.Bool.Decides.{nat_tests}
use Rattle.law_lists.proofs.Counts.{count-push}
use Rattle.ffm_model.proofs.RecordLemmas.{ends_blocked-push, engine_after-push, entries_of-other, entries_of-own, outcomes_of-push}
use Rattle.law_counting.proofs.Returns.{open-phase, turns-sound}
use Rattle.ffm_model.specs.declared.system.System.{System}
use Rattle.ffm_model.specs.declared.system.ActorKind.TheVariants as kind
use Rattle.ffm_model.specs.declared.machine.Handle.{Handle}
use Rattle.ffm_model.specs.declared.machine.Entry.{Entry}
use Rattle.ffm_model.specs.declared.machine.Call.{Call}
use Rattle.ffm_model.specs.declared.machine.Call.TheVariants as call
use Rattle.ffm_model.specs.declared.machine.Outcome.{Outcome}
use Rattle.ffm_model.specs.declared.objects.PendingMessage.{PendingMessage}
use Rattle.ffm_model.specs.declared.objects.ActorPhase.{ActorPhase}
use Rattle.ffm_model.specs.declared.objects.ActorPhase.TheVariants.{Panicked}
use Rattle.ffm_model.specs.declared.objects.Span.{Span}
use Rattle.ffm_model.specs.declared.script.Operand.{Operand}
use Rattle.ffm_model.specs.declared.script.MapName.TheVariants.{UnmapOut}
use Rattle.ffm_model.specs.declared.script.Instruction.{Instruction}
use Rattle.ffm_model.specs.declared.script.Instruction.TheVariants as line
use Rattle.ffm_model.specs.Actors.{actor_count, kind_of}
use Rattle.ffm_model.specs.Memory.{ByteMap, no_span}
use Rattle.ffm_model.specs.State.{SpmState, State, opening, phase_of, handle_eq}
use Rattle.ffm_model.specs.Signals.{can_go_on, enabled, is_panicked, signals_of}
use Rattle.ffm_model.specs.ServiceCalls.{moved_by, output_at, output_moved}
use Rattle.ffm_model.specs.Plans.{PlanRun, engine_after}
use Rattle.ffm_model.specs.Records.{ends_blocked, entries_of, is_blocked_outcome, outcomes_of}
use Rattle.ffm_model.specs.Step.{after, handle_shown, may_call, step}
use Rattle.ffm_model.specs.Held.{Holder, HeldMessage, held, holder_of, holds, is_mapped, is_or_was_mapped, touched, vector_at, with_input, with_output, with_state}
use Rattle.ffm_model.specs.Held.VectorState.{mapped, unmapped}
use Rattle.ffm_model.specs.HeldPlans.{Holding, holding_none, held_arrived, held_after, held_call, held_engine, held_plan, table_noted}
use Rattle.law_counting.proofs.Balance.{Balanced}
use Rattle.law_counting.proofs.Events.{EachKind}
use Rattle.law_counting.proofs.Parts.{flipped, is_itself, same_or_not}
use Rattle.law_counting.proofs.Resume.{times}
use Rattle.law_counting.proofs.Runs.{opening-balanced, run-has, step-keeps}
use Rattle.law_counting.proofs.Steps.{step-is, step-kind}
use Rattle.law_counting.proofs.Turns.{Turned, Turns, is_sound, kinds-turn}
use Rattle.law_programs.specs.Windows.{WasUnmapped}
use Rattle.law_programs.proofs.Changes.{effect-changes, is_vector_call}
use Rattle.law_programs.proofs.Fits.{AreHeld, Fits, holds-at, map_out-held, mapped-input, mapped-is, mapped-unwritten, told-more, touched-apart, touched-input, touched-output, unmap_in-held, unmapped-output}
use Rattle.law_programs.proofs.Lines.{arrived-has, after-table, other-keeps, plan-call, read-noted, runs-back, skip-noted, write-noted}
use Rattle.law_programs.proofs.Messages.{AreWaiting, HoldsStill, IsKept, others-kept, own-kept, waiting-kept}
use Rattle.law_programs.proofs.Own.{AreGiven, After, get-after, read-after, reply-after, skip-after, write-after}
use Rattle.law_programs.proofs.Tables.{changed-count, large-there, moved-here}
use Rattle.law_counting.proofs.Owners.{is-partition, service-owned}
use Rattle.law_counting.proofs.OwnSteps.{Own, own-step}
use Rattle.ffm_model.proofs.HeldLemmas.{noted-get, noted-reply}

-- ---- phases

turned-alive : (p q : ActorPhase) → Turned p q → is_panicked q ≡ false → is_panicked p ≡ false
turned-alive p q (inl e) h = ap is_panicked e ∙ h
turned-alive p q (inr (inl k)) h = ap is_panicked k.0
turned-alive p q (inr (inr k)) h = ap is_panicked k.0

able-alive : (p : ActorPhase) (word : ℕ) → can_go_on p word ≡ true → is_panicked p ≡ false
able-alive Panicked word e = cc
able-alive _ word e = refl

pub may-alive : (s : System) (b : SpmState) (a : ℕ) (c : Call) → may_call s b a c ≡ true → is_panicked (phase_of b a) ≡ false
may-alive s b a c may = able-alive (phase_of b a) (signals_of s b a) (and_parts (enabled s b a) _ (and_parts _ _ may).1).0

-- ---- handles that were given

pushed-more : (given : List Handle) (h k : Handle) → times given k ≤ times (given ++ h ∷ []) k
pushed-more given h k = omega (arith, count-push (λ (j : Handle). handle_eq k j) given h)

kinds-grow : (s : System) (b : SpmState) (given : List Handle) (a : ℕ) (d : Call) → EachKind s b given a d (λ o new all. (k : Handle) → times given k ≤ times all k)
kinds-grow s b given a d = record {
  beside = λ running o doorbells sources plain k. omega arith;
  waits = λ running mask k. omega arith;
  ends = λ running k. omega arith;
  wakes = λ mask n e k. omega arith;
  returns = λ o e k. omega arith;
  joins = λ is n h e new k. pushed-more given h k;
  connects = λ running v free k. omega arith;
  calls = λ running h c n v held takes k. omega arith;
  asks = λ running v n vs stateless may k. omega arith;
  closes = λ running h c held k. omega arith;
  gets = λ running signal msg v is has first at h shown tells new k. pushed-more given h k;
  moves = λ running o h v plain k. omega arith;
  marks = λ running n r k. omega arith;
  replies = λ running h status m held k. omega arith;
  owes = λ running h status m n held kind k. omega arith;
  panics = λ running k. omega arith;
}

pub step-grows : (s : System) (st new : State) (e : Entry) → step s st e ≡ Some new → (k : Handle) → times st.handles_given k ≤ times new.handles_given k
step-grows s st new e h = (step-kind s st new e (λ o spm all. (k : Handle) → times st.handles_given k ≤ times all k) (kinds-grow s st.spm st.handles_given e.actor.0 e.call) h).2

-- ---- after the outcomes

-- the script stands at x, its table fits, and where its last call waits, the call concerns no message
pub record Follows (s : System) (a : ℕ) (T : Handle → ℕ → ℕ → Type 0) (script : List Instruction) (x : Holding) (blocked : Bool) (st : State) : Type 0 where
  pub held : is_panicked (phase_of st.spm a) ≡ false → AreHeld s st.spm a T x.table
  pub given : AreGiven x.table st.handles_given
  pub waits : blocked ≡ true → is_vector_call (held_call (holder_of s a) script (held_arrived (holder_of s a) script x)) ≡ false

abbrev pub standing : System → ℕ → List Instruction → List Outcome → Holding
standing s a script os = engine_after (held_engine (holder_of s a) script) holding_none os

abbrev pub FollowsAt : System → ℕ → (Handle → ℕ → ℕ → Type 0) → List Instruction → List Outcome → State → Type 0
FollowsAt s a T script os st = Follows s a T script (standing s a script os) (ends_blocked os) st

-- what was unmapped after the entries
abbrev pub unmapped_in : System → ℕ → List Instruction → List Entry → Handle → ℕ → ℕ → Type 0
unmapped_in s a script es h index len = WasUnmapped s a script es h index len

follows-more : (T U : Handle → ℕ → ℕ → Type 0) (s : System) (a : ℕ) (script : List Instruction) (x : Holding) (blocked : Bool) (st : State) → ((k : Handle) (i len : ℕ) → T k i len → U k i len) → Follows s a T script x blocked st
    → Follows s a U script x blocked st
follows-more T U s a script x blocked st more old = record {
  held = λ alive k y e. let was = old.held alive k y e in record { message = was.message; found = was.found; fits = told-more (holder_of s a) (T k) (U k) y was.message (λ i len. more k i len) was.fits };
  given = old.given;
  waits = old.waits;
}

was-more : (s : System) (a : ℕ) (script : List Instruction) (es : List Entry) (e : Entry) (k : Handle) (i len : ℕ) → WasUnmapped s a script es k i len → WasUnmapped s a script (es ++ e ∷ []) k i len
was-more s a script es e k i len was = record {
  earlier = was.earlier;
  entry = was.entry;
  later = was.later ++ e ∷ [];
  operands = was.operands;
  buffer = was.buffer;
  place = ap (λ (xs : List Entry). xs ++ e ∷ []) was.place ∙ append_assoc was.earlier (was.entry ∷ was.later) (e ∷ []);
  own = was.own;
  is_line = was.is_line;
  is_write = was.is_write;
}

pub record Kept (s : System) (a : ℕ) (script : List Instruction) (es : List Entry) (st : State) : Type 0 where
  pub balanced : Balanced s (times st.handles_given) st.spm
  pub sound : (x : ℕ) → is_sound (phase_of st.spm x) ≡ true
  pub waiting : AreWaiting st.spm.messages
  pub follows : PlanRun (held_plan (holder_of s a) script) (entries_of a es) → FollowsAt s a (unmapped_in s a script es) script (outcomes_of (entries_of a es)) st

-- at its next call
pub arrived-held : (T : Handle → ℕ → ℕ → Type 0) (s : System) (b : SpmState) (a : ℕ) (script : List Instruction) (x : Holding) → AreHeld s b a T x.table → AreHeld s b a T (held_arrived (holder_of s a) script x).table
arrived-held T s b a script x all =
    arrived-has (holder_of s a) script (AreHeld s b a T) x (record { map_out = λ t h index can old. map_out-held T s b a h index t can old; unmap_in = λ t h index old. unmap_in-held T s b a h index t old }) all

pub arrived-given : (s : System) (a : ℕ) (script : List Instruction) (x : Holding) (given : List Handle) → AreGiven x.table given → AreGiven (held_arrived (holder_of s a) script x).table given
arrived-given s a script x given all =
    arrived-has (holder_of s a) script (λ t. AreGiven t given) x
    (record {
      map_out = λ t h index can old k. omega (arith, changed-count h k (with_output mapped index) (λ m. refl) t, old k);
      unmap_in = λ t h index old k. omega (arith, changed-count h k (with_input unmapped index) (λ m. refl) t, old k);
    }) all

-- ---- its own event

still-held : (T : Handle → ℕ → ℕ → Type 0) (s : System) (b new : SpmState) (a : ℕ) (t : List HeldMessage) → HoldsStill s b a new → AreHeld s b a T t → AreHeld s new a T t
still-held T s b new a t still all k x e = let old = all k x e in record { message = old.message; found = still k old.message old.found; fits = old.fits }

-- a call that concerns no message
other-follows : (T : Handle → ℕ → ℕ → Type 0) (s : System) (a : ℕ) (script : List Instruction) (x : Holding) (o : Outcome) (new : State) → (is_panicked (phase_of new.spm a) ≡ false → AreHeld s new.spm a T x.table) → AreGiven x.table new.handles_given
    → is_vector_call (held_call (holder_of s a) script (held_arrived (holder_of s a) script x)) ≡ false → (b : Bool) → is_blocked_outcome o ≡ b
    → Follows s a T script (if b then x else held_after (holder_of s a) script o (held_arrived (holder_of s a) script x)) b new
other-follows T s a script x o new all given off true e = record { held = all; given = given; waits = λ z. off }
other-follows T s a script x o new all given off false e =
    let p : Holder = holder_of s a in
    let y : Holding = held_arrived p script x in
    let same : y.table ≡ (held_after p script o y).table = sym (after-table p script o y ∙ other-keeps p (slice_get script y.at.place) (held_call p script y) o y.table off) in
    record {
      held = λ alive. subst (AreHeld s new.spm a T) same (arrived-held T s new.spm a script x (all alive));
      given = subst (λ (t : List HeldMessage). AreGiven t new.handles_given) same (arrived-given s a script x new.handles_given given);
      waits = λ z. cc;
    }

-- what isn't refused wasn't mapped
holds-off : (t : List HeldMessage) (h : Handle) (index : ℕ) (fact : HeldMessage → Bool) (x : HeldMessage) → holds t h index fact ≡ false → nat_lt index 4 ≡ true → held t h ≡ Some x → fact x ≡ false
holds-off t h index fact x e few at = sym (ap₂ (λ (b : Bool) (o : Option HeldMessage). b && option_map_or fact o false) few at) ∙ e

unmapped-moved : (p : Holder) (T : ℕ → ℕ → Type 0) (x : HeldMessage) (m : PendingMessage) (index i len : ℕ) → i ≡ index → is_mapped (vector_at x.output index).state ≡ true → Fits p T x m
    → (get_or (output_moved m index len).output i no_span).moved ≡ len
unmapped-moved p T x m index i len same maps fits =
    let size : nat_lt 0 (vector_at x.output index).size ≡ true = (fits.large index (mapped-is (vector_at x.output index).state maps)).1 in
    let more : 0 < (vector_at x.output index).size = grind (arith, nat_tests) in
    let there : index < length m.vectors.output = large-there m.vectors.output index (λ none. omega (arith, more, fits.output index, none)) in
    let moved : (output_at m index).moved ≡ 0 = fits.unwritten index (mapped-unwritten (vector_at x.output index).state maps) in
    ap (λ (j : ℕ). (get_or (output_moved m index len).output j no_span).moved) same
    ∙ (ap (λ (v : Span). v.moved) (moved-here m.vectors.output (moved_by (output_at m index) len) index there) ∙ omega (arith, moved))

vector-after : (T : Handle → ℕ → ℕ → Type 0) (s : System) (st new : State) (a : ℕ) (script : List Instruction) (x : Holding) (o : Outcome) (c : Call) → kind_of s a ≡ kind.Partition → Balanced s (times st.handles_given) st.spm → AreWaiting st.spm.messages
    → AreHeld s st.spm a T x.table → AreGiven x.table st.handles_given → is_vector_call c ≡ true → held_call (holder_of s a) script x ≡ c
    → ((operands : List Operand) (h : Handle) (index buffer len : ℕ) → slice_get script x.at.place ≡ Some (line.Map UnmapOut operands) → c ≡ call.Write h index buffer len → T h index len) → Own s st new a c o
    → After s a T (table_noted (holder_of s a) (slice_get script x.at.place) c o x.table) o new
vector-after T s st new a script x o (call.Get signal msg) partition balanced waiting all given on is now own =
    subst (λ (t : List HeldMessage). After s a T t o new) (sym (noted-get (holder_of s a) (slice_get script x.at.place) signal msg o x.table))
    (get-after T s st new a signal msg o x.table partition balanced waiting (λ v found. service-owned s a signal v found) all given own)
vector-after T s st new a script x o (call.Read h index buffer len) partition balanced waiting all given on is now own =
    read-noted (holder_of s a) (slice_get script x.at.place) h index buffer len o x.table (λ (t : List HeldMessage). After s a T t o new)
    (read-after T s st new a h index buffer len o x.table (touched index) (touched-input index) partition balanced all given own)
    (read-after T s st new a h index buffer len o x.table (with_state mapped index) (mapped-input index) partition balanced all given own)
vector-after T s st new a script x o (call.Skip h index len) partition balanced waiting all given on is now own =
    subst (λ (t : List HeldMessage). After s a T t o new) (sym (skip-noted (holder_of s a) (slice_get script x.at.place) h index len o x.table))
    (skip-after T s st new a h index len o x.table (touched index) (touched-input index) partition balanced all given own)
vector-after T s st new a script x o (call.Write h index buffer len) partition balanced waiting all given on is now own =
    write-noted (holder_of s a) script x h index buffer len o (λ (t : List HeldMessage). After s a T t o new) is
    (λ off. write-after T s st new a h index buffer len o x.table (touched index)
    (λ y few at. touched-output index y.output (holds-off x.table h index (λ m. is_or_was_mapped (vector_at m.output index).state) y off few at))
    (λ y m few at fits i same e. absurd (touched-apart index y.output i (holds-off x.table h index (λ m. is_or_was_mapped (vector_at m.output index).state) y off few at) e same)) partition balanced all given own)
    (λ operands line can.
    let maps : (y : HeldMessage) → held x.table h ≡ Some y → is_mapped (vector_at y.output index).state ≡ true =
    λ y at. (and_parts (is_mapped (vector_at y.output index).state) (nat_le len (vector_at y.output index).size) (holds-at x.table h index (λ m. is_mapped (vector_at m.output index).state && nat_le len (vector_at m.output index).size) y can at)).0 in
    write-after T s st new a h index buffer len o x.table (with_state unmapped index) (λ y few at. unmapped-output index y.output (maps y at))
    (λ y m few at fits i same e. (len, subst (λ (j : ℕ). T h j len) (sym same) (now operands h index buffer len line refl), unmapped-moved (holder_of s a) (T h) y m index i len same (maps y at) fits)) partition balanced all given own)
vector-after T s st new a script x o (call.Reply h status) partition balanced waiting all given on is now own =
    subst (λ (t : List HeldMessage). After s a T t o new) (sym (noted-reply (holder_of s a) (slice_get script x.at.place) h status o x.table))
    (reply-after T s st new a h status o x.table partition balanced all given own)
vector-after T s st new a script x o _ partition balanced waiting all given on is now own = cc

vector-follows : (T : Handle → ℕ → ℕ → Type 0) (s : System) (a : ℕ) (script : List Instruction) (x : Holding) (o : Outcome) (new : State)
    → After s a T (table_noted (holder_of s a) (slice_get script (held_arrived (holder_of s a) script x).at.place) (held_call (holder_of s a) script (held_arrived (holder_of s a) script x)) o (held_arrived (holder_of s a) script x).table) o new
    → (b : Bool) → is_blocked_outcome o ≡ b → Follows s a T script (if b then x else held_after (holder_of s a) script o (held_arrived (holder_of s a) script x)) b new
vector-follows T s a script x o new behind true e = let bad : true ≡ false = sym e ∙ behind.ends in cc
vector-follows T s a script x o new behind false e =
    let p : Holder = holder_of s a in
    let y : Holding = held_arrived p script x in
    let same = sym (after-table p script o y) in
    record {
      held = λ alive. subst (AreHeld s new.spm a T) same (behind.held alive);
      given = subst (λ (t : List HeldMessage). AreGiven t new.handles_given) same behind.given;
      waits = λ z. cc;
    }

-- what its own event makes of the engine's state
record OwnEvent (s : System) (a : ℕ) (st new : State) (e : Entry) : Type 0 where
  partition : kind_of s a ≡ kind.Partition
  balanced : Balanced s (times st.handles_given) st.spm
  waiting : AreWaiting st.spm.messages
  is_step : step s st e ≡ Some new
  mine : e.actor.0 ≡ a
  grown : (k : Handle) → times st.handles_given k ≤ times new.handles_given k

quiet-held : (T : Handle → ℕ → ℕ → Type 0) (s : System) (a : ℕ) (st new : State) (e : Entry) (t : List HeldMessage) → OwnEvent s a st new e → is_vector_call e.call ≡ false → (is_panicked (phase_of st.spm a) ≡ false → AreHeld s st.spm a T t)
    → is_panicked (phase_of new.spm a) ≡ false → AreHeld s new.spm a T t
quiet-held T s a st new e t event off all alive =
    let own = own-step s st new e a e.call event.is_step event.mine refl in
    let kept : IsKept s st.spm a new.spm =
    subst (λ (y : State). IsKept s st.spm a y.spm) own.state
    (effect-changes s st a e.call (handle_shown e.outcome) (IsKept s st.spm a) (own-kept s (times st.handles_given) st.spm a e.call event.balanced off) own.may) in
    still-held T s st.spm new.spm a t (kept alive) (all (may-alive s st.spm a e.call own.may))

own-by : (T : Handle → ℕ → ℕ → Type 0) (s : System) (a : ℕ) (script : List Instruction) (x : Holding) (st new : State) (e : Entry) (blocked quiet : Bool) → OwnEvent s a st new e → Follows s a T script x blocked st
    → e.call ≡ (if blocked then call.Resume else held_call (holder_of s a) script (held_arrived (holder_of s a) script x)) → is_vector_call e.call ≡ quiet
    → ((operands : List Operand) (h : Handle) (index buffer len : ℕ) → slice_get script (held_arrived (holder_of s a) script x).at.place ≡ Some (line.Map UnmapOut operands) → e.call ≡ call.Write h index buffer len → T h index len)
    → Follows s a T script (if is_blocked_outcome e.outcome then x else held_after (holder_of s a) script e.outcome (held_arrived (holder_of s a) script x)) (is_blocked_outcome e.outcome) new
own-by T s a script x st new e true quiet event old is q now =
    other-follows T s a script x e.outcome new (quiet-held T s a st new e x.table event (ap is_vector_call is) old.held) (λ k. omega (arith, old.given k, event.grown k)) (old.waits refl) (is_blocked_outcome e.outcome) refl
own-by T s a script x st new e false false event old is q now =
    other-follows T s a script x e.outcome new (quiet-held T s a st new e x.table event q old.held) (λ k. omega (arith, old.given k, event.grown k)) (ap is_vector_call (sym is) ∙ q) (is_blocked_outcome e.outcome) refl
own-by T s a script x st new e false true event old is q now =
    let p : Holder = holder_of s a in
    let y : Holding = held_arrived p script x in
    let own = own-step s st new e a (held_call p script y) event.is_step event.mine is in
    let all : AreHeld s st.spm a T y.table = arrived-held T s st.spm a script x (old.held (may-alive s st.spm a (held_call p script y) own.may)) in
    vector-follows T s a script x e.outcome new
    (vector-after T s st new a script y e.outcome (held_call p script y) event.partition event.balanced event.waiting all (arrived-given s a script x st.handles_given old.given) (ap is_vector_call (sym is) ∙ q) refl (λ operands h index buffer len line write. now operands h index buffer len line (is ∙ write)) own)
    (is_blocked_outcome e.outcome) refl

-- ---- each step

others-follow : (T : Handle → ℕ → ℕ → Type 0) (s : System) (a : ℕ) (script : List Instruction) (x : Holding) (blocked : Bool) (st new : State) → IsKept s st.spm a new.spm → (is_panicked (phase_of new.spm a) ≡ false → is_panicked (phase_of st.spm a) ≡ false)
    → ((k : Handle) → times st.handles_given k ≤ times new.handles_given k) → Follows s a T script x blocked st → Follows s a T script x blocked new
others-follow T s a script x blocked st new kept alive grown old = record {
  held = λ now. still-held T s st.spm new.spm a x.table (kept now) (old.held (alive now));
  given = λ k. omega (arith, old.given k, grown k);
  waits = old.waits;
}

step-kept : (s : System) (a : ℕ) (script : List Instruction) → a < length s.partitions → (es : List Entry) (st new : State) (e : Entry) → Kept s a script es st → step s st e ≡ Some new → Kept s a script (es ++ e ∷ []) new
step-kept s a script inside es st new e r h =
    let limit : Handle → ℕ = times st.handles_given in
    let T : Handle → ℕ → ℕ → Type 0 = unmapped_in s a script (es ++ e ∷ []) in
    let it = step-is s st new e h in
    let turned = step-kind s st new e (λ o spm given. Turns e.actor.0 st.spm spm o) (kinds-turn s st.spm st.handles_given e.actor.0 e.call r.balanced (r.sound e.actor.0)) h in
    let turns : Turns e.actor.0 st.spm new.spm turned.0 = turned.2 in
    let grown : (k : Handle) → times st.handles_given k ≤ times new.handles_given k = step-grows s st new e h in
    record {
      balanced = step-keeps s st new e r.balanced h;
      sound = turns-sound st.spm new.spm e.actor.0 turned.0 turns r.sound;
      waiting = subst (λ (y : State). AreWaiting y.spm.messages) it.state
          (effect-changes s st e.actor.0 e.call (handle_shown e.outcome) (λ b. AreWaiting b.messages) (waiting-kept s limit st.spm e.actor.0 e.call r.balanced r.waiting) it.may);
      follows = λ run. same_or_not a e.actor.0 (FollowsAt s a (unmapped_in s a script (es ++ e ∷ [])) script (outcomes_of (entries_of a (es ++ e ∷ []))) new)
          (λ k.
          let mine : (e.actor.0 == a) ≡ true = ap (λ (x : ℕ). e.actor.0 == x) k ∙ is_itself e.actor.0 in
          let pushed = entries_of-own a es e mine in
          let plan = held_plan (holder_of s a) script in
          let os : List Outcome = outcomes_of (entries_of a es) in
          let x : Holding = standing s a script os in
          let back = runs-back plan [] (entries_of a es) e (subst (PlanRun plan) pushed run) in
          let old = follows-more (unmapped_in s a script es) T s a script x (ends_blocked os) st (was-more s a script es e) (r.follows back.0) in
          let is = back.1 ∙ plan-call (held_engine (holder_of s a) script) holding_none os (ends_blocked os) refl in
          let event : OwnEvent s a st new e = record { partition = is-partition s a inside; balanced = r.balanced; waiting = r.waiting; is_step = h; mine = sym k; grown = grown } in
          let next = own-by T s a script x st new e (ends_blocked os) (is_vector_call e.call) event old is refl (λ operands j index buffer len line write. record { earlier = es; entry = e; later = []; operands = operands; buffer = buffer; place = refl; own = sym k; is_line = line; is_write = write }) in
          let at : FollowsAt s a T script (os ++ e.outcome ∷ []) new =
          subst (λ (b : Bool). Follows s a T script (standing s a script (os ++ e.outcome ∷ [])) b new) (sym (ends_blocked-push os e.outcome))
          (subst (λ (y : Holding). Follows s a T script y (is_blocked_outcome e.outcome) new) (sym (engine_after-push (held_engine (holder_of s a) script) holding_none os e.outcome)) next) in
          subst (λ (l : List Outcome). FollowsAt s a T script l new) (sym (ap outcomes_of pushed ∙ outcomes_of-push (entries_of a es) e)) at)
          (λ k.
          let same = entries_of-other a es e (flipped a e.actor.0 k) in
          let old = follows-more (unmapped_in s a script es) T s a script _ _ st (was-more s a script es e) (r.follows (subst (PlanRun (held_plan (holder_of s a) script)) same run)) in
          let apart : e.actor.0 ≡ a → ⊥ = λ z. let yes : (a == e.actor.0) ≡ true = ap (λ (y : ℕ). a == y) z ∙ is_itself a in cc in
          let kept : IsKept s st.spm a new.spm =
          subst (λ (y : State). IsKept s st.spm a y.spm) it.state
          (effect-changes s st e.actor.0 e.call (handle_shown e.outcome) (IsKept s st.spm a) (others-kept s limit st.spm e.actor.0 a e.call r.balanced apart (λ v signal found. service-owned s e.actor.0 signal v found)) it.may) in
          subst (λ (l : List Entry). FollowsAt s a T script (outcomes_of l) new) (sym same)
          (others-follow T s a script _ _ st new kept (turned-alive _ _ (turns.others a k)) grown old));
    }

start-follows : (s : System) (a : ℕ) (script : List Instruction) (m : ByteMap) → FollowsAt s a (unmapped_in s a script []) script [] (opening s m)
unfolding engine_after ends_blocked
start-follows s a script m = record { held = λ alive k x e. cc; given = λ k. omega arith; waits = λ z. cc }

pub run-kept : (s : System) (a : ℕ) (script : List Instruction) (m : ByteMap) (es : List Entry) (st : State) → a < length s.partitions → after s m es ≡ Some st → Kept s a script es st
run-kept s a script m es st inside run =
    run-has s m (Kept s a script)
    (record { balanced = opening-balanced s; sound = λ x. open-phase is_sound true refl refl (actor_count s) x; waiting = tt; follows = λ r. start-follows s a script m })
    (λ xs x new e. step-kept s a script inside xs x new e) es st run
