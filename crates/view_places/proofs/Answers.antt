-- The answer of the machine to a call: the only one but for its handle.
use Rattle.std.proofs.Common.{ℕ, ℤ, pos, ◌≡◌, ◌⊎◌, inl, inr, Bool, true, false, List, refl, ap, sym, ◌∙◌}
use Rattle.std.specs.Prelude.{Option, Some, None, IsSome, is_none, is_some, ◌&&◌, ◌||◌, ◌==◌, not, if◌then◌else◌}
use Rattle.std.specs.Ordering.{int_eq}
use Rattle.std.specs.Str.{bytes_eq}
use Rattle.std.proofs.lemmas.Bool.{and_parts, eqb-true, false_from_ne_true}
use Rattle.std.proofs.lemmas.Bool.Decides.{Decides-int_eq}
use Rattle.std.proofs.lemmas.Slice.Eq.{bytes_eq-Decides}
use Rattle.ffm_model.specs.declared.system.System.{System}
use Rattle.ffm_model.specs.declared.system.ActorKind.{ActorKind}
use Rattle.ffm_model.specs.declared.system.ActorKind.TheVariants.{Partition, Client, Device}
use Rattle.ffm_model.specs.declared.machine.Call.{Call}
use Rattle.ffm_model.specs.declared.machine.Call.TheVariants as call
use Rattle.ffm_model.specs.declared.machine.Entry.{Entry}
use Rattle.ffm_model.specs.declared.machine.Handle.{Handle}
use Rattle.ffm_model.specs.declared.machine.Message.{Message}
use Rattle.ffm_model.specs.declared.machine.Outcome.{Outcome}
use Rattle.ffm_model.specs.declared.machine.Outcome.TheVariants.{Value, Number, Signals, Got, Blocked, Done, Panicked}
use Rattle.ffm_model.specs.declared.objects.ActorPhase.{ActorPhase}
use Rattle.ffm_model.specs.declared.objects.ActorPhase.TheVariants as phase
use Rattle.ffm_model.specs.Actors.{kind_of}
use Rattle.ffm_model.specs.State.{State, phase_of, fresh, handle_eq}
use Rattle.ffm_model.specs.ClientCalls.{Effect, returned}
use Rattle.ffm_model.specs.Calls.{effect_of, effect_or_error, has_call, call_case, programmer_error}
use Rattle.ffm_model.specs.Step.{step, may_call, gives_handle, handle_allowed, handle_shown, message_eq, outcome_eq}
use Rattle.ffm_model.proofs.StepLemmas.{Fits, step-fits}
use Rattle.machine_check.specs.Performed.{gave_handle}
use Rattle.machine_check.proofs.Allowed.{error_gives_none, get_cases}
use Rattle.machine_check.proofs.Followed.{there}
use Rattle.view_places.specs.Why.{IsAnswer, IsStepWith, HasNoHandle, gives, with_handle}

-- ---- the outcome of a call under each handle

abbrev zero_handle : Handle
zero_handle = record { 0 = pos 0 }

-- the handle is of no account
record IsFixed (p : ActorPhase) (c : Call) (g : Bool) (due : Handle → Effect) : Type 0 where
  giving : g ≡ false
  same : (h k : Handle) → due h ≡ due k
  gave : (h : Handle) → gave_handle p c (due h).outcome ≡ false

-- the outcome shows the handle, and is the same but for it
record IsNamed (p : ActorPhase) (c : Call) (g : Bool) (due : Handle → Effect) : Type 0 where
  giving : g ≡ true
  like : (h k : Handle) → (due h).outcome ≡ with_handle h (due k).outcome
  shown : (h : Handle) → handle_shown (due h).outcome ≡ h
  gave : (h : Handle) → gave_handle p c (due h).outcome ≡ true

abbrev Shape : ActorPhase → Call → Bool → (Handle → Effect) → Type 0
Shape p c g due = IsFixed p c g due ⊎ IsNamed p c g due

-- of psa_get
by_get : (s : System) (st : State) (a signal msg : ℕ) (p : ActorPhase) (k : ActorKind)
    → Shape p (call.Get signal msg) (not (is_none (if has_call k (call.Get signal msg) then call_case s st a (call.Get signal msg) zero_handle else None)))
    (λ h. effect_or_error (if has_call k (call.Get signal msg) then call_case s st a (call.Get signal msg) h else None) k s st a (call.Get signal msg))
by_get s st a signal msg p k =
    get_cases s st a signal msg k (λ due. Shape p (call.Get signal msg) (not (is_none (due zero_handle))) (λ h. effect_or_error (due h) k s st a (call.Get signal msg)))
    (inl (record { giving = refl; same = λ h j. refl; gave = λ h. error_gives_none s st a signal msg p k }))
    (λ i m. inr (record { giving = refl; like = λ h j. refl; shown = λ h. refl; gave = λ h. refl }))

-- of a return
by_return : (s : System) (st : State) (a : ℕ) (k : ActorKind) (p : ActorPhase)
    → Shape p call.Resume (gives_handle p call.Resume && not (is_none (if has_call k call.Resume then Some (returned s st a p zero_handle) else None)))
    (λ h. effect_or_error (if has_call k call.Resume then Some (returned s st a p h) else None) k s st a call.Resume)
by_return s st a Partition (phase.Connected c) = inr (record { giving = refl; like = λ h k. refl; shown = λ h. refl; gave = λ h. refl })
by_return s st a Client (phase.Connected c) = inr (record { giving = refl; like = λ h k. refl; shown = λ h. refl; gave = λ h. refl })
by_return s st a Device (phase.Connected c) = inr (record { giving = refl; like = λ h k. refl; shown = λ h. refl; gave = λ h. refl })
by_return s st a k p = inl (record { giving = refl; same = λ h k. refl; gave = λ h. refl })

shape : (s : System) (st : State) (a : ℕ) (c : Call) → Shape (phase_of st.spm a) c (gives_handle (phase_of st.spm a) c && not (programmer_error s st a c)) (λ h. effect_of s st a c h)
shape s st a (call.Get signal msg) = by_get s st a signal msg (phase_of st.spm a) (kind_of s a)
shape s st a call.Resume = by_return s st a (kind_of s a) (phase_of st.spm a)
shape s st a c = inl (record { giving = refl; same = λ h k. refl; gave = λ h. refl })

-- ---- outcomes that are the same

abbrev message_of : ℤ → ℤ → ℤ → ℕ → List ℕ → List ℕ → Message
message_of kind handle client rhandle inputs outputs = record { kind = kind; handle = record { 0 = handle }; client_id = client; rhandle = rhandle; in_size = inputs; out_size = outputs }

all_same : (k h c : ℤ) (r : ℕ) (i o : List ℕ) (k2 h2 c2 : ℤ) (r2 : ℕ) (i2 o2 : List ℕ) → k ≡ k2 → h ≡ h2 → c ≡ c2 → r ≡ r2 → i ≡ i2 → o ≡ o2 → message_of k h c r i o ≡ message_of k2 h2 c2 r2 i2 o2
all_same k h c r i o k2 h2 c2 r2 i2 o2 ek eh ec er ei eo = rw (ek, eh, ec, er, ei, eo) refl

same_message : (m n : Message) → message_eq m n ≡ true → m ≡ n
same_message m n e =
    let one = and_parts (int_eq m.kind n.kind) _ e in
    let two = and_parts (handle_eq m.handle n.handle) _ one.1 in
    let three = and_parts (int_eq m.client_id n.client_id) _ two.1 in
    let four = and_parts (m.rhandle == n.rhandle) _ three.1 in
    let five = and_parts (bytes_eq m.in_size n.in_size) (bytes_eq m.out_size n.out_size) four.1 in
    let kind : m.kind ≡ n.kind = (Decides-int_eq m.kind n.kind).0 one.0 in
    let handle : m.handle.0 ≡ n.handle.0 = (Decides-int_eq m.handle.0 n.handle.0).0 two.0 in
    let client : m.client_id ≡ n.client_id = (Decides-int_eq m.client_id n.client_id).0 three.0 in
    let rhandle : m.rhandle ≡ n.rhandle = eqb-true m.rhandle n.rhandle four.0 in
    let inputs : m.in_size ≡ n.in_size = (bytes_eq-Decides m.in_size n.in_size).0 five.0 in
    let outputs : m.out_size ≡ n.out_size = (bytes_eq-Decides m.out_size n.out_size).0 five.1 in
    all_same m.kind m.handle.0 m.client_id m.rhandle m.in_size m.out_size n.kind n.handle.0 n.client_id n.rhandle n.in_size n.out_size kind handle client rhandle inputs outputs

pub same_outcome : (o p : Outcome) → outcome_eq o p ≡ true → o ≡ p
same_outcome (Value z) (Value w) e = ap (λ x. Value x) ((Decides-int_eq z w).0 e)
same_outcome (Number n) (Number m) e = ap (λ x. Number x) (eqb-true n m e)
same_outcome (Signals n) (Signals m) e = ap (λ x. Signals x) (eqb-true n m e)
same_outcome (Got m) (Got n) e = ap (λ x. Got x) (same_message m n e)
same_outcome Blocked Blocked e = refl
same_outcome Done Done e = refl
same_outcome Panicked Panicked e = refl
same_outcome _ _ e = absurd cc

-- ---- a step

three_tests : (a b c : Bool) (x : State) → IsSome (if a && b && c then Some x else None) → (a ≡ true) × ((b ≡ true) × (c ≡ true))
three_tests true true true x h = (refl, (refl, refl))
three_tests true true false x h = absurd cc
three_tests true false c x h = absurd cc
three_tests false b c x h = absurd cc

pub fits_from : (s : System) (st : State) (e : Entry) → IsSome (step s st e) → Fits s st e
unfolding step
fits_from s st e h =
    let k = handle_shown e.outcome in
    let due = effect_of s st e.actor.0 e.call k in
    let tests = three_tests (may_call s st.spm e.actor.0 e.call) (handle_allowed s st e.actor.0 e.call k) (outcome_eq due.outcome e.outcome) due.state h in
    record { may = tests.0; allowed = tests.1.0; outcome = sym (same_outcome due.outcome e.outcome tests.1.1) }

pub step_from : (s : System) (st : State) (e : Entry) → Fits s st e → IsSome (step s st e)
step_from s st e f = there _ _ (step-fits s st e f)

-- the entry with another outcome
abbrev with_outcome : Entry → Outcome → Entry
with_outcome e o = record { actor = record { 0 = e.actor.0 }; call = e.call; outcome = o }

is_fresh : (p g f : Bool) → (p || (not g || f)) ≡ true → (g && not p) ≡ true → f ≡ true
is_fresh false true f h k = h
is_fresh true true f h k = absurd cc
is_fresh true false f h k = absurd cc
is_fresh false false f h k = absurd cc

fresh_allowed : (p g f : Bool) → f ≡ true → (p || (not g || f)) ≡ true
fresh_allowed true g f h = refl
fresh_allowed false true f h = h
fresh_allowed false false f h = refl

none_allowed : (p g f : Bool) → (g && not p) ≡ false → (p || (not g || f)) ≡ true
none_allowed true g f h = refl
none_allowed false true f h = absurd cc
none_allowed false false f h = refl

if_false : (b : Bool) (x y : Outcome) → b ≡ false → y ≡ (if b then x else y)
if_false b x y h = rw h refl

if_true : (b : Bool) (x y : Outcome) → b ≡ true → x ≡ (if b then x else y)
if_true b x y h = rw h refl

-- an outcome with which the entry is a step is the answer
pub the_answer : (s : System) (st : State) (e : Entry) (o : Outcome) → IsStepWith s st e o → IsAnswer s st e o
the_answer s st e o h = by_shape (shape s st e.actor.0 e.call) where
  p : Bool
  p = programmer_error s st e.actor.0 e.call

  g : Bool
  g = gives_handle (phase_of st.spm e.actor.0) e.call

  due : Handle → Effect
  due k = effect_of s st e.actor.0 e.call k

  fit : Fits s st (with_outcome e o)
  fit = fits_from s st (with_outcome e o) h

  by_shape : Shape (phase_of st.spm e.actor.0) e.call (g && not p) due → IsAnswer s st e o
  by_shape (inl fixed) = record {
    is_step = h;
    only = λ q other.
        let its = fits_from s st (with_outcome e q) other in
        its.outcome ∙ ap (λ x. x.outcome) (fixed.same (handle_shown q) (handle_shown o)) ∙ sym fit.outcome ∙ if_false (g && not p) (with_handle (handle_shown q) o) o fixed.giving;
    shows_fresh = λ giving. absurd (let none = fixed.giving in cc);
    any_fresh = λ giving k new. absurd (let none = fixed.giving in cc);
  }
  by_shape (inr named) = record {
    is_step = h;
    only = λ q other.
        let its = fits_from s st (with_outcome e q) other in
        its.outcome ∙ named.like (handle_shown q) (handle_shown o) ∙ ap (with_handle (handle_shown q)) (sym fit.outcome) ∙ if_true (g && not p) (with_handle (handle_shown q) o) o named.giving;
    shows_fresh = λ giving. is_fresh p g (fresh st (handle_shown o)) fit.allowed named.giving;
    any_fresh = λ giving k new.
        let same : (due k).outcome ≡ with_handle k o = named.like k (handle_shown o) ∙ ap (with_handle k) (sym fit.outcome) in
        let shown : handle_shown (with_handle k o) ≡ k = ap handle_shown (sym same) ∙ named.shown k in
        step_from s st (with_outcome e (with_handle k o)) (record {
          may = fit.may;
          allowed = fresh_allowed p g (fresh st (handle_shown (with_handle k o))) (ap (fresh st) shown ∙ new);
          outcome = sym same ∙ ap (λ x. (due x).outcome) (sym shown);
        });
  }

some_is_not_none : {X : Type 0} (o : Option X) → IsSome o → o ≡ None → ⊥
some_is_not_none o h e = let none : is_some o ≡ false = ap is_some e in absurd (cc)

-- where the call may be made and no outcome makes it a step, it would give a handle and none is fresh
pub no_handle : (s : System) (st : State) (e : Entry) → may_call s st.spm e.actor.0 e.call ≡ true → ((o : Outcome) → step s st (record { actor = record { 0 = e.actor.0 }; call = e.call; outcome = o }) ≡ None) → HasNoHandle s st e
no_handle s st e may none = by_shape (shape s st e.actor.0 e.call) where
  p : Bool
  p = programmer_error s st e.actor.0 e.call

  g : Bool
  g = gives_handle (phase_of st.spm e.actor.0) e.call

  due : Handle → Effect
  due k = effect_of s st e.actor.0 e.call k

  no_fit : (o : Outcome) → Fits s st (with_outcome e o) → ⊥
  no_fit o fit = some_is_not_none (step s st (with_outcome e o)) (step_from s st (with_outcome e o) fit) (none o)

  by_shape : Shape (phase_of st.spm e.actor.0) e.call (g && not p) due → HasNoHandle s st e
  by_shape (inl fixed) =
      let o : Outcome = (due zero_handle).outcome in
      absurd (no_fit o (record {
        may = may;
        allowed = none_allowed p g (fresh st (handle_shown o)) fixed.giving;
        outcome = ap (λ x. x.outcome) (fixed.same zero_handle (handle_shown o));
      }))
  by_shape (inr named) = record {
    may = may;
    giving = named.giving;
    none_fresh = λ k. false_from_ne_true (fresh st k) (λ new.
        let o : Outcome = (due k).outcome in
        no_fit o (record {
          may = may;
          allowed = fresh_allowed p g (fresh st (handle_shown o)) (ap (fresh st) (named.shown k) ∙ new);
          outcome = ap (λ x. (due x).outcome) (sym (named.shown k));
        }));
  }

-- whether the call gives a handle, by the answer
pub gives_by : (s : System) (st : State) (e : Entry) (o : Outcome) → IsStepWith s st e o → gives s st e ≡ gave_handle (phase_of st.spm e.actor.0) e.call o
gives_by s st e o h = by_shape (shape s st e.actor.0 e.call) where
  due : Handle → Effect
  due k = effect_of s st e.actor.0 e.call k

  is_due : o ≡ (due (handle_shown o)).outcome
  is_due = (fits_from s st (with_outcome e o) h).outcome

  by_shape : Shape (phase_of st.spm e.actor.0) e.call (gives s st e) due → gives s st e ≡ gave_handle (phase_of st.spm e.actor.0) e.call o
  by_shape (inl fixed) = fixed.giving ∙ sym (fixed.gave (handle_shown o)) ∙ ap (gave_handle (phase_of st.spm e.actor.0) e.call) (sym is_due)
  by_shape (inr named) = named.giving ∙ sym (named.gave (handle_shown o)) ∙ ap (gave_handle (phase_of st.spm e.actor.0) e.call) (sym is_due)
