-- What the machine answers to a call, by what the call makes of the state that is kept.
use Rattle.std.proofs.Common.{ℕ, ℤ, pos, negsuc, ◌≡◌, ◌<◌, ◌≤◌, ◌+◌, ◌⊎◌, inl, inr, ⊎_elim, Bool, true, false, List, refl, ap, sym, subst, arith, ◌∙◌}
use Rattle.std.specs.Prelude.{Option, Some, None, MatchOption, Ok, is_some, int_le, ◌&&◌, ◌||◌, not, if◌then◌else◌}
use Rattle.std.specs.Option.{unwrap_or}
use Rattle.std.specs.BTreeSet.{BTreeSet, contains}
use Rattle.std.specs.Ordering.{int_cmp}
use Rattle.std.proofs.lemmas.Bool.{cases_eq}
use Rattle.std.proofs.lemmas.Bool.Decides.{nat_tests}
use Rattle.ffm_model.specs.declared.system.System.{System}
use Rattle.ffm_model.specs.declared.system.ActorKind.{ActorKind}
use Rattle.ffm_model.specs.declared.system.ActorKind.TheVariants.{Partition, Client, Device}
use Rattle.ffm_model.specs.declared.machine.Call.{Call}
use Rattle.ffm_model.specs.declared.machine.Call.TheVariants as call
use Rattle.ffm_model.specs.declared.machine.Handle.{Handle}
use Rattle.ffm_model.specs.declared.machine.Outcome.{Outcome}
use Rattle.ffm_model.specs.declared.objects.ActorPhase.{ActorPhase}
use Rattle.ffm_model.specs.declared.objects.ActorPhase.TheVariants as phase
use Rattle.ffm_model.specs.Actors.{kind_of}
use Rattle.ffm_model.specs.State.{State, phase_of, fresh}
use Rattle.ffm_model.specs.ClientCalls.{Effect, effect, returned}
use Rattle.ffm_model.specs.ServiceCalls.{get_of}
use Rattle.ffm_model.specs.Calls.{effect_of, effect_or_error, has_call, call_case, programmer_error}
use Rattle.ffm_model.specs.Step.{may_call, gives_handle, handle_allowed, handle_shown}
use Rattle.ffm_model.proofs.StepLemmas.{step-effect}
use Rattle.machine_calls.specs.declared.machine.Machine.{Machine}
use Rattle.machine_calls.specs.Machine.{spm_of_objects, state_of}
use Rattle.machine_check.specs.Performed.{gave_handle, given_after, is_left, phase_in, Knows, Performs}
use Rattle.machine_check.specs.Reaching.{IsDue}
use Rattle.machine_check.proofs.Allowed.{allowed_gave, error_gives_none, get_cases}
use Rattle.machine_check.proofs.Followed.{there}
use Rattle.machine_check.proofs.Steps.{left_fresh, none_by_handle, not_given}

-- ---- the handle that an outcome shows

-- the effect is the same under the handle that its outcome shows, and where the call gave a handle, the outcome shows that one
abbrev Shows : System → State → State → ℕ → Call → ActorPhase → ActorKind → (Handle → Option Effect) → Handle → Outcome → Type 0
Shows s st new a c p k due h o = (effect_or_error (due (handle_shown o)) k s st a c ≡ effect o new) × ((gave_handle p c o ≡ false) ⊎ (handle_shown o ≡ h))

by_get : (s : System) (st new : State) (a signal msg : ℕ) (h : Handle) (o : Outcome) (p : ActorPhase) (k : ActorKind)
    → effect_or_error (if has_call k (call.Get signal msg) then call_case s st a (call.Get signal msg) h else None) k s st a (call.Get signal msg) ≡ effect o new
    → Shows s st new a (call.Get signal msg) p k (λ j. if has_call k (call.Get signal msg) then call_case s st a (call.Get signal msg) j else None) h o
by_get s st new a signal msg h o p k e =
    get_cases s st a signal msg k (λ due. effect_or_error (due h) k s st a (call.Get signal msg) ≡ effect o new → Shows s st new a (call.Get signal msg) p k due h o)
    (λ is. (is, inl (sym (ap (λ x. gave_handle p (call.Get signal msg) x.outcome) is) ∙ error_gives_none s st a signal msg p k)))
    (λ i m is. let shown : handle_shown o ≡ h = sym (ap (λ x. handle_shown x.outcome) is) in (subst (λ (j : Handle). get_of s st i msg j m ≡ effect o new) (sym shown) is, inr shown)) e

-- the return of psa_connect
by_connected : (s : System) (st new : State) (a c : ℕ) (h : Handle) (o : Outcome) → returned s st a (phase.Connected c) h ≡ effect o new
    → (returned s st a (phase.Connected c) (handle_shown o) ≡ effect o new) × (handle_shown o ≡ h)
by_connected s st new a c h o e =
    let shown : handle_shown o ≡ h = sym (ap (λ x. handle_shown x.outcome) e) in
    (subst (λ (k : Handle). returned s st a (phase.Connected c) k ≡ effect o new) (sym shown) e, shown)

by_return : (s : System) (st new : State) (a : ℕ) (h : Handle) (o : Outcome) (p : ActorPhase) (k : ActorKind)
    → effect_or_error (if has_call k call.Resume then Some (returned s st a p h) else None) k s st a call.Resume ≡ effect o new
    → Shows s st new a call.Resume p k (λ j. if has_call k call.Resume then Some (returned s st a p j) else None) h o
by_return s st new a h o (phase.Connected c) Partition e = let it = by_connected s st new a c h o e in (it.0, inr it.1)
by_return s st new a h o (phase.Connected c) Client e = let it = by_connected s st new a c h o e in (it.0, inr it.1)
by_return s st new a h o (phase.Connected c) Device e = let it = by_connected s st new a c h o e in (it.0, inr it.1)
by_return s st new a h o p k e = (e, inl refl)

shows : (s : System) (st new : State) (a : ℕ) (c : Call) (h : Handle) (o : Outcome) → effect_of s st a c h ≡ effect o new
    → (effect_of s st a c (handle_shown o) ≡ effect o new) × ((gave_handle (phase_of st.spm a) c o ≡ false) ⊎ (handle_shown o ≡ h))
shows s st new a (call.Get signal msg) h o e = by_get s st new a signal msg h o (phase_of st.spm a) (kind_of s a) e
shows s st new a call.Resume h o e = by_return s st new a h o (phase_of st.spm a) (kind_of s a) e
shows s st new a c h o e = (e, inl refl)

-- ---- a step

fresh_handle : (b f : Bool) → (b ≡ true → f ≡ true) → (not b || f) ≡ true
fresh_handle true f h = h refl
fresh_handle false f h = refl

-- with the outcome that is due the call is a step, where a handle that it gives is a fresh one
due_is_step : (s : System) (m n : Machine) (all : List Handle) (a : ℕ) (c : Call) (h : Handle) (o : Outcome) → may_call s (spm_of_objects m.objects) a c ≡ true
    → Performs s a c h m (Ok o) n → (gave_handle (phase_in m a) c o ≡ true → fresh (state_of m all) h ≡ true) → IsDue s (state_of m all) a c (Some o)
due_is_step s m n all a c h o may performs new =
    let st = state_of m all in
    let left : State = state_of n (given_after (gave_handle (phase_in m a) c o) all h) in
    let it = shows s st left a c h o (performs all) in
    let allowed : handle_allowed s st a c (handle_shown o) ≡ (not (gave_handle (phase_of st.spm a) c o) || fresh st (handle_shown o)) = allowed_gave s st left a c (handle_shown o) o it.0 in
    let right : (not (gave_handle (phase_of st.spm a) c o) || fresh st (handle_shown o)) ≡ true =
    ⊎_elim (λ (none : gave_handle (phase_of st.spm a) c o ≡ false). not_given _ _ none)
    (λ (same : handle_shown o ≡ h). fresh_handle _ _ (λ gave. ap (fresh st) same ∙ new gave)) it.1 in
    there _ left (step-effect s st left a c o may (allowed ∙ right) it.0)

-- ---- no step

none_allowed : (p g f k : Bool) → (p || (not g || f)) ≡ false → k ≡ false → (p || (not g || k)) ≡ false
none_allowed true g f k h e = absurd cc
none_allowed false true f k h e = e
none_allowed false false f k h e = absurd cc

gave_it : (b f : Bool) → b ≡ true → f ≡ false → (not b || f) ≡ false
gave_it b f h e = rw (h, e) refl

-- the call gives a handle, and none is fresh
none_left : (s : System) (m n : Machine) (all : List Handle) (a : ℕ) (c : Call) (h : Handle) (o : Outcome) → Performs s a c h m (Ok o) n
    → gave_handle (phase_in m a) c o ≡ true → ((k : Handle) → fresh (state_of m all) k ≡ false) → IsDue s (state_of m all) a c None
none_left s m n all a c h o performs gave none = λ told.
    let st = state_of m all in
    let left : State = state_of n (given_after (gave_handle (phase_in m a) c o) all h) in
    let at_h : handle_allowed s st a c h ≡ false = allowed_gave s st left a c h o (performs all) ∙ gave_it _ _ gave (none h) in
    none_by_handle s st (record { actor = record { 0 = a }; call = c; outcome = told })
    (none_allowed (programmer_error s st a c) (gives_handle (phase_of st.spm a) c) (fresh st h) (fresh st (handle_shown told)) at_h (none (handle_shown told)))

-- ---- the handles that are left

left_by : (a b m : Bool) → (a ≡ true → b ≡ true → m ≡ true) → (a && b && not m) ≡ false
left_by true true m h = rw (h refl refl) refl
left_by true false m h = refl
left_by false b m h = refl

-- all numbers that a handle may have are given
pub none_is_left : (set : BTreeSet ℤ) (n : ℕ) → 0x40000000 ≤ n → ((k : ℕ) → 0 < k → k < n → contains int_cmp set (pos k) ≡ true) → (h : Handle) → is_left set h ≡ false
none_is_left set n last has h = by_number h.0 where
  by_number : (z : ℤ) → (int_le (pos 1) z && int_le z (pos 0x3fffffff) && not (contains int_cmp set z)) ≡ false
  by_number (pos k) = left_by (int_le (pos 1) (pos k)) (int_le (pos k) (pos 0x3fffffff)) (contains int_cmp set (pos k)) (λ from to. has k (grind (arith, nat_tests)) (grind (arith, nat_tests)))
  by_number (negsuc k) = refl

-- one number more is given
pub more_given : (set : BTreeSet ℤ) (n : ℕ) → ((k : ℕ) → 0 < k → k < n → contains int_cmp set (pos k) ≡ true) → contains int_cmp set (pos n) ≡ true
    → (k : ℕ) → 0 < k → k < n + 1 → contains int_cmp set (pos k) ≡ true
more_given set n has here k some below =
    ⊎_elim (λ (same : k ≡ n). subst (λ i. contains int_cmp set (pos i) ≡ true) (sym same) here) (λ (other : k ≡ n → ⊥). has k some (omega arith)) (cases_eq k n)

-- ---- with the handle that is left, or with none

pub due_with : (s : System) (m n : Machine) (set : BTreeSet ℤ) (all : List Handle) (a : ℕ) (c : Call) (left : Option Handle) (none : Handle) (o : Outcome) → Knows set all → may_call s (spm_of_objects m.objects) a c ≡ true
    → MatchOption left ((h : Handle) → is_left set h ≡ false) (λ h. is_left set h ≡ true) → Performs s a c (unwrap_or left none) m (Ok o) n → (is_some left ≡ false → gave_handle (phase_in m a) c o ≡ false) → IsDue s (state_of m all) a c (Some o)
due_with s m n set all a c (Some h) none o knows may found performs gives = due_is_step s m n all a c h o may performs (λ gave. sym (left_fresh (state_of m all) set h knows) ∙ found)
due_with s m n set all a c None none o knows may found performs gives =
    due_is_step s m n all a c none o may performs (λ gave. let not_given : gave_handle (phase_in m a) c o ≡ false = gives refl in absurd cc)

pub due_without : (s : System) (m n : Machine) (set : BTreeSet ℤ) (all : List Handle) (a : ℕ) (c : Call) (left : Option Handle) (h : Handle) (o : Outcome) → Knows set all
    → MatchOption left ((k : Handle) → is_left set k ≡ false) (λ k. is_left set k ≡ true) → is_some left ≡ false → Performs s a c h m (Ok o) n → gave_handle (phase_in m a) c o ≡ true → IsDue s (state_of m all) a c None
due_without s m n set all a c None h o knows none is performs gave = none_left s m n all a c h o performs gave (λ k. sym (left_fresh (state_of m all) set k knows) ∙ none k)
due_without s m n set all a c (Some k) h o knows none is performs gave = absurd cc
