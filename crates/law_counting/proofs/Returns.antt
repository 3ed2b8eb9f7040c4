-- In a run an actor's last entry is Blocked exactly where a call of it waits for its return, or where it panicked for another's reply.
use Rattle.std.proofs.Common.{ℕ, zero, suc, ◌≡◌, ◌==◌, Bool, true, false, not, ◌&&◌, ◌||◌, List, [], ◌∷◌, ◌++◌, get_or, inl, inr, arith, ◌∙◌, ap, sym, refl, subst}
use Rattle.std.specs.Prelude.{Some, replicate}
use Rattle.ffm_model.proofs.RecordLemmas.{ends_blocked-nil, ends_blocked-push, entries_of-own, entries_of-other, outcomes_of-push}
use Rattle.ffm_model.specs.declared.system.System.{System}
use Rattle.ffm_model.specs.declared.machine.Entry.{Entry}
use Rattle.ffm_model.specs.declared.machine.Outcome.{Outcome}
use Rattle.ffm_model.specs.declared.machine.Outcome.TheVariants as outcome
use Rattle.ffm_model.specs.declared.objects.ActorPhase.{ActorPhase}
use Rattle.ffm_model.specs.declared.objects.ActorPhase.TheVariants.{Running, Blocked, Ready, Connected, Ended, Panicked}
use Rattle.ffm_model.specs.Actors.{actor_count}
use Rattle.ffm_model.specs.Memory.{ByteMap}
use Rattle.ffm_model.specs.State.{State, opening, phase_of, SpmState}
use Rattle.ffm_model.specs.Signals.{can_go_on, is_panicked, may_resume, signals_of}
use Rattle.ffm_model.specs.Records.{entries_of, outcomes_of, is_blocked_outcome, ends_blocked}
use Rattle.ffm_model.specs.Step.{step, after, outcome_eq}
use Rattle.law_counting.specs.Pending.{ReturnsDue, is_pending, is_panicked_outcome, ends_panicked, answers_to}
use Rattle.law_counting.proofs.Balance.{Balanced}
use Rattle.law_counting.proofs.Parts.{same_or_not, is_itself}
use Rattle.law_counting.proofs.Resume.{times}
use Rattle.law_counting.proofs.Steps.{step-kind}
use Rattle.law_counting.proofs.Runs.{step-keeps, run-has, opening-balanced}
use Rattle.law_counting.proofs.Turns.{Turned, Turns, is_told, is_sound, goes_with, kinds-turn}
use Rattle.law_counting.proofs.Outcomes.{same-kind}

ends_panicked-push : (os : List Outcome) (o : Outcome) → ends_panicked (os ++ o ∷ []) ≡ is_panicked_outcome o
unfolding ends_panicked
ends_panicked-push [] o = refl
ends_panicked-push (p ∷ []) o = refl
ends_panicked-push (p ∷ q ∷ os) o = ends_panicked-push (q ∷ os) o

blocked_not_panicked : (o : Outcome) → is_blocked_outcome o ≡ true → is_panicked_outcome o ≡ false
blocked_not_panicked outcome.Panicked e = cc
blocked_not_panicked _ e = refl

ends_apart : (os : List Outcome) → ends_blocked os ≡ true → ends_panicked os ≡ false
unfolding ends_blocked ends_panicked
ends_apart [] e = refl
ends_apart (p ∷ []) e = blocked_not_panicked p e
ends_apart (p ∷ q ∷ os) e = ends_apart (q ∷ os) e

pub blocked-alike : (o p : Outcome) → outcome_eq o p ≡ true → is_blocked_outcome o ≡ is_blocked_outcome p
blocked-alike = same-kind is_blocked_outcome (λ z w e. refl) (λ n k e. refl) (λ n k e. refl) (λ m n e. refl)

pub panicked-alike : (o p : Outcome) → outcome_eq o p ≡ true → is_panicked_outcome o ≡ is_panicked_outcome p
panicked-alike = same-kind is_panicked_outcome (λ z w e. refl) (λ n k e. refl) (λ n k e. refl) (λ m n e. refl)

-- the phase that goes with the answers so far
abbrev fits_answers : List Outcome → ActorPhase → Bool
fits_answers os p = is_pending p || (is_panicked p && not (ends_panicked os))

-- what a run keeps of the phases and the answers
pub record CallsWait (s : System) (es : List Entry) (st : State) : Type 0 where
  pub balanced : Balanced s (times st.handles_given) st.spm
  pub sound : (a : ℕ) → is_sound (phase_of st.spm a) ≡ true
  pub last : (a : ℕ) → ends_blocked (answers_to a es) ≡ fits_answers (answers_to a es) (phase_of st.spm a)

told_pending : (p : ActorPhase) → is_told p ≡ true → is_pending p ≡ true
told_pending (Ready o) e = refl
told_pending (Connected c) e = refl
told_pending _ e = cc

pub told_sound : (p : ActorPhase) → is_told p ≡ true → is_sound p ≡ true
told_sound (Ready o) e = e
told_sound (Connected c) e = refl
told_sound _ e = cc

-- another's phase
pub turned-sound : (p q : ActorPhase) → Turned p q → is_sound p ≡ true → is_sound q ≡ true
turned-sound p q (inl e) h = ap is_sound (sym e) ∙ h
turned-sound p q (inr (inl k)) h = told_sound q k.1
turned-sound p q (inr (inr k)) h = ap is_sound k.1

-- and each actor's
pub turns-sound : (b new : SpmState) (a : ℕ) (o : Outcome) → Turns a b new o → ((x : ℕ) → is_sound (phase_of b x) ≡ true) → (x : ℕ) → is_sound (phase_of new x) ≡ true
turns-sound b new a o turns sound x =
    same_or_not x a (is_sound (phase_of new x) ≡ true) (λ e. ap (λ (y : ℕ). is_sound (phase_of new y)) e ∙ turns.sound) (λ e. turned-sound _ _ (turns.others x e) (sound x))

turned-fits : (os : List Outcome) (p q : ActorPhase) → Turned p q → ends_blocked os ≡ fits_answers os p → ends_blocked os ≡ fits_answers os q
turned-fits os p q (inl e) h = h ∙ ap (fits_answers os) e
turned-fits os p q (inr (inl k)) h =
    let yes : ends_blocked os ≡ true = h ∙ ap (fits_answers os) k.0 in
    yes ∙ sym (ap (λ (b : Bool). b || (is_panicked q && not (ends_panicked os))) (told_pending q k.1))
turned-fits os p q (inr (inr k)) h =
    let yes : ends_blocked os ≡ true = h ∙ ap (fits_answers os) k.0 in
    yes ∙ sym (ap (fits_answers os) k.1 ∙ ap not (ends_apart os yes))

step-waits : (s : System) (es : List Entry) (st new : State) (e : Entry) → CallsWait s es st → step s st e ≡ Some new → CallsWait s (es ++ e ∷ []) new
step-waits s es st new e w h =
    let it = step-kind s st new e (λ o spm given. Turns e.actor.0 st.spm spm o) (kinds-turn s st.spm st.handles_given e.actor.0 e.call w.balanced (w.sound e.actor.0)) h in
    let turns : Turns e.actor.0 st.spm new.spm it.0 = it.2 in
    record {
      balanced = step-keeps s st new e w.balanced h;
      sound = turns-sound st.spm new.spm e.actor.0 it.0 turns w.sound;
      last = λ a. same_or_not a e.actor.0 (ends_blocked (answers_to a (es ++ e ∷ [])) ≡ fits_answers (answers_to a (es ++ e ∷ [])) (phase_of new.spm a))
          (λ k.
          let mine : (e.actor.0 == a) ≡ true = ap (λ (x : ℕ). e.actor.0 == x) k ∙ is_itself e.actor.0 in
          let os : List Outcome = answers_to a es in
          let own : is_blocked_outcome it.0 ≡ goes_with it.0 (phase_of new.spm a) = turns.own ∙ ap (λ (x : ℕ). goes_with it.0 (phase_of new.spm x)) (sym k) in
          subst (λ (xs : List Outcome). ends_blocked xs ≡ fits_answers xs (phase_of new.spm a)) (sym (ap outcomes_of (entries_of-own a es e mine) ∙ outcomes_of-push (entries_of a es) e))
          (ends_blocked-push os e.outcome ∙ sym (blocked-alike it.0 e.outcome it.1) ∙ own
          ∙ ap (λ (b : Bool). is_pending (phase_of new.spm a) || (is_panicked (phase_of new.spm a) && not b)) (panicked-alike it.0 e.outcome it.1 ∙ sym (ends_panicked-push os e.outcome))))
          (λ k.
          let flipped : (e.actor.0 == a) ≡ false = grind arith in
          subst (λ (xs : List Outcome). ends_blocked xs ≡ fits_answers xs (phase_of new.spm a)) (sym (ap outcomes_of (entries_of-other a es e flipped)))
          (turned-fits (answers_to a es) (phase_of st.spm a) (phase_of new.spm a) (turns.others a k) (w.last a)));
    }

pub open-phase : (q : ActorPhase → Bool) (v : Bool) → q Running ≡ v → q Ended ≡ v → (n a : ℕ) → q (get_or (replicate n Running) a Ended) ≡ v
open-phase q v running ended zero a = ended
open-phase q v running ended (suc n) zero = running
open-phase q v running ended (suc n) (suc a) = open-phase q v running ended n a

opening-waits : (s : System) (m : ByteMap) → CallsWait s [] (opening s m)
opening-waits s m = record {
  balanced = opening-balanced s;
  sound = λ a. open-phase is_sound true refl refl (actor_count s) a;
  last = λ a. ends_blocked-nil ∙ sym (open-phase (fits_answers []) false refl refl (actor_count s) a);
}

enabled-due : (p : ActorPhase) (word : ℕ) (os : List Outcome) → can_go_on p word ≡ true → ends_blocked os ≡ fits_answers os p → may_resume p ≡ ends_blocked os
enabled-due Blocked word os e h = cc
enabled-due Ended word os e h = cc
enabled-due Panicked word os e h = cc
enabled-due _ word os e h = sym h

-- in each state of a run
pub run-returns : (s : System) (m : ByteMap) (es : List Entry) (st : State) → after s m es ≡ Some st → ReturnsDue s es st
run-returns s m es st h =
    let w : CallsWait s es st = run-has s m (CallsWait s) (opening-waits s m) (λ xs x new e. step-waits s xs x new e) es st h in
    record {
      last = w.last;
      enabled_actors = λ a e. enabled-due (phase_of st.spm a) (signals_of s st.spm a) (answers_to a es) e (w.last a);
    }
