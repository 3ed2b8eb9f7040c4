-- What a run keeps of a partition whose last entries are a round's wait and its return.
use Rattle.std.proofs.Common.{ℕ, ◌<◌, ◌≤◌, ◌≡◌, ◌==◌, ◌^◌, List, [], ◌∷◌, ◌++◌, length, refl, ap, sym, ◌∙◌, subst, true, inl, inr}
use Rattle.std.specs.Prelude.{Option, Some, None, bit_and}
use Rattle.std.specs.Int.{bit_at}
use Rattle.ffm_model.proofs.RecordLemmas.{entries_of-other, entries_of-own}
use Rattle.law_counting.proofs.Returns.{open-phase, turns-sound}
use Rattle.ffm_model.specs.declared.system.System.{System}
use Rattle.ffm_model.specs.declared.machine.Entry.{Entry}
use Rattle.ffm_model.specs.declared.machine.Call.TheVariants as call
use Rattle.ffm_model.specs.declared.machine.Outcome.TheVariants as outcome
use Rattle.ffm_model.specs.declared.objects.ActorPhase.{ActorPhase}
use Rattle.ffm_model.specs.declared.objects.ActorPhase.TheVariants.{Running, Blocked, Waiting}
use Rattle.ffm_model.specs.Actors.{actor_count}
use Rattle.ffm_model.specs.Memory.{ByteMap}
use Rattle.ffm_model.specs.State.{SpmState, State, opening, phase_of}
use Rattle.ffm_model.specs.Signals.{signals_of, has_undelivered}
use Rattle.ffm_model.specs.ServiceCalls.{service_of_signal}
use Rattle.ffm_model.specs.Records.{entries_of}
use Rattle.ffm_model.specs.Step.{step}
use Rattle.law_counting.proofs.Balance.{Balanced}
use Rattle.law_counting.proofs.Parts.{flipped, is_itself, same_or_not}
use Rattle.law_counting.proofs.Resume.{times}
use Rattle.law_counting.proofs.Steps.{step-kind}
use Rattle.law_counting.proofs.Runs.{opening-balanced, step-keeps}
use Rattle.law_counting.proofs.Turns.{Turned, Turns, is_sound, kinds-turn}
use Rattle.sfn_calls.proofs.SameRuns.{same_signals}
use Rattle.law_programs.proofs.Bits.{and-left}
use Rattle.law_programs.proofs.Signals.{asserted-waits}
use Rattle.law_programs.proofs.Delivery.{Stays, kinds-stay}
use Rattle.law_programs.proofs.OwnSteps.{waits-for, wakes, now-running}
use Rattle.law_counting.proofs.OwnSteps.{own-step}
use Rattle.law_counting.proofs.Owners.{service-owned}

-- ---- the last entries of a list

abbrev pub last_of : List Entry → Option Entry
last_of [] = None
last_of (x ∷ []) = Some x
last_of (x ∷ y ∷ xs) = last_of (y ∷ xs)

abbrev pub front_of : List Entry → List Entry
front_of [] = []
front_of (x ∷ []) = []
front_of (x ∷ y ∷ xs) = x ∷ front_of (y ∷ xs)

pub last-push : (xs : List Entry) (e : Entry) → last_of (xs ++ e ∷ []) ≡ Some e
last-push [] e = refl
last-push (x ∷ []) e = refl
last-push (x ∷ y ∷ xs) e = last-push (y ∷ xs) e

pub front-push : (xs : List Entry) (e : Entry) → front_of (xs ++ e ∷ []) ≡ xs
front-push [] e = refl
front-push (x ∷ []) e = refl
front-push (x ∷ y ∷ xs) e = ap (λ (l : List Entry). x ∷ l) (front-push (y ∷ xs) e)

-- ---- what a run keeps

-- the messages that the signals told of still wait
abbrev pub StillWait : System → ℕ → SpmState → ℕ → Type 0
StillWait s a b n = (k v : ℕ) → 4 ≤ k → service_of_signal s a (2 ^ k) ≡ Some v → bit_at n k ≡ 1 → has_undelivered b v ≡ true

pub record Recent (s : System) (a : ℕ) (es : List Entry) (st : State) : Type 0 where
  pub balanced : Balanced s (times st.handles_given) st.spm
  pub sound : (x : ℕ) → is_sound (phase_of st.spm x) ≡ true
  pub waits : (w : Entry) (mask timeout : ℕ) → last_of (entries_of a es) ≡ Some w → w.call ≡ call.Wait mask timeout → w.outcome ≡ outcome.Blocked → phase_of st.spm a ≡ Waiting mask
  pub seen : (w r : Entry) (mask timeout n : ℕ) → last_of (entries_of a es) ≡ Some r → last_of (front_of (entries_of a es)) ≡ Some w → w.call ≡ call.Wait mask timeout → w.outcome ≡ outcome.Blocked
      → r.call ≡ call.Resume → r.outcome ≡ outcome.Signals n → (phase_of st.spm a ≡ Running) × StillWait s a st.spm n

-- ---- phases of others

-- one that isn't Blocked stays
turned-stays : (p q r : ActorPhase) → Turned p q → p ≡ r → (r ≡ Blocked → ⊥) → q ≡ r
turned-stays p q r (inl e) h free = sym e ∙ h
turned-stays p q r (inr (inl k)) h free = absurd (free (sym h ∙ k.0))
turned-stays p q r (inr (inr k)) h free = absurd (free (sym h ∙ k.0))

some-same : (x y : Entry) → ◌≡◌ {A = Option Entry} (Some x) (Some y) → x ≡ y
some-same x y e = cc

-- ---- one step

pub step-recent : (s : System) (a : ℕ) → a < length s.partitions → (es : List Entry) (st new : State) (e : Entry) → Recent s a es st → step s st e ≡ Some new → Recent s a (es ++ e ∷ []) new
step-recent s a inside es st new e r h =
    let it = step-kind s st new e (λ o spm given. Turns e.actor.0 st.spm spm o) (kinds-turn s st.spm st.handles_given e.actor.0 e.call r.balanced (r.sound e.actor.0)) h in
    let turns : Turns e.actor.0 st.spm new.spm it.0 = it.2 in
    record {
      balanced = step-keeps s st new e r.balanced h;
      sound = turns-sound st.spm new.spm e.actor.0 it.0 turns r.sound;
      waits = λ w mask timeout last is blocked. same_or_not a e.actor.0 (phase_of new.spm a ≡ Waiting mask)
          (λ k.
          let mine : (e.actor.0 == a) ≡ true = ap (λ (x : ℕ). e.actor.0 == x) k ∙ is_itself e.actor.0 in
          let same : e ≡ w = some-same e w (sym (last-push (entries_of a es) e) ∙ (ap last_of (sym (entries_of-own a es e mine)) ∙ last)) in
          waits-for s st new a mask timeout e.outcome inside (own-step s st new e a (call.Wait mask timeout) h (sym k) (ap (λ (x : Entry). x.call) same ∙ is)) (ap (λ (x : Entry). x.outcome) same ∙ blocked))
          (λ k. turned-stays _ _ (Waiting mask) (turns.others a k) (r.waits w mask timeout (ap last_of (sym (entries_of-other a es e (flipped a e.actor.0 k))) ∙ last) is blocked) (λ z. cc));
      seen = λ w q mask timeout n last before is blocked back shown. same_or_not a e.actor.0 ((phase_of new.spm a ≡ Running) × StillWait s a new.spm n)
          (λ k.
          let mine : (e.actor.0 == a) ≡ true = ap (λ (x : ℕ). e.actor.0 == x) k ∙ is_itself e.actor.0 in
          let pushed = entries_of-own a es e mine in
          let same : e ≡ q = some-same e q (sym (last-push (entries_of a es) e) ∙ (ap last_of (sym pushed) ∙ last)) in
          let was : last_of (entries_of a es) ≡ Some w = ap last_of (sym (front-push (entries_of a es) e)) ∙ (ap (λ (l : List Entry). last_of (front_of l)) (sym pushed) ∙ before) in
          let waiting = r.waits w mask timeout was is blocked in
          let woken = wakes s st new a mask e.outcome inside waiting (own-step s st new e a call.Resume h (sym k) (ap (λ (x : Entry). x.call) same ∙ back)) in
          let number : bit_and (signals_of s st.spm a) mask ≡ n = same_signals _ n (sym woken.shown ∙ (ap (λ (x : Entry). x.outcome) same ∙ shown)) in (
            subst (λ (b : SpmState). phase_of b a ≡ Running) (sym woken.spm) (now-running st.spm a mask waiting),
            (λ j v high found bit. subst (λ (b : SpmState). has_undelivered b v ≡ true) (sym woken.spm)
                (asserted-waits s st.spm a j v high found (and-left (signals_of s st.spm a) mask j (ap (λ (x : ℕ). bit_at x j) number ∙ bit)))),
          ))
          (λ k.
          let same = sym (entries_of-other a es e (flipped a e.actor.0 k)) in
          let old = r.seen w q mask timeout n (ap last_of same ∙ last) (ap (λ (l : List Entry). last_of (front_of l)) same ∙ before) is blocked back shown in (
            turned-stays _ _ Running (turns.others a k) old.0 (λ z. cc),
            (λ j v high found bit.
                let kept = step-kind s st new e (λ o spm given. Stays st.spm v spm)
                (kinds-stay s st.spm st.handles_given e.actor.0 e.call a v r.balanced (service-owned s a (2 ^ j) v found) (λ z. let bad : (a == e.actor.0) ≡ true = ap (λ (x : ℕ). a == x) (sym z) ∙ is_itself a in cc)
                (λ z. let bad : Running ≡ Blocked = sym old.0 ∙ z in cc)) h in
                kept.2 (old.1 j v high found bit)),
          ));
    }

pub opening-recent : (s : System) (a : ℕ) (m : ByteMap) → Recent s a [] (opening s m)
opening-recent s a m = record {
  balanced = opening-balanced s;
  sound = λ x. open-phase is_sound true refl refl (actor_count s) x;
  waits = λ w mask timeout last is blocked. cc;
  seen = λ w q mask timeout n last before is blocked back shown. cc;
}
