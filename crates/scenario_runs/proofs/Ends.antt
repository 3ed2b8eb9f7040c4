-- A run in which each actor is done in a front has a verdict.
-- An actor that is gone stays so, and after a front with a verdict a run doesn't go on.
use Rattle.std.proofs.Common.{ℕ, zero, suc, ◌≡◌, ◌<◌, ◌≤◌, ◌+◌, ◌==◌, ◌&&◌, Bool, true, false, true≢false, List, [], ◌∷◌, ◌++◌, append-nil, length, length-append, get_or, ◌⊎◌, inl, inr, refl, sym, ap, ◌∙◌, subst, arith}
use Rattle.std.specs.Prelude.{Option, Some, None, IsSome, nat_lt, fold, option_and_then, if◌then◌else◌}
use Rattle.std.specs.Option.{option_map_or}
use Rattle.std.proofs.lemmas.Bool.Decides.{nat_tests}
use Rattle.std.proofs.lemmas.List.Folds.{list_any_none}
use Rattle.std.proofs.lemmas.List.FromFn.{length-range_with_len, get_or-range_with_len}
use Rattle.std.proofs.lemmas.Bool.{and_parts}
use Rattle.std.proofs.lemmas.List.Sums.{fold-append}
use Rattle.spm_core.proofs.Refusals.{gone_off, verdict_off}
use Rattle.ffm_model.proofs.RunLemmas.{none-stays}
use Rattle.ffm_model.specs.declared.system.System.{System}
use Rattle.ffm_model.specs.declared.machine.Entry.{Entry}
use Rattle.ffm_model.specs.declared.machine.Verdict.TheVariants.{Quiet, Stalled, Full}
use Rattle.ffm_model.specs.declared.objects.ActorPhase.{ActorPhase}
use Rattle.ffm_model.specs.Actors.{actor_count}
use Rattle.ffm_model.specs.Memory.{ByteMap}
use Rattle.ffm_model.specs.State.{State, opening, phase_of}
use Rattle.ffm_model.specs.Signals.{enabled, signals_of}
use Rattle.ffm_model.specs.Step.{step, step_on, after, returns_when_due}
use Rattle.ffm_model.specs.Verdicts.{all_actors, some_enabled, some_blocked, verdict_at, verdict_of}
use Rattle.memory_image.specs.Pieces.{byte_at}
use Rattle.law_counting.proofs.Balance.{Balanced}
use Rattle.law_counting.proofs.Parts.{same_or_not}
use Rattle.law_counting.proofs.Resume.{times}
use Rattle.law_counting.proofs.Steps.{step-is, step-kind}
use Rattle.law_counting.proofs.Runs.{step-keeps, run-has, opening-balanced}
use Rattle.law_counting.proofs.Returns.{open-phase, turned-sound}
use Rattle.law_counting.proofs.Turns.{Turned, Turns, is_sound, kinds-turn}
use Rattle.spm_core.specs.Manager.{Opening, is_gone, is_actor_gone, state_after}
use Rattle.spm_core.proofs.Kept.{some-enabled}
use Rattle.spm_lock.specs.Histories.{IsRun, Begins}
use Rattle.spm_lock.specs.Passes.{has_verdict, IsDoneAt}

-- ---- one step

-- what each state of a run has
record Sound (s : System) (st : State) : Type 0 where
  pub balanced : Balanced s (times st.handles_given) st.spm
  pub sound : (a : ℕ) → is_sound (phase_of st.spm a) ≡ true

turned-gone : (p q : ActorPhase) → Turned p q → is_gone p ≡ true → is_gone q ≡ true
turned-gone p q (inl e) h = ap is_gone (sym e) ∙ h
turned-gone p q (inr (inl k)) h = absurd (true≢false (sym h ∙ ap is_gone k.0))
turned-gone p q (inr (inr k)) h = absurd (true≢false (sym h ∙ ap is_gone k.0))

second_test : (a b c : Bool) → (a && (b && c)) ≡ true → b ≡ true
second_test true true c h = refl
second_test true false c h = h
second_test false b c h = cc

-- the actor of a step exists and can go on
step-on : (s : System) (st new : State) (e : Entry) → step s st e ≡ Some new → (e.actor.0 < actor_count s) × (enabled s st.spm e.actor.0 ≡ true)
step-on s st new e h =
    let it = step-is s st new e h in
    let test : nat_lt e.actor.0 (actor_count s) ≡ true = (and_parts _ (enabled s st.spm e.actor.0 && returns_when_due e.call (phase_of st.spm e.actor.0)) it.may).0 in
    (grind (arith, nat_tests), second_test (nat_lt e.actor.0 (actor_count s)) (enabled s st.spm e.actor.0) (returns_when_due e.call (phase_of st.spm e.actor.0)) it.may)

step-turns : (s : System) (st new : State) (e : Entry) → Sound s st → step s st e ≡ Some new → Sound s new × ((x : ℕ) → is_gone (phase_of st.spm x) ≡ true → is_gone (phase_of new.spm x) ≡ true)
step-turns s st new e w h =
    let it = step-kind s st new e (λ o spm given. Turns e.actor.0 st.spm spm o) (kinds-turn s st.spm st.handles_given e.actor.0 e.call w.balanced (w.sound e.actor.0)) h in
    let turns = it.2 in (
      record {
        balanced = step-keeps s st new e w.balanced h;
        sound = λ a. same_or_not a e.actor.0 (is_sound (phase_of new.spm a) ≡ true)
            (λ k. ap (λ (x : ℕ). is_sound (phase_of new.spm x)) k ∙ turns.sound)
            (λ k. turned-sound _ _ (turns.others a k) (w.sound a));
      },
      (λ x gone. same_or_not x e.actor.0 (is_gone (phase_of new.spm x) ≡ true)
          (λ k.
          let off : enabled s st.spm x ≡ false = gone_off (phase_of st.spm x) (signals_of s st.spm x) gone in
          let on : enabled s st.spm x ≡ true = ap (enabled s st.spm) k ∙ (step-on s st new e h).1 in
          absurd (true≢false (sym on ∙ off)))
          (λ k. turned-gone _ _ (turns.others x k) gone)),
    )

run-sound : (s : System) (m : ByteMap) (es : List Entry) (st : State) → after s m es ≡ Some st → Sound s st
run-sound s m es st h =
    run-has s m (λ xs x. Sound s x) (record { balanced = opening-balanced s; sound = λ a. open-phase is_sound true refl refl (actor_count s) a }) (λ xs x new e w k. (step-turns s x new e w k).0) es st h

-- ---- the entries after a front

-- an actor that is gone stays gone
gone-after : (s : System) (es : List Entry) (st new : State) (x : ℕ) → Sound s st → fold (step_on s) (Some st) es ≡ Some new → is_gone (phase_of st.spm x) ≡ true → is_gone (phase_of new.spm x) ≡ true
gone-after s [] st new x w h gone = let it : st ≡ new = cc in subst (λ (y : State). is_gone (phase_of y.spm x) ≡ true) it gone
gone-after s (e ∷ es) st new x w h gone =
    let go : (o : Option State) → step s st e ≡ o → fold (step_on s) o es ≡ Some new → is_gone (phase_of new.spm x) ≡ true =
    elim [
      | None ↦ λ k q. let no : fold (step_on s) None es ≡ None = none-stays s es in cc
      | Some mid ↦ λ k q. let t = step-turns s st mid e w k in gone-after s es mid new x t.0 q (t.1 x gone)
    ] in
    go (step s st e) refl h

-- a state that a run goes on from makes its next step
next-on : (s : System) (st : State) (e : Entry) (es : List Entry) → IsSome (fold (step_on s) (Some st) (e ∷ es)) → some_enabled s st.spm ≡ true
next-on s st e es h =
    let go : (o : Option State) → step s st e ≡ o → IsSome (fold (step_on s) o es) → some_enabled s st.spm ≡ true =
    elim [
      | None ↦ λ k q. absurd (true≢false (sym (subst IsSome (none-stays s es) q)))
      | Some mid ↦ λ k q. let on = step-on s st mid e k in some-enabled s st.spm e.actor.0 on.0 on.1
    ] in
    go (step s st e) refl h

verdict_some : (some full blocked : Bool) → IsSome (if some then (if full then Some Full else None) else (if blocked then Some Stalled else Some Quiet)) → some ≡ true → full ≡ true
verdict_some true true blocked h on = refl
verdict_some true false blocked h on = absurd (true≢false (sym h))
verdict_some false full blocked h on = cc

-- after a verdict nothing stands
nothing-after : (s : System) (m : ByteMap) (limit : ℕ) (front rest : List Entry) → IsSome (after s m (front ++ rest)) → length (front ++ rest) ≤ limit → IsSome (verdict_of s m limit front) → rest ≡ []
nothing-after s m limit front [] run within verdict = refl
nothing-after s m limit front (e ∷ es) run within verdict =
    let onward : IsSome (fold (step_on s) (after s m front) (e ∷ es)) = subst IsSome (fold-append (step_on s) (Some (opening s m)) front (e ∷ es)) run in
    let go : (o : Option State) → IsSome (fold (step_on s) o (e ∷ es)) → IsSome (option_and_then (λ st. verdict_at s limit (length front) st.spm) o) → (e ∷ es) ≡ [] =
    elim [
      | None ↦ λ q v. absurd (true≢false (sym v))
      | Some st ↦ λ q v.
          let full : (length front == limit) ≡ true = verdict_some (some_enabled s st.spm) (length front == limit) (some_blocked s st.spm) v (next-on s st e es q) in
          let exact : length front ≡ limit = grind arith in
          let long : length (front ++ e ∷ es) ≡ length front + length (e ∷ es) = length-append front (e ∷ es) in
          absurd (omega arith)
    ] in
    go (after s m front) onward verdict

-- ---- a run in which each actor is done in a front

gone-later : (o : Opening) (history front : List Entry) (a : ℕ) → IsRun o history → Begins front history → is_actor_gone o front a ≡ true → is_actor_gone o history a ≡ true
gone-later o history front a run begins gone =
    let s : System = o.system in
    let joined : after s (byte_at o.memory) history ≡ fold (step_on s) (after s (byte_at o.memory) front) begins.0 =
    ap (after s (byte_at o.memory)) begins.1 ∙ fold-append (step_on s) (Some (opening s (byte_at o.memory))) front begins.0 in
    let last : (st : State) → Sound s st → is_gone (phase_of st.spm a) ≡ true → (x : Option State) → fold (step_on s) (Some st) begins.0 ≡ x → IsSome x → option_map_or (λ y. is_gone (phase_of y.spm a)) x false ≡ true =
    λ st w g. elim [ None ↦ λ k q. absurd (true≢false (sym q)) | Some new ↦ λ k q. gone-after s begins.0 st new a w k g ] in
    let go : (x : Option State) → after s (byte_at o.memory) front ≡ x → option_map_or (λ y. is_gone (phase_of y.spm a)) x false ≡ true
    → option_map_or (λ y. is_gone (phase_of y.spm a)) (fold (step_on s) x begins.0) false ≡ true =
    elim [
      | None ↦ λ k g. absurd (true≢false (sym g))
      | Some st ↦ λ k g. last st (run-sound s (byte_at o.memory) front st k) g (fold (step_on s) (Some st) begins.0) refl
          (subst (λ (x : Option State). IsSome (fold (step_on s) x begins.0)) k (subst IsSome joined run))
    ] in
    ap (λ (x : Option State). option_map_or (λ y. is_gone (phase_of y.spm a)) x false) joined ∙ go (after s (byte_at o.memory) front) refl gone

-- the actor is done in a front
pub record DoneInFront (o : Opening) (history : List Entry) (a : ℕ) : Type 0 where
  pub front : List Entry
  pub begins : Begins front history
  pub done : IsDoneAt o a front

-- then it is gone, or the run has a verdict
gone-or-ended : (o : Opening) (history : List Entry) (a : ℕ) → IsRun o history → length history ≤ o.limit → DoneInFront o history a → (is_actor_gone o history a ≡ true) ⊎ has_verdict o history
gone-or-ended o history a run within d =
    elim d.done [
      | inl gone ↦ inl (gone-later o history d.front a run d.begins gone)
      | inr verdict ↦
          let joined : history ≡ d.front ++ d.begins.0 = d.begins.1 in
          let none : d.begins.0 ≡ [] =
          nothing-after o.system (byte_at o.memory) o.limit d.front d.begins.0 (subst (IsRun o) joined run) (subst (λ (h : List Entry). length h ≤ o.limit) joined within) verdict in
          let same : history ≡ d.front = joined ∙ (ap (λ (r : List Entry). d.front ++ r) none ∙ append-nil d.front) in
          inr (subst (has_verdict o) (sym same) verdict)
    ]

all-gone-or-ended : (o : Opening) (history : List Entry) (n : ℕ) → ((a : ℕ) → a < n → (is_actor_gone o history a ≡ true) ⊎ has_verdict o history) → ((a : ℕ) → a < n → is_actor_gone o history a ≡ true) ⊎ has_verdict o history
all-gone-or-ended o history zero each = inl (λ a lt. absurd (omega arith))
all-gone-or-ended o history (suc n) each =
    elim (all-gone-or-ended o history n (λ a lt. each a (omega arith))) [
      | inr ended ↦ inr ended
      | inl gone ↦ elim (each n (omega arith)) [
        | inr ended ↦ inr ended
        | inl last ↦ inl (λ a lt. same_or_not a n (is_actor_gone o history a ≡ true)
            (λ k. ap (is_actor_gone o history) k ∙ last) (λ k. gone a (let other : a ≡ n → ⊥ = grind arith in omega (arith, other, lt))))
      ]
    ]

none-enabled : (s : System) (st : State) → ((a : ℕ) → a < actor_count s → is_gone (phase_of st.spm a) ≡ true) → some_enabled s st.spm ≡ false
none-enabled s st gone =
    list_any_none (enabled s st.spm) (all_actors s) (λ i d lt.
    let below : i < actor_count s = rw (← length-range_with_len 0 (actor_count s)) lt in
    let here : get_or (all_actors s) i d ≡ i = omega (arith, get_or-range_with_len 0 (actor_count s) i d below) in
    rw here (gone_off (phase_of st.spm i) (signals_of s st.spm i) (gone i below)))

pub ended : (o : Opening) (history : List Entry) → IsRun o history → length history ≤ o.limit → ((a : ℕ) → a < actor_count o.system → DoneInFront o history a) → has_verdict o history
ended o history run within each =
    elim (all-gone-or-ended o history (actor_count o.system) (λ a lt. gone-or-ended o history a run within (each a lt))) [
      | inr verdict ↦ verdict
      | inl gone ↦
          let go : (x : Option State) → IsSome x → ((a : ℕ) → a < actor_count o.system → option_map_or (λ y. is_gone (phase_of y.spm a)) x false ≡ true)
          → IsSome (option_and_then (λ st. verdict_at o.system o.limit (length history) st.spm) x) =
          elim [
            | None ↦ λ is g. absurd (true≢false (sym is))
            | Some st ↦ λ is g. verdict_off (some_enabled o.system st.spm) (length history == o.limit) (some_blocked o.system st.spm) (none-enabled o.system st g)
          ] in
          go (state_after o history) run gone
    ]
