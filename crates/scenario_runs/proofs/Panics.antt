-- Which partitions a manager shows as panicked.
use Rattle.std.proofs.Common.{ℕ, ◌≡◌, ◌<◌, Bool, true, false, List, length, get_or, refl, ap, sym, ◌∙◌, arith}
use Rattle.std.specs.Prelude.{Option, Some, None}
use Rattle.std.specs.List.{list_any, range_with_len}
use Rattle.std.specs.Option.{option_map, option_map_or}
use Rattle.std.proofs.lemmas.List.Folds.{list_any_at, list_any_none}
use Rattle.std.proofs.lemmas.List.FromFn.{length-range_with_len, get_or-range_with_len}
use Rattle.law_lists.proofs.Tests.{list_any-false}
use Rattle.ffm_model.specs.declared.machine.Entry.{Entry}
use Rattle.ffm_model.specs.declared.machine.Phase.{Phase}
use Rattle.ffm_model.specs.declared.machine.Phase.TheVariants as shown
use Rattle.ffm_model.specs.declared.objects.ActorPhase.{ActorPhase}
use Rattle.ffm_model.specs.declared.objects.ActorPhase.TheVariants as phase
use Rattle.ffm_model.specs.declared.system.System.{System}
use Rattle.ffm_model.specs.Memory.{ByteMap}
use Rattle.ffm_model.specs.Names.{NamedState, NamesSoFar, named_after}
use Rattle.ffm_model.specs.Restarts.{some_panicked}
use Rattle.ffm_model.specs.Signals.{is_panicked}
use Rattle.ffm_model.specs.State.{State, phase_of}
use Rattle.ffm_model.specs.Step.{after}
use Rattle.spm_core.specs.Views.{shown_phase}
use Rattle.spm_core.proofs.Kept.{named-run}

abbrev pub shows_panic : Phase → Bool
shows_panic shown.Panicked = true
shows_panic _ = false

pub shows_none : (p : Phase) → (p ≡ shown.Panicked → ⊥) → false ≡ shows_panic p
shows_none shown.Running other = refl
shows_none shown.Blocked other = refl
shows_none (shown.Waiting mask) other = refl
shows_none (shown.Ready o) other = refl
shows_none shown.Ended other = refl
shows_none shown.Panicked other = absurd (other refl)

shown_as_it_is : (k : NamesSoFar) (p : ActorPhase) → is_panicked p ≡ shows_panic (shown_phase k p)
shown_as_it_is k phase.Running = refl
shown_as_it_is k phase.Blocked = refl
shown_as_it_is k (phase.Waiting mask) = refl
shown_as_it_is k (phase.Ready o) = refl
shown_as_it_is k (phase.Connected c) = refl
shown_as_it_is k phase.Ended = refl
shown_as_it_is k phase.Panicked = refl

-- an actor is panicked where its shown phase is
pub panicked_as_shown : (s : System) (m : ByteMap) (es : List Entry) (a : ℕ) (p : Phase) → option_map (λ w. shown_phase w.names (phase_of w.state.spm a)) (named_after s m es) ≡ Some p
    → shows_panic p ≡ option_map_or (λ st. is_panicked (phase_of st.spm a)) (after s m es) false
panicked_as_shown s m es a p =
    let go : (o : Option NamedState) → ((w : NamedState) → o ≡ Some w → after s m es ≡ Some w.state) → option_map (λ w. shown_phase w.names (phase_of w.state.spm a)) o ≡ Some p
    → shows_panic p ≡ option_map_or (λ st. is_panicked (phase_of st.spm a)) (after s m es) false =
    elim [
      | None ↦ λ run e. cc
      | Some w ↦ λ run e.
          let same : shown_phase w.names (phase_of w.state.spm a) ≡ p = cc in
          sym (ap (λ (x : Option State). option_map_or (λ st. is_panicked (phase_of st.spm a)) x false) (run w refl) ∙ shown_as_it_is w.names (phase_of w.state.spm a) ∙ ap shows_panic same)
    ] in
    go (named_after s m es) (named-run s m es)

-- whether an actor is panicked in a state, if there is one
abbrev pub panicked_in : Option State → ℕ → Bool
panicked_in o p = option_map_or (λ st. is_panicked (phase_of st.spm p)) o false

some_as_each : (o : Option State) (ps : List ℕ) → list_any (panicked_in o) ps ≡ option_map_or (λ st. list_any (λ p. is_panicked (phase_of st.spm p)) ps) o false
some_as_each None ps = list_any-false ps
some_as_each (Some st) ps = refl

-- a partition is panicked, so some partition is
pub one_panicked : (s : System) (o : Option State) (p : ℕ) → p < length s.partitions → panicked_in o p ≡ true → option_map_or (some_panicked s) o false ≡ true
one_panicked s o p lt h =
    let all : List ℕ = range_with_len 0 (length s.partitions) in
    let below : p < length all = rw (length-range_with_len 0 (length s.partitions)) lt in
    let here : get_or all p 0 ≡ p = omega (arith, get_or-range_with_len 0 (length s.partitions) p 0 lt) in
    sym (some_as_each o all) ∙ list_any_at (panicked_in o) all p 0 below (ap (panicked_in o) here ∙ h)

-- none is, so there is no such partition
pub none_panicked : (s : System) (o : Option State) → ((p : ℕ) → p < length s.partitions → panicked_in o p ≡ false) → option_map_or (some_panicked s) o false ≡ false
none_panicked s o each =
    let all : List ℕ = range_with_len 0 (length s.partitions) in
    sym (some_as_each o all) ∙ list_any_none (panicked_in o) all (λ i d lt.
    let below : i < length s.partitions = rw (← length-range_with_len 0 (length s.partitions)) lt in
    let here : get_or all i d ≡ i = omega (arith, get_or-range_with_len 0 (length s.partitions) i d below) in
    ap (panicked_in o) here ∙ each i below)
