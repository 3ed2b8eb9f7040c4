-- A made event is a step of the machine, under the name that is due, and what the manager keeps is kept.
use Rattle.std.proofs.Common.{ℕ, ◌≡◌, ◌<◌, ◌≤◌, ◌||◌, Bool, true, false, not, List, [], ◌∷◌, ◌++◌, length, refl, sym, subst, arith, pos}
use Rattle.std.specs.Prelude.{Option, Some, None, option_and_then, nat_lt, is_none, is_some, get_or, find, position, if◌then◌else◌, IsSomeAnd}
use Rattle.std.specs.List.{position_or_len}
use Rattle.std.specs.Option.{option_map, option_map_or}
use Rattle.std.proofs.lemmas.Bool.Decides.{nat_tests}
use Rattle.ffm_model.specs.declared.constants.TheConstants.{MAX_ENTRIES}
use Rattle.ffm_model.specs.declared.system.System.{System}
use Rattle.ffm_model.specs.declared.machine.Entry.{Entry}
use Rattle.ffm_model.specs.declared.machine.Handle.{Handle}
use Rattle.ffm_model.specs.declared.machine.Call.{Call}
use Rattle.ffm_model.specs.declared.machine.Call.TheVariants as call
use Rattle.ffm_model.specs.declared.machine.Outcome.{Outcome}
use Rattle.ffm_model.specs.declared.objects.ActorPhase.{ActorPhase}
use Rattle.ffm_model.specs.declared.objects.ActorPhase.TheVariants as phase
use Rattle.ffm_model.specs.declared.objects.PendingMessage.{PendingMessage}
use Rattle.ffm_model.specs.declared.scenario.Bytes.{Bytes}
use Rattle.ffm_model.specs.Actors.{kind_of}
use Rattle.ffm_model.specs.Memory.{ByteMap, valid_buffer}
use Rattle.ffm_model.specs.State.{SpmState, State, phase_of, handle_eq, fresh, is_undelivered}
use Rattle.ffm_model.specs.ServiceCalls.{service_of_signal, message_size, get_of}
use Rattle.ffm_model.specs.Calls.{programmer_error, effect_of, has_call}
use Rattle.ffm_model.specs.Step.{step, after, may_call, handle_allowed, handle_shown, gives_handle}
use Rattle.ffm_model.specs.Names.{NamedState, NamesSoFar, named_step, named_after, name_due, name_of, name_at_return, shows_name, names_after, no_slot}
use Rattle.ffm_model.proofs.StepLemmas.{named_after-push, step-fits, Fits}
use Rattle.law_counting.specs.Fresh.{NamesFit}
use Rattle.law_counting.proofs.Walk.{handle-same, place-found}
use Rattle.law_counting.proofs.Fresh.{run-named, run-names}
use Rattle.memory_image.specs.Pieces.{byte_at}
use Rattle.law_calls.specs.Named.{NamesAre, KeepsNames}
use Rattle.law_calls.proofs.Standing.{stands}
use Rattle.spm_tables.specs.Answers.{state_with}
use Rattle.spm_tables.specs.TablesView.{TablesView, spm_of}
use Rattle.spm_core.specs.Performed.{Does, IsEffect, ShowsName, Holds, entry_of}

-- ---- a handle that is shown is the name that is due, and that is fresh

is_none-if : {X : Type 0} (b : Bool) (x : Option X) → is_none (if b then x else None) ≡ false → is_some x ≡ true
is_none-if true (Some x) h = refl
is_none-if true None h = cc
is_none-if false x h = cc

get-some : (s : System) (st : State) (a msg : ℕ) (h : Handle) (v : Option ℕ) (k : NamesSoFar)
    → is_some (option_and_then (λ i. option_and_then (λ m. if valid_buffer s a msg message_size then Some (get_of s st i msg h m) else None) (find (is_undelivered i) st.spm.messages)) v) ≡ true
    → is_some (option_map (λ j. name_of 512 (get_or k.messages j no_slot)) (option_and_then (λ i. position (is_undelivered i) st.spm.messages) v)) ≡ true
get-some s st a msg h None k q = cc
get-some s st a msg h (Some v) k q =
    let p : PendingMessage → Bool = is_undelivered v in
    let go : (f : Option PendingMessage) → find p st.spm.messages ≡ f → is_some (option_and_then (λ m. if valid_buffer s a msg message_size then Some (get_of s st v msg h m) else None) f) ≡ true
    → is_some (option_map (λ j. name_of 512 (get_or k.messages j no_slot)) (position p st.spm.messages)) ≡ true =
    elim [
      | None ↦ λ e x. cc
      | Some m ↦ λ e x.
          let less : position_or_len p st.spm.messages < length st.spm.messages = place-found p st.spm.messages m e in
          let below : nat_lt (position_or_len p st.spm.messages) (length st.spm.messages) ≡ true = grind (arith, nat_tests) in
          rw below refl
    ] in
    go (find p st.spm.messages) refl q

-- a call that gives a handle, and is no PROGRAMMER ERROR, has a name due
pub name-some : (s : System) (st : State) (a : ℕ) (c : Call) (k : NamesSoFar) → programmer_error s st a c ≡ false → gives_handle (phase_of st.spm a) c ≡ true → is_some (name_due s st a c k) ≡ true
name-some s st a (call.Get signal msg) k right gives =
    get-some s st a msg (record { 0 = pos 0 }) (service_of_signal s a signal) k (is_none-if (has_call (kind_of s a) (call.Get signal msg)) _ right)
name-some s st a call.Resume k right gives =
    let go : (p : ActorPhase) → gives_handle p call.Resume ≡ true → is_some (name_at_return k p) ≡ true = elim [
      | phase.Connected n ↦ λ g. refl
      | _ ↦ λ g. cc
    ] in
    go (phase_of st.spm a) gives
name-some s st a _ k right gives = cc

-- the handle that a call gives is a fresh one
allowed : (s : System) (es : List Entry) (w : NamedState) (e : Entry) → NamesFit s es w → length es ≤ MAX_ENTRIES → shows_name s w.state e w.names ≡ true
    → handle_allowed s w.state e.actor.0 e.call (handle_shown e.outcome) ≡ true
allowed s es w e fit few shows =
    let a : ℕ = e.actor.0 in
    let h : Handle = handle_shown e.outcome in
    let due : Option Handle = name_due s w.state a e.call w.names in
    let named : (x : Option Handle) → name_due s w.state a e.call w.names ≡ x → is_some x ≡ true → option_map_or (handle_eq h) x true ≡ true → fresh w.state h ≡ true = elim [
      | Some k ↦ λ is some same. subst (λ (y : Handle). fresh w.state y ≡ true) (sym (handle-same h k same)) (fit.due a e.call k few is)
      | None ↦ λ is some same. cc
    ] in
    let go : (wrong gives : Bool) → programmer_error s w.state a e.call ≡ wrong → gives_handle (phase_of w.state.spm a) e.call ≡ gives
    → (wrong || option_map_or (handle_eq h) due true) ≡ true → (wrong || (not gives || fresh w.state h)) ≡ true = elim [
      | true ↦ λ gives p g q. refl
      | false ↦ elim [
        | false ↦ λ p g q. refl
        | true ↦ λ p g q. named due refl (name-some s w.state a e.call w.names p g) q
      ]
    ] in
    go (programmer_error s w.state a e.call) (gives_handle (phase_of w.state.spm a) e.call) refl refl shows

-- ---- one entry more

-- a call that was made
pub record IsCalled (s : System) (d : TablesView) (bytes : List Bytes) (a : ℕ) (c : Call) (o : Outcome) (new : TablesView) (after : List Bytes) : Type 0 where
  pub may : may_call s (spm_of d) a c ≡ true
  pub does : Does s a c d bytes o new after
  pub shown : ShowsName s a c d (byte_at bytes) o
  pub names : KeepsNames s d new

-- a state with the names after it, of these tables and bytes
abbrev named_of : TablesView → List Handle → ByteMap → NamesSoFar → NamedState
named_of d given m k = record { state = state_with d given m; names = k }

holds-is : (d : TablesView) (bytes : List Bytes) (w : NamedState) → Holds d bytes w → w ≡ named_of d w.state.handles_given (byte_at bytes) w.names
holds-is d bytes w h = λ j. record { state = record { spm = h.stands.spm j; handles_given = w.state.handles_given; memory = h.stands.memory j }; names = w.names }

-- of a state whose run is still to be shown, what it then holds
pub record Leaves (d : TablesView) (bytes : List Bytes) (w : NamedState) : Type 0 where
  pub spm : w.state.spm ≡ spm_of d
  pub memory : w.state.memory ≡ byte_at bytes
  pub names : NamesAre d w.names

pub holds-left : (s : System) (m : ByteMap) (es : List Entry) (d : TablesView) (bytes : List Bytes) (w : NamedState) → named_after s m es ≡ Some w → Leaves d bytes w → Holds d bytes w
holds-left s m es d bytes w is left = record { stands = stands s es d bytes w (run-named s m es w is) left.names left.spm left.memory; names = left.names }

named-made : (s : System) (es : List Entry) (d new : TablesView) (bytes after : List Bytes) (a : ℕ) (c : Call) (o : Outcome) (given : List Handle) (k : NamesSoFar)
    → NamesFit s es (named_of d given (byte_at bytes) k) → NamesAre d k → length es ≤ MAX_ENTRIES → IsCalled s d bytes a c o new after
    → IsSomeAnd (named_step s (named_of d given (byte_at bytes) k) (entry_of a c o)) (Leaves new after)
named-made s es d new bytes after a c o given k fit are few called =
    let st : State = state_with d given (byte_at bytes) in
    let e : Entry = entry_of a c o in
    let shows : shows_name s st e k ≡ true = called.shown given k are in
    let effect : IsEffect (effect_of s st a c (handle_shown o)) o new (byte_at after) = called.does given in
    let fits : Fits s st e = record { may = called.may; allowed = allowed s es (named_of d given (byte_at bytes) k) e fit few shows; outcome = sym effect.outcome } in
    let stepped : step s st e ≡ Some (effect_of s st a c (handle_shown o)).state = step-fits s st e fits in
    let left : State = (effect_of s st a c (handle_shown o)).state in
    let leaves : Leaves new after (record { state = left; names = names_after s (spm_of d) left.spm k }) = record {
      spm = effect.spm;
      memory = effect.memory;
      names = subst (λ (b : SpmState). NamesAre new (names_after s (spm_of d) b k)) (sym effect.spm) (called.names.names k are);
    } in
    rw (shows, stepped) leaves

-- the history with the entry is a named run, to the state of the new tables and bytes
pub named-on : (s : System) (m : ByteMap) (es : List Entry) (d new : TablesView) (bytes after : List Bytes) (a : ℕ) (c : Call) (o : Outcome)
    → IsSomeAnd (named_after s m es) (Holds d bytes) → length es ≤ MAX_ENTRIES → IsCalled s d bytes a c o new after
    → IsSomeAnd (named_after s m (es ++ entry_of a c o ∷ [])) (Holds new after)
named-on s m es d new bytes after a c o holds few called =
    let go : (x : Option NamedState) → named_after s m es ≡ x → IsSomeAnd x (Holds d bytes) → IsSomeAnd (option_and_then (λ w. named_step s w (entry_of a c o)) x) (Leaves new after) = elim [
      | None ↦ λ is h. absurd h
      | Some w ↦ λ is h.
          let same : w ≡ named_of d w.state.handles_given (byte_at bytes) w.names = holds-is d bytes w h in
          let fit : NamesFit s es w = run-names s m es w is in
          subst (λ (v : NamedState). IsSomeAnd (named_step s v (entry_of a c o)) (Leaves new after)) (sym same)
          (named-made s es d new bytes after a c o w.state.handles_given w.names (subst (λ (v : NamedState). NamesFit s es v) same fit) h.names few called)
    ] in
    let left : IsSomeAnd (named_after s m (es ++ entry_of a c o ∷ [])) (Leaves new after) =
    subst (λ (x : Option NamedState). IsSomeAnd x (Leaves new after)) (sym (named_after-push s m es (entry_of a c o))) (go (named_after s m es) refl holds) in
    let stand : (x : Option NamedState) → named_after s m (es ++ entry_of a c o ∷ []) ≡ x → IsSomeAnd x (Leaves new after) → IsSomeAnd x (Holds new after) = elim [
      | None ↦ λ is h. absurd h
      | Some w ↦ λ is h. holds-left s m (es ++ entry_of a c o ∷ []) new after w is h
    ] in
    stand (named_after s m (es ++ entry_of a c o ∷ [])) refl left
