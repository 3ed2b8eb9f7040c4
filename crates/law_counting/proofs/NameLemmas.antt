-- What a step that shows a handle shows, and where an event leaves the names as they were.
use Rattle.std.proofs.Common.{ℕ, ◌≡◌, ◌<◌, ◌≤◌, ◌-◌, Bool, true, false, cond, List, [], ◌∷◌, ◌++◌, length, get_or, arith, ◌∙◌, ap, sym, refl}
use Rattle.std.specs.Prelude.{pos, count_by, find, nat_lt, position, Option, Some, None, is_none, option_and_then}
use Rattle.std.specs.List.{position_or_len}
use Rattle.std.specs.Option.{option_map, option_map_or}
use Rattle.std.specs.Ordering.{int_eq}
use Rattle.std.proofs.lemmas.Bool.Decides.{nat_tests}
use Rattle.std.proofs.lemmas.Bool.{and_parts}
use Rattle.law_lists.proofs.Bools.{or_rest}
use Rattle.ffm_model.specs.declared.system.System.{System}
use Rattle.ffm_model.specs.declared.system.ActorKind.{ActorKind}
use Rattle.ffm_model.specs.declared.system.ActorKind.TheVariants.{Partition}
use Rattle.ffm_model.specs.declared.machine.Handle.{Handle}
use Rattle.ffm_model.specs.declared.machine.Entry.{Entry}
use Rattle.ffm_model.specs.declared.machine.Message.{Message}
use Rattle.ffm_model.specs.declared.machine.Call.{Call}
use Rattle.ffm_model.specs.declared.machine.Call.TheVariants as call
use Rattle.ffm_model.specs.declared.machine.Outcome.{Outcome}
use Rattle.ffm_model.specs.declared.machine.Outcome.TheVariants as outcome
use Rattle.ffm_model.specs.declared.objects.PendingMessage.{PendingMessage}
use Rattle.ffm_model.specs.declared.objects.ActorPhase.TheVariants.{Connected}
use Rattle.ffm_model.specs.Actors.{kind_of}
use Rattle.ffm_model.specs.State.{SpmState, State, handle_eq, is_undelivered, phase_of}
use Rattle.ffm_model.specs.ClientCalls.{Effect}
use Rattle.ffm_model.specs.ServiceCalls.{service_of_signal}
use Rattle.ffm_model.specs.Calls.{call_case, case_of, effect_or_error, error_effect, has_call, programmer_error}
use Rattle.ffm_model.specs.Step.{handle_shown, outcome_eq}
use Rattle.ffm_model.specs.Names.{NamesSoFar, SlotName, capacity, message_capacity, name_at_return, name_due, live_connections, name_of, names_after, next_slot, no_slot, shows_name, slots_kept, stays, with_connection, with_messages}
use Rattle.law_counting.proofs.Resume.{int_same}
use Rattle.law_counting.proofs.Steps.{Stepped, alike}
use Rattle.law_counting.proofs.Takes.{same_message}
use Rattle.law_counting.proofs.Slots.{stays-at}
use Rattle.law_counting.proofs.Shapes.{all-stay}
use Rattle.law_counting.proofs.Walk.{kept-alike, kept-all, place-found}
use Rattle.law_counting.proofs.Outcomes.{same-kind}

-- ---- outcomes that show handles

is_got : Outcome → Bool
is_got (outcome.Got m) = true
is_got _ = false

got-alike : (o p : Outcome) → outcome_eq o p ≡ true → is_got o ≡ is_got p
unfolding is_got
got-alike = same-kind is_got (λ z w e. refl) (λ n k e. refl) (λ n k e. refl) (λ m n e. refl)

pub shown-alike : (o p : Outcome) → outcome_eq o p ≡ true → (handle_shown o).0 ≡ (handle_shown p).0
shown-alike = same-kind (λ o. (handle_shown o).0) int_same (λ n k e. refl) (λ n k e. refl) (λ m n e. int_same m.handle.0 n.handle.0 (and_parts _ _ (and_parts (int_eq m.kind n.kind) _ e).1).0)

error-got : (kind : ActorKind) (s : System) (st : State) (a signal msg : ℕ) → is_got (error_effect kind s st a (call.Get signal msg)).outcome ≡ false
unfolding is_got
error-got Partition s st a signal msg = refl
error-got _ s st a signal msg = refl

got-yes : (m : Message) → is_got (outcome.Got m) ≡ true
unfolding is_got
got-yes m = refl

-- a psa_get that is answered with a message is no PROGRAMMER ERROR
pub get-made : (s : System) (st new : State) (e : Entry) (signal msg : ℕ) (m : Message) → Stepped s st new e → e.call ≡ call.Get signal msg → outcome_eq (outcome.Got m) e.outcome ≡ true → programmer_error s st e.actor.0 e.call ≡ false
get-made s st new e signal msg m it is got =
    let a : ℕ = e.actor.0 in
    let h : Handle = handle_shown e.outcome in
    let zero_handle : Handle = record { 0 = pos 0 } in
    let shows : is_got e.outcome ≡ true = sym (got-alike (outcome.Got m) e.outcome got) ∙ got-yes m in
    let made : (o : Option Effect) → outcome_eq (effect_or_error o (kind_of s a) s st a e.call).outcome e.outcome ≡ true → is_none o ≡ false =
    elim [
      | None ↦ λ k.
          let same : is_got (error_effect (kind_of s a) s st a e.call).outcome ≡ is_got e.outcome = got-alike (error_effect (kind_of s a) s st a e.call).outcome e.outcome k in
          let off : is_got (error_effect (kind_of s a) s st a e.call).outcome ≡ false = ap (λ (c : Call). is_got (error_effect (kind_of s a) s st a c).outcome) is ∙ error-got (kind_of s a) s st a signal msg in
          cc
      | Some x ↦ λ k. refl
    ] in
    let either : (x : Bool) → is_none (cond {A = Option Effect} x (call_case s st a e.call zero_handle) None) ≡ is_none (cond {A = Option Effect} x (call_case s st a e.call h) None) =
    elim [ true ↦ alike s st a e.call zero_handle h | false ↦ refl ] in
    either (has_call (kind_of s a) e.call) ∙ made (case_of s st a e.call h) it.outcome

-- ---- the name that is shown

resume-made : (k : ActorKind) (s : System) (st : State) (a : ℕ) (h : Handle) → is_none (cond {A = Option Effect} (has_call k call.Resume) (call_case s st a call.Resume h) None) ≡ false
resume-made Partition s st a h = refl
resume-made _ s st a h = refl

pub resume-shows : (s : System) (st : State) (e : Entry) (k : NamesSoFar) (n : ℕ) → e.call ≡ call.Resume → phase_of st.spm e.actor.0 ≡ Connected n → shows_name s st e k ≡ true
    → handle_eq (handle_shown e.outcome) (name_of 0 (get_or k.connections n no_slot)) ≡ true
resume-shows s st e k n is phase shows =
    let a : ℕ = e.actor.0 in
    let made : programmer_error s st a e.call ≡ false = ap (λ (c : Call). programmer_error s st a c) is ∙ resume-made (kind_of s a) s st a (record { 0 = pos 0 }) in
    let due : name_due s st a e.call k ≡ Some (name_of 0 (get_or k.connections n no_slot)) = ap (λ (c : Call). name_due s st a c k) is ∙ ap (name_at_return k) phase in
    sym (ap (λ (o : Option Handle). option_map_or (handle_eq (handle_shown e.outcome)) o true) due) ∙ or_rest _ _ made shows

pub get-shows : (s : System) (st : State) (e : Entry) (k : NamesSoFar) (signal msg v : ℕ) (m : PendingMessage) → e.call ≡ call.Get signal msg → service_of_signal s e.actor.0 signal ≡ Some v → find (is_undelivered v) st.spm.messages ≡ Some m
    → programmer_error s st e.actor.0 e.call ≡ false → shows_name s st e k ≡ true
    → handle_eq (handle_shown e.outcome) (name_of 512 (get_or k.messages (position_or_len (is_undelivered v) st.spm.messages) no_slot)) ≡ true
get-shows s st e k signal msg v m is found place made shows =
    let a : ℕ = e.actor.0 in
    let j : ℕ = position_or_len (is_undelivered v) st.spm.messages in
    let less : j < length st.spm.messages = place-found (is_undelivered v) st.spm.messages m place in
    let below : nat_lt j (length st.spm.messages) ≡ true = grind (arith, nat_tests) in
    let at : Option ℕ → Option Handle = λ o. option_map (λ i. name_of 512 (get_or k.messages i no_slot)) o in
    let due : name_due s st a e.call k ≡ Some (name_of 512 (get_or k.messages j no_slot)) =
    ap (λ (c : Call). name_due s st a c k) is ∙ ap (λ (o : Option ℕ). at (option_and_then (λ i. position (is_undelivered i) st.spm.messages) o)) found ∙ ap (λ (x : Bool). at (cond x (Some j) None)) below in
    sym (ap (λ (o : Option Handle). option_map_or (handle_eq (handle_shown e.outcome)) o true) due) ∙ or_rest _ _ made shows

-- ---- events that make and remove nothing

pub names-still : (s : System) (old new : SpmState) (k : NamesSoFar) → length k.messages ≡ length old.messages → length new.messages ≡ length old.messages → new.connections_made ≡ old.connections_made
    → ((m : PendingMessage) → count_by (same_message m) old.messages ≤ count_by (same_message m) new.messages) → names_after s old new k ≡ k
names-still s old new k slots len made same =
    let size : ℕ = capacity s in
    let ts : List SlotName = slots_kept (stays new.messages) old.messages k.messages in
    let after : List SlotName → NamesSoFar = λ us. with_messages (message_capacity s) (length new.messages - length us) (with_connection size old new (record k { messages = us })) in
    let stay : ts ≡ k.messages =
    kept-alike (stays new.messages) (λ m. true) old.messages k.messages (stays-at old.messages new.messages (λ m. true) same) (all-stay new.messages old.messages)
    ∙ kept-all (λ m. true) old.messages k.messages slots (λ m. refl) in
    let none : length new.messages - length k.messages ≡ 0 = omega (arith, len, slots) in
    let not_less : nat_lt old.connections_made new.connections_made ≡ false = grind (arith, nat_tests) in
    let unjoined : with_connection size old new k ≡ k =
    ap (λ (x : Bool). cond {A = NamesSoFar} x (record k { connections = k.connections ++ next_slot size (live_connections k old) k.connections ∷ [] }) k) not_less in
    ap after stay ∙ ap (λ n. with_messages (message_capacity s) n (with_connection size old new k)) none ∙ unjoined
