-- From one state with its names, an actor's call has one outcome.
use Rattle.std.proofs.Common.{ℕ, ◌≡◌, ◌<◌, Bool, true, false, cond, ◌&&◌, ◌||◌, List, [], ◌∷◌, length, get_or, arith, refl, ap, sym, subst, ◌∙◌}
use Rattle.std.specs.Prelude.{ℤ, pos, find, position, nat_lt, Option, Some, None, IsSome, is_none, option_and_then, if◌then◌else◌}
use Rattle.std.specs.List.{position_or_len}
use Rattle.std.specs.Option.{option_map, option_map_or}
use Rattle.std.specs.Str.{bytes_eq}
use Rattle.std.proofs.lemmas.Bool.Decides.{nat_tests}
use Rattle.std.proofs.lemmas.Bool.{and_parts, eqb-true}
use Rattle.ffm_model.specs.declared.system.System.{System}
use Rattle.ffm_model.specs.declared.machine.Entry.{Entry}
use Rattle.ffm_model.specs.declared.machine.Handle.{Handle}
use Rattle.ffm_model.specs.declared.machine.Message.{Message}
use Rattle.ffm_model.specs.declared.machine.Call.{Call}
use Rattle.ffm_model.specs.declared.machine.Call.TheVariants as call
use Rattle.ffm_model.specs.declared.machine.Outcome.{Outcome}
use Rattle.ffm_model.specs.declared.machine.Outcome.TheVariants.{Value, Number, Signals, Got}
use Rattle.ffm_model.specs.declared.objects.ActorPhase.{ActorPhase}
use Rattle.ffm_model.specs.declared.objects.ActorPhase.TheVariants as phase
use Rattle.ffm_model.specs.declared.objects.PendingMessage.{PendingMessage}
use Rattle.ffm_model.specs.Actors.{actor_count, kind_of}
use Rattle.ffm_model.specs.Memory.{valid_buffer}
use Rattle.ffm_model.specs.State.{State, handle_eq, is_undelivered, phase_of}
use Rattle.ffm_model.specs.Signals.{enabled}
use Rattle.ffm_model.specs.ClientCalls.{Effect, returned}
use Rattle.ffm_model.specs.ServiceCalls.{psa_get, get_of, message_size, service_of_signal}
use Rattle.ffm_model.specs.Calls.{call_case, case_of, effect_of, effect_or_error, has_call, programmer_error}
use Rattle.ffm_model.specs.Step.{step, handle_shown, handle_allowed, message_eq, outcome_eq, may_call, returns_when_due}
use Rattle.ffm_model.specs.Names.{NamesSoFar, NamedState, name_at_return, name_due, name_of, named_step, names_after, no_slot, shows_name}
use Rattle.law_counting.proofs.Outcomes.{same-kind}
use Rattle.law_counting.proofs.Resume.{int_same}
use Rattle.law_counting.proofs.Steps.{alike}
use Rattle.law_counting.proofs.Walk.{place-found}

-- ---- the tests of equality tell equality

bytes-same : (xs ys : List ℕ) → bytes_eq xs ys ≡ true → xs ≡ ys
bytes-same [] [] e = refl
bytes-same [] (y ∷ ys) e = cc
bytes-same (x ∷ xs) [] e = cc
bytes-same (x ∷ xs) (y ∷ ys) e =
    let parts = and_parts _ _ e in
    ap (λ (z : ℕ). z ∷ xs) (eqb-true x y parts.0) ∙ ap (λ (zs : List ℕ). y ∷ zs) (bytes-same xs ys parts.1)

pub handle-same : (h k : Handle) → handle_eq h k ≡ true → h ≡ k
handle-same h k e = let made : ℤ → Handle = λ z. record { 0 = z } in ap made (int_same h.0 k.0 e)

message-same : (m n : Message) → message_eq m n ≡ true → m ≡ n
message-same m n e =
    let made : ℤ → Handle → ℤ → ℕ → List ℕ → List ℕ → Message = λ kind handle client rhandle input output.
    record { kind = kind; handle = handle; client_id = client; rhandle = rhandle; in_size = input; out_size = output } in
    let one = and_parts _ _ e in
    let two = and_parts _ _ one.1 in
    let three = and_parts _ _ two.1 in
    let four = and_parts _ _ three.1 in
    let five = and_parts _ _ four.1 in
    ap (λ (x : ℤ). made x m.handle m.client_id m.rhandle m.in_size m.out_size) (int_same m.kind n.kind one.0)
    ∙ ap (λ (x : Handle). made n.kind x m.client_id m.rhandle m.in_size m.out_size) (handle-same m.handle n.handle two.0)
    ∙ ap (λ (x : ℤ). made n.kind n.handle x m.rhandle m.in_size m.out_size) (int_same m.client_id n.client_id three.0)
    ∙ ap (λ (x : ℕ). made n.kind n.handle n.client_id x m.in_size m.out_size) (eqb-true m.rhandle n.rhandle four.0)
    ∙ ap (λ (x : List ℕ). made n.kind n.handle n.client_id n.rhandle x m.out_size) (bytes-same m.in_size n.in_size five.0)
    ∙ ap (λ (x : List ℕ). made n.kind n.handle n.client_id n.rhandle n.in_size x) (bytes-same m.out_size n.out_size five.1)

pub outcome-same : (o p : Outcome) → outcome_eq o p ≡ true → o ≡ p
outcome-same = same-kind (λ o. o) (λ z w e. ap (λ (x : ℤ). Value x) (int_same z w e)) (λ n k e. ap (λ (x : ℕ). Number x) (eqb-true n k e)) (λ n k e. ap (λ (x : ℕ). Signals x) (eqb-true n k e))
    (λ m n e. ap (λ (x : Message). Got x) (message-same m n e))

-- ---- the handle that is shown is the name that is due, or doesn't bear on what the call does

-- the handle is the name, where a name is due
abbrev pub Shows : Handle → Option Handle → Type 0
Shows h due = option_map_or (handle_eq h) due true ≡ true

one-handle : (h k name : Handle) → Shows h (Some name) → Shows k (Some name) → h ≡ k
one-handle h k name p q = handle-same h name p ∙ sym (handle-same k name q)

get-one : (s : System) (st : State) (a signal msg : ℕ) (h k : Handle) (n : NamesSoFar) → Shows h (name_due s st a (call.Get signal msg) n) → Shows k (name_due s st a (call.Get signal msg) n)
    → psa_get s st a signal msg h ≡ psa_get s st a signal msg k
get-one s st a signal msg h k n =
    let made : Handle → ℕ → PendingMessage → Option Effect = λ x i m. if valid_buffer s a msg message_size then Some (get_of s st i msg x m) else None in
    let name : ℕ → Handle = λ j. name_of 512 (get_or n.messages j no_slot) in
    let within : (i : ℕ) (o : Option PendingMessage) → find (is_undelivered i) st.spm.messages ≡ o
    → Shows h (option_map name (position (is_undelivered i) st.spm.messages)) → Shows k (option_map name (position (is_undelivered i) st.spm.messages))
    → option_and_then (made h i) o ≡ option_and_then (made k i) o =
    λ i. elim [
      | None ↦ λ is p q. refl
      | Some m ↦ λ is p q.
          let j : ℕ = position_or_len (is_undelivered i) st.spm.messages in
          let less : j < length st.spm.messages = place-found (is_undelivered i) st.spm.messages m is in
          let below : nat_lt j (length st.spm.messages) ≡ true = grind (arith, nat_tests) in
          let due : position (is_undelivered i) st.spm.messages ≡ Some j = ap (λ (x : Bool). cond {A = Option ℕ} x (Some j) None) below in
          let shown : Handle → Option ℕ → Type 0 = λ x o. Shows x (option_map name o) in
          ap (λ (x : Handle). made x i m) (one-handle h k (name j) (subst (λ (o : Option ℕ). Shows h (option_map name o)) due p) (subst (λ (o : Option ℕ). Shows k (option_map name o)) due q))
    ] in
    let go : (o : Option ℕ) → Shows h (option_map name (option_and_then (λ i. position (is_undelivered i) st.spm.messages) o)) → Shows k (option_map name (option_and_then (λ i. position (is_undelivered i) st.spm.messages) o))
    → option_and_then (λ i. option_and_then (made h i) (find (is_undelivered i) st.spm.messages)) o ≡ option_and_then (λ i. option_and_then (made k i) (find (is_undelivered i) st.spm.messages)) o =
    elim [ None ↦ λ p q. refl | Some i ↦ λ p q. within i (find (is_undelivered i) st.spm.messages) refl p q ] in
    go (service_of_signal s a signal)

return-one : (s : System) (st : State) (a : ℕ) (p : ActorPhase) (h k : Handle) (n : NamesSoFar) → Shows h (name_at_return n p) → Shows k (name_at_return n p) → returned s st a p h ≡ returned s st a p k
return-one s st a (phase.Connected c) h k n p q = ap (λ (x : Handle). returned s st a (phase.Connected c) x) (one-handle h k (name_of 0 (get_or n.connections c no_slot)) p q)
return-one s st a _ h k n p q = refl

case-one : (s : System) (st : State) (a : ℕ) (c : Call) (h k : Handle) (n : NamesSoFar) → Shows h (name_due s st a c n) → Shows k (name_due s st a c n) → call_case s st a c h ≡ call_case s st a c k
case-one s st a (call.Get signal msg) h k n p q = get-one s st a signal msg h k n p q
case-one s st a call.Resume h k n p q = ap (λ (e : Effect). Some e) (return-one s st a (phase_of st.spm a) h k n p q)
case-one s st a _ h k n p q = refl

none-is : (o : Option Effect) → is_none o ≡ true → o ≡ None
none-is None e = refl
none-is (Some x) e = cc

-- a PROGRAMMER ERROR is one under each handle
error-stays : (s : System) (st : State) (a : ℕ) (c : Call) (h : Handle) → programmer_error s st a c ≡ true → case_of s st a c h ≡ None
error-stays s st a c h =
    let zero_handle : Handle = record { 0 = pos 0 } in
    let go : (b : Bool) → is_none (cond {A = Option Effect} b (call_case s st a c zero_handle) None) ≡ true → cond {A = Option Effect} b (call_case s st a c h) None ≡ None =
    elim [ true ↦ λ e. none-is (call_case s st a c h) (alike s st a c h zero_handle ∙ e) | false ↦ λ e. refl ] in
    go (has_call (kind_of s a) c)

pub effect-one : (s : System) (st : State) (a : ℕ) (c : Call) (h k : Handle) (n : NamesSoFar)
    → (programmer_error s st a c || option_map_or (handle_eq h) (name_due s st a c n) true) ≡ true
    → (programmer_error s st a c || option_map_or (handle_eq k) (name_due s st a c n) true) ≡ true
    → effect_of s st a c h ≡ effect_of s st a c k
effect-one s st a c h k n p q =
    let go : (b : Bool) → programmer_error s st a c ≡ b → (b || option_map_or (handle_eq h) (name_due s st a c n) true) ≡ true → (b || option_map_or (handle_eq k) (name_due s st a c n) true) ≡ true
    → case_of s st a c h ≡ case_of s st a c k =
    elim [
      | true ↦ λ e u v. error-stays s st a c h e ∙ sym (error-stays s st a c k e)
      | false ↦ λ e u v. ap (λ (o : Option Effect). cond {A = Option Effect} (has_call (kind_of s a) c) o None) (case-one s st a c h k n u v)
    ] in
    ap (λ (o : Option Effect). effect_or_error o (kind_of s a) s st a c) (go (programmer_error s st a c) refl p q)

-- ---- what a step says

third : {X : Type 0} (a b c : Bool) (x : X) → IsSome (if a && b && c then Some x else None) → c ≡ true
third true true true x h = refl
third true true false x h = h
third true false c x h = cc
third false b c x h = cc

second : {X : Type 0} (a b c : Bool) (x : X) → IsSome (if a && b && c then Some x else None) → b ≡ true
second true true c x h = refl
second true false c x h = h
second false b c x h = cc

first : {X : Type 0} (a b c : Bool) (x : X) → IsSome (if a && b && c then Some x else None) → a ≡ true
first true b c x h = refl
first false b c x h = h

pub step-outcome : (s : System) (st : State) (e : Entry) → IsSome (step s st e) → outcome_eq (effect_of s st e.actor.0 e.call (handle_shown e.outcome)).outcome e.outcome ≡ true
unfolding step
step-outcome s st e h =
    let due = effect_of s st e.actor.0 e.call (handle_shown e.outcome) in
    third (may_call s st.spm e.actor.0 e.call) (handle_allowed s st e.actor.0 e.call (handle_shown e.outcome)) (outcome_eq due.outcome e.outcome) due.state h

pub step-may : (s : System) (st : State) (e : Entry) → IsSome (step s st e) → may_call s st.spm e.actor.0 e.call ≡ true
unfolding step
step-may s st e h =
    let due = effect_of s st e.actor.0 e.call (handle_shown e.outcome) in
    first (may_call s st.spm e.actor.0 e.call) (handle_allowed s st e.actor.0 e.call (handle_shown e.outcome)) (outcome_eq due.outcome e.outcome) due.state h

pub step-allowed : (s : System) (st : State) (e : Entry) → IsSome (step s st e) → handle_allowed s st e.actor.0 e.call (handle_shown e.outcome) ≡ true
unfolding step
step-allowed s st e h =
    let due = effect_of s st e.actor.0 e.call (handle_shown e.outcome) in
    second (may_call s st.spm e.actor.0 e.call) (handle_allowed s st e.actor.0 e.call (handle_shown e.outcome)) (outcome_eq due.outcome e.outcome) due.state h

-- the actor of a step is one of the system, and enabled
pub step-actor : (s : System) (st : State) (e : Entry) → IsSome (step s st e) → nat_lt e.actor.0 (actor_count s) ≡ true
step-actor s st e h = (and_parts _ _ (step-may s st e h)).0

pub step-enabled : (s : System) (st : State) (e : Entry) → IsSome (step s st e) → enabled s st.spm e.actor.0 ≡ true
step-enabled s st e h =
    (and_parts _ (returns_when_due e.call (phase_of st.spm e.actor.0)) (and_parts (nat_lt e.actor.0 (actor_count s)) _ (step-may s st e h)).1).0

named-parts : (b : Bool) (o : Option State) (f : State → NamedState) → IsSome (if b then option_map f o else None) → (b ≡ true) × IsSome o
named-parts true (Some x) f h = (refl, refl)
named-parts true None f h = cc
named-parts false o f h = cc

pub named-shows : (s : System) (w : NamedState) (e : Entry) → IsSome (named_step s w e) → (shows_name s w.state e w.names ≡ true) × IsSome (step s w.state e)
named-shows s w e h = named-parts (shows_name s w.state e w.names) (step s w.state e) (λ new. record { state = new; names = names_after s w.state.spm new.spm w.names }) h

-- ---- one entry

abbrev entry : ℕ → Call → Outcome → Entry
entry a c o = record { actor = record { 0 = a }; call = c; outcome = o }

one-outcome : (s : System) (w : NamedState) (a : ℕ) (c : Call) (o p : Outcome) → IsSome (named_step s w (entry a c o)) → IsSome (named_step s w (entry a c p)) → o ≡ p
one-outcome s w a c o p g h =
    let of_o = named-shows s w (entry a c o) g in
    let of_p = named-shows s w (entry a c p) h in
    let same : effect_of s w.state a c (handle_shown o) ≡ effect_of s w.state a c (handle_shown p) = effect-one s w.state a c (handle_shown o) (handle_shown p) w.names of_o.0 of_p.0 in
    sym (outcome-same _ _ (step-outcome s w.state (entry a c o) of_o.1)) ∙ ap (λ (x : Effect). x.outcome) same ∙ outcome-same _ _ (step-outcome s w.state (entry a c p) of_p.1)

-- two entries that may come next, of one actor and with one call, are one
pub one-entry : (s : System) (w : NamedState) (e f : Entry) → IsSome (named_step s w e) → IsSome (named_step s w f) → e.actor.0 ≡ f.actor.0 → e.call ≡ f.call → e ≡ f
one-entry s w e f g h actors calls =
    let moved : IsSome (named_step s w (entry e.actor.0 f.call f.outcome)) = subst (λ (a : ℕ). IsSome (named_step s w (entry a f.call f.outcome))) (sym actors) h in
    let there : IsSome (named_step s w (entry e.actor.0 e.call f.outcome)) = subst (λ (c : Call). IsSome (named_step s w (entry e.actor.0 c f.outcome))) (sym calls) moved in
    ap (λ (o : Outcome). entry e.actor.0 e.call o) (one-outcome s w e.actor.0 e.call e.outcome f.outcome g there)
    ∙ ap (λ (c : Call). entry e.actor.0 c f.outcome) calls
    ∙ ap (λ (a : ℕ). entry a f.call f.outcome) actors
