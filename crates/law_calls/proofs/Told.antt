-- An actor's event tells nothing of bytes outside of its reach.
use Rattle.std.proofs.Common.{ℕ, ◌≡◌, ◌+◌, Bool, true, false, cond, ◌&&◌, ◌||◌, not, List, [], ◌∷◌, arith, ◌∙◌, ap, refl, subst, inr}
use Rattle.std.specs.Prelude.{ℤ, pos, int_lt, nat_le, min, find, is_none, Option, Some, None, option_and_then, if◌then◌else◌}
use Rattle.std.specs.Option.{option_map, option_map_or}
use Rattle.std.specs.Ordering.{int_eq}
use Rattle.std.proofs.lemmas.Bool.{and_parts}
use Rattle.ffm_model.specs.declared.constants.TheConstants.{PSA_IPC_CALL, PSA_IPC_CONNECT}
use Rattle.ffm_model.specs.declared.system.System.{System}
use Rattle.ffm_model.specs.declared.system.ActorKind.{ActorKind}
use Rattle.ffm_model.specs.declared.system.ActorKind.TheVariants.{Partition}
use Rattle.ffm_model.specs.declared.machine.Call.{Call}
use Rattle.ffm_model.specs.declared.machine.Call.TheVariants as call
use Rattle.ffm_model.specs.declared.machine.Entry.{Entry}
use Rattle.ffm_model.specs.declared.machine.Handle.{Handle}
use Rattle.ffm_model.specs.declared.machine.Outcome.TheVariants.{Number}
use Rattle.ffm_model.specs.declared.objects.ActorPhase.{ActorPhase}
use Rattle.ffm_model.specs.declared.objects.ActorPhase.TheVariants.{Ready}
use Rattle.ffm_model.specs.declared.objects.OpenConnection.{OpenConnection}
use Rattle.ffm_model.specs.declared.objects.PendingMessage.{PendingMessage}
use Rattle.ffm_model.specs.declared.objects.Vectors.{Vectors}
use Rattle.ffm_model.specs.Actors.{kind_of, permits, stateless_at, stateless_index}
use Rattle.ffm_model.specs.Memory.{ByteMap, valid_buffer, may_read, may_write, low_bytes, load_number, store_number, words_stored, lengths_written, vectors_of}
use Rattle.ffm_model.specs.State.{State, SpmState, phase_of, connection_held, message_held, is_undelivered, fresh}
use Rattle.ffm_model.specs.ClientCalls.{Move, Effect, effect, in_state, psa_call, connection_called, service_called, call_to, call_on, refuses_requests, returned}
use Rattle.ffm_model.specs.ServiceCalls.{psa_get, psa_read, psa_write, psa_reply, request_held, service_of_signal, message_size, message_words, shown_message, get_of, read_of, write_of, reply_of, rest_of, input_at, output_at, outputs_given, is_connect_status}
use Rattle.ffm_model.specs.Accesses.{load, store, is_access_size}
use Rattle.ffm_model.specs.Calls.{has_call, call_case, case_of, error_effect, effect_or_error, effect_of}
use Rattle.ffm_model.specs.Step.{step, may_call, gives_handle, handle_allowed, handle_shown, outcome_eq}
use Rattle.ffm_model.specs.Reach.{read_reach, AgreeWithin, TellsNothing, StepsAlike}
use Rattle.message_vectors.specs.Bytes.{TellsNothingAt}
use Rattle.message_vectors.proofs.Reached.{write_bytes-tells, tells-then, copy_bytes-tells, lengths_written-tells, load_number-same, vectors_of-same}
use Rattle.law_calls.proofs.Reached.{ram-read, buffer-read, range-read, rest-inside, input-read, request-held}

-- a state with a memory
abbrev with_memory : SpmState → List Handle → ByteMap → State
with_memory b given m = record { spm = b; handles_given = given; memory = m }

-- two memories agree where the actor may read
abbrev pub AgreeIn : System → SpmState → ℕ → ByteMap → ByteMap → Type 0
AgreeIn s b a one other = (x : ℕ) → read_reach s b a x ≡ true → one x ≡ other x

-- effects on states that differ in memory alone tell the same
pub record EffectsAlike (one other : ByteMap) (d e : Effect) : Type 0 where
  pub outcome : d.outcome ≡ e.outcome
  pub spm : d.state.spm ≡ e.state.spm
  pub handles : d.state.handles_given ≡ e.state.handles_given
  pub bytes : (x : ℕ) → TellsNothingAt x one other d.state.memory e.state.memory

-- both are made, or neither is
abbrev pub MadeAlike : ByteMap → ByteMap → Option Effect → Option Effect → Type 0
MadeAlike one other (Some d) (Some e) = EffectsAlike one other d e
MadeAlike one other None None = Unit {0}
MadeAlike one other _ _ = ⊥

if_alike : (one other : ByteMap) (b : Bool) (d e : Effect) → (b ≡ true → EffectsAlike one other d e) → MadeAlike one other (cond b (Some d) None) (cond b (Some e) None)
if_alike one other true d e h = h refl
if_alike one other false d e h = tt

made_of : {X : Type 0} (one other : ByteMap) (f g : X → Option Effect) (o : Option X) → ((x : X) → o ≡ Some x → MadeAlike one other (f x) (g x)) → MadeAlike one other (option_and_then f o) (option_and_then g o)
made_of one other f g None each = tt
made_of one other f g (Some x) each = each x refl

-- a move leaves both memories
moves : (b : SpmState) (given : List Handle) (one other : ByteMap) (o : Option Move) → MadeAlike one other (option_map (in_state (with_memory b given one)) o) (option_map (in_state (with_memory b given other)) o)
moves b given one other None = tt
moves b given one other (Some m) = record { outcome = refl; spm = refl; handles = refl; bytes = λ x. inr (refl, refl) }

-- psa_call reads descriptors
on_vectors : (s : System) (b : SpmState) (given : List Handle) (a in_vec in_len out_vec out_len : ℕ) (one other : ByteMap) (of : Option Vectors → Option Move) → AgreeIn s b a one other
    → MadeAlike one other (option_map (in_state (with_memory b given one)) (of (vectors_of s one a in_vec in_len out_vec out_len)))
    (option_map (in_state (with_memory b given other)) (of (vectors_of s other a in_vec in_len out_vec out_len)))
on_vectors s b given a in_vec in_len out_vec out_len one other of agree =
    subst (λ (vs : Option Vectors). MadeAlike one other (option_map (in_state (with_memory b given one)) (of (vectors_of s one a in_vec in_len out_vec out_len))) (option_map (in_state (with_memory b given other)) (of vs)))
    (vectors_of-same s one other a in_vec in_len out_vec out_len (λ x in_ram. agree x (ram-read s b a x in_ram))) (moves b given one other (of (vectors_of s one a in_vec in_len out_vec out_len)))

calls : (s : System) (b : SpmState) (given : List Handle) (a : ℕ) (h : Handle) (kind : ℤ) (in_vec in_len out_vec out_len : ℕ) (one other : ByteMap) → AgreeIn s b a one other
    → MadeAlike one other (option_map (in_state (with_memory b given one)) (psa_call s (with_memory b given one) a h kind in_vec in_len out_vec out_len))
    (option_map (in_state (with_memory b given other)) (psa_call s (with_memory b given other) a h kind in_vec in_len out_vec out_len))
calls s b given a h kind in_vec in_len out_vec out_len one other agree =
    let at : ByteMap → Option ℕ → Option Move = λ m o. option_map_or (λ index. service_called s (with_memory b given m) a index kind in_vec in_len out_vec out_len) o (connection_called s (with_memory b given m) a h kind in_vec in_len out_vec out_len) in
    elim (stateless_index h) as (λ (o : Option ℕ). MadeAlike one other (option_map (in_state (with_memory b given one)) (at one o)) (option_map (in_state (with_memory b given other)) (at other o))) [
      | None ↦ on_vectors s b given a in_vec in_len out_vec out_len one other
          (λ vs. option_and_then (λ (c : OpenConnection). option_and_then (λ v. if refuses_requests c.phase || int_lt kind (pos 0) then None else Some (call_on b a c kind v)) vs) (connection_held b a h)) agree
      | Some index ↦ on_vectors s b given a in_vec in_len out_vec out_len one other
          (λ vs. option_and_then (λ (i : ℕ). option_and_then (λ v. if permits s a i && not (int_lt kind (pos 0)) then Some (call_to s b a i kind v) else None) vs) (stateless_at s index)) agree
    ]

-- psa_get reads nothing
words_stored-tells : (one other : ByteMap) (at x : ℕ) (ws : List ℕ) → TellsNothingAt x one other (words_stored one at ws) (words_stored other at ws)
words_stored-tells one other at x [] = inr (refl, refl)
words_stored-tells one other at x (w ∷ ws) =
    tells-then x one other (store_number one at 4 w) (store_number other at 4 w) (words_stored (store_number one at 4 w) (at + 4) ws) (words_stored (store_number other at 4 w) (at + 4) ws)
    (write_bytes-tells one other at (low_bytes 4 w) x) (words_stored-tells (store_number one at 4 w) (store_number other at 4 w) (at + 4) x ws)

gets : (s : System) (b : SpmState) (given : List Handle) (a signal msg : ℕ) (h : Handle) (one other : ByteMap)
    → MadeAlike one other (psa_get s (with_memory b given one) a signal msg h) (psa_get s (with_memory b given other) a signal msg h)
gets s b given a signal msg h one other =
    made_of one other _ _ (service_of_signal s a signal) (λ i owned. made_of one other _ _ (find (is_undelivered i) b.messages) (λ p found.
    if_alike one other (valid_buffer s a msg message_size) (get_of s (with_memory b given one) i msg h p) (get_of s (with_memory b given other) i msg h p)
    (λ valid. record { outcome = refl; spm = refl; handles = refl; bytes = λ x. words_stored-tells one other msg x (message_words (shown_message s b p h)) })))

-- psa_read reads an input vector
reads : (s : System) (b : SpmState) (given : List Handle) (a index buffer len : ℕ) (h : Handle) (one other : ByteMap) → AgreeIn s b a one other
    → MadeAlike one other (psa_read s (with_memory b given one) a h index buffer len) (psa_read s (with_memory b given other) a h index buffer len)
reads s b given a index buffer len h one other agree =
    made_of one other _ _ (request_held s b a h index) (λ p held.
    if_alike one other (valid_buffer s a buffer len) (read_of (with_memory b given one) h index buffer len p) (read_of (with_memory b given other) h index buffer len p) (λ valid.
    let v = input_at p index in
    let n = min len (rest_of v) in
    record {
      outcome = refl;
      spm = refl;
      handles = refl;
      bytes = λ x. copy_bytes-tells one other (v.base + v.moved) buffer n x (λ y inside. agree y (input-read s b a h index y p (request-held s b a h index p held) (rest-inside v n y (omega arith) inside)));
    }))

-- psa_write reads a buffer
writes : (s : System) (b : SpmState) (given : List Handle) (a index buffer len : ℕ) (h : Handle) (one other : ByteMap) → AgreeIn s b a one other
    → MadeAlike one other (psa_write s (with_memory b given one) a h index buffer len) (psa_write s (with_memory b given other) a h index buffer len)
writes s b given a index buffer len h one other agree =
    made_of one other _ _ (request_held s b a h index) (λ p held.
    if_alike one other (valid_buffer s a buffer len && nat_le len (rest_of (output_at p index))) (write_of (with_memory b given one) h index buffer len p) (write_of (with_memory b given other) h index buffer len p)
    (λ may. record {
      outcome = refl;
      spm = refl;
      handles = refl;
      bytes = λ x. copy_bytes-tells one other buffer ((output_at p index).base + (output_at p index).moved) len x (λ y inside. agree y (buffer-read s b a buffer len y (and_parts (valid_buffer s a buffer len) _ may).0 inside));
    }))

-- psa_reply reads nothing
replied-alike : (s : System) (b : SpmState) (given : List Handle) (h : Handle) (status : ℤ) (one other : ByteMap) (p : PendingMessage)
    → EffectsAlike one other (reply_of s (with_memory b given one) h status p) (reply_of s (with_memory b given other) h status p)
replied-alike s b given h status one other p = record {
  outcome = refl;
  spm = refl;
  handles = refl;
  bytes = λ x. elim (int_lt p.kind PSA_IPC_CALL) as (λ (c : Bool). TellsNothingAt x one other (cond {A = ByteMap} c one (lengths_written one p.vectors.out_vec (outputs_given p))) (cond {A = ByteMap} c other (lengths_written other p.vectors.out_vec (outputs_given p)))) [
    | true ↦ inr (refl, refl)
    | false ↦ lengths_written-tells one other p.vectors.out_vec x (outputs_given p)
  ];
}

replies : (s : System) (b : SpmState) (given : List Handle) (a : ℕ) (h : Handle) (status : ℤ) (one other : ByteMap)
    → MadeAlike one other (psa_reply s (with_memory b given one) a h status) (psa_reply s (with_memory b given other) a h status)
replies s b given a h status one other =
    let to : PendingMessage → Option PendingMessage = λ p. if int_eq p.kind PSA_IPC_CONNECT && not (is_connect_status status) then None else Some p in
    let of : (o : Option PendingMessage) → MadeAlike one other (option_map (reply_of s (with_memory b given one) h status) o) (option_map (reply_of s (with_memory b given other) h status) o) =
    elim [ None ↦ tt | Some p ↦ replied-alike s b given h status one other p ] in
    of (option_and_then to (message_held s b a h))

loads : (s : System) (b : SpmState) (given : List Handle) (a at size : ℕ) (one other : ByteMap) → AgreeIn s b a one other
    → MadeAlike one other (load s (with_memory b given one) a at size) (load s (with_memory b given other) a at size)
loads s b given a at size one other agree =
    if_alike one other (is_access_size size && may_read s a at size) (effect (Number (load_number one at size)) (with_memory b given one)) (effect (Number (load_number other at size)) (with_memory b given other)) (λ may. record {
      outcome = ap Number (load_number-same one other at size (λ x inside. agree x (range-read s b a at size x (and_parts (is_access_size size) _ may).1 inside)));
      spm = refl;
      handles = refl;
      bytes = λ x. inr (refl, refl);
    })

stores : (s : System) (b : SpmState) (given : List Handle) (a at size value : ℕ) (one other : ByteMap)
    → MadeAlike one other (store s (with_memory b given one) a at size value) (store s (with_memory b given other) a at size value)
stores s b given a at size value one other =
    if_alike one other (is_access_size size && may_write s a at size) _ _ (λ may. record { outcome = refl; spm = refl; handles = refl; bytes = λ x. write_bytes-tells one other at (low_bytes size value) x })

returns : (s : System) (b : SpmState) (given : List Handle) (a : ℕ) (p : ActorPhase) (h : Handle) (one other : ByteMap)
    → EffectsAlike one other (returned s (with_memory b given one) a p h) (returned s (with_memory b given other) a p h)
returns s b given a (Ready o) h one other = record { outcome = refl; spm = refl; handles = refl; bytes = λ x. inr (refl, refl) }
returns s b given a _ h one other = record { outcome = refl; spm = refl; handles = refl; bytes = λ x. inr (refl, refl) }

call-alike : (s : System) (b : SpmState) (given : List Handle) (a : ℕ) (c : Call) (h : Handle) (one other : ByteMap) → AgreeIn s b a one other
    → MadeAlike one other (call_case s (with_memory b given one) a c h) (call_case s (with_memory b given other) a c h)
call-alike s b given a call.FrameworkVersion h one other agree = record { outcome = refl; spm = refl; handles = refl; bytes = λ x. inr (refl, refl) }
call-alike s b given a (call.Version sid) h one other agree = record { outcome = refl; spm = refl; handles = refl; bytes = λ x. inr (refl, refl) }
call-alike s b given a (call.Invoke c kind iv il ov ol) h one other agree = calls s b given a c kind iv il ov ol one other agree
call-alike s b given a (call.Get signal msg) h one other agree = gets s b given a signal msg h one other
call-alike s b given a (call.Read m index buffer len) h one other agree = reads s b given a index buffer len m one other agree
call-alike s b given a (call.Write m index buffer len) h one other agree = writes s b given a index buffer len m one other agree
call-alike s b given a (call.Reply m status) h one other agree = replies s b given a m status.0 one other
call-alike s b given a call.Panic h one other agree = tt
call-alike s b given a (call.Load at size) h one other agree = loads s b given a at size one other agree
call-alike s b given a (call.Store at size value) h one other agree = stores s b given a at size value one other
call-alike s b given a (call.Stop spent) h one other agree = record { outcome = refl; spm = refl; handles = refl; bytes = λ x. inr (refl, refl) }
call-alike s b given a call.Resume h one other agree = returns s b given a (phase_of b a) h one other
call-alike s b given a c h one other agree = moves b given one other _

-- where the kind of actor has the call
case-alike : (s : System) (b : SpmState) (given : List Handle) (a : ℕ) (c : Call) (h : Handle) (one other : ByteMap) → AgreeIn s b a one other
    → MadeAlike one other (case_of s (with_memory b given one) a c h) (case_of s (with_memory b given other) a c h)
case-alike s b given a c h one other agree =
    elim (has_call (kind_of s a) c) as (λ (x : Bool). MadeAlike one other (cond {A = Option Effect} x (call_case s (with_memory b given one) a c h) None) (cond {A = Option Effect} x (call_case s (with_memory b given other) a c h) None)) [
      | true ↦ call-alike s b given a c h one other agree
      | false ↦ tt
    ]

error-alike : (s : System) (b : SpmState) (given : List Handle) (a : ℕ) (c : Call) (one other : ByteMap) (k : ActorKind)
    → EffectsAlike one other (error_effect k s (with_memory b given one) a c) (error_effect k s (with_memory b given other) a c)
error-alike s b given a c one other Partition = record { outcome = refl; spm = refl; handles = refl; bytes = λ x. inr (refl, refl) }
error-alike s b given a c one other k = record { outcome = refl; spm = refl; handles = refl; bytes = λ x. inr (refl, refl) }

-- each call answers and leaves the same, but for memory that it does not tell
pub effect-alike : (s : System) (b : SpmState) (given : List Handle) (a : ℕ) (c : Call) (h : Handle) (one other : ByteMap) → AgreeIn s b a one other
    → EffectsAlike one other (effect_of s (with_memory b given one) a c h) (effect_of s (with_memory b given other) a c h)
effect-alike s b given a c h one other agree =
    let go : (o p : Option Effect) → MadeAlike one other o p → EffectsAlike one other (effect_or_error o (kind_of s a) s (with_memory b given one) a c) (effect_or_error p (kind_of s a) s (with_memory b given other) a c) =
    elim [
      | None ↦ elim [ None ↦ λ made. error-alike s b given a c one other (kind_of s a) | Some e ↦ λ made. absurd made ]
      | Some d ↦ elim [ None ↦ λ made. absurd made | Some e ↦ λ made. made ]
    ] in
    go (case_of s (with_memory b given one) a c h) (case_of s (with_memory b given other) a c h) (case-alike s b given a c h one other agree)

none-alike : (one other : ByteMap) (o p : Option Effect) → MadeAlike one other o p → is_none o ≡ is_none p
none-alike one other None None made = refl
none-alike one other None (Some e) made = absurd made
none-alike one other (Some d) None made = absurd made
none-alike one other (Some d) (Some e) made = refl

allowed-alike : (s : System) (b : SpmState) (given : List Handle) (a : ℕ) (c : Call) (h : Handle) (one other : ByteMap) → AgreeIn s b a one other
    → handle_allowed s (with_memory b given one) a c h ≡ handle_allowed s (with_memory b given other) a c h
allowed-alike s b given a c h one other agree =
    ap (λ x. x || (not (gives_handle (phase_of b a) c) || fresh (with_memory b given one) h)) (none-alike one other _ _ (case-alike s b given a c (record { 0 = pos 0 }) one other agree))

both_or_neither : (one other x y : State) (may p q f g : Bool) → p ≡ q → f ≡ g → TellsNothing one other x y → StepsAlike one other (if may && p && f then Some x else None) (if may && q && g then Some y else None)
both_or_neither one other x y may p q f g same alike tells =
    subst (λ (q : Bool). StepsAlike one other (if may && p && f then Some x else None) (if may && q && g then Some y else None)) same
    (subst (λ (g : Bool). StepsAlike one other (if may && p && f then Some x else None) (if may && p && g then Some y else None)) alike
    (elim (may && p && f) as (λ (c : Bool). StepsAlike one other (if c then Some x else None) (if c then Some y else None)) [ true ↦ tells | false ↦ tt ]))

step-in : (s : System) (b : SpmState) (given : List Handle) (e : Entry) (one other : ByteMap) → AgreeIn s b e.actor.0 one other
    → StepsAlike (with_memory b given one) (with_memory b given other) (step s (with_memory b given one) e) (step s (with_memory b given other) e)
unfolding step
step-in s b given e one other agree =
    let h = handle_shown e.outcome in
    let alike = effect-alike s b given e.actor.0 e.call h one other agree in
    both_or_neither (with_memory b given one) (with_memory b given other) (effect_of s (with_memory b given one) e.actor.0 e.call h).state (effect_of s (with_memory b given other) e.actor.0 e.call h).state
    (may_call s b e.actor.0 e.call) _ _ _ _ (allowed-alike s b given e.actor.0 e.call h one other agree) (ap (λ o. outcome_eq o e.outcome) alike.outcome)
    (record { spm = alike.spm; handles = alike.handles; bytes = alike.bytes })

-- two states that agree where the actor may read: both steps exist or neither does, and they tell nothing else
pub step-alike : (s : System) (one other : State) (e : Entry) → AgreeWithin s e.actor.0 one other → StepsAlike one other (step s one e) (step s other e)
step-alike s one other e agree =
    let same : with_memory one.spm one.handles_given other.memory ≡ other =
    ap (λ b. with_memory b one.handles_given other.memory) agree.spm ∙ ap (λ given. with_memory other.spm given other.memory) agree.handles in
    subst (λ (y : State). StepsAlike one y (step s one e) (step s y e)) same (step-in s one.spm one.handles_given e one.memory other.memory agree.bytes)
