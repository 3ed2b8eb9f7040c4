-- A call that is Blocked and waits for an answer sends the message that it asks for.
use Rattle.std.proofs.lemmas.Bool.{and_parts}
use Rattle.std.proofs.Common.{ℕ, ◌≡◌, Bool, true, false, not, ◌&&◌, ◌||◌, List, [], ◌∷◌, ◌++◌, ◌∙◌, ap, sym, refl, subst, ◌⊎◌, inl, inr}
use Rattle.std.specs.Prelude.{ℤ, pos, int_lt, bit_and, nat_lt, nat_le, Option, Some, None, option_and_then, if◌then◌else◌, find}
use Rattle.std.specs.Option.{option_map, option_map_or}
use Rattle.std.specs.Ordering.{int_eq}
use Rattle.ffm_model.specs.declared.constants.TheConstants.{PSA_BLOCK, PSA_FRAMEWORK_VERSION, PSA_IPC_DISCONNECT, PSA_NULL_HANDLE, PSA_ERROR_CONNECTION_REFUSED, PSA_ERROR_CONNECTION_BUSY, PSA_ERROR_COMMUNICATION_FAILURE, PSA_ERROR_PROGRAMMER_ERROR}
use Rattle.ffm_model.specs.declared.system.System.{System}
use Rattle.ffm_model.specs.declared.system.ActorKind.{ActorKind}
use Rattle.ffm_model.specs.declared.system.ActorKind.TheVariants.{Partition, Client, Device}
use Rattle.ffm_model.specs.declared.machine.Handle.{Handle}
use Rattle.ffm_model.specs.declared.machine.Sid.{Sid}
use Rattle.ffm_model.specs.declared.machine.Status.{Status}
use Rattle.ffm_model.specs.declared.machine.Entry.{Entry}
use Rattle.ffm_model.specs.declared.machine.Call.{Call}
use Rattle.ffm_model.specs.declared.machine.Call.TheVariants as call
use Rattle.ffm_model.specs.declared.machine.Outcome.{Outcome}
use Rattle.ffm_model.specs.declared.machine.Outcome.TheVariants as outcome
use Rattle.ffm_model.specs.declared.objects.Vectors.{Vectors}
use Rattle.ffm_model.specs.declared.objects.OpenConnection.{OpenConnection}
use Rattle.ffm_model.specs.declared.objects.PendingMessage.{PendingMessage}
use Rattle.ffm_model.specs.declared.objects.ConnPhase.TheVariants.{Busy, Closing}
use Rattle.ffm_model.specs.declared.objects.ActorPhase.{ActorPhase}
use Rattle.ffm_model.specs.declared.objects.ActorPhase.TheVariants.{Running, Blocked, Waiting, Ready, Connected, Ended}
use Rattle.ffm_model.specs.Actors.{is_stateless, kind_of, permits, service_at, stateless_at, stateless_index}
use Rattle.ffm_model.specs.Memory.{no_vectors, vectors_of, valid_buffer}
use Rattle.ffm_model.specs.Records.{is_blocked_outcome}
use Rattle.ffm_model.specs.State.{SpmState, State, connection_held, with_rhandle, is_undelivered, phase_of, with_connection_phase, with_message, with_phase, with_request, without_connection}
use Rattle.ffm_model.specs.Signals.{assigned_to, can_go_on, enabled, may_resume, has_signal_of, signals_of}
use Rattle.ffm_model.specs.Panic.{is_dead}
use Rattle.ffm_model.specs.ClientCalls.{Move, Effect, move, in_state, connect_to, connect_issued, connection_called, service_called, call_on, call_to, close_on, is_service_panicked, refuses_requests, is_busy, returned, takes_version, version_number}
use Rattle.ffm_model.specs.ServiceCalls.{get_of, message_size, output_at, read_of, reply_of, reply_to, request_held, rest_of, service_of_signal, skip_of, write_of}
use Rattle.ffm_model.specs.SignalCalls.{source_of_signal}
use Rattle.ffm_model.specs.Step.{handle_shown, may_call, step}
use Rattle.ffm_model.specs.Calls.{call_case, has_call, refusal_of, error_effect, effect_or_error, effect_of}
use Rattle.law_counting.proofs.Events.{IfMoved, IfThere, Says, caller-running}
use Rattle.law_counting.proofs.Steps.{Stepped, step-is}
use Rattle.law_counting.proofs.Parts.{is_there, phase_same}
use Rattle.view_diagram.specs.Arrows.{service_of_handle}
use Rattle.view_diagram.specs.Pairs.{Asks}
use Rattle.law_counting.proofs.Returns.{blocked-alike}
use Rattle.law_counting.proofs.Owners.{held-client}

-- the calls that ask for a message
abbrev pub is_for_message : Call → Bool
is_for_message (call.Connect sid version) = true
is_for_message (call.Invoke h kind in_vec in_len out_vec out_len) = true
is_for_message (call.Close h) = true
is_for_message _ = false

-- the message that an actor's call asks for goes last, and the actor is Blocked
pub record IsIssued (s : System) (b : SpmState) (a : ℕ) (d : Call) (new : SpmState) : Type 0 where
  pub message : PendingMessage
  pub added : new.messages ≡ b.messages ++ message ∷ []
  pub client : message.client.0 ≡ a
  pub asks : Asks s b a d message.service message.kind
  pub phase : phase_of new a ≡ Blocked

-- where the outcome is Blocked, and the phase or the call says that the actor waits for an answer
abbrev pub Issues : System → SpmState → ℕ → Call → Outcome → SpmState → List Handle → Type 0
Issues s b a d o new given = (phase_of b a ≡ Ended → ⊥) → is_blocked_outcome o ≡ true → (phase_of new a ≡ Blocked) ⊎ (is_for_message d ≡ true) → IsIssued s b a d new

abbrev IfEffect : System → State → ℕ → Call → Option Effect → Type 0
IfEffect s st a d o = IfThere o (Says (Issues s st.spm a d))

abbrev IfMove : System → State → ℕ → Call → Option Move → Type 0
IfMove s st a d o = IfMoved (Issues s st.spm a d) st.handles_given o

-- ---- calls that are not Blocked

ends : (s : System) (b : SpmState) (a : ℕ) (d : Call) (o : Outcome) (new : SpmState) (given : List Handle) → is_blocked_outcome o ≡ false → Issues s b a d o new given
ends s b a d o new given plain there blocked why = let bad : false ≡ true = sym plain ∙ blocked in cc

moved : (s : System) (st : State) (a : ℕ) (d : Call) (o : Option Move) → IfMove s st a d o → IfEffect s st a d (option_map (in_state st) o)
moved s st a d None h = tt
moved s st a d (Some m) h = h

map-ends : {X : Type 0} (s : System) (st : State) (a : ℕ) (d : Call) (f : X → Move) → ((x : X) → is_blocked_outcome (f x).outcome ≡ false) → (o : Option X) → IfMove s st a d (option_map f o)
map-ends s st a d f plain None = tt
map-ends s st a d f plain (Some x) = ends s st.spm a d (f x).outcome (f x).spm st.handles_given (plain x)

if-ends : (s : System) (st : State) (a : ℕ) (d : Call) (x : Bool) (m : Move) → is_blocked_outcome m.outcome ≡ false → IfMove s st a d (if x then Some m else None)
if-ends s st a d true m plain = ends s st.spm a d m.outcome m.spm st.handles_given plain
if-ends s st a d false m plain = tt

then-ends : {X : Type 0} (s : System) (st : State) (a : ℕ) (d : Call) (test : X → Bool) (f : X → Move) → ((x : X) → is_blocked_outcome (f x).outcome ≡ false) → (o : Option X) → IfMove s st a d (option_and_then (λ x. if test x then Some (f x) else None) o)
then-ends s st a d test f plain None = tt
then-ends s st a d test f plain (Some x) = if-ends s st a d (test x) (f x) (plain x)

if-effect : (s : System) (st : State) (a : ℕ) (d : Call) (x : Bool) (e : Effect) → is_blocked_outcome e.outcome ≡ false → IfEffect s st a d (if x then Some e else None)
if-effect s st a d true e plain = ends s st.spm a d e.outcome e.state.spm e.state.handles_given plain
if-effect s st a d false e plain = tt

then-effect : {X : Type 0} (s : System) (st : State) (a : ℕ) (d : Call) (test : X → Bool) (f : X → Effect) → ((x : X) → is_blocked_outcome (f x).outcome ≡ false) → (o : Option X) → IfEffect s st a d (option_and_then (λ x. if test x then Some (f x) else None) o)
then-effect s st a d test f plain None = tt
then-effect s st a d test f plain (Some x) = if-effect s st a d (test x) (f x) (plain x)

map-effect : {X : Type 0} (s : System) (st : State) (a : ℕ) (d : Call) (f : X → Effect) → ((x : X) → is_blocked_outcome (f x).outcome ≡ false) → (o : Option X) → IfEffect s st a d (option_map f o)
map-effect s st a d f plain None = tt
map-effect s st a d f plain (Some x) = ends s st.spm a d (f x).outcome (f x).state.spm (f x).state.handles_given (plain x)

-- ---- psa_connect

set-phase : (b : SpmState) (a : ℕ) (p : ActorPhase) → (phase_of b a ≡ Ended → ⊥) → phase_of (with_phase b a p) a ≡ p
set-phase b a p there = phase_same b.phases a p (is_there b.phases a there)

connected-by : (s : System) (st : State) (a service : ℕ) (sid : Sid) (version : ℕ) (gone full : Bool) → service_at s sid ≡ Some service
    → (let m : Move = if gone then move (outcome.Value PSA_ERROR_CONNECTION_REFUSED) st.spm else (if full then move (outcome.Value PSA_ERROR_CONNECTION_BUSY) st.spm else move outcome.Blocked (connect_issued st.spm a service)) in Issues s st.spm a (call.Connect sid version) m.outcome m.spm st.handles_given)
connected-by s st a service sid version true full at = ends s st.spm a (call.Connect sid version) (outcome.Value PSA_ERROR_CONNECTION_REFUSED) st.spm st.handles_given refl
connected-by s st a service sid version false true at = ends s st.spm a (call.Connect sid version) (outcome.Value PSA_ERROR_CONNECTION_BUSY) st.spm st.handles_given refl
connected-by s st a service sid version false false at = λ there blocked why. record { message = _; added = refl; client = refl; asks = (at, refl); phase = set-phase st.spm a Blocked there }

connect-by : (s : System) (st : State) (a : ℕ) (sid : Sid) (version service : ℕ) (x : Bool) → service_at s sid ≡ Some service → IfMove s st a (call.Connect sid version) (if x then Some (connect_to s st.spm a service) else None)
connect-by s st a sid version service true at = connected-by s st a service sid version (is_service_panicked s st.spm service) _ at
connect-by s st a sid version service false at = tt

connects : (s : System) (st : State) (a : ℕ) (sid : Sid) (version : ℕ) (o : Option ℕ) → service_at s sid ≡ o
    → IfMove s st a (call.Connect sid version) (option_and_then (λ i. if permits s a i && (not (is_stateless s i) && takes_version s i version) then Some (connect_to s st.spm a i) else None) o)
connects s st a sid version None at = tt
connects s st a sid version (Some i) at = connect-by s st a sid version i (permits s a i && (not (is_stateless s i) && takes_version s i version)) at

-- ---- psa_call

called-by : (s : System) (st : State) (a : ℕ) (d : Call) (c : OpenConnection) (kind : ℤ) (v : Vectors) (dead : Bool) → Asks s st.spm a d c.service kind
    → (let m : Move = if dead then move (outcome.Value PSA_ERROR_COMMUNICATION_FAILURE) st.spm else move outcome.Blocked (with_phase (with_message (with_connection_phase st.spm c.serial Busy) c kind v) a Blocked) in (c.client.0 ≡ a) → Issues s st.spm a d m.outcome m.spm st.handles_given)
called-by s st a d c kind v true asks own = ends s st.spm a d (outcome.Value PSA_ERROR_COMMUNICATION_FAILURE) st.spm st.handles_given refl
called-by s st a d c kind v false asks own = λ there blocked why. record { message = _; added = refl; client = own; asks = asks; phase = set-phase st.spm a Blocked there }

asked-by : (s : System) (st : State) (a : ℕ) (d : Call) (service : ℕ) (kind : ℤ) (v : Vectors) (gone : Bool) → Asks s st.spm a d service kind
    → (let m : Move = if gone then move (outcome.Value PSA_ERROR_COMMUNICATION_FAILURE) st.spm else move outcome.Blocked (with_phase (with_request st.spm a service kind v) a Blocked) in Issues s st.spm a d m.outcome m.spm st.handles_given)
asked-by s st a d service kind v true asks = ends s st.spm a d (outcome.Value PSA_ERROR_COMMUNICATION_FAILURE) st.spm st.handles_given refl
asked-by s st a d service kind v false asks = λ there blocked why. record { message = _; added = refl; client = refl; asks = asks; phase = set-phase st.spm a Blocked there }

closed-by : (s : System) (st : State) (a : ℕ) (d : Call) (c : OpenConnection) (dead : Bool) → Asks s st.spm a d c.service PSA_IPC_DISCONNECT
    → (let m : Move = if dead then move outcome.Done (without_connection st.spm c.serial) else move outcome.Blocked (with_phase (with_message (with_connection_phase st.spm c.serial Closing) c PSA_IPC_DISCONNECT no_vectors) a Blocked) in (c.client.0 ≡ a) → Issues s st.spm a d m.outcome m.spm st.handles_given)
closed-by s st a d c true asks own = ends s st.spm a d outcome.Done (without_connection st.spm c.serial) st.handles_given refl
closed-by s st a d c false asks own = λ there blocked why. record { message = _; added = refl; client = own; asks = asks; phase = set-phase st.spm a Blocked there }

call-by : (s : System) (st : State) (a : ℕ) (d : Call) (c : OpenConnection) (kind : ℤ) (v : Vectors) (x : Bool) → Asks s st.spm a d c.service kind → c.client.0 ≡ a → IfMove s st a d (if x then None else Some (call_on st.spm a c kind v))
call-by s st a d c kind v true asks own = tt
call-by s st a d c kind v false asks own = called-by s st a d c kind v (is_dead c.phase) asks own

with-vectors : (s : System) (st : State) (a : ℕ) (d : Call) (c : OpenConnection) (kind : ℤ) (o : Option Vectors) → Asks s st.spm a d c.service kind → c.client.0 ≡ a
    → IfMove s st a d (option_and_then (λ v. if refuses_requests c.phase || int_lt kind (pos 0) then None else Some (call_on st.spm a c kind v)) o)
with-vectors s st a d c kind None asks own = tt
with-vectors s st a d c kind (Some v) asks own = call-by s st a d c kind v (refuses_requests c.phase || int_lt kind (pos 0)) asks own

on-connection : (s : System) (st : State) (a : ℕ) (h : Handle) (kind : ℤ) (iv il ov ol : ℕ) (o : Option OpenConnection) → stateless_index h ≡ None → connection_held st.spm a h ≡ o
    → IfMove s st a (call.Invoke h kind iv il ov ol) (option_and_then (λ c. option_and_then (λ v. if refuses_requests c.phase || int_lt kind (pos 0) then None else Some (call_on st.spm a c kind v)) (vectors_of s st.memory a iv il ov ol)) o)
on-connection s st a h kind iv il ov ol None none held = tt
on-connection s st a h kind iv il ov ol (Some c) none held =
    let named : service_of_handle s st.spm a h ≡ Some c.service =
    ap (λ (i : Option ℕ). option_map_or (stateless_at s) i (option_map (λ (x : OpenConnection). x.service) (connection_held st.spm a h))) none ∙ ap (option_map (λ (x : OpenConnection). x.service)) held in
    with-vectors s st a (call.Invoke h kind iv il ov ol) c kind (vectors_of s st.memory a iv il ov ol) (named, refl) (held-client st.spm a h c held)

ask-by : (s : System) (st : State) (a : ℕ) (d : Call) (service : ℕ) (kind : ℤ) (v : Vectors) (x : Bool) → Asks s st.spm a d service kind → IfMove s st a d (if x then Some (call_to s st.spm a service kind v) else None)
ask-by s st a d service kind v true asks = asked-by s st a d service kind v (is_service_panicked s st.spm service) asks
ask-by s st a d service kind v false asks = tt

ask-vectors : (s : System) (st : State) (a : ℕ) (d : Call) (service : ℕ) (kind : ℤ) (o : Option Vectors) → Asks s st.spm a d service kind
    → IfMove s st a d (option_and_then (λ v. if permits s a service && not (int_lt kind (pos 0)) then Some (call_to s st.spm a service kind v) else None) o)
ask-vectors s st a d service kind None asks = tt
ask-vectors s st a d service kind (Some v) asks = ask-by s st a d service kind v (permits s a service && not (int_lt kind (pos 0))) asks

by-index : (s : System) (st : State) (a : ℕ) (h : Handle) (index : ℕ) (kind : ℤ) (iv il ov ol : ℕ) (o : Option ℕ) → stateless_index h ≡ Some index → stateless_at s index ≡ o
    → IfMove s st a (call.Invoke h kind iv il ov ol) (option_and_then (λ i. option_and_then (λ v. if permits s a i && not (int_lt kind (pos 0)) then Some (call_to s st.spm a i kind v) else None) (vectors_of s st.memory a iv il ov ol)) o)
by-index s st a h index kind iv il ov ol None is at = tt
by-index s st a h index kind iv il ov ol (Some service) is at =
    let named : service_of_handle s st.spm a h ≡ Some service = ap (λ (i : Option ℕ). option_map_or (stateless_at s) i (option_map (λ (x : OpenConnection). x.service) (connection_held st.spm a h))) is ∙ at in
    ask-vectors s st a (call.Invoke h kind iv il ov ol) service kind (vectors_of s st.memory a iv il ov ol) (named, refl)

invokes : (s : System) (st : State) (a : ℕ) (h : Handle) (kind : ℤ) (iv il ov ol : ℕ) (o : Option ℕ) → stateless_index h ≡ o
    → IfMove s st a (call.Invoke h kind iv il ov ol) (option_map_or (λ index. service_called s st a index kind iv il ov ol) o (connection_called s st a h kind iv il ov ol))
invokes s st a h kind iv il ov ol None e = on-connection s st a h kind iv il ov ol (connection_held st.spm a h) e refl
invokes s st a h kind iv il ov ol (Some index) e = by-index s st a h index kind iv il ov ol (stateless_at s index) e refl

-- ---- psa_close

close-by : (s : System) (st : State) (a : ℕ) (h : Handle) (c : OpenConnection) (x : Bool) → connection_held st.spm a h ≡ Some c → IfMove s st a (call.Close h) (if x then None else Some (close_on st.spm a c))
close-by s st a h c true held = tt
close-by s st a h c false held = closed-by s st a (call.Close h) c (is_dead c.phase) (ap (option_map (λ (x : OpenConnection). x.service)) held, refl) (held-client st.spm a h c held)

close-held : (s : System) (st : State) (a : ℕ) (h : Handle) (o : Option OpenConnection) → connection_held st.spm a h ≡ o → IfMove s st a (call.Close h) (option_and_then (λ c. if is_busy c.phase then None else Some (close_on st.spm a c)) o)
close-held s st a h None held = tt
close-held s st a h (Some c) held = close-by s st a h c (is_busy c.phase) held

closes : (s : System) (st : State) (a : ℕ) (h : Handle) (x : Bool) → IfMove s st a (call.Close h) (if x then Some (move outcome.Done st.spm) else option_and_then (λ c. if is_busy c.phase then None else Some (close_on st.spm a c)) (connection_held st.spm a h))
closes s st a h true = ends s st.spm a (call.Close h) outcome.Done st.spm st.handles_given refl
closes s st a h false = close-held s st a h (connection_held st.spm a h) refl

-- ---- psa_wait: its phase is another

-- an actor in this phase does not wait for an answer
neither : (p : ActorPhase) (P : Type 0) → (p ≡ Blocked → ⊥) → (p ≡ Blocked) ⊎ (false ≡ true) → P
neither p P other (inl e) = absurd (other e)
neither p P other (inr e) = cc

wait-by : (s : System) (st : State) (a mask timeout : ℕ) (now : Bool) → phase_of st.spm a ≡ Running
    → (let m : Move = if now then move (outcome.Signals (bit_and (signals_of s st.spm a) mask)) st.spm else move outcome.Blocked (with_phase st.spm a (Waiting mask)) in Issues s st.spm a (call.Wait mask timeout) m.outcome m.spm st.handles_given)
wait-by s st a mask timeout true running = ends s st.spm a (call.Wait mask timeout) (outcome.Signals (bit_and (signals_of s st.spm a) mask)) st.spm st.handles_given refl
wait-by s st a mask timeout false running = λ there blocked why. let set : phase_of (with_phase st.spm a (Waiting mask)) a ≡ Waiting mask = set-phase st.spm a (Waiting mask) there in neither _ _ (λ (e : phase_of (with_phase st.spm a (Waiting mask)) a ≡ Blocked). cc) why

waits : (s : System) (st : State) (a mask timeout : ℕ) (x : Bool) → phase_of st.spm a ≡ Running
    → IfMove s st a (call.Wait mask timeout) (if x then Some (if nat_lt timeout PSA_BLOCK then move (outcome.Signals (bit_and (signals_of s st.spm a) mask)) st.spm else move outcome.Blocked (with_phase st.spm a (Waiting mask))) else None)
waits s st a mask timeout true running = wait-by s st a mask timeout (nat_lt timeout PSA_BLOCK) running
waits s st a mask timeout false running = tt

-- ---- psa_get

gets-by : (s : System) (st : State) (a signal msg : ℕ) (h : Handle) (service : ℕ) (o : Option PendingMessage)
    → IfEffect s st a (call.Get signal msg) (option_and_then (λ m. if valid_buffer s a msg message_size then Some (get_of s st service msg h m) else None) o)
gets-by s st a signal msg h service o = then-effect s st a (call.Get signal msg) (λ m. valid_buffer s a msg message_size) (λ m. get_of s st service msg h m) (λ m. refl) o

gets : (s : System) (st : State) (a signal msg : ℕ) (h : Handle) (o : Option ℕ)
    → IfEffect s st a (call.Get signal msg) (option_and_then (λ i. option_and_then (λ m. if valid_buffer s a msg message_size then Some (get_of s st i msg h m) else None) (find (is_undelivered i) st.spm.messages)) o)
gets s st a signal msg h None = tt
gets s st a signal msg h (Some i) = gets-by s st a signal msg h i (find (is_undelivered i) st.spm.messages)

-- ---- psa_reply

replies : (s : System) (st : State) (a : ℕ) (h : Handle) (status : Status) (o : Option PendingMessage) → IfEffect s st a (call.Reply h status) (option_map (reply_of s st h status.0) o)
replies s st a h status o = map-effect s st a (call.Reply h status) (reply_of s st h status.0) (λ m. refl) o

-- ---- the return of a call

returns : (s : System) (st : State) (a : ℕ) (h : Handle) (p : ActorPhase) → phase_of st.spm a ≡ p → may_resume p ≡ true → Says (Issues s st.spm a call.Resume) (returned s st a p h)
returns s st a h (Ready o) e due = λ there blocked why. let set : phase_of (with_phase st.spm a Running) a ≡ Running = set-phase st.spm a Running there in neither _ _ (λ (x : phase_of (with_phase st.spm a Running) a ≡ Blocked). cc) why
returns s st a h (Connected n) e due = ends s st.spm a call.Resume (outcome.Value h.0) (returned s st a (Connected n) h).state.spm (returned s st a (Connected n) h).state.handles_given refl
returns s st a h (Waiting mask) e due = ends s st.spm a call.Resume (outcome.Signals (bit_and (signals_of s st.spm a) mask)) (returned s st a (Waiting mask) h).state.spm st.handles_given refl
returns s st a h _ e due = cc

-- ---- each call

call-issues : (s : System) (st : State) (a : ℕ) (d : Call) (h : Handle) → may_call s st.spm a d ≡ true → IfEffect s st a d (call_case s st a d h)
call-issues s st a call.FrameworkVersion h may = ends s st.spm a call.FrameworkVersion (outcome.Number PSA_FRAMEWORK_VERSION) st.spm st.handles_given refl
call-issues s st a (call.Version sid) h may = ends s st.spm a (call.Version sid) (outcome.Number (version_number s a sid)) st.spm st.handles_given refl
call-issues s st a (call.Connect sid version) h may = moved s st a (call.Connect sid version) _ (connects s st a sid version (service_at s sid) refl)
call-issues s st a (call.Invoke c kind iv il ov ol) h may = moved s st a (call.Invoke c kind iv il ov ol) _ (invokes s st a c kind iv il ov ol (stateless_index c) refl)
call-issues s st a (call.Close c) h may = moved s st a (call.Close c) _ (closes s st a c (int_eq c.0 PSA_NULL_HANDLE))
call-issues s st a (call.Wait mask timeout) h may = moved s st a (call.Wait mask timeout) _ (waits s st a mask timeout (has_signal_of (assigned_to s a) mask) (caller-running s st.spm a (call.Wait mask timeout) (λ p. refl) may))
call-issues s st a (call.Get signal msg) h may = gets s st a signal msg h (service_of_signal s a signal)
call-issues s st a (call.SetRhandle c r) h may = moved s st a (call.SetRhandle c r) _ (map-ends s st a (call.SetRhandle c r) (λ n. move outcome.Done (with_rhandle st.spm n r)) (λ n. refl) _)
call-issues s st a (call.Read c i at len) h may = then-effect s st a (call.Read c i at len) (λ m. valid_buffer s a at len) (λ m. read_of st c i at len m) (λ m. refl) (request_held s st.spm a c i)
call-issues s st a (call.Skip c i len) h may = moved s st a (call.Skip c i len) _ (map-ends s st a (call.Skip c i len) (skip_of st.spm c i len) (λ m. refl) (request_held s st.spm a c i))
call-issues s st a (call.Write c i at len) h may =
    then-effect s st a (call.Write c i at len) (λ m. valid_buffer s a at len && nat_le len (rest_of (output_at m i))) (λ m. write_of st c i at len m) (λ m. refl) (request_held s st.spm a c i)
call-issues s st a (call.Reply c status) h may = replies s st a c status (reply_to s st.spm a c status.0)
call-issues s st a (call.Notify id) h may = moved s st a (call.Notify id) _ (if-ends s st a (call.Notify id) _ _ refl)
call-issues s st a call.Clear h may = moved s st a call.Clear _ (if-ends s st a call.Clear _ _ refl)
call-issues s st a (call.Eoi signal) h may = moved s st a (call.Eoi signal) _ (then-ends s st a (call.Eoi signal) _ _ (λ i. refl) (source_of_signal s a signal))
call-issues s st a (call.IrqEnable signal) h may = moved s st a (call.IrqEnable signal) _ (map-ends s st a (call.IrqEnable signal) _ (λ i. refl) (source_of_signal s a signal))
call-issues s st a (call.IrqDisable signal) h may = moved s st a (call.IrqDisable signal) _ (map-ends s st a (call.IrqDisable signal) _ (λ i. refl) (source_of_signal s a signal))
call-issues s st a (call.ResetSignal signal) h may = moved s st a (call.ResetSignal signal) _ (then-ends s st a (call.ResetSignal signal) _ _ (λ i. refl) (source_of_signal s a signal))
call-issues s st a call.Panic h may = tt
call-issues s st a (call.Load at size) h may = if-effect s st a (call.Load at size) _ _ refl
call-issues s st a (call.Store at size v) h may = if-effect s st a (call.Store at size v) _ _ refl
call-issues s st a (call.Raise source) h may = moved s st a (call.Raise source) _ (if-ends s st a (call.Raise source) _ _ refl)
call-issues s st a (call.Fire source result) h may = moved s st a (call.Fire source result) _ (if-ends s st a (call.Fire source result) _ _ refl)
call-issues s st a (call.Stop spent) h may = ends s st.spm a (call.Stop spent) outcome.Done _ st.handles_given refl
call-issues s st a call.Resume h may = returns s st a h (phase_of st.spm a) refl (and_parts (enabled s st.spm a) _ (and_parts _ _ may).1).1

refusal-ends : (s : System) (st : State) (a : ℕ) (d : Call) → Issues s st.spm a d (refusal_of d) st.spm st.handles_given
refusal-ends s st a (call.Connect sid version) = ends s st.spm a (call.Connect sid version) (outcome.Value PSA_ERROR_CONNECTION_REFUSED) st.spm st.handles_given refl
refusal-ends s st a (call.Close h) = ends s st.spm a (call.Close h) outcome.Done st.spm st.handles_given refl
refusal-ends s st a d = ends s st.spm a d (outcome.Value PSA_ERROR_PROGRAMMER_ERROR) st.spm st.handles_given refl

error-issues : (s : System) (st : State) (a : ℕ) (d : Call) (k : ActorKind) → Says (Issues s st.spm a d) (error_effect k s st a d)
error-issues s st a d Partition = ends s st.spm a d outcome.Panicked _ st.handles_given refl
error-issues s st a d Client = refusal-ends s st a d
error-issues s st a d Device = ends s st.spm a d (outcome.Value PSA_ERROR_PROGRAMMER_ERROR) st.spm st.handles_given refl

made-issues : (s : System) (st : State) (a : ℕ) (d : Call) (k : ActorKind) (o : Option Effect) → IfEffect s st a d o → Says (Issues s st.spm a d) (effect_or_error o k s st a d)
made-issues s st a d k None h = error-issues s st a d k
made-issues s st a d k (Some e) h = h

effect-by : (s : System) (st : State) (a : ℕ) (d : Call) (h : Handle) (x : Bool) → may_call s st.spm a d ≡ true → Says (Issues s st.spm a d) (effect_or_error (if x then call_case s st a d h else None) (kind_of s a) s st a d)
effect-by s st a d h true may = made-issues s st a d (kind_of s a) (call_case s st a d h) (call-issues s st a d h may)
effect-by s st a d h false may = error-issues s st a d (kind_of s a)

-- an actor that may call has not ended
goes-on : (p : ActorPhase) (word : ℕ) → can_go_on p word ≡ true → p ≡ Ended → ⊥
goes-on p word able ended = let bad : false ≡ true = sym (ap (λ (q : ActorPhase). can_go_on q word) ended) ∙ able in cc

-- in each step
pub step-issues : (s : System) (st new : State) (e : Entry) → step s st e ≡ Some new → (phase_of new.spm e.actor.0 ≡ Blocked) ⊎ (is_for_message e.call ≡ true) → e.outcome ≡ outcome.Blocked → IsIssued s st.spm e.actor.0 e.call new.spm
step-issues s st new e is why blocked =
    let it : Stepped s st new e = step-is s st new e is in
    let due : Effect = effect_of s st e.actor.0 e.call (handle_shown e.outcome) in
    let own : Says (Issues s st.spm e.actor.0 e.call) due = effect-by s st e.actor.0 e.call (handle_shown e.outcome) (has_call (kind_of s e.actor.0) e.call) it.may in
    let made : Issues s st.spm e.actor.0 e.call due.outcome new.spm new.handles_given = subst (λ (x : State). Issues s st.spm e.actor.0 e.call due.outcome x.spm x.handles_given) it.state own in
    let able : can_go_on (phase_of st.spm e.actor.0) (signals_of s st.spm e.actor.0) ≡ true = (and_parts _ _ (and_parts _ _ it.may).1).0 in
    made (goes-on _ _ able) (blocked-alike due.outcome e.outcome it.outcome ∙ ap is_blocked_outcome blocked) why
