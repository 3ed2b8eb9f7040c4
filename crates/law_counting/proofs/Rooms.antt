-- A call that adds a connection or a message finds room for it, and leaves a state whose objects fit.
use Rattle.std.proofs.Common.{ℕ, ◌≡◌, ◌≤◌, ◌+◌, ◌==◌, Bool, true, false, cond, [], ◌∷◌, ◌++◌, length, arith, sym, subst, length-append}
use Rattle.std.specs.Prelude.{ℤ, pos, Some, None, map, slice_set}
use Rattle.ffm_model.specs.declared.constants.TheConstants.{PSA_IPC_CONNECT, PSA_ERROR_COMMUNICATION_FAILURE}
use Rattle.ffm_model.specs.declared.system.System.{System}
use Rattle.ffm_model.specs.declared.machine.Handle.{Handle}
use Rattle.ffm_model.specs.declared.machine.Outcome.TheVariants.{Value, Blocked as Blocks}
use Rattle.ffm_model.specs.declared.objects.Vectors.{Vectors}
use Rattle.ffm_model.specs.declared.objects.OpenConnection.{OpenConnection}
use Rattle.ffm_model.specs.declared.objects.PendingMessage.{PendingMessage}
use Rattle.ffm_model.specs.declared.objects.ConnPhase.TheVariants.{Busy}
use Rattle.ffm_model.specs.declared.objects.ActorPhase.TheVariants.{Running, Blocked}
use Rattle.ffm_model.specs.Actors.{is_stateless, permits}
use Rattle.ffm_model.specs.Memory.{no_vectors}
use Rattle.ffm_model.specs.State.{SpmState, phase_of, in_use, connection_held, message_held, phase_put}
use Rattle.ffm_model.specs.Panic.{is_dead, panic_effect}
use Rattle.ffm_model.specs.ClientCalls.{Move, move, connect_issued, new_connection, call_on}
use Rattle.ffm_model.specs.ServiceCalls.{replied, owes_panic}
use Rattle.ffm_model.specs.Names.{capacity, message_capacity}
use Rattle.law_counting.specs.Objects.{ObjectsFit, allowed}
use Rattle.law_counting.specs.Rooms.{RoomFor}
use Rattle.law_counting.proofs.Balance.{one, fit-balanced, balanced-fit}
use Rattle.law_counting.proofs.Bounds.{few-connections}
use Rattle.law_counting.proofs.Callers.{few-messages-of}
use Rattle.law_counting.proofs.Reply.{settled, settled-keeps}
use Rattle.law_counting.proofs.Owed.{replied-settled, owed-settled, owed-request}
use Rattle.law_counting.proofs.Keeps.{owed-keeps, panics-keep, invoke-keeps, issued-keeps, less}
use Rattle.law_counting.proofs.Connect.{connected-keeps}

pub connect-fits : (s : System) (b : SpmState) (a v : ℕ) → ObjectsFit s b → phase_of b a ≡ Running → (in_use b a v == allowed s a v) ≡ false → ObjectsFit s (connect_issued b a v)
connect-fits s b a v h running free =
    balanced-fit s one (connect_issued b a v) (connected-keeps s one b a v (fit-balanced s b h) running (less (in_use b a v) (allowed s a v) (h.budgets a v) free))

-- psa_connect below the budget
pub connect-room : (s : System) (b : SpmState) (a v : ℕ) → ObjectsFit s b → phase_of b a ≡ Running → (in_use b a v == allowed s a v) ≡ false
    → (length b.connections + 1 ≤ capacity s) × (length b.messages + 1 ≤ message_capacity s)
connect-room s b a v h running free =
    let new : ObjectsFit s (connect_issued b a v) = connect-fits s b a v h running free in
    let c : OpenConnection = new_connection b a v in
    let m : PendingMessage = record { service = v; client = record { 0 = a }; connection = Some b.connections_made; kind = PSA_IPC_CONNECT; vectors = no_vectors; handle = None } in (
      omega (arith, few-connections s (connect_issued b a v) new, length-append b.connections (c ∷ [])),
      omega (arith, few-messages-of s (connect_issued b a v) new, length-append b.messages (m ∷ [])),
    )

pub call-fits : (s : System) (b : SpmState) (a : ℕ) (h : Handle) (c : OpenConnection) (n : ℕ) (v : Vectors) → ObjectsFit s b → phase_of b a ≡ Running → connection_held b a h ≡ Some c
    → ObjectsFit s (call_on b a c (pos n) v).spm
call-fits s b a h c n v fit running held = balanced-fit s one _ (invoke-keeps s one b a h c n v (fit-balanced s b fit) running held)

-- psa_call and psa_close on a connection that isn't dead
pub request-room : (s : System) (b : SpmState) (a : ℕ) (h : Handle) (c : OpenConnection) → ObjectsFit s b → phase_of b a ≡ Running → connection_held b a h ≡ Some c → is_dead c.phase ≡ false
    → length b.messages + 1 ≤ message_capacity s
request-room s b a h c fit running held alive =
    let m : PendingMessage = record { service = c.service; client = c.client; connection = Some c.serial; kind = pos 0; vectors = no_vectors; handle = None } in
    let new : SpmState = record b { connections = map (phase_put c.serial Busy) b.connections; messages = b.messages ++ m ∷ []; phases = slice_set b.phases a Blocked } in
    let kept : ObjectsFit s new =
    subst (λ (d : Bool). ObjectsFit s (cond {A = Move} d (move (Value PSA_ERROR_COMMUNICATION_FAILURE) b) (move Blocks new)).spm) alive (call-fits s b a h c 0 no_vectors fit running held) in
    omega (arith, few-messages-of s new kept, length-append b.messages (m ∷ []))

-- psa_call by a stateless handle
pub call-room : (s : System) (b : SpmState) (a v : ℕ) → ObjectsFit s b → phase_of b a ≡ Running → is_stateless s v ≡ true → permits s a v ≡ true → length b.messages + 1 ≤ message_capacity s
call-room s b a v fit running stateless may =
    let m : PendingMessage = record { service = v; client = record { 0 = a }; connection = None; kind = pos 0; vectors = no_vectors; handle = None } in
    let kept : ObjectsFit s (record b { messages = b.messages ++ m ∷ []; phases = slice_set b.phases a Blocked }) = balanced-fit s one _ (issued-keeps s one b a v 0 no_vectors (fit-balanced s b fit) running stateless may) in
    omega (arith, few-messages-of s _ kept, length-append b.messages (m ∷ []))

-- the panic of a partition that runs
pub panic-fits : (s : System) (b : SpmState) (p : ℕ) → ObjectsFit s b → phase_of b p ≡ Running → ObjectsFit s (panic_effect s b p)
panic-fits s b p h running = balanced-fit s one (panic_effect s b p) (panics-keep s one b p (fit-balanced s b h) running)

pub panic-room : (s : System) (b : SpmState) (p : ℕ) → ObjectsFit s b → phase_of b p ≡ Running → length (panic_effect s b p).messages ≤ message_capacity s
panic-room s b p h running = few-messages-of s (panic_effect s b p) (panic-fits s b p h running)

-- a reply that owes no panic
pub reply-fits : (s : System) (b : SpmState) (p : ℕ) (h : Handle) (status : ℤ) (m : PendingMessage) → ObjectsFit s b → message_held s b p h ≡ Some m → owes_panic s m status ≡ false → ObjectsFit s (replied s b h status m)
reply-fits s b p h status m fit held e =
    subst (λ (x : SpmState). ObjectsFit s x) (sym (replied-settled s b h status m e)) (balanced-fit s one (settled b h status m) (settled-keeps s one b p h status m (fit-balanced s b fit) held))

-- a reply, and then the panic that it owes
pub owed-fits : (s : System) (b : SpmState) (p : ℕ) (h : Handle) (status : ℤ) (m : PendingMessage) → ObjectsFit s b → message_held s b p h ≡ Some m → owes_panic s m status ≡ true
    → ObjectsFit s (panic_effect s (replied s b h status m) m.client.0)
owed-fits s b p h status m fit held e =
    owed-request s m status _ e
    (λ n kind. subst (λ (x : SpmState). ObjectsFit s x) (sym (owed-settled s b h status m e))
    (balanced-fit s one (panic_effect s (settled b h status m) m.client.0) (owed-keeps s one b p h status m n (fit-balanced s b fit) held kind)))

pub owed-room : (s : System) (b : SpmState) (p : ℕ) (h : Handle) (status : ℤ) (m : PendingMessage) → ObjectsFit s b → message_held s b p h ≡ Some m → owes_panic s m status ≡ true
    → length (panic_effect s (replied s b h status m) m.client.0).messages ≤ message_capacity s
owed-room s b p h status m fit held e = few-messages-of s _ (owed-fits s b p h status m fit held e)

-- all of them
pub fitting-room : (s : System) (b : SpmState) → ObjectsFit s b → RoomFor s b
fitting-room s b fit = record {
  connect = λ a service running free. connect-room s b a service fit running free;
  request = λ a h c running held alive. request-room s b a h c fit running held alive;
  call = λ a service running stateless may. call-room s b a service fit running stateless may;
  panic = λ p running. panic-room s b p fit running;
  owed_panic = λ p h status m held e. owed-room s b p h status m fit held e;
}
