-- psa_call and psa_close on a connection that the actor holds: its phase is changed, and then a message of it is sent.
use Rattle.std.proofs.Common.{ℕ, ◌≡◌, ◌<◌, ◌==◌, false, ◌&&◌, length, arith, ◌∙◌, ap, sym, refl, subst}
use Rattle.std.specs.Prelude.{ℤ, pos, int_lt, Option, Some, None, IsSome, IsSomeAnd, IfSome}
use Rattle.std.specs.Ordering.{int_eq}
use Rattle.law_lists.proofs.Options.{some-and, if-some}
use Rattle.ffm_model.specs.declared.constants.TheConstants.{PSA_NULL_HANDLE, PSA_IPC_DISCONNECT}
use Rattle.ffm_model.specs.declared.system.System.{System}
use Rattle.ffm_model.specs.declared.machine.Handle.{Handle}
use Rattle.ffm_model.specs.declared.machine.Outcome.TheVariants.{Blocked as Blocks}
use Rattle.ffm_model.specs.declared.objects.Vectors.{Vectors}
use Rattle.ffm_model.specs.declared.objects.OpenConnection.{OpenConnection}
use Rattle.ffm_model.specs.declared.objects.ConnPhase.{ConnPhase}
use Rattle.ffm_model.specs.declared.objects.ConnPhase.TheVariants.{Opening, Idle, Busy, Error, Closing, Dead}
use Rattle.ffm_model.specs.declared.objects.ActorPhase.TheVariants.{Blocked, Running}
use Rattle.ffm_model.specs.Memory.{no_vectors, vectors_of}
use Rattle.ffm_model.specs.Panic.{is_dead}
use Rattle.ffm_model.specs.State.{SpmState, State, connection_held, has_handle, phase_of, with_connection_phase, with_message, with_phase}
use Rattle.ffm_model.specs.ClientCalls.{connection_called, is_busy, move, psa_close, refuses_requests}
use Rattle.object_pools.specs.declared.slot.Slot.{Slot}
use Rattle.object_pools.specs.Pool.{Places, item_at, with_item}
use Rattle.handle_table.specs.declared.connections.Connection.{Connection as TheConnection}
use Rattle.handle_table.specs.Table as table
use Rattle.law_counting.specs.Objects.{ObjectsFit}
use Rattle.law_counting.proofs.Rooms.{request-room}
use Rattle.spm_tables.specs.TablesView.{TablesView, MadeFor, spm_of}
use Rattle.spm_tables.proofs.PoolLemmas.{item-put}
use Rattle.client_calls.proofs.ServiceLemmas.{connection-service, made-services}
use Rattle.client_calls.proofs.SendLemmas.{room-for-message}
use Rattle.law_counting.proofs.Owners.{held-client}

-- the connection that the actor holds, in its slot
pub record IsHeld (d : TablesView) (a : ℕ) (k : Handle) (s : Slot) (c : OpenConnection) : Type 0 where
  pub live : item_at d.connections s ≡ Some c
  pub held : connection_held (spm_of d) a k ≡ Some c

pub held-item : (d : TablesView) (p : Places OpenConnection) (a : ℕ) (k : Handle) (s : Slot) → p ≡ d.connections → IsSome (item_at p s) → item_at p s ≡ connection_held (table.spm_of_connections p) a k → (c : OpenConnection) × IsHeld d a k s c
held-item d p a k s same live found =
    let go : (o : Option OpenConnection) → item_at p s ≡ o → IsSome o → (c : OpenConnection) × IsHeld d a k s c =
    elim [
      | None ↦ λ e n. cc
      | Some c ↦ λ e n. (
        c,
        record {
          live = ap (λ (q : Places OpenConnection). item_at q s) (sym same) ∙ e;
          held = ap (λ (q : Places OpenConnection). connection_held (table.spm_of_connections q) a k) (sym same) ∙ sym found ∙ e;
        },
      )
    ] in
    go (item_at p s) refl live

-- what is told of it
pub told-phase : (d : TablesView) (p : Places OpenConnection) (s : Slot) (c : OpenConnection) (t : TheConnection) → p ≡ d.connections → item_at d.connections s ≡ Some c → IfSome (item_at p s) (λ x. t ≡ table.connection_of x) → t.phase ≡ c.phase
told-phase d p s c t same live told =
    ap (λ (x : TheConnection). x.phase) (if-some (item_at p s) c (λ x. t ≡ table.connection_of x) (ap (λ (q : Places OpenConnection). item_at q s) same ∙ live) told)

-- the connection of a slot was put into a phase
abbrev pub Phased : TablesView → Slot → ConnPhase → TablesView → Type 0
Phased d s ph m = IfSome (item_at d.connections s) (λ c. m ≡ record d { connections = with_item d.connections s (record c { phase = ph }) })

module _ (d m : TablesView) (a : ℕ) (k : Handle) (s : Slot) (c : OpenConnection) (ph : ConnPhase) (h : IsHeld d a k s c) (phased : Phased d s ph m) where
  pub after-phase : m ≡ record d { connections = with_item d.connections s (record c { phase = ph }) }
  after-phase = if-some (item_at d.connections s) c (λ x. m ≡ record d { connections = with_item d.connections s (record x { phase = ph }) }) h.live phased

  pub item-phased : item_at m.connections s ≡ Some (record c { phase = ph })
  item-phased = ap (λ (x : TablesView). item_at x.connections s) after-phase ∙ item-put d.connections s c (record c { phase = ph }) h.live

  pub may-send : (y : System) → MadeFor d y → ObjectsFit y (spm_of d) → IsSomeAnd (item_at m.connections s) (λ x. x.service < length m.services)
  may-send y made fit =
      let there : c.service < length y.services = connection-service y (spm_of d) (λ x. (x.client.0 == a) && has_handle x.handle k) c fit h.held in
      some-and (item_at m.connections s) (record c { phase = ph }) (λ x. x.service < length m.services) item-phased
      (omega (arith, made-services d y made, ap (λ (x : TablesView). length x.services) after-phase))

  pub has-room : (y : System) → MadeFor d y → ObjectsFit y (spm_of d) → phase_of (spm_of d) a ≡ Running → is_dead c.phase ≡ false → length (spm_of m).messages < length m.messages.generations
  has-room y made fit running alive =
      let P : TablesView → Type 0 = λ x. length (spm_of x).messages < length x.messages.generations in
      subst P (sym after-phase) (room-for-message d y made (request-room y (spm_of d) a k c fit running h.held alive))

  pub sent-state : (new : TablesView) (kind : ℤ) (v : Vectors) → IfSome (item_at d.connections s) (λ x. spm_of m ≡ with_connection_phase (spm_of d) x.serial ph)
      → IfSome (item_at m.connections s) (λ x. spm_of new ≡ with_phase (with_message (spm_of m) x kind v) x.client.0 Blocked)
      → spm_of new ≡ with_phase (with_message (with_connection_phase (spm_of d) c.serial ph) c kind v) a Blocked
  sent-state new kind v phase sent =
      let changed : spm_of m ≡ with_connection_phase (spm_of d) c.serial ph = if-some (item_at d.connections s) c (λ x. spm_of m ≡ with_connection_phase (spm_of d) x.serial ph) h.live phase in
      let put : spm_of new ≡ with_phase (with_message (spm_of m) c kind v) c.client.0 Blocked =
      if-some (item_at m.connections s) (record c { phase = ph }) (λ x. spm_of new ≡ with_phase (with_message (spm_of m) x kind v) x.client.0 Blocked) item-phased sent in
      put ∙ ap (λ (b : SpmState). with_phase (with_message b c kind v) c.client.0 Blocked) changed
      ∙ ap (λ (n : ℕ). with_phase (with_message (with_connection_phase (spm_of d) c.serial ph) c kind v) n Blocked) (held-client (spm_of d) a k c h.held)

-- ---- phases

pub not-dead : (ph : ConnPhase) → (ph ≡ Dead → ⊥) → is_dead ph ≡ false
not-dead Opening h = refl
not-dead Idle h = refl
not-dead Busy h = refl
not-dead Error h = refl
not-dead Closing h = refl
not-dead Dead h = absurd (h refl)

pub not-busy : (ph : ConnPhase) → (ph ≡ Busy → ⊥) → is_busy ph ≡ false
not-busy Opening h = refl
not-busy Idle h = refl
not-busy Busy h = absurd (h refl)
not-busy Error h = refl
not-busy Closing h = refl
not-busy Dead h = refl

-- ---- the machine's calls

pub close-sends : (b : SpmState) (a : ℕ) (k : Handle) (c : OpenConnection) → int_eq k.0 PSA_NULL_HANDLE ≡ false → connection_held b a k ≡ Some c → is_busy c.phase ≡ false → is_dead c.phase ≡ false
    → psa_close b a k ≡ Some (move Blocks (with_phase (with_message (with_connection_phase b c.serial Closing) c PSA_IPC_DISCONNECT no_vectors) a Blocked))
close-sends b a k c some held free alive = rw (some, held, free, alive) refl

pub call-sends : (y : System) (st : State) (a : ℕ) (k : Handle) (c : OpenConnection) (kind : ℤ) (in_vec in_len out_vec out_len : ℕ) (v : Vectors) → connection_held st.spm a k ≡ Some c
    → vectors_of y st.memory a in_vec in_len out_vec out_len ≡ Some v → refuses_requests c.phase ≡ false → int_lt kind (pos 0) ≡ false → is_dead c.phase ≡ false
    → connection_called y st a k kind in_vec in_len out_vec out_len ≡ Some (move Blocks (with_phase (with_message (with_connection_phase st.spm c.serial Busy) c kind v) a Blocked))
call-sends y st a k c kind in_vec in_len out_vec out_len v held given ready request alive = rw (held, given, ready, request, alive) refl
