-- The connection and the client of a message, which are there in a state whose objects fit.
use Rattle.std.proofs.Common.{ℕ, ◌≡◌, ◌<◌, ◌≤◌, ◌==◌, Bool, true, length, arith, ◌∙◌, ap, sym, refl, subst}
use Rattle.std.specs.Prelude.{find, Option, Some, None, IfSome, IsSome, IsSomeAnd, count_by}
use Rattle.std.proofs.lemmas.Bool.{eqb-true}
use Rattle.law_lists.proofs.Counts.{bit, count-found}
use Rattle.ffm_model.specs.declared.system.System.{System}
use Rattle.ffm_model.specs.declared.objects.OpenConnection.{OpenConnection}
use Rattle.ffm_model.specs.declared.objects.PendingMessage.{PendingMessage}
use Rattle.ffm_model.specs.declared.objects.ActorPhase.{ActorPhase}
use Rattle.ffm_model.specs.declared.objects.ActorPhase.TheVariants.{Blocked, Ended}
use Rattle.ffm_model.specs.Actors.{actor_count}
use Rattle.ffm_model.specs.State.{SpmState, connection_by_serial, phase_of}
use Rattle.law_counting.specs.Objects.{ObjectsFit, PhaseFits, is_awaited, accepted_as, awaited_by, awaited_of}
use Rattle.law_counting.proofs.Balance.{one, fit-balanced}
use Rattle.law_counting.proofs.Parts.{is_there, is_itself, on_left}
use Rattle.law_counting.proofs.Reply.{caller-blocked, partner}
use Rattle.object_pools.specs.declared.slot.Slot.{Slot}
use Rattle.object_pools.specs.Pool.{IsKept, item_at}
use Rattle.handle_table.specs.Table.{connections}
use Rattle.law_lists.proofs.Tests.{find-passes}
use Rattle.spm_tables.specs.declared.item.QueuedMessage.{QueuedMessage}
use Rattle.spm_tables.specs.TablesView.{TablesView, MadeFor, Shape, spm_of}
use Rattle.spm_tables.specs.Slots.{KeepSlots}
use Rattle.spm_tables.proofs.SlotLemmas.{belongs-at, slot-of-serial}
use Rattle.service_calls.specs.Connections.{IsConnectionOf, IsLinkOf}

-- ---- in the state

pub connection-there : (s : System) (b : SpmState) (q : PendingMessage → Bool) (m : PendingMessage) → ObjectsFit s b → find q b.messages ≡ Some m → IfSome m.connection (λ n. IsSome (connection_by_serial b n))
connection-there s b q m fit found =
    let go : (o : Option ℕ) → m.connection ≡ o → IfSome o (λ n. IsSome (connection_by_serial b n)) =
    elim [
      | None ↦ λ none. tt
      | Some n ↦ λ conn.
          let it = partner s one b q n m (λ p. true) (fit-balanced s b fit) found conn refl in
          let here : connection_by_serial b n ≡ Some it.0 = ap (λ k. find (λ d. d.serial == k) b.connections) (sym it.1.serial) ∙ it.1.here in
          subst (λ (o : Option OpenConnection). IsSome o) (sym here) refl
    ] in
    go m.connection refl

waits-somewhere : (p : ActorPhase) (n k : ℕ) (j : ℕ → ℕ) → p ≡ Ended → PhaseFits p n k j → n ≡ 0
waits-somewhere p n k j e h = subst (λ (q : ActorPhase). PhaseFits q n k j) e h

pub client-there : (s : System) (b : SpmState) (q : PendingMessage → Bool) (m : PendingMessage) → ObjectsFit s b → find q b.messages ≡ Some m → m.client.0 < length b.phases
client-there s b q m fit found =
    let go : (o : Option ℕ) → m.connection ≡ o → m.client.0 < length b.phases =
    elim [
      | None ↦ λ none.
          let blocked : phase_of b m.client.0 ≡ Blocked = caller-blocked s one b q m (fit-balanced s b fit) found none in
          is_there b.phases m.client.0 (λ ended. cc)
      | Some n ↦ λ conn.
          let it = partner s one b q n m (λ p. true) (fit-balanced s b fit) found conn refl in
          let c : OpenConnection = it.0 in
          let a : ℕ = c.client.0 in
          let some : 1 ≤ count_by (awaited_of a) b.connections =
          omega (arith, count-found (λ d. d.serial == c.serial) (awaited_of a) b.connections c it.1.here, on_left (a == a) (is_awaited c.phase) (is_itself a), ap bit it.1.awaited) in
          let inside : a < length b.phases =
          is_there b.phases a
          (λ ended.
          let none : awaited_by b.connections b.messages a ≡ 0 = waits-somewhere (phase_of b a) _ _ (λ k. count_by (accepted_as a k) b.connections) ended (fit.phases a) in
          absurd (omega (arith, some, none))) in
          subst (λ (x : ℕ). x < length b.phases) it.1.client inside
    ] in
    go m.connection refl

pub client-counted : (s : System) (d : TablesView) (q : PendingMessage → Bool) (m : PendingMessage) → MadeFor d s → ObjectsFit s (spm_of d) → find q (spm_of d).messages ≡ Some m → m.client.0 < actor_count s
client-counted s d q m made fit found =
    let actors : length d.phases ≡ actor_count s = ap (λ (h : Shape). h.actors) made in
    omega (arith, client-there s (spm_of d) q m fit found)

-- ---- in the tables

-- a message of a connection names its slot
pub connection-slot : (d : TablesView) (t : Slot) (m : QueuedMessage) (n : ℕ) → IsKept 256 d.connections → KeepSlots d.connections d.messages → item_at d.messages t ≡ Some m → m.serial ≡ Some n → IsSome (connection_by_serial (spm_of d) n)
    → (u : Slot) × (m.connection ≡ Some u) × IsConnectionOf d.connections m u
connection-slot d t m n kept slots live numbered there =
    let go : (o : Option OpenConnection) → connection_by_serial (spm_of d) n ≡ o → IsSome o → (u : Slot) × (m.connection ≡ Some u) × IsConnectionOf d.connections m u =
    elim [
      | None ↦ λ f e. cc
      | Some c ↦ λ f e.
          let it = slot-of-serial d.connections m n c kept (belongs-at d.connections d.messages t m slots live) numbered f in
          let serial : n ≡ c.serial = sym (eqb-true c.serial n (find-passes (λ x. x.serial == n) (connections d.connections) c f)) in
          let own : m.serial ≡ Some c.serial = numbered ∙ ap (λ (k : ℕ). Some k) serial in
          let here : find (λ z. z.serial == c.serial) (connections d.connections) ≡ Some c = subst (λ (k : ℕ). find (λ z. z.serial == k) (connections d.connections) ≡ Some c) serial f in (
            it.0,
            it.1,
            subst (λ (x : Option OpenConnection). IsSomeAnd x (λ y. (m.serial ≡ Some y.serial) × (find (λ z. z.serial == y.serial) (connections d.connections) ≡ Some y))) (sym it.2) (own, here),
          )
    ] in
    go (connection_by_serial (spm_of d) n) refl there

-- so the slot that it names, where it is of a connection, is that one's
pub link-is : (d : TablesView) (t : Slot) (m : QueuedMessage) (n : ℕ) → IsKept 256 d.connections → KeepSlots d.connections d.messages → item_at d.messages t ≡ Some m → m.serial ≡ Some n
    → IfSome m.serial (λ k. IsSome (connection_by_serial (spm_of d) k)) → IsLinkOf d.connections m m.connection
link-is d t m n kept slots live numbered there =
    let it = connection-slot d t m n kept slots live numbered (subst (λ (o : Option ℕ). IfSome o (λ k. IsSome (connection_by_serial (spm_of d) k))) numbered there) in
    subst (IsLinkOf d.connections m) (sym it.1) it.2
