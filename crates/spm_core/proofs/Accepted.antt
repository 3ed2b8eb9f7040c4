-- The connection that a client is still to be told of, and the returns of calls that waited.
use Rattle.std.proofs.Common.{ℕ, ◌≡◌, ◌≤◌, Bool, true, false, List, [], ◌∷◌, refl, ap, sym, subst, ◌∙◌, arith, All}
use Rattle.std.specs.Prelude.{Option, Some, None, IfSome, IsSomeAnd, IsTrue, ◌==◌, nat_le, find, count_by, cond, get_or, bit_and, pos}
use Rattle.std.proofs.lemmas.Bool.Decides.{nat_tests}
use Rattle.ffm_model.specs.declared.system.System.{System}
use Rattle.ffm_model.specs.declared.objects.ActorPhase.{ActorPhase}
use Rattle.ffm_model.specs.declared.objects.ActorPhase.TheVariants as phase
use Rattle.ffm_model.specs.declared.objects.OpenConnection.{OpenConnection}
use Rattle.ffm_model.specs.declared.objects.PendingMessage.{PendingMessage}
use Rattle.ffm_model.specs.declared.machine.Call.TheVariants as call
use Rattle.ffm_model.specs.declared.machine.Handle.{Handle}
use Rattle.ffm_model.specs.declared.machine.Outcome.TheVariants.{Value, Signals}
use Rattle.ffm_model.specs.Memory.{ByteMap}
use Rattle.ffm_model.specs.ClientCalls.{returned}
use Rattle.ffm_model.specs.Names.{name_at_return}
use Rattle.ffm_model.specs.Signals.{signals_of}
use Rattle.ffm_model.specs.State.{phase_of, with_phase}
use Rattle.law_counting.specs.Objects.{ObjectsFit, PhaseFits, accepted_as, awaited_by, asked_by}
use Rattle.ffm_model.specs.Names.{NamesSoFar, name_of, no_slot}
use Rattle.handle_table.specs.Handles.{IsNameable, handle_at}
use Rattle.handle_table.specs.declared.handles.Family.TheVariants.{Connection}
use Rattle.law_calls.specs.Named.{NamesAre, KeepsNames}
use Rattle.law_calls.proofs.Changes.{names-connection}
use Rattle.law_calls.proofs.Due.{named-connection}
use Rattle.handle_table.specs.Table.{is_owned_from}
use Rattle.handle_table.proofs.SlotLemmas.{nameable-at}
use Rattle.std.proofs.lemmas.Bool.{and_from, and_parts, eqb-true}
use Rattle.law_lists.proofs.Counts.{some-found}
use Rattle.law_lists.proofs.Tests.{find-all, find-passes}
use Rattle.object_pools.specs.declared.slot.Slot.{Slot}
use Rattle.object_pools.specs.Pool.{Places, IsKept, item_at, with_item}
use Rattle.spm_tables.specs.Answers.{state_with}
use Rattle.spm_tables.specs.TablesView.{TablesView, spm_of}
use Rattle.spm_core.specs.Performed.{IsEffect, IsReturned, ShowsName}
use Rattle.spm_core.proofs.Attempted.{shows-due}

-- an accepted connection is its client's, from its own serial number on
owned-accepted : (a n : ℕ) (c : OpenConnection) → accepted_as a n c ≡ true → (is_owned_from a n c ≡ true) × (c.serial ≡ n)
owned-accepted a n c h =
    let serial : c.serial ≡ n = eqb-true c.serial n (and_parts _ _ h).0 in
    let client : (c.client.0 == a) ≡ true = (and_parts _ _ (and_parts _ _ h).1).0 in
    let from : nat_le n c.serial ≡ true = grind (arith, nat_tests) in
    (and_from _ _ client from, serial)

none-found : {X : Type 0} (p q : X → Bool) (xs : List X) (x : X) → find p xs ≡ Some x → q x ≡ true → find q xs ≡ None → ⊥
none-found p q [] x is passes none = cc
none-found {X = X} p q (y ∷ ys) x is passes none =
    let go : (b d : Bool) → p y ≡ b → q y ≡ d → cond b (Some y) (find p ys) ≡ Some x → cond d (Some y) (find q ys) ≡ None → ⊥ =
    λ b. elim [
      | true ↦ λ e f g h. cc
      | false ↦ λ e f. (
          let inner : (b' : Bool) → p y ≡ b' → cond b' (Some y) (find p ys) ≡ Some x → find q ys ≡ None → ⊥ = elim [
            | true ↦ λ e' g h. let it : y ≡ x = cc in let wrong : q y ≡ true = rw it passes in cc
            | false ↦ λ e' g h. none-found p q ys x g passes h
          ] in
          inner b e)
    ] in
    go (p y) (q y) refl refl is none

-- where a connection of this serial number was accepted, the owner's first connection from that number on is it
pub accepted-first : (a n : ℕ) (cs : List OpenConnection) (found : Option OpenConnection) → count_by (accepted_as a n) cs ≡ 1 → found ≡ find (is_owned_from a n) cs
    → IfSome found (λ c. All (λ d. IsTrue (is_owned_from a n d) → c.serial ≤ d.serial) cs) → IsSomeAnd found (λ c. c.serial ≡ n)
accepted-first a n cs None one is least =
    let it = some-found (accepted_as a n) cs (omega (arith, one)) in
    none-found (accepted_as a n) (is_owned_from a n) cs it.0 it.1 (owned-accepted a n it.0 (find-passes _ cs it.0 it.1)).0 (sym is)
accepted-first a n cs (Some c) one is least =
    let it = some-found (accepted_as a n) cs (omega (arith, one)) in
    let own = owned-accepted a n it.0 (find-passes _ cs it.0 it.1) in
    let below : c.serial ≤ it.0.serial = find-all (λ d. IsTrue (is_owned_from a n d) → c.serial ≤ d.serial) (accepted_as a n) cs it.0 it.1 least own.0 in
    let passes : is_owned_from a n c ≡ true = find-passes (is_owned_from a n) cs c (sym is) in
    let from : nat_le n c.serial ≡ true = (and_parts _ _ passes).1 in
    let above : n ≤ c.serial = grind (arith, nat_tests) in
    omega (arith, below, above, own.1)

-- a client that is still to be told has an accepted connection
pub joined-accepted : (s : System) (d : TablesView) (a n : ℕ) → ObjectsFit s (spm_of d) → phase_of (spm_of d) a ≡ phase.Connected n → count_by (accepted_as a n) (spm_of d).connections ≡ 1
joined-accepted s d a n fits is =
    let cs : List OpenConnection = (spm_of d).connections in
    let ms : List PendingMessage = (spm_of d).messages in
    let fit : PhaseFits (phase.Connected n) (awaited_by cs ms a) (asked_by cs ms a) (λ m. count_by (accepted_as a m) cs) =
    subst (λ (p : ActorPhase). PhaseFits p (awaited_by cs ms a) (asked_by cs ms a) (λ m. count_by (accepted_as a m) cs)) is (fits.phases a) in
    fit.1

-- a live slot with this serial number can be named
pub live-nameable : (p : Places OpenConnection) (s : Slot) (n : ℕ) → IsKept 256 p → IsSomeAnd (item_at p s) (λ c. c.serial ≡ n) → IsNameable Connection s
live-nameable p s n kept live =
    let go : (o : Option OpenConnection) → item_at p s ≡ o → IsSomeAnd o (λ c. c.serial ≡ n) → IsNameable Connection s = elim [
      | None ↦ λ is h. absurd h
      | Some c ↦ λ is h. nameable-at Connection p s c kept is
    ] in
    go (item_at p s) refl live

-- the handle of its slot is the name of the connection
pub accepted-name : (d : TablesView) (k : NamesSoFar) (slot : Slot) (n : ℕ) → NamesAre d k → IsSomeAnd (item_at d.connections slot) (λ c. c.serial ≡ n)
    → name_of 0 (get_or k.connections n no_slot) ≡ handle_at Connection slot
accepted-name d k slot n are live =
    let go : (o : Option OpenConnection) → item_at d.connections slot ≡ o → IsSomeAnd o (λ c. c.serial ≡ n) → name_of 0 (get_or k.connections n no_slot) ≡ handle_at Connection slot = elim [
      | None ↦ λ is h. absurd h
      | Some c ↦ λ is h. subst (λ (m : ℕ). name_of 0 (get_or k.connections m no_slot) ≡ handle_at Connection slot) h (named-connection d k slot c are is)
    ] in
    go (item_at d.connections slot) refl live

-- the return of a call that waited for a signal
pub returned-waiting : (s : System) (a mask word : ℕ) (old new : TablesView) → phase_of (spm_of old) a ≡ phase.Waiting mask → spm_of new ≡ with_phase (spm_of old) a phase.Running → word ≡ signals_of s (spm_of old) a
    → IsReturned s a old (Signals (bit_and word mask)) new
returned-waiting s a mask word old new waits is asserted given m =
    subst (λ (p : ActorPhase). IsEffect (returned s (state_with old given m) a p (record { 0 = pos 0 })) (Signals (bit_and word mask)) new m) (sym waits)
    (record { outcome = ap (λ (w : ℕ). Signals (bit_and w mask)) (sym asserted); spm = sym is; memory = refl })

-- the handle that is told is the name due
pub told-name : (s : System) (a n : ℕ) (old : TablesView) (m : ByteMap) (slot : Slot) (h : Handle) → phase_of (spm_of old) a ≡ phase.Connected n
    → IsSomeAnd (item_at old.connections slot) (λ c. c.serial ≡ n) → h ≡ handle_at Connection slot → ShowsName s a call.Resume old m (Value h.0)
told-name s a n old m slot h waits live is =
    shows-due s a call.Resume old m (Value h.0)
    (λ given k are. ap (name_at_return k) waits ∙ ap (λ (x : Handle). Some x) (accepted-name old k slot n are live ∙ sym is))

-- and the telling keeps the names
pub told-names : (s : System) (old mid new : TablesView) (slot : Slot) (n : ℕ) (h : Handle) → IsKept 256 mid.connections → mid.connections ≡ old.connections → mid.messages ≡ old.messages
    → IsSomeAnd (item_at mid.connections slot) (λ c. c.serial ≡ n) → IfSome (item_at mid.connections slot) (λ c. new ≡ record mid { connections = with_item mid.connections slot (record c { handle = Some h }) })
    → KeepsNames s old new
told-names s old mid new slot n h kept linked waiting live told =
    let go : (o : Option OpenConnection) → item_at mid.connections slot ≡ o → IsSomeAnd o (λ c. c.serial ≡ n) → IfSome o (λ c. new ≡ record mid { connections = with_item mid.connections slot (record c { handle = Some h }) }) → KeepsNames s old new = elim [
      | None ↦ λ is l t. absurd l
      | Some c ↦ λ is l t.
          names-connection s old new slot c (record c { handle = Some h }) (subst (IsKept 256) linked kept) (sym (ap (λ (p : Places OpenConnection). item_at p slot) linked) ∙ is) refl (λ e. cc)
          (ap (λ (d : TablesView). d.connections) t ∙ ap (λ (p : Places OpenConnection). with_item p slot (record c { handle = Some h })) linked) (ap (λ (d : TablesView). d.messages) t ∙ waiting)
    ] in
    go (item_at mid.connections slot) refl live told
