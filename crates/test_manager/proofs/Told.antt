-- The return of psa_connect: the client is told a handle that no other object has, and connections and messages fit as before.
use Rattle.std.proofs.Common.{ℕ, zero, suc, ◌≡◌, ◌<◌, ◌≤◌, ◌+◌, ◌*◌, ◌==◌, Bool, true, false, cond, not, ◌&&◌, ◌||◌, List, [], ◌∷◌, get_or, arith, ◌∙◌, ap, sym, refl, subst}
use Rattle.std.specs.Prelude.{Option, Some, None, All, IfSome, IsSomeAnd, IsTrue, count_by, find, map, is_none, option_and_then}
use Rattle.std.proofs.lemmas.List.Elements.{All-head, All-tail}
use Rattle.std.proofs.lemmas.Bool.{and_from, and_parts, eqb-true}
use Rattle.law_lists.proofs.Counts.{bit, count-cons, count-found, some-found}
use Rattle.law_lists.proofs.Tests.{find-passes}
use Rattle.ffm_model.specs.declared.system.System.{System}
use Rattle.ffm_model.specs.declared.machine.Handle.{Handle}
use Rattle.ffm_model.specs.declared.objects.ActorPhase.{ActorPhase}
use Rattle.ffm_model.specs.declared.objects.ActorPhase.TheVariants.{Connected, Running, Ended}
use Rattle.ffm_model.specs.declared.objects.OpenConnection.{OpenConnection}
use Rattle.ffm_model.specs.State.{SpmState, handle_eq, has_handle, phase_of, with_connection_handle, with_phase}
use Rattle.object_pools.specs.declared.slot.Slot.{Slot}
use Rattle.object_pools.specs.declared.slot.Held.{Held}
use Rattle.object_pools.specs.Pool.{Places, IsKept, has_slot, item_at}
use Rattle.handle_table.specs.declared.handles.Family.TheVariants.{Connection, Message}
use Rattle.handle_table.specs.Handles.{IsNameable, base_of, handle_at, index_limit}
use Rattle.handle_table.specs.Table.{IsTable, connections, is_owned_from}
use Rattle.handle_table.proofs.FreshLemmas.{apart}
use Rattle.handle_table.proofs.SlotLemmas.{held-of, nameable, nameable-at}
use Rattle.handle_table.proofs.TableLemmas.{found-at, is_shown}
use Rattle.handle_table.proofs.Twins.{count-map}
use Rattle.law_counting.specs.Objects.{ObjectsFit, accepted_as, is_joining, is_opening, same, wrongly_shown}
use Rattle.law_counting.proofs.Balance.{balanced-fit}
use Rattle.law_counting.proofs.CallsFit.{handles_held, held-balanced, held-times}
use Rattle.law_counting.proofs.Parts.{is_itself, off_from}
use Rattle.law_counting.proofs.Resume.{named-keeps, times}
use Rattle.law_counting.proofs.Walk.{shown-taken}
use Rattle.spm_core.proofs.Accepted.{accepted-first, joined-accepted}
use Rattle.spm_tables.specs.declared.item.QueuedMessage.{QueuedMessage}
use Rattle.spm_tables.specs.TablesView.{TablesView, held_message, spm_of}

-- ---- no object has the handle of a connection that wasn't told

one-handle : (a b : Slot) → IsNameable Connection a → IsNameable Connection b → handle_at Connection a ≡ handle_at Connection b → a ≡ b
one-handle a b left right same_handle =
    let same_number : (handle_at Connection a).0 ≡ (handle_at Connection b).0 = ap (λ (h : Handle). h.0) same_handle in
    let number : a.generation * 1024 + a.index + base_of Connection ≡ b.generation * 1024 + b.index + base_of Connection = cc in
    let index : a.index ≡ b.index = omega (arith, left.index, right.index, number) in
    let generation : a.generation ≡ b.generation = omega (arith, left.index, right.index, number) in
    λ j. record { index = index j; generation = generation j }

no-connection : (p : Places OpenConnection) (slot : Slot) (c : OpenConnection) → IsKept 256 p → IsTable p → item_at p slot ≡ Some c → c.handle ≡ None
    → count_by (λ d. has_handle d.handle (handle_at Connection slot)) (connections p) ≡ 0
no-connection p slot c kept table live untold =
    let h : Handle = handle_at Connection slot in
    let cs : List OpenConnection = connections p in
    let name : IsNameable Connection slot = nameable-at Connection p slot c kept live in
    let none : (owner : ℕ) → find (is_shown owner h) cs ≡ None = λ owner.
    found-at p owner h slot kept table (λ other n same_handle. ap (λ (t : Slot). Some t) (one-handle slot other name n (sym same_handle)))
    ∙ ap (option_and_then (λ d. cond (is_shown owner h d) (Some d) None)) live
    ∙ ap (λ (b : Bool). cond b (Some c) None) (ap (λ (o : Option Handle). (c.client.0 == owner) && has_handle o h) untold ∙ no_more (c.client.0 == owner)) in
    let go : (n : ℕ) → count_by (λ d. has_handle d.handle h) cs ≡ n → n ≡ 0 = elim [
      | zero ↦ λ e. refl
      | suc n ↦ λ e.
          let it = some-found (λ d. has_handle d.handle h) cs (omega (arith, e)) in
          let shown : is_shown it.0.client.0 h it.0 ≡ true = and_from _ _ (is_itself it.0.client.0) (find-passes _ cs it.0 it.1) in
          let owned = some-found (is_shown it.0.client.0 h) cs (omega (arith, count-found (λ d. has_handle d.handle h) (is_shown it.0.client.0 h) cs it.0 it.1, ap bit shown)) in
          absurd (some_none (find (is_shown it.0.client.0 h) cs) owned.0 owned.1 (none it.0.client.0))
    ] in
    go (count_by (λ d. has_handle d.handle h) cs) refl where
      no_more : (b : Bool) → (b && false) ≡ false
      no_more true = refl
      no_more false = refl

      some_none : (found : Option OpenConnection) (d : OpenConnection) → found ≡ Some d → found ≡ None → ⊥
      some_none found d e f = cc

no-message : (slot : Slot) → slot.index < index_limit → (held : List (Held QueuedMessage)) → All (λ h. IsNameable Message h.slot) held
    → count_by (λ m. has_handle m.handle (handle_at Connection slot)) (map held_message held) ≡ 0
no-message slot small [] named = refl
no-message slot small (x ∷ xs) named =
    let h : Handle = handle_at Connection slot in
    let name : IsNameable Message x.slot = All-head (λ (y : Held QueuedMessage). IsNameable Message y.slot) x xs named in
    let other : handle_eq (handle_at Message x.slot) h ≡ false = apart Message Connection x.slot slot (omega (arith, name.index)) small (λ e. absurd (omega (arith, e.0))) in
    let go : (delivered : Bool) → x.item.delivered ≡ delivered → has_handle (held_message x).handle h ≡ false = elim [
      | true ↦ λ e. rw e other
      | false ↦ λ e. rw e refl
    ] in
    omega (
      arith,
      ap bit (go x.item.delivered refl),
      count-cons (λ m. has_handle m.handle h) (held_message x) (map held_message xs),
      no-message slot small xs (All-tail (λ (y : Held QueuedMessage). IsNameable Message y.slot) x xs named),
    )

-- ---- the connection that the client is still to be told of

-- it has no handle
untold : (s : System) (d : TablesView) (a n : ℕ) (slot : Slot) (c : OpenConnection) → ObjectsFit s (spm_of d) → item_at d.connections slot ≡ Some c → c.client.0 ≡ a → c.serial ≡ n → phase_of (spm_of d) a ≡ Connected n → c.handle ≡ None
untold s d a n slot c fits live client serial joined =
    let ps : List ActorPhase = d.phases in
    let it = held-of d.connections slot c live in
    let few : bit (wrongly_shown ps it.0.item) ≤ 0 =
    omega (arith, count-found (has_slot slot) (λ (h : Held OpenConnection). wrongly_shown ps h.item) d.connections.held it.0 it.1, count-map (λ (h : Held OpenConnection). h.item) (wrongly_shown ps) d.connections.held, fits.shown) in
    let right : wrongly_shown ps c ≡ false = off_from _ (omega (arith, few, ap (λ (x : OpenConnection). bit (wrongly_shown ps x)) it.2)) in
    let joins : is_joining (get_or ps c.client.0 Ended) c.serial ≡ true =
    ap (λ (x : ℕ). is_joining (get_or ps x Ended) c.serial) client ∙ (ap (λ (p : ActorPhase). is_joining p c.serial) joined ∙ (ap (λ (x : ℕ). n == x) serial ∙ is_itself n)) in
    none c.handle (is_opening c.phase) (sym (ap (λ (b : Bool). not (same (is_none c.handle) (is_opening c.phase || b))) joins) ∙ right) where
      none : (o : Option Handle) (b : Bool) → not (same (is_none o) (b || true)) ≡ false → o ≡ None
      none None b e = refl
      none (Some h) true e = cc
      none (Some h) false e = cc

-- what the return leaves
pub told-fits : (s : System) (d : TablesView) (a n : ℕ) (slot : Slot) (c : OpenConnection) → IsKept 256 d.connections → IsKept 304 d.messages → IsTable d.connections
    → ObjectsFit s (spm_of d) → item_at d.connections slot ≡ Some c → c.client.0 ≡ a → c.serial ≡ n → phase_of (spm_of d) a ≡ Connected n
    → ObjectsFit s (with_phase (with_connection_handle (spm_of d) n (handle_at Connection slot)) a Running)
told-fits s d a n slot c kept messages table fits live client serial joined =
    let b : SpmState = spm_of d in
    let h : Handle = handle_at Connection slot in
    let name : IsNameable Connection slot = nameable-at Connection d.connections slot c kept live in
    let none : times (handles_held b) h ≡ 0 = omega (
      arith,
      held-times b h,
      no-connection d.connections slot c kept table live (untold s d a n slot c fits live client serial joined),
      no-message slot (omega (arith, name.index)) d.messages.held (nameable Message d.messages messages),
    ) in
    balanced-fit s _ _ (named-keeps s (handles_held b) b a n h (held-balanced s b fits) joined (shown-taken (handles_held b) h 0 (omega (arith, none)) (omega arith)))

-- the same by the clauses of the calls: the client's first connection from the serial number on is found, told its handle, and the client runs
pub told-left : (s : System) (d e new : TablesView) (a n : ℕ) (slot : Slot) (h : Handle) → IsKept 256 d.connections → IsKept 304 d.messages → IsTable d.connections → ObjectsFit s (spm_of d) → phase_of (spm_of d) a ≡ Connected n
    → item_at d.connections slot ≡ find (is_owned_from a n) (connections d.connections)
    → IfSome (item_at d.connections slot) (λ c. All (λ o. IsTrue (is_owned_from a n o) → c.serial ≤ o.serial) (connections d.connections))
    → h ≡ handle_at Connection slot → IfSome (item_at d.connections slot) (λ c. spm_of e ≡ with_connection_handle (spm_of d) c.serial h) → spm_of new ≡ with_phase (spm_of e) a Running
    → ObjectsFit s (spm_of new)
told-left s d e new a n slot h kept messages table fits joined found least handle telling running =
    let one : count_by (accepted_as a n) (spm_of d).connections ≡ 1 = joined-accepted s d a n fits joined in
    let first : IsSomeAnd (item_at d.connections slot) (λ c. c.serial ≡ n) = accepted-first a n (connections d.connections) (item_at d.connections slot) one found least in
    let go : (o : Option OpenConnection) → item_at d.connections slot ≡ o → IsSomeAnd o (λ c. c.serial ≡ n) → IfSome o (λ c. spm_of e ≡ with_connection_handle (spm_of d) c.serial h) → ObjectsFit s (spm_of new) = elim [
      | None ↦ λ is serial t. absurd serial
      | Some c ↦ λ is serial t.
          let owned : is_owned_from a n c ≡ true = find-passes (is_owned_from a n) (connections d.connections) c (sym found ∙ is) in
          let client : c.client.0 ≡ a = eqb-true _ _ (and_parts _ _ owned).0 in
          let state : spm_of new ≡ with_phase (with_connection_handle (spm_of d) n (handle_at Connection slot)) a Running =
          running ∙ ap (λ (b : SpmState). with_phase b a Running) (t ∙ (ap (λ (x : ℕ). with_connection_handle (spm_of d) x h) serial ∙ ap (with_connection_handle (spm_of d) n) handle)) in
          subst (ObjectsFit s) (sym state) (told-fits s d a n slot c kept messages table fits is client serial joined)
    ] in
    go (item_at d.connections slot) refl first telling
