-- No connection or message has the handle of a slot whose message wasn't delivered.
use Rattle.std.proofs.Common.{ℕ, ◌≡◌, ◌<◌, ◌≤◌, Bool, true, false, List, [], ◌∷◌, length, map, arith, ◌∙◌, ap, sym, refl}
use Rattle.std.specs.Prelude.{Option, Some, None, IfSome, All, count_by}
use Rattle.std.proofs.lemmas.Bool.Decides.{nat_tests}
use Rattle.std.proofs.lemmas.List.Elements.{All-head, All-tail}
use Rattle.law_lists.proofs.Counts.{bit, count-cons}
use Rattle.ffm_model.specs.declared.machine.Handle.{Handle}
use Rattle.ffm_model.specs.declared.objects.OpenConnection.{OpenConnection}
use Rattle.ffm_model.specs.State.{handle_eq, has_handle}
use Rattle.law_counting.specs.Objects.{objects_with}
use Rattle.object_pools.specs.declared.slot.Slot.{Slot}
use Rattle.object_pools.specs.declared.slot.Held.{Held}
use Rattle.object_pools.specs.Pool.{IsKept, IsNamed, is_at, item_at}
use Rattle.handle_table.specs.declared.handles.Family.TheVariants.{Connection, Message}
use Rattle.handle_table.specs.Handles.{handle_at}
use Rattle.handle_table.specs.Table.{IsTable}
use Rattle.handle_table.proofs.FreshLemmas.{apart}
use Rattle.handle_table.proofs.SlotLemmas.{held-of, named-at}
use Rattle.spm_tables.specs.declared.item.QueuedMessage.{QueuedMessage}
use Rattle.spm_tables.specs.TablesView.{TablesView, held_message, shown_handle, spm_of}
use Rattle.spm_tables.proofs.QueueMessages.{Only, only-here}

-- the messages, of which g alone is at the slot's index
messages-without : (t : Slot) (g : Held QueuedMessage) (generations : List ℕ) (xs : List (Held QueuedMessage)) → t.index < 304 → length generations ≤ 304 → g.item.delivered ≡ false
    → All (λ x. IsNamed generations x.slot) xs → Only t g xs → count_by (λ m. has_handle m.handle (handle_at Message t)) (map held_message xs) ≡ 0
messages-without t g generations [] small size waits named only = refl
messages-without t g generations (x ∷ xs) small size waits named only =
    let h : Handle = handle_at Message t in
    let name : IsNamed generations x.slot = All-head (λ (y : Held QueuedMessage). IsNamed generations y.slot) x xs named in
    let same : is_at t.index x ≡ true → x ≡ g = All-head (λ (y : Held QueuedMessage). is_at t.index y ≡ true → y ≡ g) x xs only in
    let here : (b : Bool) → x.item.delivered ≡ b → bit (has_handle (shown_handle b x.slot) h) ≡ 0 = elim [
      | true ↦ λ e. ap bit (apart Message Message x.slot t (omega (arith, name.below, size)) (omega (arith, small)) (λ d.
          let at : is_at t.index x ≡ true = grind (arith, nat_tests, d.1) in
          let is : x ≡ g = same at in
          let told : true ≡ false = sym e ∙ ap (λ (y : Held QueuedMessage). y.item.delivered) is ∙ waits in
          cc))
      | false ↦ λ e. refl
    ] in
    omega (
      arith,
      count-cons (λ m. has_handle m.handle h) (held_message x) (map held_message xs),
      here x.item.delivered refl,
      messages-without t g generations xs small size waits (All-tail (λ (y : Held QueuedMessage). IsNamed generations y.slot) x xs named) (All-tail (λ (y : Held QueuedMessage). is_at t.index y ≡ true → y ≡ g) x xs only),
    )

-- the connections
connections-without : (t : Slot) (generations : List ℕ) (xs : List (Held OpenConnection)) → t.index < 304 → length generations ≤ 256
    → All (λ x. IsNamed generations x.slot) xs → All (λ x. IfSome x.item.handle (λ k. k ≡ handle_at Connection x.slot)) xs → count_by (λ c. has_handle c.handle (handle_at Message t)) (map (λ x. x.item) xs) ≡ 0
connections-without t generations [] small size named told = refl
connections-without t generations (x ∷ xs) small size named told =
    let h : Handle = handle_at Message t in
    let name : IsNamed generations x.slot = All-head (λ (y : Held OpenConnection). IsNamed generations y.slot) x xs named in
    let own : handle_eq (handle_at Connection x.slot) h ≡ false = apart Connection Message x.slot t (omega (arith, name.below, size)) (omega (arith, small)) (λ d. let none : 0 ≡ 512 = d.0 in cc) in
    let here : (o : Option Handle) → IfSome o (λ k. k ≡ handle_at Connection x.slot) → bit (has_handle o h) ≡ 0 = elim [
      | None ↦ λ e. refl
      | Some k ↦ λ e. ap bit (ap (λ (z : Handle). handle_eq z h) e ∙ own)
    ] in
    omega (
      arith,
      count-cons (λ c. has_handle c.handle h) x.item (map (λ (y : Held OpenConnection). y.item) xs),
      here x.item.handle (All-head (λ (y : Held OpenConnection). IfSome y.item.handle (λ k. k ≡ handle_at Connection y.slot)) x xs told),
      connections-without t generations xs small size (All-tail (λ (y : Held OpenConnection). IsNamed generations y.slot) x xs named)
          (All-tail (λ (y : Held OpenConnection). IfSome y.item.handle (λ k. k ≡ handle_at Connection y.slot)) x xs told),
    )

pub objects-without : (d : TablesView) (t : Slot) (m : QueuedMessage) → IsKept 304 d.messages → IsKept 256 d.connections → IsTable d.connections → item_at d.messages t ≡ Some m → m.delivered ≡ false
    → objects_with (spm_of d) (handle_at Message t) ≡ 0
objects-without d t m of_messages of_connections table live waits =
    let it = held-of d.messages t m live in
    let g : Held QueuedMessage = it.0 in
    let own : g.item.delivered ≡ false = ap (λ (x : QueuedMessage). x.delivered) it.2 ∙ waits in
    let name : IsNamed d.messages.generations t = named-at d.messages t m 304 of_messages live in
    let small : t.index < 304 = omega (arith, name.below, of_messages.size) in
    omega (
      arith,
      messages-without t g d.messages.generations d.messages.held small of_messages.size own of_messages.named (only-here d.messages t g of_messages it.1),
      connections-without t d.connections.generations d.connections.held small of_connections.size of_connections.named table.told,
    )
