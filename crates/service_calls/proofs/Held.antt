-- Messages that a partition holds, by their slots.
use Rattle.std.proofs.Common.{ℕ, ◌≡◌, Bool, true, false, cond, ◌&&◌, List, [], ◌∷◌, ◌∙◌, ap, sym, refl, subst}
use Rattle.std.specs.Prelude.{ℤ, int_le, nat_lt, find, Option, Some, None, map, All, option_and_then}
use Rattle.std.specs.Option.{option_map}
use Rattle.std.proofs.lemmas.Bool.Decides.{Decides-int_eq}
use Rattle.std.proofs.lemmas.List.Elements.{All-head, All-tail, All-nil, All-cons}
use Rattle.std.proofs.lemmas.Bool.{and_parts}
use Rattle.ffm_model.specs.declared.constants.TheConstants.{PSA_IPC_CALL, PSA_MAX_IOVEC}
use Rattle.ffm_model.specs.declared.machine.Handle.{Handle}
use Rattle.ffm_model.specs.declared.system.System.{System}
use Rattle.ffm_model.specs.declared.objects.PendingMessage.{PendingMessage}
use Rattle.ffm_model.specs.Actors.{is_service_of}
use Rattle.ffm_model.specs.State.{SpmState, has_handle, message_held}
use Rattle.ffm_model.specs.ServiceCalls.{request_held}
use Rattle.object_pools.specs.declared.slot.Slot.{Slot}
use Rattle.object_pools.specs.declared.slot.Held.{Held}
use Rattle.object_pools.specs.Pool.{has_slot, item_at}
use Rattle.handle_table.specs.declared.handles.Family.TheVariants.{Message}
use Rattle.handle_table.specs.Handles.{handle_at}
use Rattle.handle_table.proofs.SlotLemmas.{held-of}
use Rattle.law_lists.proofs.Tests.{find-passes, find-all}
use Rattle.spm_tables.specs.declared.item.QueuedMessage.{QueuedMessage}
use Rattle.spm_tables.specs.TablesView.{TablesView, spm_of, message_of, message_at, held_message, shown_handle}

-- ---- what holds of all messages holds of a live one

pub All-of-map : {X Y : Type 0} (P : Y → Type 0) (f : X → Y) (xs : List X) → All P (map f xs) → All (λ x. P (f x)) xs
All-of-map P f [] all = All-nil (λ x. P (f x))
All-of-map P f (x ∷ xs) all = All-cons (λ x. P (f x)) x xs (All-head P (f x) (map f xs) all) (All-of-map P f xs (All-tail P (f x) (map f xs) all))

holds-among : (P : PendingMessage → Type 0) (t : Slot) (h : Held QueuedMessage) (held : List (Held QueuedMessage)) → All P (map held_message held) → find (has_slot t) held ≡ Some h → P (held_message h)
holds-among P t h held all f = find-all (λ x. P (held_message x)) (has_slot t) held h f (All-of-map P held_message held all)

pub holds-at : (P : PendingMessage → Type 0) (d : TablesView) (t : Slot) (m : QueuedMessage) → All P (spm_of d).messages → item_at d.messages t ≡ Some m → P (message_of t m)
holds-at P d t m all live =
    let it = held-of d.messages t m live in
    subst (λ (u : Slot). P (message_of u m)) it.3 (subst (λ (i : QueuedMessage). P (message_of (it.0).slot i)) it.2 (holds-among P t it.0 d.messages.held all it.1))

-- ---- a message that is held was delivered, under the handle of its slot

pub record IsTold (t : Slot) (m : QueuedMessage) (k : Handle) : Type 0 where
  pub delivered : m.delivered ≡ true
  pub handle : handle_at Message t ≡ k

same-handle : (h k : Handle) → has_handle (Some h) k ≡ true → h ≡ k
same-handle h k e = let same : h.0 ≡ k.0 = (Decides-int_eq h.0 k.0).0 e in ap (λ (n : ℤ). record { 0 = n }) same

told-by : (t : Slot) (m : QueuedMessage) (k : Handle) → has_handle (shown_handle m.delivered t) k ≡ true → IsTold t m k
told-by t m k e =
    let go : (b : Bool) → m.delivered ≡ b → has_handle (shown_handle b t) k ≡ true → IsTold t m k =
    elim [ true ↦ λ on f. record { delivered = on; handle = same-handle (handle_at Message t) k f } | false ↦ λ on f. cc ] in
    go m.delivered refl e

pub held-told : (s : System) (b : SpmState) (a : ℕ) (k : Handle) (t : Slot) (m : QueuedMessage) → message_held s b a k ≡ Some (message_of t m) → IsTold t m k
held-told s b a k t m held =
    told-by t m k (and_parts (is_service_of s a m.service) (has_handle (shown_handle m.delivered t) k) (find-passes (λ n. is_service_of s a n.service && has_handle n.handle k) b.messages (message_of t m) held)).1

-- ---- requests

kept-held : (o : Option PendingMessage) (p : PendingMessage → Bool) (n : PendingMessage) → option_and_then (λ m. cond (p m) (Some m) None) o ≡ Some n → o ≡ Some n
kept-held None p n e = cc
kept-held (Some m) p n e =
    let go : (b : Bool) → cond b (Some m) None ≡ Some n → Some m ≡ Some n = elim [ true ↦ λ f. f | false ↦ λ f. cc ] in
    go (p m) e

pub request-held : (s : System) (b : SpmState) (a : ℕ) (k : Handle) (index : ℕ) (n : PendingMessage) → request_held s b a k index ≡ Some n → message_held s b a k ≡ Some n
request-held s b a k index n e = kept-held (message_held s b a k) (λ m. int_le PSA_IPC_CALL m.kind && nat_lt index PSA_MAX_IOVEC) n e

-- the message of a live slot
pub message-is : (d : TablesView) (t : Slot) (m : QueuedMessage) (o : Option PendingMessage) → item_at d.messages t ≡ Some m → message_at d t ≡ o → o ≡ Some (message_of t m)
message-is d t m o live e = sym e ∙ ap (option_map (message_of t)) live
