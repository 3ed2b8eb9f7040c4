-- What psa_get delivers, from what was done to the queue of the service.
use Rattle.std.proofs.Common.{ℕ, ◌≡◌, Bool, true, cond, List, [], ◌∷◌, ◌++◌, ◌∙◌, ap, sym, refl, subst, ◌==◌, map, false}
use Rattle.std.specs.Prelude.{find, is_none, All, if◌then◌else◌, Option, Some, None, IsSome, IfSome, option_and_then}
use Rattle.std.specs.Option.{option_map}
use Rattle.std.proofs.lemmas.Bool.{and_parts}
use Rattle.law_lists.proofs.Tests.{find-passes, find-map}
use Rattle.ffm_model.specs.declared.machine.Handle.{Handle}
use Rattle.ffm_model.specs.declared.machine.Message.{Message as ShownMessage}
use Rattle.ffm_model.specs.declared.machine.Outcome.TheVariants.{Got}
use Rattle.ffm_model.specs.declared.scenario.Bytes.{Bytes}
use Rattle.ffm_model.specs.declared.system.System.{System}
use Rattle.ffm_model.specs.declared.objects.PendingMessage.{PendingMessage}
use Rattle.ffm_model.specs.ClientCalls.{Effect, effect}
use Rattle.ffm_model.specs.Memory.{ByteMap, valid_buffer, words_stored}
use Rattle.ffm_model.specs.Names.{NamesSoFar, name_due}
use Rattle.ffm_model.specs.declared.machine.Call.TheVariants.{Get}
use Rattle.ffm_model.specs.State.{SpmState, delivered, is_undelivered}
use Rattle.ffm_model.specs.ServiceCalls.{psa_get, get_of, service_of_signal, shown_message, message_words}
use Rattle.memory_image.specs.Pieces.{byte_at}
use Rattle.object_pools.specs.declared.slot.Slot.{Slot}
use Rattle.object_pools.specs.declared.slot.Held.{Held}
use Rattle.object_pools.specs.Pool.{IsKept, has_slot, item_at, item_put, with_item}
use Rattle.machine_rules.specs.Vectors.{AreWithin}
use Rattle.handle_table.specs.declared.handles.Family.TheVariants.{Message}
use Rattle.handle_table.specs.Handles.{handle_at}
use Rattle.handle_table.proofs.SlotLemmas.{slot-is}
use Rattle.law_calls.specs.Named.{KeepsNames, NamesAre}
use Rattle.law_calls.proofs.Changes.{names-message}
use Rattle.law_calls.proofs.Due.{due-at-get}
use Rattle.spm_tables.specs.declared.item.QueuedMessage.{QueuedMessage}
use Rattle.spm_tables.specs.Answers.{state_with}
use Rattle.spm_tables.specs.TablesView.{TablesView, held_message, message_at, message_of, spm_of, waits_for}
use Rattle.spm_tables.proofs.MessageLemmas.{live-put}
use Rattle.service_calls.proofs.Held.{holds-at}
use Rattle.service_calls.proofs.Kept.{all-put}
use Rattle.spm_tables.specs.TablesView.{shown_handle}

-- a message was delivered: m before, n since
pub record IsDelivered (d new : TablesView) (service : ℕ) (t : Slot) (n : QueuedMessage) : Type 0 where
  pub item : QueuedMessage
  pub live : item_at d.messages t ≡ Some item
  pub since : n ≡ record item { delivered = true }
  pub first : find (is_undelivered service) (spm_of d).messages ≡ Some (message_of t item)
  pub after : new ≡ record d { messages = with_item d.messages t n }

pub was-delivered : (d new : TablesView) (service : ℕ) (t : Slot) (n : QueuedMessage) → IsSome (item_at d.messages t) → message_at d t ≡ find (is_undelivered service) (spm_of d).messages
    → IfSome (item_at d.messages t) (λ m. new ≡ record d { messages = with_item d.messages t (record m { delivered = true }) }) → item_at new.messages t ≡ Some n → IsDelivered d new service t n
was-delivered d new service t n some oldest =
    let go : (o : Option QueuedMessage) → item_at d.messages t ≡ o → IsSome o → option_map (message_of t) o ≡ find (is_undelivered service) (spm_of d).messages
    → IfSome o (λ m. new ≡ record d { messages = with_item d.messages t (record m { delivered = true }) }) → item_at new.messages t ≡ Some n → IsDelivered d new service t n =
    elim [
      | None ↦ λ e x f g h. cc
      | Some m ↦ λ e x f g h.
          let put : item_at new.messages t ≡ Some (record m { delivered = true }) =
          ap (λ (y : TablesView). item_at y.messages t) g ∙ live-put d.messages t m (record m { delivered = true }) e in
          let same : Some n ≡ Some (record m { delivered = true }) = sym h ∙ put in
          let is : n ≡ record m { delivered = true } = cc in
          record { item = m; live = e; since = is; first = sym f; after = g ∙ ap (λ (y : QueuedMessage). record d { messages = with_item d.messages t y }) (sym is) }
    ] in
    go (item_at d.messages t) refl some oldest

pub get-due : (s : System) (d new : TablesView) (given : List Handle) (bytes after : List Bytes) (a signal msg service : ℕ) (t : Slot) (n : QueuedMessage) (shown : ShownMessage)
    → service_of_signal s a signal ≡ Some service → valid_buffer s a msg 48 ≡ true → IsDelivered d new service t n
    → shown ≡ shown_message s (spm_of new) (message_of t n) (handle_at Message t)
    → spm_of new ≡ record (spm_of d) { messages = delivered service (handle_at Message t) (spm_of d).messages }
    → byte_at after ≡ words_stored (byte_at bytes) msg (message_words shown)
    → psa_get s (state_with d given (byte_at bytes)) a signal msg shown.handle ≡ Some (effect (Got shown) (state_with new (given ++ shown.handle ∷ []) (byte_at after)))
get-due s d new given bytes after a signal msg service t n shown owner valid it shown_is state stored =
    let m : QueuedMessage = it.item in
    let h : Handle = handle_at Message t in
    let told : ShownMessage = shown_message s (spm_of d) (message_of t m) h in
    let is_told : shown ≡ told =
    shown_is ∙ ap (λ (b : SpmState). shown_message s b (message_of t n) h) state ∙ ap (λ (x : QueuedMessage). shown_message s (spm_of d) (message_of t x) h) it.since in
    let here : ℕ → PendingMessage → Effect = λ i x. get_of s (state_with d given (byte_at bytes)) i msg h x in
    let computed : psa_get s (state_with d given (byte_at bytes)) a signal msg h ≡ Some (here service (message_of t m)) =
    ap (option_and_then (λ i. option_and_then (λ x. cond (valid_buffer s a msg 48) (Some (here i x)) None) (find (is_undelivered i) (spm_of d).messages))) owner
    ∙ ap (option_and_then (λ x. cond (valid_buffer s a msg 48) (Some (here service x)) None)) it.first
    ∙ ap (λ (b : Bool). cond b (Some (here service (message_of t m))) None) valid in
    let bytes_are : byte_at after ≡ words_stored (byte_at bytes) msg (message_words told) = stored ∙ ap (λ (x : ShownMessage). words_stored (byte_at bytes) msg (message_words x)) is_told in
    let at_told : psa_get s (state_with d given (byte_at bytes)) a signal msg told.handle ≡ Some (effect (Got told) (state_with new (given ++ told.handle ∷ []) (byte_at after))) =
    computed
    ∙ ap (λ (b : SpmState). Some (effect (Got told) (record { spm = b; handles_given = given ++ h ∷ []; memory = words_stored (byte_at bytes) msg (message_words told) }))) (sym state)
    ∙ ap (λ (x : ℕ → ℕ). Some (effect (Got told) (record { spm = spm_of new; handles_given = given ++ h ∷ []; memory = x }))) (sym bytes_are) in
    subst (λ (x : ShownMessage). psa_get s (state_with d given (byte_at bytes)) a signal msg x.handle ≡ Some (effect (Got x) (state_with new (given ++ x.handle ∷ []) (byte_at after)))) (sym is_told) at_told

-- ---- the name that is due

first-waits : (d : TablesView) (v : ℕ) (n : PendingMessage) → find (is_undelivered v) (spm_of d).messages ≡ Some n → (h : Held QueuedMessage) × (find (waits_for v) d.messages.held ≡ Some h)
first-waits d v n f =
    let go : (o : Option (Held QueuedMessage)) → find (waits_for v) d.messages.held ≡ o → option_map held_message o ≡ Some n → (h : Held QueuedMessage) × (find (waits_for v) d.messages.held ≡ Some h) =
    elim [ None ↦ λ e g. cc | Some h ↦ λ e g. (h, e) ] in
    go (find (waits_for v) d.messages.held) refl (sym (find-map held_message (is_undelivered v) d.messages.held) ∙ f)

-- what the delivery gives a handle is in the slot of that handle
delivered-slot : (v : ℕ) (t : Slot) (n : QueuedMessage) (held : List (Held QueuedMessage)) (h : Held QueuedMessage) → find (waits_for v) held ≡ Some h
    → map held_message (map (item_put t n) held) ≡ delivered v (handle_at Message t) (map held_message held) → has_slot t h ≡ true
delivered-slot v t n [] h f e = cc
delivered-slot v t n (x ∷ xs) h f e =
    let k : Handle = handle_at Message t in
    let put : List PendingMessage = map held_message (map (item_put t n) xs) in
    let rest : List PendingMessage = map held_message xs in
    let here : is_undelivered v (held_message x) ≡ true → held_message (item_put t n x) ≡ record (held_message x) { handle = Some k } → has_slot t x ≡ true =
    λ waits same.
    let none : is_none (held_message x).handle ≡ true = (and_parts (is_none (held_message x).handle) ((held_message x).service == v) waits).0 in
    let in_slot : (c : Bool) → held_message (cond {A = Held QueuedMessage} c (record x { item = n }) x) ≡ record (held_message x) { handle = Some k } → c ≡ true =
    elim [
      | true ↦ λ g. refl
      | false ↦ λ g.
          let shows : is_none (held_message x).handle ≡ false = ap (λ (m : PendingMessage). is_none m.handle) g in
          cc
    ] in
    in_slot (has_slot t x) same in
    let go : (b : Bool) → is_undelivered v (held_message x) ≡ b → cond b (Some x) (find (waits_for v) xs) ≡ Some h
    → held_message (item_put t n x) ∷ put ≡ (if b then record (held_message x) { handle = Some k } ∷ rest else held_message x ∷ delivered v k rest) → has_slot t h ≡ true =
    elim [
      | true ↦ λ waits g same.
          let it : x ≡ h = cc in
          let head : held_message (item_put t n x) ≡ record (held_message x) { handle = Some k } = cc in
          subst (λ (y : Held QueuedMessage). has_slot t y ≡ true) it (here waits head)
      | false ↦ λ waits g same. let tail : put ≡ delivered v k rest = cc in delivered-slot v t n xs h g tail
    ] in
    go (is_undelivered v (held_message x)) refl f e

pub due-name : (s : System) (d new : TablesView) (given : List Handle) (m : ByteMap) (a signal msg service : ℕ) (t : Slot) (n : QueuedMessage) (k : NamesSoFar)
    → service_of_signal s a signal ≡ Some service → IsDelivered d new service t n
    → spm_of new ≡ record (spm_of d) { messages = delivered service (handle_at Message t) (spm_of d).messages }
    → NamesAre d k → name_due s (state_with d given m) a (Get signal msg) k ≡ Some (handle_at Message t)
due-name s d new given m a signal msg service t n k owner it state named =
    let first = first-waits d service (message_of t it.item) it.first in
    let messages : map held_message (map (item_put t n) d.messages.held) ≡ delivered service (handle_at Message t) (map held_message d.messages.held) =
    sym (ap (λ (e : TablesView). (spm_of e).messages) it.after) ∙ ap (λ (b : SpmState). b.messages) state in
    let slot : first.0.slot ≡ t = slot-is t first.0 (delivered-slot service t n d.messages.held first.0 first.1 messages) in
    due-at-get s d given m a signal msg service k first.0 named owner first.1 ∙ ap (λ (u : Slot). Some (handle_at Message u)) slot

-- ---- what else is kept

pub delivered-names : (s : System) (d new : TablesView) (service : ℕ) (t : Slot) (n : QueuedMessage) → IsKept 304 d.messages → IsDelivered d new service t n → KeepsNames s d new
delivered-names s d new service t n kept it =
    names-message s d new t it.item n kept it.live (ap (λ (m : QueuedMessage). m.serial) it.since) (λ e. ap (λ (m : QueuedMessage). m.client) it.since) (ap (λ (m : QueuedMessage). m.kind) it.since)
    (λ e. let told : n.delivered ≡ true = ap (λ (m : QueuedMessage). m.delivered) it.since in cc) (ap (λ (e : TablesView). e.connections) it.after) (ap (λ (e : TablesView). e.messages) it.after)

pub delivered-within : (regions : List (ℕ × ℕ)) (d new : TablesView) (service : ℕ) (t : Slot) (n : QueuedMessage) → IsDelivered d new service t n → All (λ m. AreWithin regions m.vectors) (spm_of d).messages
    → All (λ m. AreWithin regions m.vectors) (spm_of new).messages
delivered-within regions d new service t n it all =
    let own : AreWithin regions it.item.vectors = holds-at (λ m. AreWithin regions m.vectors) d t it.item all it.live in
    all-put (AreWithin regions) d new t n (ap (λ (e : TablesView). e.messages) it.after) (subst (λ (m : QueuedMessage). AreWithin regions m.vectors) (sym it.since) own) all

pub was-undelivered : (d new : TablesView) (service : ℕ) (t : Slot) (n : QueuedMessage) → (it : IsDelivered d new service t n) → it.item.delivered ≡ false
was-undelivered d new service t n it =
    let waits : is_undelivered service (message_of t it.item) ≡ true = find-passes (is_undelivered service) (spm_of d).messages (message_of t it.item) it.first in
    let none : is_none (shown_handle it.item.delivered t) ≡ true = (and_parts (is_none (shown_handle it.item.delivered t)) (it.item.service == service) waits).0 in
    let go : (b : Bool) → is_none (shown_handle b t) ≡ true → b ≡ false = elim [ true ↦ λ e. cc | false ↦ λ e. refl ] in
    go it.item.delivered none
