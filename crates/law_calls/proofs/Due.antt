-- The names that tables begin with, and those that a call has to show.
use Rattle.std.proofs.Common.{ℕ, suc, ◌≡◌, ◌<◌, ◌+◌, Bool, true, false, cond, not, List, [], ◌∷◌, length, get_or, arith, ◌∙◌, ap, sym, subst}
use Rattle.std.specs.Prelude.{All, Option, Some, None, find, nat_lt, option_and_then, position}
use Rattle.std.specs.List.{position_or_len}
use Rattle.std.specs.Option.{option_map}
use Rattle.std.proofs.lemmas.Bool.Decides.{nat_tests}
use Rattle.std.proofs.lemmas.List.Elements.{All-nil}
use Rattle.law_lists.proofs.Tests.{find-all}
use Rattle.law_lists.proofs.Lists.{map_nil}
use Rattle.ffm_model.specs.declared.system.System.{System}
use Rattle.ffm_model.specs.declared.machine.Call.TheVariants as call
use Rattle.ffm_model.specs.declared.machine.Handle.{Handle}
use Rattle.ffm_model.specs.declared.objects.ActorPhase.TheVariants.{Connected}
use Rattle.ffm_model.specs.declared.objects.OpenConnection.{OpenConnection}
use Rattle.ffm_model.specs.Memory.{ByteMap}
use Rattle.ffm_model.specs.Names.{NamesSoFar, SlotName, name_at_return, name_due, name_of, no_names, no_slot}
use Rattle.ffm_model.specs.ServiceCalls.{service_of_signal}
use Rattle.ffm_model.specs.State.{SpmState, is_undelivered, opening_spm, phase_of}
use Rattle.object_pools.specs.declared.slot.Slot.{Slot}
use Rattle.object_pools.specs.declared.slot.Held.{Held}
use Rattle.object_pools.specs.Pool.{IsKept, has_slot, item_at}
use Rattle.handle_table.specs.declared.handles.Family.TheVariants.{Connection, Message}
use Rattle.handle_table.specs.Handles.{handle_at, slot_name}
use Rattle.handle_table.proofs.SlotLemmas.{held-of}
use Rattle.spm_tables.specs.declared.item.QueuedMessage.{QueuedMessage}
use Rattle.spm_tables.specs.Answers.{state_with}
use Rattle.spm_tables.specs.TablesView.{TablesView, spm_of, waits_for}
use Rattle.law_calls.specs.Named.{IsNamedBy, NamesAre}
use Rattle.law_calls.proofs.KeptSlots.{message_list, name_list}

-- ---- at the start

-- tables that took nothing yet have no names
pub names-begin : (s : System) (d : TablesView) → IsKept 256 d.connections → IsKept 304 d.messages → spm_of d ≡ opening_spm s → d.messages.takes ≡ 0 → NamesAre d no_names
names-begin s d of_connections of_messages opens untaken =
    let made : d.connections.takes ≡ 0 = ap (λ (b : SpmState). b.connections_made) opens in
    let no_connection : d.connections.held ≡ [] = map_nil (λ (h : Held OpenConnection). h.item) d.connections.held (ap (λ (b : SpmState). b.connections) opens) in
    let no_message : d.messages.held ≡ [] = map_nil _ d.messages.held (ap (λ (b : SpmState). b.messages) opens) in
    record {
      made = sym made;
      connections = subst (λ (hs : List (Held OpenConnection)). All (IsNamedBy []) hs) (sym no_connection) (All-nil (IsNamedBy []));
      past_connections = record { uses = λ i. omega (arith, of_connections.given i, made) };
      messages = ap name_list (sym no_message);
      past_messages = record { uses = λ i. omega (arith, of_messages.given i, untaken) };
      sent = sym untaken;
    }

-- ---- at a return of psa_connect

pub named-connection : (d : TablesView) (k : NamesSoFar) (slot : Slot) (c : OpenConnection) → NamesAre d k → item_at d.connections slot ≡ Some c → name_of 0 (get_or k.connections c.serial no_slot) ≡ handle_at Connection slot
named-connection d k slot c was live =
    let it = held-of d.connections slot c live in
    ap (λ (x : OpenConnection). name_of 0 (get_or k.connections x.serial no_slot)) (sym it.2)
    ∙ ap (name_of 0) (find-all (IsNamedBy k.connections) (has_slot slot) d.connections.held it.0 it.1 was.connections)
    ∙ ap (λ (u : Slot). handle_at Connection u) it.3

pub due-at-return : (s : System) (d : TablesView) (given : List Handle) (m : ByteMap) (a : ℕ) (k : NamesSoFar) (slot : Slot) (c : OpenConnection) → NamesAre d k → item_at d.connections slot ≡ Some c → phase_of (spm_of d) a ≡ Connected c.serial
    → name_due s (state_with d given m) a call.Resume k ≡ Some (handle_at Connection slot)
due-at-return s d given m a k slot c was live phase = ap (name_at_return k) phase ∙ ap (λ (h : Handle). Some h) (named-connection d k slot c was live)

-- ---- at psa_get

-- the place of the message that is found has its slot's name
found-name : (v : ℕ) (hs : List (Held QueuedMessage)) (h : Held QueuedMessage) → find (waits_for v) hs ≡ Some h
    → (position_or_len (is_undelivered v) (message_list hs) < length (message_list hs)) × (get_or (name_list hs) (position_or_len (is_undelivered v) (message_list hs)) no_slot ≡ slot_name h.slot)
found-name v [] h e = cc
found-name v (x ∷ xs) h e =
    let n : ℕ = position_or_len (is_undelivered v) (message_list xs) in
    let go : (b : Bool) → cond b (Some x) (find (waits_for v) xs) ≡ Some h
    → ((cond (not b) (1 + n) 0) < length (message_list (x ∷ xs))) × (get_or (name_list (x ∷ xs)) (cond (not b) (1 + n) 0) no_slot ≡ slot_name h.slot) =
    elim [
      | true ↦ λ f. let it : x ≡ h = cc in (omega arith, ap (λ (y : Held QueuedMessage). slot_name y.slot) it)
      | false ↦ λ f.
          let rest = found-name v xs h f in
          let next : 1 + n ≡ suc n = omega arith in
          (omega (arith, rest.0), ap (λ i. get_or (name_list (x ∷ xs)) i no_slot) next ∙ rest.1)
    ] in
    go (waits_for v x) e

pub named-message : (d : TablesView) (k : NamesSoFar) (v : ℕ) (h : Held QueuedMessage) → NamesAre d k → find (waits_for v) d.messages.held ≡ Some h
    → option_map (λ j. name_of 512 (get_or k.messages j no_slot)) (position (is_undelivered v) (spm_of d).messages) ≡ Some (handle_at Message h.slot)
named-message d k v h was found =
    let ms = message_list d.messages.held in
    let j : ℕ = position_or_len (is_undelivered v) ms in
    let it = found-name v d.messages.held h found in
    let inside : j < length ms = it.0 in
    let below : nat_lt j (length ms) ≡ true = grind (arith, nat_tests) in
    ap (λ (b : Bool). option_map (λ i. name_of 512 (get_or k.messages i no_slot)) (cond b (Some j) None)) below
    ∙ ap (λ (ts : List SlotName). Some (name_of 512 (get_or ts j no_slot))) was.messages ∙ ap (λ (t : SlotName). Some (name_of 512 t)) it.1

pub due-at-get : (s : System) (d : TablesView) (given : List Handle) (m : ByteMap) (a signal msg v : ℕ) (k : NamesSoFar) (h : Held QueuedMessage) → NamesAre d k → service_of_signal s a signal ≡ Some v → find (waits_for v) d.messages.held ≡ Some h
    → name_due s (state_with d given m) a (call.Get signal msg) k ≡ Some (handle_at Message h.slot)
due-at-get s d given m a signal msg v k h was service found =
    ap (λ (o : Option ℕ). option_map (λ j. name_of 512 (get_or k.messages j no_slot)) (option_and_then (λ i. position (is_undelivered i) (spm_of d).messages) o)) service ∙ named-message d k v h was found
