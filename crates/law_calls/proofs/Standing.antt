-- The state after a run with names stands in the tables whose slots have those names.
use Rattle.std.proofs.Common.{ℕ, zero, suc, ◌≡◌, ◌<◌, ◌≤◌, ◌+◌, ◌*◌, ◌==◌, Bool, true, false, not, ◌&&◌, List, [], ◌∷◌, map, get_or, arith, ◌∙◌, ap, sym, refl}
use Rattle.std.specs.Prelude.{All, Option, Some, None, count_by, is_none, is_some, nat_lt, pos}
use Rattle.std.proofs.lemmas.Bool.Decides.{Decides-int_eq, nat_tests}
use Rattle.std.proofs.lemmas.List.Elements.{All-cons, All-head, All-nil, All-tail}
use Rattle.law_lists.proofs.Counts.{bit, count-cons, count-found, some-found}
use Rattle.law_lists.proofs.Tests.{find-passes}
use Rattle.ffm_model.specs.declared.machine.Entry.{Entry}
use Rattle.ffm_model.specs.declared.machine.Handle.{Handle}
use Rattle.ffm_model.specs.declared.objects.OpenConnection.{OpenConnection}
use Rattle.ffm_model.specs.declared.scenario.Bytes.{Bytes}
use Rattle.ffm_model.specs.declared.system.System.{System}
use Rattle.ffm_model.specs.Names.{NamedState, NamesSoFar, SlotName, has_index, name_of, no_slot}
use Rattle.ffm_model.specs.State.{SpmState, handle_eq}
use Rattle.law_counting.specs.Fresh.{slots_named}
use Rattle.law_counting.proofs.Fresh.{Named, off-second}
use Rattle.law_counting.proofs.Resume.{times}
use Rattle.law_counting.proofs.SlotNames.{Taken, is_slot, small_from, positive_from}
use Rattle.law_counting.proofs.Walk.{handle-same, handle-self, shown-taken, was_shown, with_slots}
use Rattle.memory_image.specs.Pieces.{byte_at}
use Rattle.object_pools.specs.declared.slot.Slot.{Slot}
use Rattle.object_pools.specs.declared.slot.Held.{Held}
use Rattle.handle_table.specs.declared.handles.Family.TheVariants.{Connection, Message}
use Rattle.handle_table.specs.Handles.{is_given, handle_at, slot_name}
use Rattle.spm_tables.specs.declared.item.QueuedMessage.{QueuedMessage}
use Rattle.spm_tables.specs.TablesView.{TablesView, held_message, shown_handle, spm_of}
use Rattle.law_calls.specs.Named.{IsNamedBy, NamesAre}
use Rattle.law_calls.specs.Stands.{NamesTaken, Stands}
use Rattle.law_counting.proofs.Pairs.{member-counts}

-- ---- slots that were taken

-- the number that a handle of a slot has
abbrev number : ℕ → SlotName → ℕ
number base t = t.generation * 1024 + t.index + base

same-number : (base other : ℕ) (u t : SlotName) → handle_eq (name_of base u) (name_of other t) ≡ true → number base u ≡ number other t
same-number base other u t e = let same : pos (number base u) ≡ pos (number other t) = (Decides-int_eq (pos (number base u)) (pos (number other t))).0 e in cc

is-itself : (t : SlotName) → is_slot t.index t.generation t ≡ true
is-itself t = grind arith

-- its generation is one that its index has had
taken-before : (ts : List SlotName) (i g : ℕ) → Taken ts → 1 ≤ count_by (is_slot i g) ts → g ≤ count_by (has_index i) ts
taken-before ts i g h some =
    let go : (b : Bool) → nat_lt (count_by (has_index i) ts) g ≡ b → g ≤ count_by (has_index i) ts = elim [
      | true ↦ λ e. let less : count_by (has_index i) ts < g = grind (arith, nat_tests) in absurd (omega (arith, h.later i g less, some))
      | false ↦ λ e. grind (arith, nat_tests)
    ] in
    go (nat_lt (count_by (has_index i) ts) g) refl

-- a slot that was taken, and passes the test
record IsTaken (ts : List SlotName) (q : SlotName → Bool) : Type 0 where
  pub slot : SlotName
  pub passes : q slot ≡ true
  pub small : slot.index < 512
  pub first : 1 ≤ slot.generation
  pub before : slot.generation ≤ count_by (has_index slot.index) ts

found-taken : (ts : List SlotName) (q : SlotName → Bool) → Taken ts → 1 ≤ count_by q ts → IsTaken ts q
found-taken ts q h some =
    let it = some-found q ts some in
    let t : SlotName = it.0 in
    let here : 1 ≤ count_by (is_slot t.index t.generation) ts = omega (arith, count-found q (is_slot t.index t.generation) ts t it.1, ap bit (is-itself t)) in
    record {
      slot = t;
      passes = find-passes q ts t it.1;
      small = small_from t.index (omega (arith, count-found q (λ u. not (nat_lt u.index 512)) ts t it.1, h.small));
      first = positive_from t.generation (omega (arith, count-found q (λ u. u.generation == 0) ts t it.1, h.positive));
      before = taken-before ts t.index t.generation h here;
    }

none-passes : (ts : List SlotName) (q : SlotName → Bool) → Taken ts → (IsTaken ts q → ⊥) → count_by q ts ≡ 0
none-passes ts q h absent =
    let go : (c : ℕ) → count_by q ts ≡ c → count_by q ts ≡ 0 = elim [ zero ↦ λ e. e | suc c ↦ λ e. absurd (absent (found-taken ts q h (omega (arith, e)))) ] in
    go (count_by q ts) refl

-- ---- handles of slots that are still to be taken

-- a slot with a later generation is none of its family
later-own : (base : ℕ) (ts : List SlotName) (u : SlotName) → Taken ts → u.index < 512 → count_by (has_index u.index) ts < u.generation → count_by (λ t. handle_eq (name_of base u) (name_of base t)) ts ≡ 0
later-own base ts u h small later =
    none-passes ts (λ t. handle_eq (name_of base u) (name_of base t)) h (λ it.
    let number_is : number base u ≡ number base it.slot = same-number base base u it.slot it.passes in
    let index : it.slot.index ≡ u.index = omega (arith, number_is, it.small, small) in
    let generation : it.slot.generation ≡ u.generation = omega (arith, number_is, index) in
    omega (arith, it.before, ap (λ n. count_by (has_index n) ts) index, generation, later))

-- nor one of the other family
connection-apart : (ts : List SlotName) (u : SlotName) → Taken ts → u.index < 512 → count_by (λ t. handle_eq (name_of 0 u) (name_of 512 t)) ts ≡ 0
connection-apart ts u h small =
    none-passes ts (λ t. handle_eq (name_of 0 u) (name_of 512 t)) h (λ it. omega (arith, same-number 0 512 u it.slot it.passes, it.small, small))

message-apart : (ts : List SlotName) (u : SlotName) → Taken ts → u.index < 512 → count_by (λ t. handle_eq (name_of 512 u) (name_of 0 t)) ts ≡ 0
message-apart ts u h small =
    none-passes ts (λ t. handle_eq (name_of 512 u) (name_of 0 t)) h (λ it. omega (arith, same-number 512 0 u it.slot it.passes, it.small, small))

-- ---- handles of live slots that weren't told

none-if : (o : Option Handle) → is_some o ≡ false → is_none o ≡ true
none-if None e = refl
none-if (Some h) e = cc

untold-connections : (given : List Handle) (ts : List SlotName) (hs : List (Held OpenConnection)) → All (IsNamedBy ts) hs
    → count_by (λ (c : OpenConnection). is_none c.handle && was_shown 0 given (get_or ts c.serial no_slot)) (map (λ (h : Held OpenConnection). h.item) hs) ≡ 0
    → All (λ (h : Held OpenConnection). is_some h.item.handle ≡ false → is_given given (handle_at Connection h.slot) ≡ false) hs
untold-connections given ts [] named none = All-nil (λ (h : Held OpenConnection). is_some h.item.handle ≡ false → is_given given (handle_at Connection h.slot) ≡ false)
untold-connections given ts (h ∷ hs) named none =
    let wrong : OpenConnection → Bool = λ c. is_none c.handle && was_shown 0 given (get_or ts c.serial no_slot) in
    let rest : List OpenConnection = map (λ (x : Held OpenConnection). x.item) hs in
    let parts : bit (wrong h.item) + count_by wrong rest ≡ 0 = omega (arith, count-cons wrong h.item rest, none) in
    let name : get_or ts h.item.serial no_slot ≡ slot_name h.slot = All-head (IsNamedBy ts) h hs named in
    All-cons (λ (x : Held OpenConnection). is_some x.item.handle ≡ false → is_given given (handle_at Connection x.slot) ≡ false) h hs
    (λ e. ap (was_shown 0 given) (sym name) ∙ off-second (is_none h.item.handle) _ (none-if h.item.handle e) (omega (arith, parts)))
    (untold-connections given ts hs (All-tail (IsNamedBy ts) h hs named) (omega (arith, parts)))

untold-messages : (given : List Handle) (hs : List (Held QueuedMessage))
    → with_slots (λ m t. is_none m.handle && was_shown 512 given t) (map held_message hs) (map (λ (h : Held QueuedMessage). slot_name h.slot) hs) ≡ 0
    → All (λ (h : Held QueuedMessage). h.item.delivered ≡ false → is_given given (handle_at Message h.slot) ≡ false) hs
untold-messages given [] none = All-nil (λ (h : Held QueuedMessage). h.item.delivered ≡ false → is_given given (handle_at Message h.slot) ≡ false)
untold-messages given (h ∷ hs) none =
    let waits : Option Handle = shown_handle h.item.delivered h.slot in
    let rest : ℕ = with_slots (λ m t. is_none m.handle && was_shown 512 given t) (map held_message hs) (map (λ (x : Held QueuedMessage). slot_name x.slot) hs) in
    let parts : bit (is_none waits && was_shown 512 given (slot_name h.slot)) + rest ≡ 0 = none in
    All-cons (λ (x : Held QueuedMessage). x.item.delivered ≡ false → is_given given (handle_at Message x.slot) ≡ false) h hs
    (λ e. off-second (is_none waits) _ (ap (λ b. is_none (shown_handle b h.slot)) e) (omega (arith, parts)))
    (untold-messages given hs (omega (arith, parts)))

-- ---- handles that were given

-- what holds of each handle that is there at least once holds of all
each-given : (P : Handle → Type 0) (hs all : List Handle) → ((x : Handle) → times hs x ≤ times all x) → ((x : Handle) → 1 ≤ times all x → P x) → All P hs
each-given P hs all le holds = λ k d lt. let x : Handle = get_or hs k d in holds x (omega (arith, le x, member-counts (handle_eq x) hs k d lt, ap bit (handle-self x)))

abbrev slot_of : SlotName → Slot
slot_of t = record { index = t.index; generation = t.generation }

given-taken : (d : TablesView) (k : NamesSoFar) (h : Handle) → NamesAre d k → Taken k.connections → Taken k.past_messages → 1 ≤ slots_named k h → NamesTaken d h
given-taken d k h are conns past some =
    let own : SlotName → Bool = λ t. handle_eq h (name_of 0 t) in
    let other : SlotName → Bool = λ t. handle_eq h (name_of 512 t) in
    let go : (n : ℕ) → count_by own k.connections ≡ n → NamesTaken d h = elim [
      | zero ↦ λ e.
          let it : IsTaken k.past_messages other = found-taken k.past_messages other past (omega (arith, e, some)) in
          record {
            family = Message;
            slot = slot_of it.slot;
            named = handle-same h (name_of 512 it.slot) it.passes;
            first = it.first;
            taken = omega (arith, it.before, are.past_messages.uses it.slot.index);
          }
      | suc n ↦ λ e.
          let it : IsTaken k.connections own = found-taken k.connections own conns (omega (arith, e)) in
          record {
            family = Connection;
            slot = slot_of it.slot;
            named = handle-same h (name_of 0 it.slot) it.passes;
            first = it.first;
            taken = omega (arith, it.before, are.past_connections.uses it.slot.index);
          }
    ] in
    go (count_by own k.connections) refl

-- ---- the state

pub stands : (s : System) (es : List Entry) (d : TablesView) (bytes : List Bytes) (w : NamedState) → Named s es w → NamesAre d w.names → w.state.spm ≡ spm_of d → w.state.memory ≡ byte_at bytes → Stands d bytes w.state
stands s es d bytes w run are spm memory =
    let given : List Handle = w.state.handles_given in
    let k : NamesSoFar = w.names in
    let new : (h : Handle) → slots_named k h ≡ 0 → is_given given h ≡ false = λ h none. shown-taken given h (slots_named k h) (run.has h) (omega (arith, none)) in
    record {
      spm = spm;
      memory = memory;
      given = each-given (NamesTaken d) given given (λ h. omega arith) (λ h some. given-taken d k h are run.conns run.past (omega (arith, some, run.has h)));
      connections = record {
        future = λ u small later.
            new (handle_at Connection u)
            (omega (
              arith,
              later-own 0 k.connections (slot_name u) run.conns (omega (arith, small)) (omega (arith, later, are.past_connections.uses u.index)),
              connection-apart k.past_messages (slot_name u) run.past (omega (arith, small)),
            ));
        untold = untold-connections given k.connections d.connections.held are.connections
            (ap (λ (b : SpmState). count_by (λ (c : OpenConnection). is_none c.handle && was_shown 0 given (get_or k.connections c.serial no_slot)) b.connections) (sym spm) ∙ run.untold);
      };
      messages = record {
        future = λ u small later.
            new (handle_at Message u)
            (omega (
              arith,
              later-own 512 k.past_messages (slot_name u) run.past (omega (arith, small)) (omega (arith, later, are.past_messages.uses u.index)),
              message-apart k.connections (slot_name u) run.conns (omega (arith, small)),
            ));
        untold = untold-messages given d.messages.held
            (ap (λ (b : SpmState). with_slots (λ m t. is_none m.handle && was_shown 512 given t) b.messages (map (λ (h : Held QueuedMessage). slot_name h.slot) d.messages.held)) (sym spm)
            ∙ ap (λ (ts : List SlotName). with_slots (λ m t. is_none m.handle && was_shown 512 given t) w.state.spm.messages ts) (sym are.messages)
            ∙ run.waiting);
      };
    }
