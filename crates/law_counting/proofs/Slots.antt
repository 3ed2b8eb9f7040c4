-- How many slots a run takes: the walk of the names, step by step.
use Rattle.std.proofs.Common.{ℕ, zero, suc, ◌≡◌, ◌<◌, ◌≤◌, ◌+◌, ◌-◌, ◌==◌, Bool, true, false, cond, ◌&&◌, ◌||◌, List, [], ◌∷◌, ◌++◌, length, get_or, arith, ◌∙◌, ap, sym, refl, length-append}
use Rattle.std.specs.Prelude.{count_by, nat_lt, is_none, is_some, Option, Some, None}
use Rattle.std.specs.Option.{option_map, option_map_or}
use Rattle.std.specs.Ordering.{int_eq}
use Rattle.std.proofs.lemmas.Bool.Decides.{Decides-int_eq, nat_tests}
use Rattle.std.proofs.lemmas.Bool.{and_from}
use Rattle.law_lists.proofs.Counts.{bit, both-le-left, both-le-right, count-cons, count-le, some-any, count-le-at}
use Rattle.ffm_model.specs.declared.system.System.{System}
use Rattle.ffm_model.specs.declared.machine.Entry.{Entry}
use Rattle.ffm_model.specs.declared.objects.PendingMessage.{PendingMessage}
use Rattle.ffm_model.specs.Memory.{ByteMap}
use Rattle.ffm_model.specs.declared.objects.ActorPhase.{ActorPhase}
use Rattle.ffm_model.specs.declared.objects.ActorPhase.TheVariants.{Connected}
use Rattle.ffm_model.specs.State.{SpmState, State, phase_of}
use Rattle.ffm_model.specs.Step.{step, after}
use Rattle.ffm_model.specs.Names.{NamesSoFar, NamedState, SlotName, capacity, message_capacity, is_same_connection, live_connections, named_step, names_after, next_slot, shows_name, slots_kept, stays, with_connection, with_messages}
use Rattle.ffm_model.proofs.SerialLemmas.{serial-once}
use Rattle.law_counting.specs.Objects.{ObjectsFit, PhaseFits, Mark, called_by, awaited_of, asking_of, accepted_as, message_marked, connection_marked, is_awaited}
use Rattle.law_counting.specs.Takes.{TakesFew}
use Rattle.law_counting.proofs.Balance.{Balanced}
use Rattle.law_counting.proofs.Parts.{is_itself}
use Rattle.law_counting.proofs.Pairs.{member-counts, count-sum, none-counts}
use Rattle.law_counting.proofs.Resume.{times}
use Rattle.law_counting.proofs.Steps.{step-kind}
use Rattle.law_counting.proofs.Runs.{step-keeps, run-has, opening-balanced}
use Rattle.law_counting.proofs.Takes.{Spends, same_message, kinds-spend}

-- ---- the messages that stay

connection-self : (o : Option ℕ) → is_same_connection o o ≡ true
connection-self (Some n) = is_itself n
connection-self None = refl

pub same-self : (m : PendingMessage) → same_message m m ≡ true
same-self m =
    let own : (o : Option ℕ) → (is_some o || (m.client.0 == m.client.0)) ≡ true = elim [ Some n ↦ refl | None ↦ is_itself m.client.0 ] in
    and_from _ _ (connection-self m.connection) (and_from _ _ (own m.connection) ((Decides-int_eq m.kind m.kind).1 refl))

-- what a change says to stay does stay
pub stays-at : (old new : List PendingMessage) (q : PendingMessage → Bool) → ((m : PendingMessage) → count_by (λ x. q x && same_message m x) old ≤ count_by (same_message m) new)
    → (i : ℕ) (d : PendingMessage) → i < length old → bit (q (get_or old i d)) ≤ bit (stays new (get_or old i d))
stays-at old new q stay i d lt =
    let m : PendingMessage = get_or old i d in
    let here : bit (q m && same_message m m) ≤ count_by (λ x. q x && same_message m x) old = member-counts (λ x. q x && same_message m x) old i d lt in
    let go : (x y : Bool) → q m ≡ x → stays new m ≡ y → bit x ≤ bit y =
    elim [
      | true ↦ elim [
        | true ↦ λ e k. omega arith
        | false ↦ λ e k. absurd (let some : stays new m ≡ true = some-any (same_message m) new (omega (arith, here, stay m, ap (λ (c : Bool). bit (c && same_message m m)) e, ap bit (same-self m))) in cc)
      ]
      | false ↦ λ y e k. omega arith
    ] in
    go (q m) (stays new m) refl refl

stays-least : (b new : SpmState) → (sp : Spends b new) → count_by sp.q b.messages ≤ count_by (stays new.messages) b.messages
stays-least b new sp = count-le-at sp.q (stays new.messages) b.messages (stays-at b.messages new.messages sp.q sp.stay)

-- no message stands for two
pub stays-most : (old ns : List PendingMessage) → ((n : PendingMessage) → count_by (λ m. same_message m n) old ≤ 1) → count_by (stays ns) old ≤ length ns
stays-most old [] few = omega (arith, none-counts (stays []) (λ m. refl) old)
stays-most old (n ∷ ns) few =
    let either : (x y : Bool) → bit (x || y) ≤ bit x + bit y = elim [ true ↦ λ y. omega arith | false ↦ λ y. omega arith ] in
    omega (arith, count-sum (stays (n ∷ ns)) (λ m. same_message m n) (stays ns) (λ m. either (same_message m n) (stays ns m)) old, few n, stays-most old ns few)

and-flip : (x n : ℕ) (c : Bool) → bit ((n == x) && c) ≤ bit (x == n)
and-flip x n c = let e : (n == x) ≡ (x == n) = grind arith in omega (arith, both-le-left (n == x) c, ap bit e)

pub calls-few : (p : ActorPhase) (n k x : ℕ) (j : ℕ → ℕ) → PhaseFits p (n + x) (k + x) j → x ≤ 1
calls-few (Connected c) n k x j h = omega (arith, h.0)
calls-few _ n k x j h = omega (arith, h)

-- an actor has one request by a stateless handle at most
pub one-call : (s : System) (b : SpmState) (a : ℕ) → ObjectsFit s b → count_by (called_by a) b.messages ≤ 1
one-call s b a h = calls-few (phase_of b a) (count_by (awaited_of a) b.connections) (count_by (asking_of a) b.connections) (count_by (called_by a) b.messages) (λ n. count_by (accepted_as a n) b.connections) (h.phases a)

pub one-each : (s : System) (b : SpmState) → ObjectsFit s b → (n : PendingMessage) → count_by (λ m. same_message m n) b.messages ≤ 1
one-each s b h n =
    let t : ℕ → Mark = λ k serial a v ph. serial == k in
    let like : (k o : Option ℕ) (y : Bool) (i : ℕ) → k ≡ Some i → bit (is_same_connection k o && y) ≤ bit (option_map_or (λ z. z == i) o false) =
    λ k. elim [
      | None ↦ λ y i e. omega (arith, ap (λ (w : Option ℕ). bit (is_same_connection w None && y)) e)
      | Some z ↦ λ y i e. omega (arith, ap (λ (w : Option ℕ). bit (is_same_connection w (Some z) && y)) e, and-flip z i y)
    ] in
    let call : (k o : Option ℕ) (x : ℕ) (y : Bool) → k ≡ None → bit (is_same_connection k o && ((is_some o || (n.client.0 == x)) && y)) ≤ bit (is_none o && (x == n.client.0)) =
    λ k. elim [
      | None ↦ λ x y e. omega (arith, ap (λ (w : Option ℕ). bit (is_same_connection w None && ((n.client.0 == x) && y))) e, and-flip x n.client.0 y)
      | Some z ↦ λ x y e. omega (arith, ap (λ (w : Option ℕ). bit (is_same_connection w (Some z) && y)) e)
    ] in
    let go : (k : Option ℕ) → n.connection ≡ k → count_by (λ m. same_message m n) b.messages ≤ 1 =
    elim [
      | None ↦ λ e.
          omega (arith, count-le (λ m. same_message m n) (called_by n.client.0) (λ m. call n.connection m.connection m.client.0 (int_eq n.kind m.kind) e) b.messages, one-call s b n.client.0 h)
      | Some i ↦ λ e.
          omega (
            arith,
            count-le (λ m. same_message m n) (message_marked (t i)) (λ m. like n.connection m.connection ((is_some m.connection || (n.client.0 == m.client.0)) && int_eq n.kind m.kind) i e) b.messages,
            h.paired (t i),
            count-le (connection_marked (t i)) (λ c. c.serial == i) (λ c. both-le-right (is_awaited c.phase) (c.serial == i)) b.connections,
            serial-once 0 b.connections_made i b.connections h.rising,
          )
    ] in
    go n.connection refl

-- ---- lengths in the walk

pub kept-length : (p : PendingMessage → Bool) (ms : List PendingMessage) (ts : List SlotName) → length ts ≡ length ms → length (slots_kept p ms ts) ≡ count_by p ms
kept-length p [] ts h = refl
kept-length p (m ∷ ms) [] h = absurd (omega (arith, h))
kept-length p (m ∷ ms) (t ∷ ts) h =
    let go : (b : Bool) → length (cond {A = List SlotName} b (t ∷ slots_kept p ms ts) (slots_kept p ms ts)) ≡ bit b + count_by p ms =
    elim [ true ↦ omega (arith, kept-length p ms ts (omega (arith, h))) | false ↦ omega (arith, kept-length p ms ts (omega (arith, h))) ] in
    go (p m) ∙ sym (count-cons p m ms)

pub record Lengths (k new : NamesSoFar) (n : ℕ) : Type 0 where
  pub messages : length new.messages ≡ length k.messages + n
  pub past : length new.past_messages ≡ length k.past_messages + n
  pub connections : length new.connections ≡ length k.connections

with_messages-lengths : (size n : ℕ) (k : NamesSoFar) → Lengths k (with_messages size n k) n
with_messages-lengths size zero k = record { messages = omega arith; past = omega arith; connections = refl }
with_messages-lengths size (suc n) k =
    let t : SlotName = next_slot size k.messages k.past_messages in
    let it = with_messages-lengths size n (record k { messages = k.messages ++ t ∷ []; past_messages = k.past_messages ++ t ∷ [] }) in
    record {
      messages = omega (arith, it.messages, length-append k.messages (t ∷ []));
      past = omega (arith, it.past, length-append k.past_messages (t ∷ []));
      connections = it.connections;
    }

pub record Grown (k new : NamesSoFar) (n : ℕ) : Type 0 where
  pub messages : new.messages ≡ k.messages
  pub past : new.past_messages ≡ k.past_messages
  pub connections : length new.connections ≡ length k.connections + n

with_connection-lengths : (size : ℕ) (old new : SpmState) (k : NamesSoFar) → old.connections_made ≤ new.connections_made → new.connections_made ≤ old.connections_made + 1
    → Grown k (with_connection size old new k) (new.connections_made - old.connections_made)
with_connection-lengths size old new k low high =
    let x : ℕ = old.connections_made in
    let y : ℕ = new.connections_made in
    let t : SlotName = next_slot size (live_connections k old) k.connections in
    let go : (b : Bool) → nat_lt x y ≡ b → Grown k (cond {A = NamesSoFar} b (record k { connections = k.connections ++ t ∷ [] }) k) (y - x) =
    elim [
      | true ↦ λ e. let less : x < y = grind (arith, nat_tests) in record { messages = refl; past = refl; connections = omega (arith, less, high, length-append k.connections (t ∷ [])) }
      | false ↦ λ e. let not_less : y ≤ x = grind (arith, nat_tests) in record { messages = refl; past = refl; connections = omega (arith, not_less, low) }
    ] in
    go (nat_lt x y) refl

-- ---- a step of the walk

pub names-lengths : (s : System) (es : List Entry) (e : Entry) (w : NamedState) (new : State) → ObjectsFit s w.state.spm → TakesFew es w → (sp : Spends w.state.spm new.spm)
    → TakesFew (es ++ e ∷ []) (record { state = new; names = names_after s w.state.spm new.spm w.names })
names-lengths s es e w new fit few sp =
    let old : SpmState = w.state.spm in
    let kept : List SlotName = slots_kept (stays new.spm.messages) old.messages w.names.messages in
    let k : NamesSoFar = record w.names { messages = kept } in
    let k' : NamesSoFar = with_connection (capacity s) old new.spm k in
    let n : ℕ = length new.spm.messages - length kept in
    let kept_is : length kept ≡ count_by (stays new.spm.messages) old.messages = kept-length (stays new.spm.messages) old.messages w.names.messages few.message_slots in
    let most : count_by (stays new.spm.messages) old.messages ≤ length new.spm.messages = stays-most old.messages new.spm.messages (one-each s old fit) in
    let least : count_by sp.q old.messages ≤ count_by (stays new.spm.messages) old.messages = stays-least old new.spm sp in
    let grown : Grown k k' (new.spm.connections_made - old.connections_made) = with_connection-lengths (capacity s) old new.spm k sp.grows sp.made in
    let lengths : Lengths k' (with_messages (message_capacity s) n k') n = with_messages-lengths (message_capacity s) n k' in
    let longer : length (es ++ e ∷ []) ≡ length es + 1 = length-append es (e ∷ []) in
    let grown_messages : length k'.messages ≡ length kept = ap (λ (ts : List SlotName). length ts) grown.messages in
    let grown_past : length k'.past_messages ≡ length w.names.past_messages = ap (λ (ts : List SlotName). length ts) grown.past in
    record {
      connections = omega (arith, longer, sp.made, few.connections);
      connection_slots = omega (arith, lengths.connections, grown.connections, few.connection_slots, sp.grows);
      message_slots = omega (arith, lengths.messages, grown_messages, kept_is, most);
      messages = omega (arith, lengths.past, grown_past, kept_is, most, least, sp.count, sp.owners, sp.grows, few.messages, longer);
    }

pub named-step-is : (s : System) (w new : NamedState) (e : Entry) (P : Type 0) → named_step s w e ≡ Some new
    → ((st : State) → step s w.state e ≡ Some st → record { state = st; names = names_after s w.state.spm st.spm w.names } ≡ new → shows_name s w.state e w.names ≡ true → P) → P
named-step-is s w new e P h f =
    let shows : Bool = shows_name s w.state e w.names in
    let made : (o : Option State) → step s w.state e ≡ o → shows ≡ true → option_map (λ st. record { state = st; names = names_after s w.state.spm st.spm w.names }) o ≡ Some new → P =
    elim [ None ↦ λ k y g. cc | Some st ↦ λ k y g. f st k (let it : record { state = st; names = names_after s w.state.spm st.spm w.names } ≡ new = cc in it) y ] in
    let go : (x : Bool) → shows ≡ x → cond {A = Option NamedState} x (option_map (λ st. record { state = st; names = names_after s w.state.spm st.spm w.names }) (step s w.state e)) None ≡ Some new → P =
    elim [ true ↦ λ y g. made (step s w.state e) refl y g | false ↦ λ y g. cc ] in
    go shows refl h

-- connections alone, whatever the handles
pub record Made (s : System) (es : List Entry) (st : State) : Type 0 where
  pub balanced : Balanced s (times st.handles_given) st.spm
  pub few : st.spm.connections_made ≤ length es

step-makes : (s : System) (es : List Entry) (st new : State) (e : Entry) → Made s es st → step s st e ≡ Some new → Made s (es ++ e ∷ []) new
step-makes s es st new e h is_step =
    let spends = step-kind s st new e (λ o spm given. Spends st.spm spm) (kinds-spend s st.spm st.handles_given e.actor.0 e.call h.balanced) is_step in
    let sp : Spends st.spm new.spm = spends.2 in
    record { balanced = step-keeps s st new e h.balanced is_step; few = omega (arith, h.few, sp.made, length-append es (e ∷ [])) }

pub run-makes : (s : System) (m : ByteMap) (es : List Entry) (st : State) → after s m es ≡ Some st → st.spm.connections_made ≤ length es
run-makes s m es st h = (run-has s m (Made s) (record { balanced = opening-balanced s; few = omega arith }) (λ xs x new e. step-makes s xs x new e) es st h).few
