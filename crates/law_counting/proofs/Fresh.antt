-- In a named run each handle given is the name of a slot, and a name that is due was never given.
use Rattle.std.proofs.Common.{ℕ, zero, suc, ◌≡◌, ◌<◌, ◌≤◌, ◌+◌, ◌-◌, ◌*◌, ◌==◌, Bool, true, false, cond, not, ◌&&◌, ◌||◌, List, [], ◌∷◌, ◌++◌, length, get_or, inl, inr, arith, ◌∙◌, ap, sym, refl, subst}
use Rattle.std.specs.Prelude.{ℤ, pos, count_by, find, int_le, nat_le, nat_lt, map, filter, position, Option, Some, None, is_none, option_and_then}
use Rattle.std.specs.List.{list_any, position_or_len, range_with_len}
use Rattle.std.specs.Option.{option_map}
use Rattle.std.specs.Ordering.{int_eq}
use Rattle.std.proofs.lemmas.Bool.Decides.{nat_tests}
use Rattle.std.proofs.lemmas.List.Sums.{count_by-le-length}
use Rattle.std.proofs.lemmas.List.FromFn.{length-range_with_len}
use Rattle.std.proofs.lemmas.Bool.{and_from, and_parts, eqb-true, or_right}
use Rattle.law_lists.proofs.Counts.{bit, both-le-right, count-cons, count-found, count-map-same, count-push, none-count, some-found, count-le-at}
use Rattle.law_lists.proofs.Tests.{find-passes}
use Rattle.ffm_model.specs.declared.constants.TheConstants.{MAX_ENTRIES}
use Rattle.ffm_model.specs.declared.system.System.{System}
use Rattle.ffm_model.specs.declared.machine.Handle.{Handle}
use Rattle.ffm_model.specs.declared.machine.Entry.{Entry}
use Rattle.ffm_model.specs.declared.machine.Call.{Call}
use Rattle.ffm_model.specs.declared.machine.Call.TheVariants as call
use Rattle.ffm_model.specs.declared.machine.Outcome.{Outcome}
use Rattle.ffm_model.specs.declared.machine.Outcome.TheVariants as outcome
use Rattle.ffm_model.specs.declared.objects.OpenConnection.{OpenConnection}
use Rattle.ffm_model.specs.declared.objects.PendingMessage.{PendingMessage}
use Rattle.ffm_model.specs.declared.objects.ActorPhase.{ActorPhase}
use Rattle.ffm_model.specs.declared.objects.ActorPhase.TheVariants.{Connected}
use Rattle.ffm_model.specs.Memory.{ByteMap, no_vectors}
use Rattle.ffm_model.specs.State.{Rises, SpmState, State, fresh, handle_eq, handle_put, is_undelivered, phase_of}
use Rattle.ffm_model.specs.ServiceCalls.{service_of_signal}
use Rattle.ffm_model.specs.Calls.{programmer_error}
use Rattle.ffm_model.specs.Step.{handle_shown, outcome_eq}
use Rattle.ffm_model.proofs.ActorLemmas.{few_partitions, few_clients}
use Rattle.ffm_model.proofs.WellFormedLemmas.{few_connections}
use Rattle.ffm_model.specs.Names.{NamedState, NamesSoFar, SlotName, calls_stateless, capacity, message_capacity, first_named, name_at_return, name_due, name_of, named_after, named_step, names_after, no_slot, shows_name, slots_kept, stays, with_connection, with_messages}
use Rattle.ffm_model.proofs.SerialLemmas.{rises-bounds}
use Rattle.law_counting.specs.Objects.{is_joining, is_opening, accepted_as, awaited_by, asked_by}
use Rattle.law_counting.specs.Takes.{TakesFew, last_generation}
use Rattle.law_counting.specs.Fresh.{NamesFit, slots_named}
use Rattle.law_counting.proofs.Balance.{Balanced, balanced-fit}
use Rattle.law_counting.proofs.Parts.{found-serial, is_itself, off_from}
use Rattle.law_counting.proofs.Pairs.{member-counts, joined-one}
use Rattle.law_counting.proofs.Reply.{both_same, rightly}
use Rattle.law_counting.proofs.Resume.{delivered-same, int_same, times}
use Rattle.law_counting.proofs.Panic.{count-append, count-filter}
use Rattle.law_counting.proofs.Steps.{Stepped, step-is, step-kind}
use Rattle.law_counting.proofs.Runs.{step-keeps, folds-keep, opening-balanced}
use Rattle.law_counting.proofs.Takes.{Spends, kinds-spend, length-filter, length-map, length-delivered, same_message}
use Rattle.law_counting.proofs.Slots.{kept-length, named-step-is, names-lengths, stays-at}
use Rattle.law_counting.proofs.SlotNames.{Taken, names-distinct, none-taken, small_from, positive_from}
use Rattle.law_counting.proofs.Shapes.{Got, Joined, Quiet, Shape, kinds-shape}
use Rattle.law_counting.proofs.Walk.{Extends, Joins, extend, join, was_shown, kept-alike, count-kept, shown-push, slots-append, slots-delivered, slots-kept, slots-member, slots-right, slots-sum, with_slots, place-found, place-passes}
use Rattle.law_counting.proofs.NameLemmas.{get-made, get-shows, names-still, resume-shows, shown-alike}

-- ---- at most 256 connections are declared, and at most 48 partitions and clients call

pub capacity_le : (s : System) → capacity s ≤ 256
capacity_le s = few_connections s

pub message_capacity_le : (s : System) → message_capacity s ≤ 512
message_capacity_le s =
    let actors : ℕ = length s.partitions + length s.clients in
    omega (arith, capacity_le s, few_partitions s, few_clients s, count_by-le-length (calls_stateless s) (range_with_len 0 actors), length-range_with_len 0 actors)

-- ---- what the names of a run keep

-- a connection without handle whose name was given
abbrev wrongly_told : List SlotName → List Handle → ℕ → Option Handle → Bool
wrongly_told conns given n o = is_none o && was_shown 0 given (get_or conns n no_slot)

-- a message without handle whose name was given
abbrev wrongly_waiting : List Handle → PendingMessage → SlotName → Bool
wrongly_waiting given m t = is_none m.handle && was_shown 512 given t

pub record Named (s : System) (es : List Entry) (w : NamedState) : Type 0 where
  pub balanced : Balanced s (times w.state.handles_given) w.state.spm
  pub few : TakesFew es w
  pub conns : Taken w.names.connections
  pub past : Taken w.names.past_messages
  pub inside : (p : SlotName → Bool) → count_by p w.names.messages ≤ count_by p w.names.past_messages
  pub has : (h : Handle) → times w.state.handles_given h ≤ slots_named w.names h
  pub untold : count_by (λ c. wrongly_told w.names.connections w.state.handles_given c.serial c.handle) w.state.spm.connections ≡ 0
  pub waiting : with_slots (wrongly_waiting w.state.handles_given) w.state.spm.messages w.names.messages ≡ 0

-- a serial number is below the next one
serial-below : (lo hi : ℕ) (cs : List OpenConnection) (i : ℕ) (d : OpenConnection) → Rises lo cs hi → i < length cs → (get_or cs i d).serial < hi
serial-below lo hi [] i d h lt = absurd (omega (arith, lt))
serial-below lo hi (c ∷ cs) zero d h lt = omega (arith, rises-bounds (c.serial + 1) hi cs h.1)
serial-below lo hi (c ∷ cs) (suc i) d h lt = serial-below (c.serial + 1) hi cs i d h.1 (omega (arith, lt))

-- ---- a step that shows no handle

quiet-names : (s : System) (es : List Entry) (w : NamedState) (new : State) (e : Entry) → Named s es w → Balanced s (times new.handles_given) new.spm → Spends w.state.spm new.spm
    → Quiet w.state.spm new.spm w.state.handles_given new.handles_given → Named s (es ++ e ∷ []) (record { state = new; names = names_after s w.state.spm new.spm w.names })
quiet-names s es w new e h balanced spends it =
    let old : SpmState = w.state.spm in
    let given : List Handle = w.state.handles_given in
    let k : NamesSoFar = w.names in
    let size : ℕ = capacity s in
    let small : size ≤ 512 = omega (arith, capacity_le s) in
    let slots : ℕ = message_capacity s in
    let kept : List SlotName = slots_kept (stays new.spm.messages) old.messages k.messages in
    let one : NamesSoFar = record k { messages = kept } in
    let two : NamesSoFar = with_connection size old new.spm one in
    let n : ℕ = length new.spm.messages - length kept in
    let three : NamesSoFar = with_messages slots n two in
    let joins : Joins given one two (nat_lt old.connections_made new.spm.connections_made) = join given size old new.spm one small h.conns h.past h.has in
    let ext : Extends given two three n = extend given slots n two (message_capacity_le s) joins.taken (subst Taken (sym joins.past) h.past) joins.has in
    let few : TakesFew (es ++ e ∷ []) (record { state = new; names = three }) = names-lengths s es e w new (balanced-fit s _ w.state.spm h.balanced) h.few spends in
    let back : (x : ℕ) → x ≡ length k.connections → was_shown 0 given (get_or two.connections (length k.connections) no_slot) ≡ false → was_shown 0 given (get_or two.connections x no_slot) ≡ false =
    λ x same off. ap (λ y. was_shown 0 given (get_or two.connections y no_slot)) same ∙ off in
    let connects : count_by (λ c. wrongly_told two.connections given c.serial c.handle) new.spm.connections ≤ count_by (λ c. wrongly_told two.connections given c.serial c.handle) old.connections =
    it.connects (wrongly_told two.connections given) (λ grows. back old.connections_made (sym h.few.connection_slots) (joins.fresh grows)) in
    let same_slots : count_by (λ c. wrongly_told two.connections given c.serial c.handle) old.connections ≤ count_by (λ c. wrongly_told k.connections given c.serial c.handle) old.connections =
    count-le-at (λ c. wrongly_told two.connections given c.serial c.handle) (λ c. wrongly_told k.connections given c.serial c.handle) old.connections
    (λ i d lt.
    let c : OpenConnection = get_or old.connections i d in
    let below : c.serial < length k.connections = omega (arith, serial-below 0 old.connections_made old.connections i d h.balanced.rising lt, h.few.connection_slots) in
    omega (arith, ap (λ t. bit (is_none c.handle && was_shown 0 given t)) (joins.old c.serial below))) in
    let q : PendingMessage → Bool = it.ordered.q in
    let f : PendingMessage → PendingMessage = it.ordered.f in
    let like : (m x : PendingMessage) → same_message m (f x) ≡ same_message m x =
    λ m x. let c : (f x).connection ≡ x.connection = it.ordered.connection x in let y : (f x).client.0 ≡ x.client.0 = it.ordered.client x in let z : (f x).kind ≡ x.kind = it.ordered.kind x in cc in
    let stay : (m : PendingMessage) → count_by (λ x. q x && same_message m x) old.messages ≤ count_by (same_message m) new.spm.messages =
    λ m.
    omega (
      arith,
      ap (λ (ms : List PendingMessage). count_by (same_message m) ms) it.ordered.messages,
      count-append (same_message m) (map f (filter q old.messages)) it.ordered.added,
      count-map-same (same_message m) f (like m) (filter q old.messages),
      count-filter (same_message m) q old.messages,
    ) in
    let kept_is : kept ≡ slots_kept q old.messages k.messages = kept-alike (stays new.spm.messages) q old.messages k.messages (stays-at old.messages new.spm.messages q stay) it.ordered.exact in
    let z : PendingMessage → SlotName → Bool = wrongly_waiting given in
    let blind : (m : PendingMessage) (t : SlotName) → z (f m) t ≡ z m t = λ m t. ap (λ o. is_none o && was_shown 512 given t) (it.ordered.handle m) in
    let right : (m : PendingMessage) (t : SlotName) → bit (z m t) ≤ bit (was_shown 512 given t) = λ m t. both-le-right (is_none m.handle) (was_shown 512 given t) in
    let lengths : length (slots_kept q old.messages k.messages) ≡ length (map f (filter q old.messages)) =
    omega (arith, kept-length q old.messages k.messages h.few.message_slots, length-map f (filter q old.messages), length-filter q old.messages) in
    let all_slots : three.messages ≡ slots_kept q old.messages k.messages ++ ext.us = ext.messages ∙ ap (λ (ts : List SlotName). ts ++ ext.us) (joins.messages ∙ kept_is) in
    let waiting : with_slots z (map f (filter q old.messages) ++ it.ordered.added) (slots_kept q old.messages k.messages ++ ext.us) ≡ 0 =
    omega (
      arith,
      slots-append z (map f (filter q old.messages)) it.ordered.added (slots_kept q old.messages k.messages) ext.us lengths,
      slots-kept z f q blind old.messages k.messages,
      h.waiting,
      slots-right z (was_shown 512 given) right it.ordered.added ext.us,
      ext.quiet,
    ) in
    let past_is : three.past_messages ≡ k.past_messages ++ ext.us = ext.past ∙ ap (λ (ts : List SlotName). ts ++ ext.us) joins.past in
    record {
      balanced = balanced;
      few = few;
      conns = subst Taken (sym ext.connections) joins.taken;
      past = ext.taken;
      inside = λ p.
          omega (
            arith,
            ap (λ (ts : List SlotName). count_by p ts) (ext.messages ∙ ap (λ (ts : List SlotName). ts ++ ext.us) joins.messages),
            ap (λ (ts : List SlotName). count_by p ts) past_is,
            count-append p kept ext.us,
            count-append p k.past_messages ext.us,
            count-kept p (stays new.spm.messages) old.messages k.messages,
            h.inside p,
          );
      has = λ x. omega (arith, ext.has x, ap (λ (hs : List Handle). times hs x) it.same);
      untold =
          ap (λ (hs : List Handle). count_by (λ c. wrongly_told three.connections hs c.serial c.handle) new.spm.connections) it.same
          ∙ ap (λ (ts : List SlotName). count_by (λ c. wrongly_told ts given c.serial c.handle) new.spm.connections) ext.connections
          ∙ omega (arith, connects, same_slots, h.untold);
      waiting =
          ap (λ (hs : List Handle). with_slots (wrongly_waiting hs) new.spm.messages three.messages) it.same
          ∙ ap (λ (ms : List PendingMessage). with_slots z ms three.messages) it.ordered.messages
          ∙ ap (λ (ts : List SlotName). with_slots z (map f (filter q old.messages) ++ it.ordered.added) ts) all_slots
          ∙ waiting;
    }

-- ---- a step that shows a handle

-- one handle more, that is a slot's name and was not given
has-push : (given : List Handle) (h : Handle) (k : NamesSoFar) → ((x : Handle) → times given x ≤ slots_named k x) → list_any (handle_eq h) given ≡ false → 1 ≤ slots_named k h → (x : Handle) → times (given ++ h ∷ []) x ≤ slots_named k x
has-push given h k has new some x =
    let go : (y : Bool) → handle_eq x h ≡ y → times given x + bit y ≤ slots_named k x =
    elim [
      | true ↦ λ e.
          let same : x.0 ≡ h.0 = int_same x.0 h.0 e in
          omega (arith, none-count (handle_eq h) given new, some, ap (λ (z : ℤ). times given (record { 0 = z })) same, ap (λ (z : ℤ). slots_named k (record { 0 = z })) same)
      | false ↦ λ e. omega (arith, has x)
    ] in
    omega (arith, count-push (handle_eq x) given h, go (handle_eq x h) refl)

two-members : {X : Type 0} (p : X → Bool) (xs : List X) (i j : ℕ) (d : X) → (i == j) ≡ false → i < length xs → j < length xs → p (get_or xs i d) ≡ true → p (get_or xs j d) ≡ true → 2 ≤ count_by p xs
two-members p [] i j d apart li lj a b = absurd (omega (arith, li))
two-members p (x ∷ xs) zero zero d apart li lj a b = cc
two-members p (x ∷ xs) zero (suc j) d apart li lj a b = omega (arith, count-cons p x xs, ap bit a, member-counts p xs j d (omega (arith, lj)), ap bit b)
two-members p (x ∷ xs) (suc i) zero d apart li lj a b = omega (arith, count-cons p x xs, ap bit b, member-counts p xs i d (omega (arith, li)), ap bit a)
two-members p (x ∷ xs) (suc i) (suc j) d apart li lj a b =
    let rest : (i == j) ≡ false = grind arith in
    omega (arith, count-cons p x xs, two-members p xs i j d rest (omega (arith, li)) (omega (arith, lj)) a b)

count-map-at : {X : Type 0} (p q : X → Bool) (g : X → X) (xs : List X) → ((i : ℕ) (d : X) → i < length xs → bit (p (g (get_or xs i d))) ≤ bit (q (get_or xs i d))) → count_by p (map g xs) ≤ count_by q xs
count-map-at p q g [] le = omega arith
count-map-at p q g (x ∷ xs) le = omega (arith, count-cons p (g x) (map g xs), count-cons q x xs, le 0 x (omega arith), count-map-at p q g xs (λ i d lt. le (suc i) d (omega (arith, lt))))

-- the connection that an actor is Connected to
record Live (b : SpmState) (a n : ℕ) : Type 0 where
  pub c : OpenConnection
  pub found : find (accepted_as a n) b.connections ≡ Some c
  pub serial : c.serial ≡ n
  pub client : c.client.0 ≡ a
  pub below : n < b.connections_made

found-below : (lo hi : ℕ) (q : OpenConnection → Bool) (cs : List OpenConnection) (c : OpenConnection) → Rises lo cs hi → find q cs ≡ Some c → c.serial < hi
found-below lo hi q [] c h f = cc
found-below lo hi q (d ∷ ds) c h f =
    let go : (b : Bool) → cond b (Some d) (find q ds) ≡ Some c → c.serial < hi =
    elim [
      | true ↦ λ g. let it : d ≡ c = cc in let e : d.serial ≡ c.serial = ap (λ (x : OpenConnection). x.serial) it in omega (arith, e, rises-bounds (d.serial + 1) hi ds h.1)
      | false ↦ λ g. found-below (d.serial + 1) hi q ds c h.1 g
    ] in
    go (q d) f

live : (s : System) (limit : Handle → ℕ) (b : SpmState) (a n : ℕ) → Balanced s limit b → phase_of b a ≡ Connected n → Live b a n
live s limit b a n h phase =
    let one : count_by (accepted_as a n) b.connections ≡ 1 = joined-one (phase_of b a) (awaited_by b.connections b.messages a) (asked_by b.connections b.messages a) n (λ m. count_by (accepted_as a m) b.connections) (h.fitting a) phase in
    let it = some-found (accepted_as a n) b.connections (omega (arith, one)) in
    let passes : accepted_as a n it.0 ≡ true = find-passes (accepted_as a n) b.connections it.0 it.1 in
    let serial : it.0.serial ≡ n = eqb-true it.0.serial n (and_parts _ _ passes).0 in
    record {
      c = it.0;
      found = it.1;
      serial = serial;
      client = eqb-true it.0.client.0 a (and_parts _ _ (and_parts (it.0.serial == n) _ passes).1).0;
      below = omega (arith, serial, found-below 0 b.connections_made (accepted_as a n) b.connections it.0 h.rising it.1);
    }

-- the handle that an outcome shows is the name
is-name : (o p : Outcome) (h name : Handle) → outcome_eq o p ≡ true → handle_shown o ≡ h → handle_eq (handle_shown p) name ≡ true → handle_eq h name ≡ true
is-name o p h name same shown e =
    let one : h.0 ≡ (handle_shown p).0 = sym (ap (λ (x : Handle). x.0) shown) ∙ shown-alike o p same in
    ap (λ (z : ℤ). int_eq z name.0) one ∙ e

-- a name that is not h was shown exactly where it was before
not-shown : (base : ℕ) (given : List Handle) (h : Handle) (t : SlotName) (x : Bool) → (handle_eq h (name_of base t) ≡ true → ⊥) → bit (x && was_shown base (given ++ h ∷ []) t) ≤ bit (x && was_shown base given t)
not-shown base given h t true apart =
    let off : (y : Bool) → handle_eq h (name_of base t) ≡ y → bit (handle_eq h (name_of base t)) ≡ 0 = elim [ true ↦ λ e. absurd (apart e) | false ↦ λ e. ap bit e ] in
    omega (arith, shown-push base given h t, off (handle_eq h (name_of base t)) refl)
not-shown base given h t false apart = omega arith

joined-names : (s : System) (es : List Entry) (w : NamedState) (new : State) (e : Entry) (o : Outcome) → Named s es w → Balanced s (times new.handles_given) new.spm → Spends w.state.spm new.spm → outcome_eq o e.outcome ≡ true
    → shows_name s w.state e w.names ≡ true → Joined w.state.spm new.spm w.state.handles_given new.handles_given e.actor.0 e.call o → Named s (es ++ e ∷ []) (record { state = new; names = names_after s w.state.spm new.spm w.names })
joined-names s es w new e o h balanced spends same shows it =
    let old : SpmState = w.state.spm in
    let given : List Handle = w.state.handles_given in
    let k : NamesSoFar = w.names in
    let hd : Handle = it.h in
    let n : ℕ = it.serial in
    let t : SlotName = get_or k.connections n no_slot in
    let tagged : handle_eq hd (name_of 0 t) ≡ true = is-name o e.outcome hd (name_of 0 t) same it.shown (resume-shows s w.state e k n it.is_return it.phase shows) in
    let alive : Live old e.actor.0 n = live s _ old e.actor.0 n h.balanced it.phase in
    let below : n < length k.connections = omega (arith, alive.below, h.few.connection_slots) in
    let some : 1 ≤ count_by (λ u. handle_eq hd (name_of 0 u)) k.connections = omega (arith, member-counts (λ u. handle_eq hd (name_of 0 u)) k.connections n no_slot below, ap bit tagged) in
    let once : slots_named k hd ≤ 1 = names-distinct k hd h.conns h.past in
    let still : names_after s old new.spm k ≡ k =
    names-still s old new.spm k h.few.message_slots (ap (λ (ms : List PendingMessage). length ms) it.messages) it.made (λ m. omega (arith, ap (λ (ms : List PendingMessage). count_by (same_message m) ms) it.messages)) in
    let few : TakesFew (es ++ e ∷ []) (record { state = new; names = names_after s old new.spm k }) = names-lengths s es e w new (balanced-fit s _ w.state.spm h.balanced) h.few spends in
    let all : List Handle = given ++ hd ∷ [] in
    let puts : (i : ℕ) (d : OpenConnection) → i < length old.connections
    → bit (wrongly_told k.connections all (handle_put n hd (get_or old.connections i d)).serial (handle_put n hd (get_or old.connections i d)).handle) ≤ bit (wrongly_told k.connections given (get_or old.connections i d).serial (get_or old.connections i d).handle) =
    λ i d lt.
    let c : OpenConnection = get_or old.connections i d in
    let inside : c.serial < length k.connections = omega (arith, serial-below 0 old.connections_made old.connections i d h.balanced.rising lt, h.few.connection_slots) in
    let go : (x : Bool) → (c.serial == n) ≡ x
    → bit (wrongly_told k.connections all (cond x (record c { handle = Some hd }) c).serial (cond x (record c { handle = Some hd }) c).handle) ≤ bit (wrongly_told k.connections given c.serial c.handle) =
    elim [
      | true ↦ λ f. omega arith
      | false ↦ λ f.
          not-shown 0 given hd (get_or k.connections c.serial no_slot) (is_none c.handle)
          (λ g. omega (arith, two-members (λ u. handle_eq hd (name_of 0 u)) k.connections c.serial n no_slot f inside below g tagged, once))
    ] in
    go (c.serial == n) refl in
    subst (λ (x : NamesSoFar). Named s (es ++ e ∷ []) (record { state = new; names = x })) (sym still) (record {
      balanced = balanced;
      few = subst (λ (x : NamesSoFar). TakesFew (es ++ e ∷ []) (record { state = new; names = x })) still few;
      conns = h.conns;
      past = h.past;
      inside = h.inside;
      has = λ x. omega (arith, ap (λ (hs : List Handle). times hs x) it.added, has-push given hd k h.has it.fresh (omega (arith, some)) x);
      untold =
          ap (λ (hs : List Handle). count_by (λ c. wrongly_told k.connections hs c.serial c.handle) new.spm.connections) it.added
          ∙ ap (λ (cs : List OpenConnection). count_by (λ c. wrongly_told k.connections all c.serial c.handle) cs) it.connections
          ∙ omega (arith, count-map-at (λ c. wrongly_told k.connections all c.serial c.handle) (λ c. wrongly_told k.connections given c.serial c.handle) (handle_put n hd) old.connections puts, h.untold);
      waiting =
          ap (λ (hs : List Handle). with_slots (wrongly_waiting hs) new.spm.messages k.messages) it.added
          ∙ ap (λ (ms : List PendingMessage). with_slots (wrongly_waiting all) ms k.messages) it.messages
          ∙ omega (
            arith,
            slots-sum (wrongly_waiting all) (wrongly_waiting given) (λ u. handle_eq hd (name_of 512 u))
                (λ m u.
                let go : (x : Bool) → bit (x && was_shown 512 all u) ≤ bit (x && was_shown 512 given u) + bit (handle_eq hd (name_of 512 u)) = elim [ true ↦ shown-push 512 given hd u | false ↦ omega arith ] in
                go (is_none m.handle)) old.messages k.messages,
            h.waiting,
            h.inside (λ u. handle_eq hd (name_of 512 u)),
            once,
            some,
          );
    })

got-names : (s : System) (es : List Entry) (w : NamedState) (new : State) (e : Entry) (o : Outcome) → Named s es w → Balanced s (times new.handles_given) new.spm → Spends w.state.spm new.spm → outcome_eq o e.outcome ≡ true
    → Stepped s w.state new e → shows_name s w.state e w.names ≡ true → Got s w.state.spm new.spm w.state.handles_given new.handles_given e.actor.0 e.call o
    → Named s (es ++ e ∷ []) (record { state = new; names = names_after s w.state.spm new.spm w.names })
got-names s es w new e o h balanced spends same stepped shows it =
    let old : SpmState = w.state.spm in
    let given : List Handle = w.state.handles_given in
    let k : NamesSoFar = w.names in
    let hd : Handle = it.h in
    let v : ℕ = it.service in
    let j : ℕ = position_or_len (is_undelivered v) old.messages in
    let t : SlotName = get_or k.messages j no_slot in
    let got : outcome_eq (outcome.Got it.message) e.outcome ≡ true = subst (λ (x : Outcome). outcome_eq x e.outcome ≡ true) it.is_got same in
    let made : programmer_error s w.state e.actor.0 e.call ≡ false = get-made s w.state new e it.signal it.msg it.message stepped it.is_get got in
    let tagged : handle_eq hd (name_of 512 t) ≡ true =
    is-name o e.outcome hd (name_of 512 t) same it.shown (get-shows s w.state e k it.signal it.msg v it.first it.is_get it.found it.place made shows) in
    let below : j < length old.messages = place-found (is_undelivered v) old.messages it.first it.place in
    let here : 1 ≤ count_by (λ u. handle_eq hd (name_of 512 u)) k.messages =
    omega (arith, member-counts (λ u. handle_eq hd (name_of 512 u)) k.messages j no_slot (omega (arith, below, h.few.message_slots)), ap bit tagged) in
    let some : 1 ≤ count_by (λ u. handle_eq hd (name_of 512 u)) k.past_messages = omega (arith, here, h.inside (λ u. handle_eq hd (name_of 512 u))) in
    let once : slots_named k hd ≤ 1 = names-distinct k hd h.conns h.past in
    let still : names_after s old new.spm k ≡ k =
    names-still s old new.spm k h.few.message_slots (ap (λ (ms : List PendingMessage). length ms) it.messages ∙ length-delivered v hd old.messages) it.made
    (λ m. omega (arith, ap (λ (ms : List PendingMessage). count_by (same_message m) ms) it.messages, delivered-same (same_message m) v hd (λ x. refl) old.messages)) in
    let few : TakesFew (es ++ e ∷ []) (record { state = new; names = names_after s old new.spm k }) = names-lengths s es e w new (balanced-fit s _ w.state.spm h.balanced) h.few spends in
    let all : List Handle = given ++ hd ∷ [] in
    let puts : (i : ℕ) (d : OpenConnection) → i < length old.connections
    → bit (wrongly_told k.connections all (get_or old.connections i d).serial (get_or old.connections i d).handle) ≤ bit (wrongly_told k.connections given (get_or old.connections i d).serial (get_or old.connections i d).handle) =
    λ i d lt.
    let c : OpenConnection = get_or old.connections i d in
    let inside : c.serial < length k.connections = omega (arith, serial-below 0 old.connections_made old.connections i d h.balanced.rising lt, h.few.connection_slots) in
    not-shown 0 given hd (get_or k.connections c.serial no_slot) (is_none c.handle)
    (λ g. omega (arith, member-counts (λ u. handle_eq hd (name_of 0 u)) k.connections c.serial no_slot inside, ap bit g, some, once)) in
    subst (λ (x : NamesSoFar). Named s (es ++ e ∷ []) (record { state = new; names = x })) (sym still) (record {
      balanced = balanced;
      few = subst (λ (x : NamesSoFar). TakesFew (es ++ e ∷ []) (record { state = new; names = x })) still few;
      conns = h.conns;
      past = h.past;
      inside = h.inside;
      has = λ x. omega (arith, ap (λ (hs : List Handle). times hs x) it.added, has-push given hd k h.has it.fresh (omega (arith, some)) x);
      untold =
          ap (λ (hs : List Handle). count_by (λ c. wrongly_told k.connections hs c.serial c.handle) new.spm.connections) it.added
          ∙ ap (λ (cs : List OpenConnection). count_by (λ c. wrongly_told k.connections all c.serial c.handle) cs) it.connections
          ∙ omega (arith, count-le-at (λ c. wrongly_told k.connections all c.serial c.handle) (λ c. wrongly_told k.connections given c.serial c.handle) old.connections puts, h.untold);
      waiting =
          ap (λ (hs : List Handle). with_slots (wrongly_waiting hs) new.spm.messages k.messages) it.added
          ∙ ap (λ (ms : List PendingMessage). with_slots (wrongly_waiting all) ms k.messages) it.messages
          ∙ slots-delivered given v hd old.messages k.messages j h.few.message_slots h.waiting (omega (arith, h.inside (λ u. handle_eq hd (name_of 512 u)), once)) refl below tagged;
    })

-- ---- each step

shape-names : (s : System) (es : List Entry) (w : NamedState) (new : State) (e : Entry) (o : Outcome) → Named s es w → Balanced s (times new.handles_given) new.spm → Spends w.state.spm new.spm → outcome_eq o e.outcome ≡ true
    → Stepped s w.state new e → shows_name s w.state e w.names ≡ true → Shape s w.state.spm w.state.handles_given e.actor.0 e.call o new.spm new.handles_given
    → Named s (es ++ e ∷ []) (record { state = new; names = names_after s w.state.spm new.spm w.names })
shape-names s es w new e o h balanced spends same stepped shows (inl it) = quiet-names s es w new e h balanced spends it
shape-names s es w new e o h balanced spends same stepped shows (inr (inl it)) = joined-names s es w new e o h balanced spends same shows it
shape-names s es w new e o h balanced spends same stepped shows (inr (inr it)) = got-names s es w new e o h balanced spends same stepped shows it

step-named : (s : System) (es : List Entry) (w new : NamedState) (e : Entry) → Named s es w → named_step s w e ≡ Some new → Named s (es ++ e ∷ []) new
step-named s es w new e h named =
    named-step-is s w new e (Named s (es ++ e ∷ []) new) named
    (λ st is_step is_new shows.
    let spends = step-kind s w.state st e (λ o spm given. Spends w.state.spm spm) (kinds-spend s w.state.spm w.state.handles_given e.actor.0 e.call h.balanced) is_step in
    let shape = step-kind s w.state st e (λ o spm given. Shape s w.state.spm w.state.handles_given e.actor.0 e.call o spm given) (kinds-shape s w.state.spm w.state.handles_given e.actor.0 e.call h.balanced) is_step in
    subst (λ (x : NamedState). Named s (es ++ e ∷ []) x) is_new
    (shape-names s es w st e shape.0 h (step-keeps s w.state st e h.balanced is_step) spends.2 shape.1 (step-is s w.state st e is_step) shows shape.2))

pub run-named : (s : System) (m : ByteMap) (es : List Entry) (w : NamedState) → named_after s m es ≡ Some w → Named s es w
run-named s m es w h =
    let first : Named s [] (first_named s m) = record {
      balanced = opening-balanced s;
      few = record { connections = omega arith; connection_slots = refl; message_slots = refl; messages = omega arith };
      conns = none-taken;
      past = none-taken;
      inside = λ p. omega arith;
      has = λ x. omega arith;
      untold = refl;
      waiting = refl;
    } in
    folds-keep (λ x e. named_step s x e) (Named s) (λ xs x new e. step-named s xs x new e) [] es (Some (first_named s m)) w
    (λ x e. let it : first_named s m ≡ x = cc in subst (λ (y : NamedState). Named s [] y) it first) h

-- ---- a name that is due

-- a slot that was taken, in numbers
record Numbers (t : SlotName) : Type 0 where
  pub small : t.index < 512
  pub first : 1 ≤ t.generation

-- its name is a number that a handle may have
abbrev IsLow : ℕ → SlotName → Type 0
IsLow base t = t.generation * 1024 + t.index + base ≤ 0x3fffffff

at-most : (x n : ℕ) → bit (not (nat_le x n)) ≤ 0 → x ≤ n
at-most x n h = grind (arith, nat_tests)

-- a slot of a list whose slots are all among those taken
numbers : (ts all : List SlotName) (i : ℕ) → Taken all → ((p : SlotName → Bool) → count_by p ts ≤ count_by p all) → i < length ts → Numbers (get_or ts i no_slot)
numbers ts all i h inside lt =
    let t : SlotName = get_or ts i no_slot in
    record {
      small = small_from t.index (omega (arith, member-counts (λ u. not (nat_lt u.index 512)) ts i no_slot lt, inside (λ u. not (nat_lt u.index 512)), h.small));
      first = positive_from t.generation (omega (arith, member-counts (λ u. u.generation == 0) ts i no_slot lt, inside (λ u. u.generation == 0), h.positive));
    }

-- where fewer slots were taken than there are generations
low-name : (base : ℕ) (ts all : List SlotName) (i : ℕ) → base ≤ 512 → Taken all → ((p : SlotName → Bool) → count_by p ts ≤ count_by p all) → i < length ts → length all < last_generation → IsLow base (get_or ts i no_slot)
low-name base ts all i small h inside lt few =
    let t : SlotName = get_or ts i no_slot in
    let n : Numbers t = numbers ts all i h inside lt in
    let bound : t.generation ≤ length all =
    at-most t.generation (length all) (omega (arith, member-counts (λ u. not (nat_le u.generation (length all))) ts i no_slot lt, inside (λ u. not (nat_le u.generation (length all))), h.bounded)) in
    omega (arith, bound, few, n.small, small)

-- a handle's number isn't above the last one that a handle may have
abbrev IsInRange : Handle → Type 0
IsInRange h = int_le h.0 (pos 0x3fffffff) ≡ true

-- a name that is due: it is fresh where it is in range, and in range where the run is short enough
record Due (es : List Entry) (st : State) (h : Handle) : Type 0 where
  pub new : IsInRange h → fresh st h ≡ true
  pub range : length es ≤ MAX_ENTRIES → IsInRange h

in-range : (base : ℕ) (t : SlotName) → IsLow base t → IsInRange (name_of base t)
in-range base t low = grind (arith, low)

fresh-name : (st : State) (base : ℕ) (t : SlotName) → Numbers t → was_shown base st.handles_given t ≡ false → IsInRange (name_of base t) → fresh st (name_of base t) ≡ true
fresh-name st base t n off high =
    let one : int_le (pos 1) (name_of base t).0 ≡ true = grind (arith, n.first) in
    and_from (int_le (pos 1) (name_of base t).0 && int_le (name_of base t).0 (pos 0x3fffffff)) (not (was_shown base st.handles_given t))
    (and_from (int_le (pos 1) (name_of base t).0) (int_le (name_of base t).0 (pos 0x3fffffff)) one high) (ap not off)

pub off-second : (x y : Bool) → x ≡ true → bit (x && y) ≡ 0 → y ≡ false
off-second true y e h = off_from y h
off-second false y e h = cc

-- at the return of psa_connect
connection-due : (s : System) (es : List Entry) (w : NamedState) (a n : ℕ) → Named s es w → phase_of w.state.spm a ≡ Connected n → Due es w.state (name_of 0 (get_or w.names.connections n no_slot))
connection-due s es w a n h phase =
    let b : SpmState = w.state.spm in
    let ts : List SlotName = w.names.connections in
    let alive : Live b a n = live s _ b a n h.balanced phase in
    let c : OpenConnection = alive.c in
    let here : find (λ d. d.serial == c.serial) b.connections ≡ Some c = found-serial 0 b.connections_made (accepted_as a n) b.connections c h.balanced.rising alive.found in
    let rule : is_none c.handle ≡ (is_opening c.phase || is_joining (phase_of b c.client.0) c.serial) = both_same _ _ (rightly s _ b c h.balanced here) in
    let joining : is_joining (phase_of b c.client.0) c.serial ≡ true =
    ap (λ x. is_joining (phase_of b x) c.serial) alive.client ∙ ap (λ (p : ActorPhase). is_joining p c.serial) phase ∙ ap (λ x. n == x) alive.serial ∙ is_itself n in
    let none : is_none c.handle ≡ true = rule ∙ or_right (is_opening c.phase) _ joining in
    let test : bit (is_none c.handle && was_shown 0 w.state.handles_given (get_or ts c.serial no_slot)) ≤ 0 =
    omega (arith, count-found (accepted_as a n) (λ d. wrongly_told ts w.state.handles_given d.serial d.handle) b.connections c alive.found, h.untold) in
    let off : was_shown 0 w.state.handles_given (get_or ts c.serial no_slot) ≡ false =
    off-second (is_none c.handle) _ none (omega (arith, test)) in
    let inside : n < length ts = omega (arith, alive.below, h.few.connection_slots) in
    record {
      new = fresh-name w.state 0 (get_or ts n no_slot) (numbers ts ts n h.conns (λ p. omega arith) inside) (ap (λ x. was_shown 0 w.state.handles_given (get_or ts x no_slot)) (sym alive.serial) ∙ off);
      range = λ limit. in-range 0 (get_or ts n no_slot) (low-name 0 ts ts n (omega arith) h.conns (λ p. omega arith) inside (omega (arith, h.few.connection_slots, h.few.connections, limit)));
    }

-- at psa_get
message-due : (s : System) (es : List Entry) (w : NamedState) (v : ℕ) → Named s es w → position_or_len (is_undelivered v) w.state.spm.messages < length w.state.spm.messages
    → Due es w.state (name_of 512 (get_or w.names.messages (position_or_len (is_undelivered v) w.state.spm.messages) no_slot))
message-due s es w v h below =
    let ms : List PendingMessage = w.state.spm.messages in
    let ts : List SlotName = w.names.messages in
    let given : List Handle = w.state.handles_given in
    let j : ℕ = position_or_len (is_undelivered v) ms in
    let nobody : PendingMessage = record { service = 0; client = record { 0 = 0 }; connection = None; kind = pos 0; vectors = no_vectors; handle = None } in
    let m : PendingMessage = get_or ms j nobody in
    let waits : is_undelivered v m ≡ true = place-passes (is_undelivered v) ms nobody below in
    let none : is_none m.handle ≡ true = (and_parts (is_none m.handle) (m.service == v) waits).0 in
    let test : bit (is_none m.handle && was_shown 512 given (get_or ts j no_slot)) ≤ 0 = omega (arith, slots-member (wrongly_waiting given) ms ts j nobody h.few.message_slots below, h.waiting) in
    let off : was_shown 512 given (get_or ts j no_slot) ≡ false = off-second (is_none m.handle) _ none (omega (arith, test)) in
    let inside : j < length ts = omega (arith, below, h.few.message_slots) in
    record {
      new = fresh-name w.state 512 (get_or ts j no_slot) (numbers ts w.names.past_messages j h.past h.inside inside) off;
      range = λ limit. in-range 512 (get_or ts j no_slot) (low-name 512 ts w.names.past_messages j (omega arith) h.past h.inside inside (omega (arith, h.few.messages, h.few.connections, limit)));
    }

due-at-return : (s : System) (es : List Entry) (w : NamedState) (a : ℕ) (h : Handle) (p : ActorPhase) → Named s es w → phase_of w.state.spm a ≡ p → name_at_return w.names p ≡ Some h → Due es w.state h
due-at-return s es w a h (Connected n) k phase e =
    let it : name_of 0 (get_or w.names.connections n no_slot) ≡ h = cc in
    subst (λ (x : Handle). Due es w.state x) it (connection-due s es w a n k phase)
due-at-return s es w a h _ k phase e = cc

due-at-get : (s : System) (es : List Entry) (w : NamedState) (o : Option ℕ) (h : Handle) → Named s es w
    → option_map (λ j. name_of 512 (get_or w.names.messages j no_slot)) (option_and_then (λ i. position (is_undelivered i) w.state.spm.messages) o) ≡ Some h → Due es w.state h
due-at-get s es w None h k e = cc
due-at-get s es w (Some v) h k e =
    let ms : List PendingMessage = w.state.spm.messages in
    let j : ℕ = position_or_len (is_undelivered v) ms in
    let name : Handle = name_of 512 (get_or w.names.messages j no_slot) in
    let go : (x : Bool) → nat_lt j (length ms) ≡ x → option_map (λ i. name_of 512 (get_or w.names.messages i no_slot)) (cond x (Some j) None) ≡ Some h → Due es w.state h =
    elim [
      | true ↦ λ less f.
          let below : j < length ms = grind (arith, nat_tests) in
          let it : name ≡ h = cc in
          subst (λ (x : Handle). Due es w.state x) it (message-due s es w v k below)
      | false ↦ λ less f. cc
    ] in
    go (nat_lt j (length ms)) refl e

due-fresh : (s : System) (es : List Entry) (w : NamedState) (a : ℕ) (c : Call) (h : Handle) → Named s es w → name_due s w.state a c w.names ≡ Some h → Due es w.state h
due-fresh s es w a call.Resume h k e = due-at-return s es w a h (phase_of w.state.spm a) k refl e
due-fresh s es w a (call.Get signal msg) h k e = due-at-get s es w (service_of_signal s a signal) h k e
due-fresh s es w a _ h k e = cc

-- in each named state of a run
pub run-names : (s : System) (m : ByteMap) (es : List Entry) (w : NamedState) → named_after s m es ≡ Some w → NamesFit s es w
run-names s m es w h =
    let k : Named s es w = run-named s m es w h in
    record {
      distinct = λ x. names-distinct w.names x k.conns k.past;
      given = k.has;
      new = λ a c x e. (due-fresh s es w a c x k e).new;
      due = λ a c x limit e. let d = due-fresh s es w a c x k e in d.new (d.range limit);
    }

pub run-takes : (s : System) (m : ByteMap) (es : List Entry) (w : NamedState) → named_after s m es ≡ Some w → TakesFew es w
run-takes s m es w h = (run-named s m es w h).few

-- a run takes fewer slots than there are generations
pub few-takes : (s : System) (m : ByteMap) (es : List Entry) (w : NamedState) → named_after s m es ≡ Some w → length es ≤ MAX_ENTRIES → (length w.names.connections < last_generation) × (length w.names.past_messages < last_generation)
few-takes s m es w h limit =
    let t : TakesFew es w = run-takes s m es w h in
    (omega (arith, t.connection_slots, t.connections, limit), omega (arith, t.messages, t.connections, limit))
