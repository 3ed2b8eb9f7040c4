-- The state that the tables stand for after an event.
use Rattle.std.proofs.Common.{ℕ, ◌≡◌, ◌≤◌, Bool, true, false, cond, List, [], ◌∷◌, ◌++◌, get_or, arith, ◌∙◌, ap, sym, refl, subst, zero, suc, ◌<◌, ◌+◌, not, ◌&&◌, ◌||◌}
use Rattle.std.specs.Prelude.{All, Option, Some, None, count_by, find, if◌then◌else◌, is_some, map, option_and_then, IfSome}
use Rattle.std.proofs.lemmas.Bool.{and_parts, and_from}
use Rattle.std.proofs.lemmas.List.{append-nil}
use Rattle.std.proofs.lemmas.List.Elements.{All-append, All-cons, All-nil, All-weaker, All-head, All-tail}
use Rattle.std.proofs.lemmas.List.Folds.{list_any-append}
use Rattle.law_lists.proofs.Counts.{bit, count-cons, count-found, some-found}
use Rattle.law_lists.proofs.Tests.{find-passes, find-all}
use Rattle.ffm_model.specs.declared.machine.Call.{Call}
use Rattle.ffm_model.specs.declared.machine.Entry.{Entry}
use Rattle.ffm_model.specs.declared.machine.Handle.{Handle}
use Rattle.ffm_model.specs.declared.machine.Outcome.{Outcome}
use Rattle.ffm_model.specs.declared.objects.ActorPhase.{ActorPhase}
use Rattle.ffm_model.specs.declared.objects.ActorPhase.TheVariants.{Connected}
use Rattle.ffm_model.specs.declared.objects.OpenConnection.{OpenConnection}
use Rattle.ffm_model.specs.declared.objects.PendingMessage.{PendingMessage}
use Rattle.ffm_model.specs.declared.scenario.Bytes.{Bytes}
use Rattle.ffm_model.specs.declared.system.System.{System}
use Rattle.ffm_model.specs.ClientCalls.{Effect, effect}
use Rattle.ffm_model.specs.Memory.{valid_buffer}
use Rattle.ffm_model.specs.ServiceCalls.{get_of, message_size, psa_get, service_of_signal}
use Rattle.ffm_model.specs.State.{SpmState, State, delivered, handle_put, has_handle, is_undelivered, phase_of, handle_eq}
use Rattle.ffm_model.specs.Step.{step}
use Rattle.law_counting.specs.Objects.{ObjectsFit, PhaseFits, accepted_as, asked_by, awaited_by, objects_with}
use Rattle.law_counting.proofs.Events.{EachKind, IfThere}
use Rattle.law_counting.proofs.Steps.{step-kind}
use Rattle.law_counting.proofs.Walk.{handle-self, handle-same}
use Rattle.law_counting.proofs.Pairs.{count-split, member-counts}
use Rattle.memory_image.specs.Pieces.{byte_at}
use Rattle.object_pools.specs.declared.slot.Slot.{Slot}
use Rattle.object_pools.specs.declared.slot.Held.{Held}
use Rattle.object_pools.specs.Pool.{IsKept, IsNamed, Places, has_slot}
use Rattle.handle_table.specs.declared.handles.Family.{Family}
use Rattle.handle_table.specs.declared.handles.Family.TheVariants.{Connection, Message}
use Rattle.handle_table.specs.Handles.{GivesFresh, base_of, handle_at, index_limit, indices_of, is_given}
use Rattle.handle_table.proofs.Twins.{count-map}
use Rattle.handle_table.proofs.FreshLemmas.{GivesFresh-other, apart, indices-fit}
use Rattle.handle_table.proofs.SlotLemmas.{one_slot}
use Rattle.spm_tables.specs.TablesView.{TablesView, spm_of, held_message, shown_handle}
use Rattle.spm_tables.specs.declared.item.QueuedMessage.{QueuedMessage}
use Rattle.law_calls.specs.Named.{KeepsNames}
use Rattle.law_calls.specs.Stands.{NamesTaken, Stands, generations_of}
use Rattle.law_manager.specs.Kept.{AreKept}

-- ---- handles of one pool

module _ {T : Type 0} (f : Family) (told : T → Bool) (p : Places T) where
  gives-none : GivesFresh f (indices_of f) told p []
  gives-none = record { future = λ a below later. refl; untold = λ i d lt e. refl }

  gives-both : (given more : List Handle) → GivesFresh f (indices_of f) told p given → GivesFresh f (indices_of f) told p more → GivesFresh f (indices_of f) told p (given ++ more)
  gives-both given more v w =
      let off : (h : Handle) → is_given given h ≡ false → is_given more h ≡ false → is_given (given ++ more) h ≡ false = λ h x y. list_any-append (handle_eq h) given more ∙ ap (λ b. b || is_given more h) x ∙ y in
      record {
        future = λ a below later. off (handle_at f a) (v.future a below later) (w.future a below later);
        untold = λ i d lt e. off (handle_at f (get_or p.held i d).slot) (v.untold i d lt e) (w.untold i d lt e);
      }

  gives-each : (P : Handle → Type 0) (given : List Handle) → ((h : Handle) → P h → GivesFresh f (indices_of f) told p (h ∷ [])) → All P given → GivesFresh f (indices_of f) told p given
  gives-each P [] one all = gives-none
  gives-each P (h ∷ given) one all = gives-both (h ∷ []) given (one h (All-head P h given all)) (gives-each P given one (All-tail P h given all))

  -- that of a slot whose object was told
  gives-own : (s : Slot) → IsKept (indices_of f) p → IsNamed p.generations s → 1 ≤ count_by (λ x. told x.item && has_slot s x) p.held → GivesFresh f (indices_of f) told p (handle_at f s ∷ [])
  gives-own s k name some =
      let other : (a : Slot) → a.index < indices_of f → ((a.index ≡ s.index) × (a.generation ≡ s.generation) → ⊥) → is_given (handle_at f s ∷ []) (handle_at f a) ≡ false =
      λ a below differ. ap (λ b. b || false) (apart f f a s (omega (arith, below, indices-fit f)) (omega (arith, name.below, k.size, indices-fit f)) (λ e. differ (e.1, e.2))) in
      record {
        future = λ a below later.
            other a below
            (λ e.
            let same : get_or p.generations a.index 0 ≡ get_or p.generations s.index 0 = ap (λ i. get_or p.generations i 0) e.0 in
            omega (arith, name.latest, later, e.1, same));
        untold = λ i d lt off.
            let y : Held T = get_or p.held i d in
            let here : IsNamed p.generations y.slot = k.named i d lt in
            other y.slot (omega (arith, here.below, k.size))
            (λ e.
            let own : has_slot s y ≡ true = grind (arith, e.0, e.1) in
            omega (
              arith,
              some,
              one_slot (indices_of f) p s k,
              count-split (λ x. told x.item) (has_slot s) p.held,
              member-counts (λ x. not (told x.item) && has_slot s x) p.held i d lt,
              ap bit (and_from (not (told y.item)) (has_slot s y) (ap not off) own),
            ));
      }

  -- that of the other family
  gives-other : (g : Family) (s : Slot) → (base_of f ≡ base_of g → ⊥) → s.index < index_limit → IsKept (indices_of f) p → GivesFresh f (indices_of f) told p (handle_at g s ∷ [])
  gives-other g s differ small k = GivesFresh-other f (indices_of f) told p [] g s differ small (indices-fit f) k gives-none

  -- the handle is that of a slot whose object was told
  record IsTold (h : Handle) : Type 0 where
    slot : Slot
    is : handle_at f slot ≡ h
    name : IsNamed p.generations slot
    own : GivesFresh f (indices_of f) told p (handle_at f slot ∷ [])

  told-found : (q : Held T → Bool) (h : Handle) → IsKept (indices_of f) p → 1 ≤ count_by q p.held → All (λ x. q x ≡ true → (told x.item ≡ true) × (handle_at f x.slot ≡ h)) p.held → IsTold h
  told-found q h k some all =
      let it = some-found q p.held some in
      let x : Held T = it.0 in
      let shown = find-all (λ y. q y ≡ true → (told y.item ≡ true) × (handle_at f y.slot ≡ h)) q p.held x it.1 all (find-passes q p.held x it.1) in
      let name : IsNamed p.generations x.slot = find-all (λ y. IsNamed p.generations y.slot) q p.held x it.1 k.named in
      let itself : has_slot x.slot x ≡ true = grind arith in
      let live : 1 ≤ count_by (λ y. told y.item && has_slot x.slot y) p.held = omega (arith, count-found q (λ y. told y.item && has_slot x.slot y) p.held x it.1, ap bit (and_from (told x.item) (has_slot x.slot x) shown.0 itself)) in
      record { slot = x.slot; is = shown.1; name = name; own = gives-own x.slot k name live }

-- ---- a handle that an object has

record IsShown (d : TablesView) (h : Handle) : Type 0 where
  named : NamesTaken d h
  connections : GivesFresh Connection (indices_of Connection) (λ c. is_some c.handle) d.connections (h ∷ [])
  messages : GivesFresh Message (indices_of Message) (λ m. m.delivered) d.messages (h ∷ [])

object-shown : (d : TablesView) → AreKept d → (h : Handle) → 1 ≤ objects_with (spm_of d) h → IsShown d h
object-shown d k h some =
    let C : Held OpenConnection → Bool = λ x. has_handle x.item.handle h in
    let M : Held QueuedMessage → Bool = λ x. has_handle (shown_handle x.item.delivered x.slot) h in
    let either : 1 ≤ count_by M d.messages.held + count_by C d.connections.held =
    omega (arith, some, count-map held_message (λ m. has_handle m.handle h) d.messages.held, count-map (λ (x : Held OpenConnection). x.item) (λ c. has_handle c.handle h) d.connections.held) in
    let go : (n : ℕ) → count_by C d.connections.held ≡ n → IsShown d h = elim [
      | zero ↦ λ e.
          let it = told-found Message (λ m. m.delivered) d.messages M h k.messages (omega (arith, either, e)) (λ i x lt. of-message (get_or d.messages.held i x).slot (get_or d.messages.held i x).item.delivered) in
          subst (IsShown d) it.is (record {
            named = record { family = Message; slot = it.slot; named = refl; first = it.name.used; taken = omega (arith, it.name.latest) };
            connections = gives-other Connection (λ c. is_some c.handle) d.connections Message it.slot (λ b. omega (arith, b)) (omega (arith, it.name.below, k.messages.size)) k.connections;
            messages = it.own;
          })
      | suc n ↦ λ e.
          let it = told-found Connection (λ c. is_some c.handle) d.connections C h k.connections (omega (arith, e))
          (λ i x lt. of-connection (get_or d.connections.held i x).slot (get_or d.connections.held i x).item.handle (k.table.told i x lt)) in
          subst (IsShown d) it.is (record {
            named = record { family = Connection; slot = it.slot; named = refl; first = it.name.used; taken = omega (arith, it.name.latest) };
            connections = it.own;
            messages = gives-other Message (λ m. m.delivered) d.messages Connection it.slot (λ b. omega (arith, b)) (omega (arith, it.name.below, k.connections.size)) k.messages;
          })
    ] in
    go (count_by C d.connections.held) refl where
      of-message : (s : Slot) (b : Bool) → has_handle (shown_handle b s) h ≡ true → (b ≡ true) × (handle_at Message s ≡ h)
      of-message s true e = (refl, handle-same (handle_at Message s) h e)
      of-message s false e = cc

      of-connection : (s : Slot) (o : Option Handle) → IfSome o (λ y. y ≡ handle_at Connection s) → has_handle o h ≡ true → (is_some o ≡ true) × (handle_at Connection s ≡ h)
      of-connection s (Some y) its e = (refl, sym its ∙ handle-same y h e)
      of-connection s None its e = cc

-- ---- the state after an event

pub stands-after : (s : System) (d new : TablesView) (bytes after : List Bytes) (st next : State) (shown : List Handle) → AreKept d → AreKept new → Stands d bytes st → KeepsNames s d new
    → next.spm ≡ spm_of new → next.memory ≡ byte_at after → next.handles_given ≡ st.handles_given ++ shown → All (λ h. 1 ≤ objects_with next.spm h) shown → Stands new after next
stands-after s d new bytes after st next shown was are stood keeps spm memory grown objects =
    let given : List Handle = st.handles_given in
    let each : All (IsShown new) shown =
    All-weaker (λ h. 1 ≤ objects_with next.spm h) (IsShown new) (λ h some. object-shown new are h (subst (λ (b : SpmState). 1 ≤ objects_with b h) spm some)) shown objects in
    record {
      spm = spm;
      memory = memory;
      given = subst (λ (hs : List Handle). All (NamesTaken new) hs) (sym grown)
          (All-append (NamesTaken new) given shown (All-weaker (NamesTaken d) (NamesTaken new) still given stood.given) (All-weaker (IsShown new) (NamesTaken new) (λ h x. x.named) shown each));
      connections = subst (λ (hs : List Handle). GivesFresh Connection (indices_of Connection) (λ c. is_some c.handle) new.connections hs) (sym grown)
          (gives-both Connection (λ c. is_some c.handle) new.connections given shown (keeps.given.connections.fresh 256 was.connections.size given stood.connections)
          (gives-each Connection (λ c. is_some c.handle) new.connections (IsShown new) shown (λ h x. x.connections) each));
      messages = subst (λ (hs : List Handle). GivesFresh Message (indices_of Message) (λ m. m.delivered) new.messages hs) (sym grown)
          (gives-both Message (λ m. m.delivered) new.messages given shown (keeps.given.messages.fresh 304 was.messages.size given stood.messages)
          (gives-each Message (λ m. m.delivered) new.messages (IsShown new) shown (λ h x. x.messages) each));
    } where
      rises : (f : Family) (i : ℕ) → get_or (generations_of d f) i 0 ≤ get_or (generations_of new f) i 0
      rises Connection i = keeps.given.connections.generations i
      rises Message i = keeps.given.messages.generations i

      still : (h : Handle) → NamesTaken d h → NamesTaken new h
      still h n = record { family = n.family; slot = n.slot; named = n.named; first = n.first; taken = omega (arith, n.taken, rises n.family n.slot.index) }

-- where the event shows no handle
pub stands-quiet : (s : System) (d new : TablesView) (bytes after : List Bytes) (st next : State) → AreKept d → AreKept new → Stands d bytes st → KeepsNames s d new
    → next.spm ≡ spm_of new → next.memory ≡ byte_at after → next.handles_given ≡ st.handles_given → Stands new after next
stands-quiet s d new bytes after st next was are stood keeps spm memory same =
    stands-after s d new bytes after st next [] was are stood keeps spm memory (same ∙ sym (append-nil st.handles_given)) (All-nil (λ h. 1 ≤ objects_with next.spm h))

-- ---- the handle that a step shows

-- those given more are those of objects that are there
record Grows (given : List Handle) (new : SpmState) (all : List Handle) : Type 0 where
  shown : List Handle
  grown : all ≡ given ++ shown
  objects : All (λ h. 1 ≤ objects_with new h) shown

none-shown : (given : List Handle) (new : SpmState) → Grows given new given
none-shown given new = record { shown = []; grown = sym (append-nil given); objects = All-nil (λ h. 1 ≤ objects_with new h) }

one-shown : (given : List Handle) (new : SpmState) (h : Handle) → 1 ≤ objects_with new h → Grows given new (given ++ h ∷ [])
one-shown given new h some = record { shown = h ∷ []; grown = refl; objects = All-cons (λ k. 1 ≤ objects_with new k) h [] some (All-nil (λ k. 1 ≤ objects_with new k)) }

-- the connection that an actor is Connected to is there
joined-shown : (s : System) (b : SpmState) (a n : ℕ) (h : Handle) → ObjectsFit s b → phase_of b a ≡ Connected n → 1 ≤ count_by (λ c. has_handle c.handle h) (map (handle_put n h) b.connections)
joined-shown s b a n h fits phase =
    let cs : List OpenConnection = b.connections in
    let fit : PhaseFits (Connected n) (awaited_by cs b.messages a) (asked_by cs b.messages a) (λ m. count_by (accepted_as a m) cs) =
    subst (λ (p : ActorPhase). PhaseFits p (awaited_by cs b.messages a) (asked_by cs b.messages a) (λ m. count_by (accepted_as a m) cs)) phase (fits.phases a) in
    let it = some-found (accepted_as a n) cs (omega (arith, fit.1)) in
    let c : OpenConnection = it.0 in
    let shows : has_handle (handle_put n h c).handle h ≡ true =
    ap (λ x. has_handle (cond {A = OpenConnection} x (record c { handle = Some h }) c).handle h) (and_parts _ _ (find-passes (accepted_as a n) cs c it.1)).0 ∙ handle-self h in
    omega (arith, count-map (handle_put n h) (λ x. has_handle x.handle h) cs, count-found (accepted_as a n) (λ x. has_handle (handle_put n h x).handle h) cs c it.1, ap bit shows)

delivered-shown : (v : ℕ) (h : Handle) (ms : List PendingMessage) (first : PendingMessage) → find (is_undelivered v) ms ≡ Some first → 1 ≤ count_by (λ m. has_handle m.handle h) (delivered v h ms)
delivered-shown v h [] first e = cc
delivered-shown v h (m ∷ ms) first e =
    let P : PendingMessage → Bool = λ x. has_handle x.handle h in
    let go : (x : Bool) → cond x (Some m) (find (is_undelivered v) ms) ≡ Some first → 1 ≤ count_by P (cond {A = List PendingMessage} x (record m { handle = Some h } ∷ ms) (m ∷ delivered v h ms)) = elim [
      | true ↦ λ g. omega (arith, count-cons P (record m { handle = Some h }) ms, ap bit (handle-self h))
      | false ↦ λ g. omega (arith, count-cons P m (delivered v h ms), delivered-shown v h ms first g)
    ] in
    go (is_undelivered v m) e

got-grows : (s : System) (st : State) (a signal msg : ℕ) (h : Handle) → IfThere (psa_get s st a signal msg h) (λ x. Grows st.handles_given x.state.spm x.state.handles_given)
got-grows s st a signal msg h =
    let P : Effect → Type 0 = λ x. Grows st.handles_given x.state.spm x.state.handles_given in
    let at : ℕ → PendingMessage → Option Effect = λ i m. if valid_buffer s a msg message_size then Some (get_of s st i msg h m) else None in
    let first : (i : ℕ) (o : Option PendingMessage) → find (is_undelivered i) st.spm.messages ≡ o → IfThere (option_and_then (at i) o) P = λ i. elim [
      | None ↦ λ e. tt
      | Some m ↦ λ e. elim (valid_buffer s a msg message_size) as (λ (x : Bool). IfThere (if x then Some (get_of s st i msg h m) else None) P) [
        | true ↦ one-shown st.handles_given _ h (omega (arith, delivered-shown i h st.spm.messages m e))
        | false ↦ tt
      ]
    ] in
    elim (service_of_signal s a signal) as (λ (o : Option ℕ). IfThere (option_and_then (λ i. option_and_then (at i) (find (is_undelivered i) st.spm.messages)) o) P) [
      | None ↦ tt
      | Some i ↦ first i (find (is_undelivered i) st.spm.messages) refl
    ]

pub stands-got : (s : System) (d new : TablesView) (bytes after : List Bytes) (st next : State) (a signal msg : ℕ) (h : Handle) (o : Outcome) → AreKept d → AreKept new → Stands d bytes st → KeepsNames s d new
    → psa_get s st a signal msg h ≡ Some (effect o next) → next.spm ≡ spm_of new → next.memory ≡ byte_at after → Stands new after next
stands-got s d new bytes after st next a signal msg h o was are stood keeps got spm memory =
    let it : Grows st.handles_given next.spm next.handles_given = subst (λ (x : Option Effect). IfThere x (λ y. Grows st.handles_given y.state.spm y.state.handles_given)) got (got-grows s st a signal msg h) in
    stands-after s d new bytes after st next it.shown was are stood keeps spm memory it.grown it.objects

kinds-grow : (s : System) (b : SpmState) (given : List Handle) (a : ℕ) (d : Call) → ObjectsFit s b → EachKind s b given a d (λ o new all. Grows given new all)
kinds-grow s b given a d fits = record {
  beside = λ running o doorbells sources plain. none-shown given _;
  waits = λ running mask. none-shown given _;
  ends = λ running. none-shown given _;
  wakes = λ mask n e. none-shown given _;
  returns = λ o e. none-shown given _;
  joins = λ is n h phase new. one-shown given _ h (omega (arith, joined-shown s b a n h fits phase));
  connects = λ running v free. none-shown given _;
  calls = λ running h c n v held takes. none-shown given _;
  asks = λ running v n vs stateless may. none-shown given _;
  closes = λ running h c held. none-shown given _;
  gets = λ running signal msg v is has first at h shown tells new. one-shown given _ h (omega (arith, delivered-shown v h b.messages first at));
  moves = λ running o h v plain. none-shown given _;
  marks = λ running n r. none-shown given _;
  replies = λ running h status m held. none-shown given _;
  owes = λ running h status m n held kind. none-shown given _;
  panics = λ running. none-shown given _;
}

pub stands-stepped : (s : System) (d new : TablesView) (bytes after : List Bytes) (st next : State) (e : Entry) → AreKept d → AreKept new → ObjectsFit s (spm_of d) → Stands d bytes st → KeepsNames s d new
    → step s st e ≡ Some next → next.spm ≡ spm_of new → next.memory ≡ byte_at after → Stands new after next
stands-stepped s d new bytes after st next e was are fits stood keeps is spm memory =
    let it : Grows st.handles_given next.spm next.handles_given =
    (step-kind s st next e (λ o b all. Grows st.handles_given b all) (kinds-grow s st.spm st.handles_given e.actor.0 e.call (subst (ObjectsFit s) (sym stood.spm) fits)) is).2 in
    stands-after s d new bytes after st next it.shown was are stood keeps spm memory it.grown it.objects
