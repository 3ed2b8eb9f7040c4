-- A handle that is told is new: through each call of a pool, and each handle that an event shows.
use Rattle.std.proofs.Common.{ℕ, ◌≡◌, ◌<◌, ◌≤◌, ◌+◌, ◌*◌, Bool, true, false, cond, not, ◌&&◌, ◌||◌, List, [], ◌∷◌, ◌++◌, length, map, get_or, arith, ◌∙◌, ap, sym, refl, subst}
use Rattle.std.specs.Prelude.{pos, Some, slice_set, int_le, All}
use Rattle.std.specs.List.{list_any}
use Rattle.std.specs.Ordering.{int_eq}
use Rattle.std.proofs.lemmas.Bool.Decides.{Decides-int_eq}
use Rattle.std.proofs.lemmas.Grind.{common_steps}
use Rattle.std.proofs.lemmas.List.Elements.{All-nil, All-cons, All-head, All-tail, All-push, All-filter, All-weaker}
use Rattle.ffm_model.specs.declared.machine.Handle.{Handle}
use Rattle.ffm_model.specs.State.{State, handle_eq, fresh}
use Rattle.object_pools.specs.declared.slot.Slot.{Slot}
use Rattle.object_pools.specs.declared.slot.Held.{Held}
use Rattle.object_pools.specs.Pool.{Places, IsKept, IsNamed, has_slot, item_at, item_put, empty, taken, with_item, without, free_slot, is_at}
use Rattle.object_pools.proofs.Pigeons.{index-below}
use Rattle.handle_table.specs.declared.handles.Family.{Family}
use Rattle.handle_table.specs.declared.handles.Family.TheVariants.{Connection, Message}
use Rattle.handle_table.specs.Handles.{base_of, index_limit, indices_of, handle_at, handle_number, is_given, GivesFresh, StaysFresh}
use Rattle.handle_table.proofs.NameLemmas.{free-parts}
use Rattle.handle_table.proofs.SlotLemmas.{held-of, slot-is, named-at, All-put}
use Rattle.std.proofs.lemmas.List.Folds.{list_any-append}
use Rattle.law_lists.proofs.Tests.{find-all}

any-push : {X : Type 0} (q : X → Bool) (xs : List X) (x : X) → list_any q xs ≡ false → q x ≡ false → list_any q (xs ++ x ∷ []) ≡ false
any-push q xs x e f = list_any-append q xs (x ∷ []) ∙ (ap (λ (b : Bool). b || (q x || false)) e ∙ ap (λ (b : Bool). b || false) f)

-- ---- two slots with one handle are one

same_number : (f g : Family) (a b : Slot) → a.index < index_limit → b.index < index_limit → a.generation * 1024 + a.index + base_of f ≡ b.generation * 1024 + b.index + base_of g
    → (base_of f ≡ base_of g) × (a.index ≡ b.index) × (a.generation ≡ b.generation)
same_number Connection Connection a b small below e = (refl, omega arith, omega arith)
same_number Connection Message a b small below e = absurd (omega arith)
same_number Message Connection a b small below e = absurd (omega arith)
same_number Message Message a b small below e = (refl, omega arith, omega arith)

pub indices-fit : (f : Family) → indices_of f ≤ index_limit
indices-fit Connection = omega arith
indices-fit Message = omega arith

pub apart : (f g : Family) (a b : Slot) → a.index < index_limit → b.index < index_limit → ((base_of f ≡ base_of g) × (a.index ≡ b.index) × (a.generation ≡ b.generation) → ⊥)
    → handle_eq (handle_at f a) (handle_at g b) ≡ false
apart f g a b small below differ =
    let go : (x : Bool) → int_eq (handle_at f a).0 (handle_at g b).0 ≡ x → x ≡ false =
    elim [
      | true ↦ λ e.
          let same : (handle_at f a).0 ≡ (handle_at g b).0 = (Decides-int_eq (handle_at f a).0 (handle_at g b).0).0 e in
          let number : a.generation * 1024 + a.index + base_of f ≡ b.generation * 1024 + b.index + base_of g = cc in
          absurd (differ (same_number f g a b small below number))
      | false ↦ λ e. refl
    ] in
    go _ refl

-- a pool of no more slots than these
pub kept-in : {T : Type 0} (n capacity : ℕ) (p : Places T) → length p.generations ≤ n → IsKept capacity p → IsKept n p
kept-in n capacity p few k = record { size = few; live = k.live; named = k.named; once = k.once; given = k.given; takes_left = k.takes_left }

grown : (generations : List ℕ) (i g x k : ℕ) → g ≡ get_or generations i 0 + 1 → get_or (slice_set generations i g) x 0 < k → get_or generations x 0 < k
grown generations i g x k e h = grind (arith, common_steps)

module _ {T : Type 0} (f : Family) (told : T → Bool) where
  abbrev pub IsUntold : List Handle → Held T → Type 0
  IsUntold given h = told h.item ≡ false → is_given given (handle_at f h.slot) ≡ false

  untold-more : (given : List Handle) (h : Handle) (held : List (Held T)) → All (λ x. told x.item ≡ false → handle_eq (handle_at f x.slot) h ≡ false) held → All (IsUntold given) held
      → All (IsUntold (given ++ h ∷ [])) held
  untold-more given h held others a = λ k d lt e. any-push (handle_eq (handle_at f (get_or held k d).slot)) given h (a k d lt e) (others k d lt e)

  not_same : (s : Slot) (h : Held T) → has_slot s h ≡ false → (h.slot.index ≡ s.index) × (h.slot.generation ≡ s.generation) → ⊥
  not_same s h e k = grind (arith, k.0, k.1)

  told-put : (given : List Handle) (s : Slot) (y : T) (generations : List ℕ) → told y ≡ true → s.index < index_limit → length generations ≤ index_limit → (held : List (Held T))
      → All (λ h. IsNamed generations h.slot) held → All (IsUntold given) held → All (IsUntold (given ++ handle_at f s ∷ [])) (map (item_put s y) held)
  told-put given s y generations now small size [] named a = All-nil (IsUntold (given ++ handle_at f s ∷ []))
  told-put given s y generations now small size (h ∷ hs) named a =
      let name : IsNamed generations h.slot = All-head (λ (x : Held T). IsNamed generations x.slot) h hs named in
      let go : (b : Bool) → has_slot s h ≡ b → IsUntold (given ++ handle_at f s ∷ []) (cond b (record h { item = y }) h) =
      elim [
        | true ↦ λ e untold. cc (now, untold)
        | false ↦ λ e untold.
            any-push (handle_eq (handle_at f h.slot)) given (handle_at f s) (All-head (IsUntold given) h hs a untold)
            (apart f f h.slot s (omega (arith, name.below)) small (λ d. not_same s h e (d.1, d.2)))
      ] in
      All-cons (IsUntold (given ++ handle_at f s ∷ [])) (item_put s y h) (map (item_put s y) hs) (go (has_slot s h) refl)
      (told-put given s y generations now small size hs (All-tail (λ (x : Held T). IsNamed generations x.slot) h hs named) (All-tail (IsUntold given) h hs a))

module _ {T : Type 0} (f : Family) (n : ℕ) (told : T → Bool) where
  pub GivesFresh-new : (size : ℕ) → GivesFresh f n told (empty size) []
  GivesFresh-new size = record { future = λ s below later. refl; untold = All-nil (IsUntold f told []) }

  pub GivesFresh-take : (p : Places T) (given : List Handle) (s : Slot) (x : T) → IsKept n p → GivesFresh f n told p given → free_slot p ≡ Some s → GivesFresh f n told (taken p s x) given
  GivesFresh-take p given s x k v free =
      let parts = free-parts p s free in
      let inside : s.index < length p.generations = index-below (λ i. not (list_any (is_at i) p.held)) (length p.generations) s.index parts.0 in
      record {
        future = λ a below later. v.future a below (grown p.generations s.index s.generation a.index a.generation parts.1 later);
        untold = All-push (IsUntold f told given) p.held (record { slot = s; item = x }) v.untold (λ e. v.future s (omega (arith, k.size)) (omega (arith, parts.1)));
      }

  pub GivesFresh-out : (p : Places T) (given : List Handle) (s : Slot) → GivesFresh f n told p given → GivesFresh f n told (without p s) given
  GivesFresh-out p given s v = record { future = v.future; untold = All-filter (λ h. not (has_slot s h)) (IsUntold f told given) p.held v.untold }

  -- a live slot that wasn't told
  pub untold-at : (p : Places T) (given : List Handle) (s : Slot) (x : T) → GivesFresh f n told p given → item_at p s ≡ Some x → told x ≡ false → is_given given (handle_at f s) ≡ false
  untold-at p given s x v live e =
      let it = held-of p s x live in
      subst (λ (t : Slot). is_given given (handle_at f t) ≡ false) it.3 (find-all (IsUntold f told given) (has_slot s) p.held it.0 it.1 v.untold (ap told it.2 ∙ e))

  -- a change of an item that takes no telling back
  pub GivesFresh-put : (p : Places T) (given : List Handle) (s : Slot) (x y : T) → GivesFresh f n told p given → item_at p s ≡ Some x → (told y ≡ false → told x ≡ false) → GivesFresh f n told (with_item p s y) given
  GivesFresh-put p given s x y v live kept =
      record {
        future = v.future;
        untold = All-put (IsUntold f told given) s y (λ h e. subst (λ (t : Slot). told y ≡ false → is_given given (handle_at f t) ≡ false) (sym (slot-is s h e)) (λ off. untold-at p given s x v live (kept off))) p.held v.untold;
      }

  -- a handle of the other family is shown
  pub GivesFresh-other : (p : Places T) (given : List Handle) (g : Family) (s : Slot) → (base_of f ≡ base_of g → ⊥) → s.index < index_limit → n ≤ index_limit → IsKept n p → GivesFresh f n told p given
      → GivesFresh f n told p (given ++ handle_at g s ∷ [])
  GivesFresh-other p given g s differ small few k v = record {
    future = λ a below later. any-push (handle_eq (handle_at f a)) given (handle_at g s) (v.future a below later) (apart f g a s (omega (arith, below, few)) small (λ e. differ e.0));
    untold = untold-more f told given (handle_at g s) p.held
        (All-weaker (λ h. IsNamed p.generations h.slot) (λ h. told h.item ≡ false → handle_eq (handle_at f h.slot) (handle_at g s) ≡ false)
        (λ h m e. apart f g h.slot s (omega (arith, m.below, k.size, few)) small (λ d. differ d.0)) p.held k.named)
        v.untold;
  }

  later_slot : (generations : List ℕ) (a s : Slot) → s.generation ≡ get_or generations s.index 0 → get_or generations a.index 0 < a.generation → (a.index ≡ s.index) × (a.generation ≡ s.generation) → ⊥
  later_slot generations a s latest later k =
      let e : get_or generations a.index 0 ≡ get_or generations s.index 0 = ap (λ i. get_or generations i 0) k.0 in
      omega (arith, k.1, e)

  -- the handle of a live slot is shown
  pub GivesFresh-tell : (p : Places T) (given : List Handle) (s : Slot) (x y : T) → n ≤ index_limit → IsKept n p → GivesFresh f n told p given → item_at p s ≡ Some x → told y ≡ true
      → GivesFresh f n told (with_item p s y) (given ++ handle_at f s ∷ [])
  GivesFresh-tell p given s x y few k v live now =
      let name : IsNamed p.generations s = named-at p s x n k live in
      let small : s.index < index_limit = omega (arith, name.below, k.size, few) in
      record {
        future = λ a below later.
            any-push (handle_eq (handle_at f a)) given (handle_at f s) (v.future a below later)
            (apart f f a s (omega (arith, below, few)) small (λ d. later_slot p.generations a s name.latest later (d.1, d.2)));
        untold = told-put f told given s y p.generations now small (omega (arith, k.size, few)) p.held k.named v.untold;
      }

  number_fits : (m : ℕ) → 1 ≤ m → m < 1073741824 → (int_le (pos 1) (pos m) && int_le (pos m) (pos 0x3fffffff)) ≡ true
  number_fits m low high = grind arith

  -- the handle of a live slot that wasn't told is fresh in a state with these handles of the past
  pub fresh-at : (p : Places T) (st : State) (s : Slot) (x : T) → n ≤ index_limit → IsKept n p → GivesFresh f n told p st.handles_given → item_at p s ≡ Some x → told x ≡ false → fresh st (handle_at f s) ≡ true
  fresh-at p st s x few k v live e =
      let name : IsNamed p.generations s = named-at p s x n k live in
      let new : is_given st.handles_given (handle_at f s) ≡ false = untold-at p st.handles_given s x v live e in
      let bound : base_of f ≤ index_limit = base_le f in
      let range : (int_le (pos 1) (pos (handle_number f s)) && int_le (pos (handle_number f s)) (pos 0x3fffffff)) ≡ true =
      number_fits (handle_number f s) (omega (arith, name.used)) (omega (arith, name.below, name.latest, k.size, few, k.given s.index, k.takes_left, bound)) in
      ap (λ b. b && not (is_given st.handles_given (handle_at f s))) range ∙ ap not new where
        base_le : (g : Family) → base_of g ≤ index_limit
        base_le Connection = omega arith
        base_le Message = omega arith

  pub stays-fresh : n ≤ index_limit → (p : Places T) (given : List Handle) → IsKept n p → GivesFresh f n told p given → StaysFresh f n told p given
  stays-fresh few p given k v = record {
    new = λ st s x same live e. fresh-at p st s x few k (subst (λ (hs : List Handle). GivesFresh f n told p hs) (sym same) v) live e;
    after_take = λ s x free. GivesFresh-take p given s x k v free;
    after_put_back = λ s. GivesFresh-out p given s v;
    after_telling = λ s x y live now. GivesFresh-tell p given s x y few k v live now;
    after_change = λ s x y live kept. GivesFresh-put p given s x y v live kept;
    after_other = λ g s apart_base small. GivesFresh-other p given g s (λ e. apart_base (sym e)) small few k v;
  }
