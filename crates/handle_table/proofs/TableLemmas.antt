-- What a table of connections keeps, and what its calls do to the state's list.
use Rattle.std.proofs.Common.{ℕ, ◌≡◌, ◌≤◌, ◌+◌, ◌==◌, Bool, true, false, cond, not, ◌&&◌, List, [], ◌∷◌, take, arith, ◌∙◌, ap, sym, refl, subst, eq-eqb}
use Rattle.std.specs.Prelude.{ℤ, count_by, find, Option, Some, None, map, filter, if◌then◌else◌, All, IfSome, IsTrue, option_and_then, slice_get}
use Rattle.std.specs.Option.{option_map}
use Rattle.std.proofs.lemmas.Bool.Decides.{Decides-int_eq}
use Rattle.std.proofs.lemmas.List.Elements.{All-nil, All-cons, All-push, All-filter, All-weaker, All-map}
use Rattle.std.proofs.lemmas.List.Sums.{count_by_more_yes, count_by_more_no}
use Rattle.std.proofs.lemmas.Option.{slice_get-map, slice_get_within, get_or_from_slice_get}
use Rattle.std.proofs.lemmas.List.{map_push}
use Rattle.std.proofs.lemmas.Bool.{and_parts}
use Rattle.ffm_model.specs.declared.machine.Handle.{Handle}
use Rattle.ffm_model.specs.declared.objects.OpenConnection.{OpenConnection}
use Rattle.ffm_model.specs.State.{Rises, has_handle}
use Rattle.ffm_model.proofs.SerialLemmas.{rises-filter, rises-map, rises-push, serial-once}
use Rattle.object_pools.specs.declared.slot.Slot.{Slot}
use Rattle.object_pools.specs.declared.slot.Held.{Held}
use Rattle.object_pools.specs.Pool.{Places, IsKept, has_slot, item_at, taken, with_item, without}
use Rattle.object_pools.proofs.Stores.{has_own}
use Rattle.handle_table.specs.declared.handles.Family.TheVariants.{Connection}
use Rattle.handle_table.specs.Handles.{handle_at, IsNameable}
use Rattle.handle_table.specs.Table.{connections, spm_of_connections, IsTable, with_started}
use Rattle.handle_table.proofs.SlotLemmas.{one_slot, slot-is, held-of, nameable, All-put}
use Rattle.handle_table.proofs.Twins.{count-map, twin-put, twin-out, twin-find, find-all_fail, find-first, find-more}
use Rattle.law_lists.proofs.Tests.{find-all}

-- ---- serial numbers

pub rises-above : (low made : ℕ) (cs : List OpenConnection) → Rises low cs made → All (λ c. low ≤ c.serial) cs
rises-above low made [] r = All-nil (λ c. low ≤ c.serial)
rises-above low made (c ∷ cs) r =
    All-cons (λ d. low ≤ d.serial) c cs r.0
    (All-weaker (λ d. c.serial + 1 ≤ d.serial) (λ d. low ≤ d.serial) (λ d h. omega (arith, r.0)) cs (rises-above (c.serial + 1) made cs r.1))

-- what is found from the front has the least serial number
pub found-least : (r : OpenConnection → Bool) (low made : ℕ) (cs : List OpenConnection) (c : OpenConnection) → Rises low cs made → find r cs ≡ Some c → All (λ d. IsTrue (r d) → c.serial ≤ d.serial) cs
found-least r low made [] c s f = cc
found-least r low made (x ∷ xs) c s f =
    let go : (b : Bool) → r x ≡ b → cond b (Some x) (find r xs) ≡ Some c → All (λ d. IsTrue (r d) → c.serial ≤ d.serial) (x ∷ xs) =
    elim [
      | true ↦ λ e g.
          let it : x ≡ c = cc in
          subst (λ y. All (λ d. IsTrue (r d) → y.serial ≤ d.serial) (x ∷ xs)) it
          (All-cons (λ d. IsTrue (r d) → x.serial ≤ d.serial) x xs (λ t. omega arith)
          (All-weaker (λ d. x.serial + 1 ≤ d.serial) (λ d. IsTrue (r d) → x.serial ≤ d.serial) (λ d h t. omega arith) xs (rises-above (x.serial + 1) made xs s.1)))
      | false ↦ λ e g. All-cons (λ d. IsTrue (r d) → c.serial ≤ d.serial) x xs (λ t. cc (t, e)) (found-least r (x.serial + 1) made xs c s.1 g)
    ] in
    go (r x) refl f

-- ---- a connection is changed

put-serial : (n : ℕ) (g : OpenConnection → OpenConnection) → ((d : OpenConnection) → (g d).serial ≡ d.serial) → (d : OpenConnection) → (if d.serial == n then g d else d).serial ≡ d.serial
put-serial n g same d =
    let go : (b : Bool) → (cond b (g d) d).serial ≡ d.serial = elim [ true ↦ same d | false ↦ refl ] in
    go (d.serial == n)

pub connections-put : (capacity : ℕ) (p : Places OpenConnection) (s : Slot) (c : OpenConnection) (g : OpenConnection → OpenConnection) → IsKept capacity p → IsTable p → item_at p s ≡ Some c
    → connections (with_item p s (g c)) ≡ map (λ d. if d.serial == c.serial then g d else d) (connections p)
connections-put capacity p s c g k t live =
    let it = held-of p s c live in
    let h : Held OpenConnection = it.0 in
    twin-put (λ (x : Held OpenConnection). x.item) (has_slot s) (λ d. d.serial == c.serial) (λ x. record x { item = g c }) g it.0
    (ap g (sym it.2)) (ap (λ (d : OpenConnection). d.serial == c.serial) it.2 ∙ eq-eqb c.serial c.serial refl) p.held it.1 (one_slot capacity p s k)
    (omega (arith, serial-once 0 p.takes c.serial (connections p) t.rising, count-map (λ (x : Held OpenConnection). x.item) (λ d. d.serial == c.serial) p.held))

pub spm-put : (capacity : ℕ) (p : Places OpenConnection) (s : Slot) (c : OpenConnection) (g : OpenConnection → OpenConnection) → IsKept capacity p → IsTable p → item_at p s ≡ Some c
    → spm_of_connections (with_item p s (g c)) ≡ record (spm_of_connections p) { connections = map (λ d. if d.serial == c.serial then g d else d) (connections p) }
spm-put capacity p s c g k t live = λ j. record (spm_of_connections p) { connections = connections-put capacity p s c g k t live j }

abbrev pub IsTold : Held OpenConnection → Type 0
IsTold h = IfSome h.item.handle (λ k. k ≡ handle_at Connection h.slot)

-- the handle that a live connection's client was told is that of its slot
pub told-at : (p : Places OpenConnection) (s : Slot) (c : OpenConnection) → IsTable p → item_at p s ≡ Some c → IfSome c.handle (λ k. k ≡ handle_at Connection s)
told-at p s c t live =
    let it = held-of p s c live in
    let told : IfSome (it.0).item.handle (λ k. k ≡ handle_at Connection (it.0).slot) = find-all IsTold (has_slot s) p.held it.0 it.1 t.told in
    subst (λ (d : OpenConnection). IfSome d.handle (λ k. k ≡ handle_at Connection s)) it.2 (subst (λ (u : Slot). IfSome (it.0).item.handle (λ k. k ≡ handle_at Connection u)) it.3 told)

pub IsTable-put : (capacity : ℕ) (p : Places OpenConnection) (s : Slot) (c : OpenConnection) (g : OpenConnection → OpenConnection) → ((d : OpenConnection) → (g d).serial ≡ d.serial)
    → IsKept capacity p → IsTable p → item_at p s ≡ Some c → IfSome (g c).handle (λ k. k ≡ handle_at Connection s) → IsTable (with_item p s (g c))
IsTable-put capacity p s c g same k t live fits = record {
  rising = subst (λ (cs : List OpenConnection). Rises 0 cs p.takes) (sym (connections-put capacity p s c g k t live))
      (rises-map 0 p.takes (λ d. if d.serial == c.serial then g d else d) (put-serial c.serial g same) (connections p) t.rising);
  told = All-put IsTold s (g c) (λ h e. subst (λ (u : Slot). IfSome (g c).handle (λ k. k ≡ handle_at Connection u)) (sym (slot-is s h e)) fits) p.held t.told;
}

-- ---- a connection is started

pub IsTable-start : (p : Places OpenConnection) (s : Slot) (c : OpenConnection) → IsTable p → c.serial ≡ p.takes → c.handle ≡ None → IsTable (taken p s c)
IsTable-start p s c t serial none = record {
  rising = subst (λ (cs : List OpenConnection). Rises 0 cs (p.takes + 1)) (sym (map_push (λ (h : Held OpenConnection). h.item) p.held (record { slot = s; item = c })))
      (rises-push 0 p.takes (connections p) c t.rising serial);
  told = All-push IsTold p.held (record { slot = s; item = c }) t.told (subst (λ (o : Option Handle). IfSome o (λ k. k ≡ handle_at Connection s)) (sym none) tt);
}

pub spm-start : (p : Places OpenConnection) (s : Slot) (c : OpenConnection) → spm_of_connections (taken p s c) ≡ with_started (spm_of_connections p) c
spm-start p s c = λ j. record (spm_of_connections p) { connections = map_push (λ (h : Held OpenConnection). h.item) p.held (record { slot = s; item = c }) j; connections_made = p.takes + 1 }

-- ---- a connection is freed

pub connections-out : (capacity : ℕ) (p : Places OpenConnection) (s : Slot) (c : OpenConnection) → IsKept capacity p → IsTable p → item_at p s ≡ Some c
    → connections (without p s) ≡ filter (λ d. not (d.serial == c.serial)) (connections p)
connections-out capacity p s c k t live =
    let it = held-of p s c live in
    twin-out (λ (x : Held OpenConnection). x.item) (has_slot s) (λ d. d.serial == c.serial) it.0
    (ap (λ (d : OpenConnection). d.serial == c.serial) it.2 ∙ eq-eqb c.serial c.serial refl) p.held it.1 (one_slot capacity p s k)
    (omega (arith, serial-once 0 p.takes c.serial (connections p) t.rising, count-map (λ (x : Held OpenConnection). x.item) (λ d. d.serial == c.serial) p.held))

pub spm-out : (capacity : ℕ) (p : Places OpenConnection) (s : Slot) (c : OpenConnection) → IsKept capacity p → IsTable p → item_at p s ≡ Some c
    → spm_of_connections (without p s) ≡ record (spm_of_connections p) { connections = filter (λ d. not (d.serial == c.serial)) (connections p) }
spm-out capacity p s c k t live = λ j. record (spm_of_connections p) { connections = connections-out capacity p s c k t live j }

pub IsTable-out : (capacity : ℕ) (p : Places OpenConnection) (s : Slot) (c : OpenConnection) → IsKept capacity p → IsTable p → item_at p s ≡ Some c → IsTable (without p s)
IsTable-out capacity p s c k t live = record {
  rising = subst (λ (cs : List OpenConnection). Rises 0 cs p.takes) (sym (connections-out capacity p s c k t live))
      (rises-filter 0 p.takes (λ d. not (d.serial == c.serial)) (connections p) t.rising);
  told = All-filter (λ h. not (has_slot s h)) IsTold p.held t.told;
}

-- ---- a connection is found

pub handle-is : (o : Option Handle) (k : Handle) → has_handle o k ≡ true → o ≡ Some k
handle-is None k e = cc
handle-is (Some h) k e = let same : h.0 ≡ k.0 = (Decides-int_eq h.0 k.0).0 e in ap (λ (n : ℤ). Some (record { 0 = n })) same

-- what shows a handle to its client has the slot that the handle names
pub shows-slot : (h : Held OpenConnection) (owner : ℕ) (k : Handle) → IsTold h → ((h.item.client.0 == owner) && has_handle h.item.handle k) ≡ true → handle_at Connection h.slot ≡ k
shows-slot h owner k told e =
    let shown : h.item.handle ≡ Some k = handle-is h.item.handle k (and_parts (h.item.client.0 == owner) (has_handle h.item.handle k) e).1 in
    sym (subst (λ (o : Option Handle). IfSome o (λ j. j ≡ handle_at Connection h.slot)) shown told)

all-with : (Q : Held OpenConnection → Type 0) (held : List (Held OpenConnection)) → ((h : Held OpenConnection) → IsTold h → IsNameable Connection h.slot → Q h) → All IsTold held → All (λ h. IsNameable Connection h.slot) held → All Q held
all-with Q held each told named = λ k d lt. each _ (told k d lt) (named k d lt)

abbrev pub is_shown : ℕ → Handle → OpenConnection → Bool
is_shown owner k c = (c.client.0 == owner) && has_handle c.handle k

-- a handle names one slot
abbrev pub Names : Option Slot → Handle → Type 0
Names o k = (s : Slot) → IsNameable Connection s → handle_at Connection s ≡ k → o ≡ Some s

pub found-none : (p : Places OpenConnection) (owner : ℕ) (k : Handle) → IsKept 256 p → IsTable p → Names None k → find (is_shown owner k) (connections p) ≡ None
found-none p owner k kept t names =
    find-all_fail (is_shown owner k) (connections p) (All-seen p.held (all-with (λ h. is_shown owner k h.item ≡ true → ⊥) p.held
    (λ h told n e. no_slot h.slot (names h.slot n (shows-slot h owner k told e))) t.told (nameable Connection p kept))) where
      no_slot : (s : Slot) → None ≡ Some s → ⊥
      no_slot s e = cc

      All-seen : (held : List (Held OpenConnection)) → All (λ h. is_shown owner k h.item ≡ true → ⊥) held → All (λ c. is_shown owner k c ≡ true → ⊥) (map (λ (h : Held OpenConnection). h.item) held)
      All-seen held a = All-map (λ c. is_shown owner k c ≡ true → ⊥) (λ (h : Held OpenConnection). h.item) held a

pub found-at : (p : Places OpenConnection) (owner : ℕ) (k : Handle) (s : Slot) → IsKept 256 p → IsTable p → Names (Some s) k
    → find (is_shown owner k) (connections p) ≡ option_and_then (λ c. cond (is_shown owner k c) (Some c) None) (item_at p s)
found-at p owner k s kept t names =
    twin-find (λ (h : Held OpenConnection). h.item) (has_slot s) (is_shown owner k) p.held
    (all-with (λ h. is_shown owner k h.item ≡ true → has_slot s h ≡ true) p.held (λ h told n e. own h (names h.slot n (shows-slot h owner k told e))) t.told (nameable Connection p kept))
    (one_slot 256 p s kept)
    ∙ seen (find (has_slot s) p.held) where
      own : (h : Held OpenConnection) → Some s ≡ Some h.slot → has_slot s h ≡ true
      own h e = let it : s ≡ h.slot = cc in ap (λ (u : Slot). (h.slot.index == u.index) && (h.slot.generation == u.generation)) it ∙ has_own h.slot

      seen : (o : Option (Held OpenConnection)) → option_and_then (λ h. cond (is_shown owner k h.item) (Some h.item) None) o
          ≡ option_and_then (λ c. cond (is_shown owner k c) (Some c) None) (option_map (λ (h : Held OpenConnection). h.item) o)
      seen None = refl
      seen (Some h) = refl

-- ---- the connections one after another

seen-nth : (p : Places OpenConnection) (n : ℕ) (h : Held OpenConnection) → slice_get p.held n ≡ Some h → slice_get (connections p) n ≡ Some h.item
seen-nth p n h e = slice_get-map (λ (x : Held OpenConnection). x.item) p.held n ∙ ap (option_map (λ (x : Held OpenConnection). x.item)) e

pub counted-yes : (r : OpenConnection → Bool) (p : Places OpenConnection) (n : ℕ) (h : Held OpenConnection) → slice_get p.held n ≡ Some h → r h.item ≡ true
    → count_by r (take (n + 1) (connections p)) ≡ count_by r (take n (connections p)) + 1
counted-yes r p n h e passes =
    let here : slice_get (connections p) n ≡ Some h.item = seen-nth p n h e in
    count_by_more_yes r (connections p) n h.item (slice_get_within (connections p) n h.item here) (ap r (get_or_from_slice_get (connections p) n h.item h.item here) ∙ passes)

pub counted-no : (r : OpenConnection → Bool) (p : Places OpenConnection) (n : ℕ) (h : Held OpenConnection) → slice_get p.held n ≡ Some h → r h.item ≡ false
    → count_by r (take (n + 1) (connections p)) ≡ count_by r (take n (connections p))
counted-no r p n h e fails =
    let here : slice_get (connections p) n ≡ Some h.item = seen-nth p n h e in
    count_by_more_no r (connections p) n h.item (slice_get_within (connections p) n h.item here) (ap r (get_or_from_slice_get (connections p) n h.item h.item here) ∙ fails)

pub first-found : (r : OpenConnection → Bool) (p : Places OpenConnection) (n : ℕ) (h : Held OpenConnection) → find r (take n (connections p)) ≡ None → slice_get p.held n ≡ Some h → r h.item ≡ true
    → find r (connections p) ≡ Some h.item
first-found r p n h none e passes = find-first r (connections p) n h.item none (seen-nth p n h e) passes

pub none-found : (r : OpenConnection → Bool) (p : Places OpenConnection) (n : ℕ) (h : Held OpenConnection) → find r (take n (connections p)) ≡ None → slice_get p.held n ≡ Some h → r h.item ≡ false
    → find r (take (n + 1) (connections p)) ≡ None
none-found r p n h none e fails = find-more r (connections p) n h.item none (seen-nth p n h e) fails
