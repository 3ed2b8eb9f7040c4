-- Names for the slots of pools, whatever led to them: each index as often as its last generation says, and each live connection's at its serial number.
use Rattle.std.proofs.Common.{ℕ, zero, suc, ◌≡◌, ◌≢◌, ◌<◌, ◌≤◌, ◌+◌, ◌*◌, ◌==◌, Bool, true, false, cond, List, [], ◌∷◌, ◌++◌, length, map, get_or, set, replicate, arith, ◌∙◌, ap, sym, refl}
use Rattle.std.specs.Prelude.{All, count_by}
use Rattle.std.specs.List.{sum}
use Rattle.std.proofs.lemmas.Bool.{eq-eqb, eqb-true, ne_eqb}
use Rattle.std.proofs.lemmas.List.{get_or-set_same, get_or-set_other, length-append, length-replicate, length-set}
use Rattle.std.proofs.lemmas.List.Elements.{All-cons, All-head, All-nil, All-tail}
use Rattle.std.proofs.lemmas.List.Folds.{sum_by-replicate}
use Rattle.std.proofs.lemmas.List.Sums.{sum_by-append, sum_by-cons, sum_by-set}
use Rattle.law_lists.proofs.Counts.{bit, count-cons}
use Rattle.ffm_model.specs.declared.objects.OpenConnection.{OpenConnection}
use Rattle.ffm_model.specs.declared.system.System.{System}
use Rattle.ffm_model.specs.Names.{SlotName, has_index, no_slot}
use Rattle.ffm_model.specs.State.{Rises}
use Rattle.ffm_model.proofs.SerialLemmas.{rises-bounds}
use Rattle.object_pools.specs.declared.slot.Held.{Held}
use Rattle.object_pools.specs.Pool.{IsNamed, is_at}
use Rattle.object_pools.proofs.Orders.{other_number}
use Rattle.handle_table.specs.Handles.{live_names, slot_name}
use Rattle.spm_tables.specs.TablesView.{TablesView}
use Rattle.law_calls.specs.Named.{IsNamedBy, KeepsNames}
use Rattle.law_manager.specs.Kept.{AddUp, AreKept}
use Rattle.law_manager.specs.Naming.{HaveNames, SlotsFollow}

-- ---- each index as often as its last generation says

abbrev spread : ℕ → List ℕ → List SlotName
spread k [] = []
spread k (g ∷ gs) = replicate g (record { index = k; generation = 0 }) ++ spread (k + 1) gs

spread-length : (k : ℕ) (gs : List ℕ) → length (spread k gs) ≡ sum gs
spread-length k [] = refl
spread-length k (g ∷ gs) =
    let t : SlotName = record { index = k; generation = 0 } in
    omega (arith, length-append (replicate g t) (spread (k + 1) gs), length-replicate g t, spread-length (k + 1) gs, sum_by-cons (λ (x : ℕ). x) g gs)

count-replicate : (p : SlotName → Bool) (n : ℕ) (t : SlotName) (b : Bool) → p t ≡ b → count_by p (replicate n t) ≡ cond b n 0
count-replicate p n t b e =
    let go : (c : Bool) → n * bit c ≡ cond c n 0 = elim [ true ↦ omega arith | false ↦ omega arith ] in
    sum_by-replicate (λ (u : SlotName). cond (p u) 1 0) n t ∙ ap (λ c. n * bit c) e ∙ go b

spread-before : (k : ℕ) (gs : List ℕ) (i : ℕ) → i < k → count_by (has_index i) (spread k gs) ≡ 0
spread-before k [] i before = refl
spread-before k (g ∷ gs) i before =
    let t : SlotName = record { index = k; generation = 0 } in
    omega (
      arith,
      sum_by-append (λ (u : SlotName). cond (has_index i u) 1 0) (replicate g t) (spread (k + 1) gs),
      count-replicate (has_index i) g t false (ne_eqb k i (λ e. absurd (omega (arith, e)))),
      spread-before (k + 1) gs i (omega arith),
    )

spread-from : (k : ℕ) (gs : List ℕ) (i : ℕ) → count_by (has_index (k + i)) (spread k gs) ≡ get_or gs i 0
spread-from k [] i = refl
spread-from k (g ∷ gs) zero =
    let t : SlotName = record { index = k; generation = 0 } in
    omega (
      arith,
      sum_by-append (λ (u : SlotName). cond (has_index (k + 0) u) 1 0) (replicate g t) (spread (k + 1) gs),
      count-replicate (has_index (k + 0)) g t true (eq-eqb k (k + 0) (omega arith)),
      spread-before (k + 1) gs (k + 0) (omega arith),
    )
spread-from k (g ∷ gs) (suc j) =
    let t : SlotName = record { index = k; generation = 0 } in
    let next : k + suc j ≡ (k + 1) + j = omega arith in
    omega (
      arith,
      sum_by-append (λ (u : SlotName). cond (has_index (k + suc j) u) 1 0) (replicate g t) (spread (k + 1) gs),
      count-replicate (has_index (k + suc j)) g t false (ne_eqb k (k + suc j) (λ e. absurd (omega (arith, e)))),
      ap (λ m. count_by (has_index m) (spread (k + 1) gs)) next,
      spread-from (k + 1) gs j,
    )

spread-uses : (gs : List ℕ) (i : ℕ) → count_by (has_index i) (spread 0 gs) ≡ get_or gs i 0
spread-uses gs i =
    let same : i ≡ 0 + i = omega arith in
    ap (λ m. count_by (has_index m) (spread 0 gs)) same ∙ spread-from 0 gs i

-- ---- a name moved to a place

-- the name goes to a place p, and what stood there to the place q of a name with the same index
abbrev placed : List SlotName → ℕ → ℕ → SlotName → List SlotName
placed ts q p t = set (set ts q (get_or ts p no_slot)) p t

moved : (ts : List SlotName) (q p : ℕ) → q < length ts → get_or (set ts q (get_or ts p no_slot)) p no_slot ≡ get_or ts p no_slot
moved ts q p inside =
    let go : (b : Bool) → (p == q) ≡ b → get_or (set ts q (get_or ts p no_slot)) p no_slot ≡ get_or ts p no_slot =
    elim [
      | true ↦ λ e.
          let same : p ≡ q = eqb-true p q e in
          ap (λ k. get_or (set ts q (get_or ts p no_slot)) k no_slot) same ∙ get_or-set_same ts q (get_or ts p no_slot) no_slot inside
      | false ↦ λ e. get_or-set_other ts q p (get_or ts p no_slot) no_slot (other_number p q e)
    ] in
    go (p == q) refl

placed-uses : (ts : List SlotName) (q p : ℕ) (t : SlotName) (i : ℕ) → q < length ts → p < length ts → (get_or ts q no_slot).index ≡ t.index
    → count_by (has_index i) (placed ts q p t) ≡ count_by (has_index i) ts
placed-uses ts q p t i inside_q inside_p same =
    let old : SlotName = get_or ts p no_slot in
    omega (
      arith,
      sum_by-set (λ (u : SlotName). cond (has_index i u) 1 0) ts q old no_slot inside_q,
      sum_by-set (λ (u : SlotName). cond (has_index i u) 1 0) (set ts q old) p t no_slot (omega (arith, length-set ts q old)),
      ap (λ (u : SlotName). bit (has_index i u)) (moved ts q p inside_q),
      ap (λ k. bit (k == i)) same,
    )

record Found (ts : List SlotName) (i : ℕ) : Type 0 where
  place : ℕ
  inside : place < length ts
  at : (get_or ts place no_slot).index ≡ i

found : (ts : List SlotName) (i : ℕ) → 1 ≤ count_by (has_index i) ts → Found ts i
found [] i some = absurd (omega (arith, some))
found (t ∷ ts) i some =
    let go : (b : Bool) → (t.index == i) ≡ b → 1 ≤ bit b + count_by (has_index i) ts → Found (t ∷ ts) i =
    elim [
      | true ↦ λ e k. record { place = 0; inside = omega arith; at = eqb-true t.index i e }
      | false ↦ λ e k. let rest : Found ts i = found ts i (omega (arith, k)) in record { place = suc rest.place; inside = omega (arith, rest.inside); at = rest.at }
    ] in
    go (t.index == i) refl (omega (arith, some, count-cons (has_index i) t ts))

-- ---- each live connection's name at its serial number

record Naming (gens : List ℕ) (n : ℕ) (hs : List (Held OpenConnection)) : Type 0 where
  names : List SlotName
  long : length names ≡ n
  uses : (i : ℕ) → count_by (has_index i) names ≡ get_or gens i 0
  own : All (IsNamedBy names) hs

-- connections made later, at other indices, keep their names
others : (ts : List SlotName) (q p : ℕ) (t : SlotName) (low n : ℕ) (hs : List (Held OpenConnection)) → (get_or ts q no_slot).index ≡ t.index → p < low → Rises low (map (λ h. h.item) hs) n
    → count_by (is_at t.index) hs ≡ 0 → All (IsNamedBy ts) hs → All (IsNamedBy (placed ts q p t)) hs
others ts q p t low n [] at later rises none own = All-nil (IsNamedBy (placed ts q p t))
others ts q p t low n (h ∷ hs) at later rises none own =
    let it : get_or ts h.item.serial no_slot ≡ slot_name h.slot = All-head (IsNamedBy ts) h hs own in
    let none_in : bit (is_at t.index h) + count_by (is_at t.index) hs ≡ 0 = omega (arith, none, count-cons (is_at t.index) h hs) in
    let elsewhere : h.item.serial ≢ q = λ e.
    let same : h.slot.index ≡ t.index = ap (λ (u : SlotName). u.index) (sym it) ∙ ap (λ k. (get_or ts k no_slot).index) e ∙ at in
    absurd (omega (arith, none_in, ap bit (eq-eqb h.slot.index t.index same))) in
    All-cons (IsNamedBy (placed ts q p t)) h hs
    (get_or-set_other (set ts q (get_or ts p no_slot)) p h.item.serial t no_slot (λ e. absurd (omega (arith, e, rises.0)))
    ∙ get_or-set_other ts q h.item.serial (get_or ts p no_slot) no_slot elsewhere
    ∙ it)
    (others ts q p t (h.item.serial + 1) n hs at (omega (arith, rises.0)) rises.1 (omega (arith, none_in)) (All-tail (IsNamedBy ts) h hs own))

naming : (gens : List ℕ) (n low : ℕ) (hs : List (Held OpenConnection)) → sum gens ≡ n → Rises low (map (λ h. h.item) hs) n → All (λ h. IsNamed gens h.slot) hs
    → ((i : ℕ) → count_by (is_at i) hs ≤ 1) → Naming gens n hs
naming gens n low [] total rises live once =
    record { names = spread 0 gens; long = spread-length 0 gens ∙ total; uses = spread-uses gens; own = All-nil (IsNamedBy (spread 0 gens)) }
naming gens n low (h ∷ hs) total rises live once =
    let is : IsNamed gens h.slot = All-head (λ x. IsNamed gens x.slot) h hs live in
    let rest : Naming gens n hs =
    naming gens n (h.item.serial + 1) hs total rises.1 (All-tail (λ x. IsNamed gens x.slot) h hs live) (λ i. omega (arith, once i, count-cons (is_at i) h hs)) in
    let ts : List SlotName = rest.names in
    let p : ℕ = h.item.serial in
    let t : SlotName = slot_name h.slot in
    let below : p + 1 ≤ n = rises-bounds (p + 1) n (map (λ x. x.item) hs) rises.1 in
    let f : Found ts t.index = found ts t.index (omega (arith, rest.uses t.index, is.used, is.latest)) in
    let moved_on : length (set ts f.place (get_or ts p no_slot)) ≡ length ts = length-set ts f.place (get_or ts p no_slot) in
    record {
      names = placed ts f.place p t;
      long = length-set (set ts f.place (get_or ts p no_slot)) p t ∙ moved_on ∙ rest.long;
      uses = λ i. placed-uses ts f.place p t i f.inside (omega (arith, below, rest.long)) f.at ∙ rest.uses i;
      own = All-cons (IsNamedBy (placed ts f.place p t)) h hs
          (get_or-set_same (set ts f.place (get_or ts p no_slot)) p t no_slot (omega (arith, below, rest.long, moved_on)))
          (others ts f.place p t (p + 1) n hs f.at (omega arith) rises.1
          (omega (arith, once t.index, count-cons (is_at t.index) h hs, ap bit (eq-eqb h.slot.index t.index refl))) rest.own);
    }

-- ---- the tables

pub have-names : (d : TablesView) → AreKept d → AddUp d → HaveNames d
have-names d kept add =
    let c : Naming d.connections.generations d.connections.takes d.connections.held =
    naming d.connections.generations d.connections.takes 0 d.connections.held add.connections kept.table.rising kept.connections.named kept.connections.once in
    record {
      so_far = record { connections = c.names; messages = live_names d.messages; past_messages = spread 0 d.messages.generations };
      are = record {
        made = c.long;
        connections = c.own;
        past_connections = record { uses = c.uses };
        messages = refl;
        past_messages = record { uses = spread-uses d.messages.generations };
        sent = spread-length 0 d.messages.generations ∙ add.messages;
      };
    }

pub slots-follow : (s : System) (d new : TablesView) → AreKept d → AddUp d → KeepsNames s d new → SlotsFollow s d new
slots-follow s d new kept add keeps =
    let have : HaveNames d = have-names d kept add in
    record { so_far = have.so_far; before = have.are; after = keeps.names have.so_far have.are }
