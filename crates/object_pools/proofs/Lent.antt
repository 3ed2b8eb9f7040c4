-- A write through a `&mut` to a live item is the item put at its slot.
use Rattle.std.proofs.Common.{ℕ, ◌≡◌, ◌<◌, ◌≤◌, ◌==◌, List, length, get_or, set, ◌∙◌, ap, refl, inl, inr, sym}
use Rattle.std.specs.Prelude.{Option, Some, None, option_and_then, if◌then◌else◌, ◌⊎◌}
use Rattle.std.proofs.Common.{cond}
use Rattle.std.proofs.lemmas.List.{set-get_or}
use Rattle.std.proofs.lemmas.Option.{slice_get_read, slice_get_past}
use Rattle.std.proofs.lemmas.Bool.{eq-eqb, ne_eqb}
use Rattle.object_pools.specs.declared.slot.Slot.{Slot}
use Rattle.object_pools.specs.declared.cells.Cell.{Cell}
use Rattle.object_pools.specs.Pool.{Places, item_at, with_item}
use Rattle.object_pools.specs.Cells.{item_in, places_of, Stored}
use Rattle.object_pools.proofs.Stores.{at-slot}
use Rattle.object_pools.proofs.Updates.{rewritten, places-put}

module _ {T : Type 0} where
  -- the live item that a cell with the slot's generation has
  pub lent-live : (cells : List (Cell T)) (s : Slot) (c : Cell T) (o : Option T) → s.index < length cells → c ≡ get_or cells s.index c → c.generation ≡ s.generation → c.item ≡ o → item_in cells s ≡ o
  lent-live cells s c o inside is same item =
      ap (option_and_then (λ (x : Cell T). if x.generation == s.generation then x.item else None)) (slice_get_read cells (length cells) s.index c refl inside is)
      ∙ ap (λ b. cond b c.item None) (ap (λ k. k == s.generation) same ∙ eq-eqb s.generation s.generation refl)
      ∙ item

  pub lent-other : (cells : List (Cell T)) (s : Slot) (c : Cell T) → s.index < length cells → c ≡ get_or cells s.index c → (c.generation ≡ s.generation → ⊥) → item_in cells s ≡ None
  lent-other cells s c inside is other =
      ap (option_and_then (λ (x : Cell T). if x.generation == s.generation then x.item else None)) (slice_get_read cells (length cells) s.index c refl inside is)
      ∙ ap (λ b. cond b c.item None) (ne_eqb c.generation s.generation other)

  pub lent-past : (cells : List (Cell T)) (s : Slot) → length cells ≤ s.index → item_in cells s ≡ None
  lent-past cells s past = ap (option_and_then (λ (x : Cell T). if x.generation == s.generation then x.item else None)) (slice_get_past cells s.index past)

  pub lent-written : (capacity : ℕ) (cells : List (Cell T)) (order : List ℕ) (takes : ℕ) (s : Slot) (x : T) → Stored capacity cells order takes → item_in cells s ≡ Some x
      → ◌≡◌ {A = T → Places T} (λ w. places_of (rewritten cells s (Some w)) order takes) (λ w. with_item (places_of cells order takes) s w)
  lent-written capacity cells order takes s x st live = λ j w. places-put capacity cells order takes s x w st live j

  pub lent-value : (capacity : ℕ) (cells : List (Cell T)) (order : List ℕ) (takes : ℕ) (s : Slot) (o : Option T) → Stored capacity cells order takes → item_in cells s ≡ o → o ≡ item_at (places_of cells order takes) s
  lent-value capacity cells order takes s o st e = sym (at-slot capacity cells order takes st s ∙ e)

  -- nothing was written
  pub written-back : {N : Type 0} (cells : List (Cell T)) (order : List ℕ) (takes : ℕ) (s : Slot) (c : Cell T) → c ≡ get_or cells s.index c
      → ◌≡◌ {A = N ⊎ Places T} (inr (places_of (set cells s.index c) order takes)) (inr (places_of cells order takes))
  written-back cells order takes s c is =
      ap (λ (cs : List (Cell T)). inr (places_of cs order takes)) (ap (set cells s.index) is ∙ set-get_or cells s.index c)

pub under-name : {N A D : Type 0} (n : N) {f g : A} → f ≡ g → ◌≡◌ {A = (N × A) ⊎ D} (inl (n, f)) (inl (n, g))
under-name n e = λ j. inl (n, e j)
