-- A pool's item at a place is changed or gone.
use Rattle.std.proofs.Common.{ℕ, ◌≡◌, set}
use Rattle.std.specs.Prelude.{Some, slice_get}
use Rattle.object_pools.specs.declared.slot.Held.{Held}
use Rattle.object_pools.specs.Pool.{Places, IsKept, has_slot, with_item, without}
use Rattle.object_pools.proofs.Stores.{has_own}
use Rattle.handle_table.proofs.SlotLemmas.{one_slot}
use Rattle.panic_state.proofs.Lists.{out_at, map-at, filter-at}

module _ {T : Type 0} where
  pub with_item-at : (capacity : ℕ) (p : Places T) (n : ℕ) (h : Held T) (x : T) → IsKept capacity p → slice_get p.held n ≡ Some h → (with_item p h.slot x).held ≡ set p.held n (record h { item = x })
  with_item-at capacity p n h x k e = map-at (has_slot h.slot) (λ (y : Held T). record y { item = x }) p.held n h e (has_own h.slot) (one_slot capacity p h.slot k)

  pub without-at : (capacity : ℕ) (p : Places T) (n : ℕ) (h : Held T) → IsKept capacity p → slice_get p.held n ≡ Some h → (without p h.slot).held ≡ out_at p.held n
  without-at capacity p n h k e = filter-at (has_slot h.slot) p.held n h e (has_own h.slot) (one_slot capacity p h.slot k)
