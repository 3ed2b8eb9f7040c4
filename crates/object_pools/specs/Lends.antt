-- What a pool ends as, where a `&mut` to an item is returned.
-- Source: of this repository; it serves the call that lends a live item for writing.
use Rattle.std.specs.Prelude.{Option}
use Rattle.std.specs.Borrow.{LendsIf, Fml, RattleType, MutBor}
use Rattle.object_pools.specs.declared.slot.Slot.{Slot}
use Rattle.object_pools.specs.Pool.{Places, with_item}
use Rattle.object_pools.specs.contracts.pool.Pool.{the_row}

module _ (T CAP : RattleType) (p : MutBor (Places T.Denot)) where
  -- once the borrow ends, the slot's item is the last value written through it; at `None` the pool stays as it is
  abbrev pub lends_item : Slot → Option (MutBor T.Denot) → Fml
  lends_item s r = LendsIf (the_row T CAP) T p r (with_item p.now s) p.now
