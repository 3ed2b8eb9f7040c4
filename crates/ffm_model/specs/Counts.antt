-- How many actors of each kind there are.
use Rattle.std.specs.Prelude.{ℕ, Bool}

-- partitions, non-secure clients, and whether there is a device
pub record ActorCounts : Type 0 where
  pub partitions : ℕ
  pub clients : ℕ
  pub device : Bool
