-- What all tables of a manager keep.
-- Source: this manager's; FF-M 1.0 leaves open how a manager keeps its objects.
use Rattle.object_pools.specs.Pool.{AddsUp, IsKept}
use Rattle.handle_table.specs.Table.{IsTable}
use Rattle.spm_tables.specs.TablesView.{TablesView}

pub record AreKept (d : TablesView) : Type 0 where
  pub connections : IsKept 256 d.connections
  pub messages : IsKept 304 d.messages
  pub table : IsTable d.connections

-- of both pools the last generations add up to the number of takes
pub record AddUp (d : TablesView) : Type 0 where
  pub connections : AddsUp d.connections
  pub messages : AddsUp d.messages
