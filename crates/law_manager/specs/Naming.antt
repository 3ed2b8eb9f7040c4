-- Names for the slots of tables, whatever led to these.
-- Source: this profile's choice of handles; FF-M 1.0 leaves open which numbers they are.
use Rattle.ffm_model.specs.declared.system.System.{System}
use Rattle.ffm_model.specs.Names.{NamesSoFar, names_after}
use Rattle.law_calls.specs.Named.{NamesAre}
use Rattle.spm_tables.specs.TablesView.{TablesView, spm_of}

-- there are names so far that are those of the tables' slots
pub record HaveNames (d : TablesView) : Type 0 where
  pub so_far : NamesSoFar
  pub are : NamesAre d so_far

-- there are such names before an event, and those after it are the machine's, as `FollowsNames` says
pub record SlotsFollow (s : System) (old new : TablesView) : Type 0 where
  pub so_far : NamesSoFar
  pub before : NamesAre old so_far
  pub after : NamesAre new (names_after s (spm_of old) (spm_of new) so_far)
