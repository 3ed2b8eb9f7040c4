-- What reading a file's tree gives: the tree, or, where the bytes spell none, its one refusal at this place. Want of
-- memory alone is free.
-- Source: this simulator's files.
use Rattle.std.specs.Prelude.{◌≡◌, [], Option, Some, None, Result, Ok, Err}
use Rattle.serde_json.specs.Data.{Data}
use Rattle.serde_json.specs.View.{view}
use Rattle.serde_json.specs.declared.value.Value.{Value}
use Rattle.ffm_model.specs.declared.codes.TheConstants.{JSON}
use Rattle.ffm_model.specs.declared.place.Place.{Place}
use Rattle.ffm_model.specs.declared.place.ReadError.{ReadError}
use Rattle.ffm_model.specs.declared.place.ReadError.TheVariants.{Memory, Refused}

abbrev pub FailsTree : Place → ReadError → Option Data → Type 0
FailsTree place Memory tree = Unit {0}
FailsTree place (Refused r) tree = (tree ≡ None) × (r ≡ record { code = JSON; place = place; cycle = [] })

abbrev pub GivesTree : Place → Result Value ReadError → Option Data → Type 0
GivesTree place (Ok v) tree = tree ≡ Some (view v)
GivesTree place (Err e) tree = FailsTree place e tree
