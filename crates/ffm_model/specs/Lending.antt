-- What a list lends where its items may be changed in their places.
use Rattle.std.specs.Prelude.{List}
use Rattle.std.specs.Borrow.{Lends, MutBor, Fml, Array}
use Rattle.ffm_model.specs.contracts.list.List.{the_row}
use Rattle.ffm_model.specs.Items.{overwritten}
use denote.RattleType.{RattleType}

-- the slice is the list's items, and the list has what is written there
abbrev pub LendsItems : (T : RattleType) → MutBor (List T.Denot) → MutBor (List T.Denot) → Fml
LendsItems T lent slice = Lends (the_row T) (Array T 0) lent slice (overwritten lent.now)
