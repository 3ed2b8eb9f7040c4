-- The items that the code lends, as the definitions speak of them.
-- Source: of this repository.
use Rattle.std.specs.Prelude.{ℕ, Bool, List}
use Rattle.std.specs.Str.{bytes_eq}
use Rattle.ffm_model.specs.Layout.{Located}
use Rattle.region_map.specs.declared.at.At.{At}

-- the item that `At` lends, with its place
abbrev pub seen : {A : Type 0} → At A → Located A
seen x = record { manifest = x.manifest; item = x.item; value = x.value.now }

-- the place of an item: its manifest's number, and its own in the list
abbrev pub spot : {A : Type 0} → Located A → ℕ × ℕ
spot x = (x.manifest, x.item)

-- two items have one name
abbrev pub same_name : {A : Type 0} → (A → List ℕ) → Located A → Located A → Bool
same_name name x y = bytes_eq (name x.value) (name y.value)
