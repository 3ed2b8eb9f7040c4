-- A message's text is its front, and then its sizes.
use Rattle.std.proofs.Common.{◌≡◌, ℕ, List, ◌++◌, append_assoc}
use Rattle.std.specs.List.{flat_map}
use Rattle.std.proofs.lemmas.List.Concat.{flat_map-append}
use Rattle.ffm_model.specs.TraceText.{Field, spaced_field}

pub three_parts : (old a b c name : List ℕ) (x y z : List Field) → a ≡ old ++ (name ++ flat_map spaced_field x) → b ≡ a ++ flat_map spaced_field y → c ≡ b ++ flat_map spaced_field z
    → c ≡ old ++ (name ++ flat_map spaced_field (x ++ (y ++ z)))
three_parts old a b c name x y z ea eb ec = rw (ec, eb, ea, flat_map-append spaced_field x (y ++ z), flat_map-append spaced_field y z) (simp append_assoc)
