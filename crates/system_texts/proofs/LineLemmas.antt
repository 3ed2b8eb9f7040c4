-- Words in a row.
use Rattle.std.proofs.Common.{◌≡◌, ◌++◌, ℕ, List, [], ◌∷◌, append_assoc}
use Rattle.std.specs.List.{flat_map}
use Rattle.std.proofs.lemmas.Grind.{flat_map-append}
use Rattle.ffm_model.specs.Listing.{line_of}
use Rattle.ffm_model.specs.TraceText.{spaced}

-- a line of a first word, words and further words
pub line_joined : (t t₁ t₂ t₃ t₄ front : List ℕ) (xs ys : List (List ℕ)) → t₁ ≡ t ++ front → t₂ ≡ t₁ ++ flat_map spaced xs → t₃ ≡ t₂ ++ flat_map spaced ys
    → t₄ ≡ t₃ ++ 10 ∷ [] → t₄ ≡ t ++ line_of front (xs ++ ys)
line_joined t t₁ t₂ t₃ t₄ front xs ys one two three four =
    rw (four, three, two, one, flat_map-append spaced xs ys, append_assoc t front, append_assoc t (front ++ flat_map spaced xs), append_assoc front (flat_map spaced xs) (flat_map spaced ys)) (append_assoc t (front ++ (flat_map spaced xs ++ flat_map spaced ys)) (10 ∷ []))
