-- The words that were taken so far.
use Rattle.std.proofs.Common.{◌≡◌, ℕ, ◌+◌, List, [], ◌∷◌, ◌++◌, Option, None, Some, All, IsUtf8, take, slice_get, inr, sym, ap, subst, ◌∙◌}
use Rattle.std.proofs.lemmas.List.{take_more}
use Rattle.std.proofs.lemmas.Option.{get_or_from_slice_get, slice_get_within}
use Rattle.std.specs.Option.{option_map}
use Rattle.std.specs.Prelude.{IfSome, Vec}
use Rattle.outside_io.specs.Words.{AreGiven}

not_all : (ws : List (List ℕ)) (i : ℕ) (word : List ℕ) → Some word ≡ slice_get ws i → (IsUtf8 word → ⊥) → All IsUtf8 ws → ⊥
not_all ws i word is never all = never (subst IsUtf8 (get_or_from_slice_get ws i word [] (sym is)) (all i [] (slice_get_within ws i word (sym is))))

here : {Z : Type 0} (o : Option (List (List ℕ))) (i : ℕ) (f : Option (Vec ℕ Z)) (bytes : Vec ℕ Z) → IfSome o (λ ws. option_map (λ w. w.items) f ≡ slice_get ws i) → f ≡ Some bytes → IfSome o (λ ws. Some bytes.items ≡ slice_get ws i)
here o i f bytes is found = rw found at is

-- a word isn't UTF-8, and so none is taken
pub none_given : {Z : Type 0} (o : Option (List (List ℕ))) (given : List (List ℕ)) (i : ℕ) (f : Option (Vec ℕ Z)) (bytes : Vec ℕ Z) → IfSome o (λ ws. option_map (λ w. w.items) f ≡ slice_get ws i) → f ≡ Some bytes
    → (IsUtf8 bytes.items → ⊥) → given ≡ [] → IfSome o (λ ws. AreGiven ws given)
none_given None given i f bytes is found never gone = tt
none_given (Some ws) given i f bytes is found never gone = inr (not_all ws i bytes.items (here (Some ws) i f bytes is found) never, gone)

more_words : (ws given : List (List ℕ)) (i : ℕ) (word : List ℕ) → given ≡ take i ws → Some word ≡ slice_get ws i → given ++ word ∷ [] ≡ take (i + 1) ws
more_words ws given i word so_far is =
    ap (λ (g : List (List ℕ)). g ++ word ∷ []) so_far ∙ ap (λ (w : List ℕ). take i ws ++ w ∷ []) (sym (get_or_from_slice_get ws i word word (sym is))) ∙ sym (take_more ws i word (slice_get_within ws i word (sym is)))

-- a word more is taken
pub word_given : {Z : Type 0} (o : Option (List (List ℕ))) (given more : List (List ℕ)) (i : ℕ) (f : Option (Vec ℕ Z)) (bytes : Vec ℕ Z) → IfSome o (λ ws. given ≡ take i ws) → IfSome o (λ ws. option_map (λ w. w.items) f ≡ slice_get ws i)
    → f ≡ Some bytes → more ≡ given ++ bytes.items ∷ [] → IfSome o (λ ws. more ≡ take (i + 1) ws)
word_given None given more i f bytes so_far is found e = tt
word_given (Some ws) given more i f bytes so_far is found e = e ∙ more_words ws given i bytes.items so_far (here (Some ws) i f bytes is found)
