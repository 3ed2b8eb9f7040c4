-- The numbers of the partitions, one after the other, and texts in a row.
use Rattle.std.proofs.Common.{ℕ, ◌≡◌, ◌<◌, ◌≤◌, ◌+◌, ◌-◌, List, [], ◌∷◌, ◌++◌, append_assoc, arith, suc, refl, ap, ◌∙◌, sym}
use Rattle.std.specs.List.{flat_map, range_with_len}
use Rattle.std.proofs.lemmas.List.{append-nil}
use Rattle.std.proofs.lemmas.List.Concat.{flat_map-cons}
use Rattle.system_texts.specs.Texts.{numbers}

-- a number and those after it
unfoldable pub left : ℕ → List ℕ
left n = range_with_len n (17 - n)

pub left_first : left 1 ≡ numbers
unfolding left numbers
left_first = refl

none_left : (n : ℕ) → 17 ≤ n → left n ≡ []
unfolding left
none_left n all = let e : 17 - n ≡ 0 = omega arith in rw e refl

one_less : (n : ℕ) → n < 17 → left n ≡ n ∷ left (n + 1)
unfolding left
one_less n lt = let e : 17 - n ≡ suc (17 - (n + 1)) = omega arith in rw e refl

-- a text grows by one item
pub left_more : (f : ℕ → List ℕ) (n : ℕ) (before now whole : List ℕ) → n < 17 → now ≡ before ++ f n → before ++ flat_map f (left n) ≡ whole → now ++ flat_map f (left (n + 1)) ≡ whole
left_more f n before now whole lt grows all =
    let e : flat_map f (left n) ≡ f n ++ flat_map f (left (n + 1)) = ap (flat_map f) (one_less n lt) ∙ flat_map-cons f n (left (n + 1)) in
    ap (λ (t : List ℕ). t ++ flat_map f (left (n + 1))) grows ∙ (append_assoc before (f n) (flat_map f (left (n + 1))) ∙ (ap (λ (t : List ℕ). before ++ t) (sym e) ∙ all))

-- no item is left
pub left_end : (f : ℕ → List ℕ) (n : ℕ) (now whole : List ℕ) → 17 ≤ n → now ++ flat_map f (left n) ≡ whole → now ≡ whole
left_end f n now whole end all = sym (append-nil now) ∙ (sym (ap (λ (ns : List ℕ). now ++ flat_map f ns) (none_left n end)) ∙ all)

-- five texts in a row
pub five : (a b c d e t₀ t₁ t₂ t₃ t₄ t₅ : List ℕ) → t₀ ≡ [] → t₁ ≡ t₀ ++ a → t₂ ≡ t₁ ++ b → t₃ ≡ t₂ ++ c → t₄ ≡ t₃ ++ d → t₅ ≡ t₄ ++ e → t₅ ≡ a ++ (b ++ (c ++ (d ++ e)))
five a b c d e t₀ t₁ t₂ t₃ t₄ t₅ none one two three four end =
    rw (end, four, three, two, one, none, append_assoc ((a ++ b) ++ c) d e, append_assoc (a ++ b) c (d ++ e), append_assoc a b (c ++ (d ++ e))) refl
