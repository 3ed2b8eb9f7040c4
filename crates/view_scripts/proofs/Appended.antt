-- Lists that grow.
use Rattle.std.proofs.Common.{ℕ, ◌≡◌, ◌+◌, ◌<◌, List, [], ◌∷◌, ◌++◌, ⊎_elim, drop, get_or, length, arith, ap, subst, sym, ◌∙◌, append_assoc, map}
use Rattle.std.specs.List.{enumerate_from}
use Rattle.std.proofs.lemmas.Bool.{cases_eq}
use Rattle.std.proofs.lemmas.List.{drop_more, get_or_append_left, get_or_push}

-- the row of one more item
pub next-row : {X Y : Type 0} (f : ℕ × X → Y) (xs : List X) (k : ℕ) (x : X) (rows new whole : List Y) → k < length xs → x ≡ get_or xs k x → new ≡ rows ++ f (k, x) ∷ []
    → rows ++ map f (enumerate_from k (drop k xs)) ≡ whole → new ++ map f (enumerate_from (k + 1) (drop (k + 1) xs)) ≡ whole
next-row {X} {Y} f xs k x rows new whole low is more so =
    let rest : List Y = map f (enumerate_from (k + 1) (drop (k + 1) xs)) in
    ap (λ (u : List Y). u ++ rest) more ∙ append_assoc rows (f (k, x) ∷ []) rest
    ∙ ap (λ (l : List X). rows ++ map f (enumerate_from k l)) (sym (drop_more xs k x low ∙ ap (λ (y : X). y ∷ drop (k + 1) xs) (sym is)))
    ∙ so

-- a fact of each item, of one more
pub pushed : {X : Type 0} (P : ℕ → X → Type 0) (xs : List X) (x d : X) (n : ℕ) → length xs ≡ n → ((a : ℕ) → a < n → P a (get_or xs a d)) → P n x → (a : ℕ) → a < n + 1 → P a (get_or (xs ++ x ∷ []) a d)
pushed {X} P xs x d n long each one a low =
    ⊎_elim
    (λ e. subst (λ (k : ℕ). P k (get_or (xs ++ x ∷ []) k d)) (sym e) (subst (P n) (sym (get_or_push xs x d n long)) one))
    (λ other.
    let below : a < n = omega arith in
    let there : a < length xs = omega (arith, long) in
    subst (P a) (sym (get_or_append_left xs (x ∷ []) d a there)) (each a below))
    (cases_eq a n)
