-- A step of a loop that looks for the first item that an earlier one is the same as.
use Rattle.std.proofs.Common.{ℕ, ◌≡◌, ◌<◌, ◌+◌, ◌||◌, not, List, [], ◌∷◌, ◌++◌, length, take, drop, get_or, arith, ◌∙◌, ap, sym, refl, Bool, true, false, add-one, drop-cons, cond, Some}
use Rattle.std.specs.Prelude.{◌==◌}
use Rattle.std.specs.List.{list_any}
use Rattle.std.specs.Ordering.{nat_cmp}
use Rattle.std.specs.BTreeMap.{is_at}
use Rattle.std.proofs.lemmas.Bool.Decides.{nat_tests}
use Rattle.std.proofs.lemmas.List.{take_more}
use Rattle.std.proofs.lemmas.List.Folds.{list_any-append}
use Rattle.ffm_model.specs.Repeats.{first, repeated_after, only_if}

unrepeated : {A : Type 0} (same : A → A → Bool) (front rest : List A) (x : A) → list_any (λ y. same y x) front ≡ false
    → repeated_after same front (x ∷ rest) ≡ repeated_after same (front ++ x ∷ []) rest
unrepeated same front rest x e = ap (λ b. only_if b x ++ repeated_after same (front ++ x ∷ []) rest) e

pub repeated_step : {A : Type 0} (same : A → A → Bool) (xs : List A) (i : ℕ) (d : A) → i < length xs
    → list_any (λ y. same y (get_or xs i d)) (take i xs) ≡ false
    → first (repeated_after same (take (i + 1) xs) (drop (i + 1) xs)) ≡ first (repeated_after same (take i xs) (drop i xs))
repeated_step same xs i d below new =
    let rest : drop i xs ≡ get_or xs i d ∷ drop (i + 1) xs = rw (add-one, drop-cons xs i d below) refl in
    let front : take (i + 1) xs ≡ take i xs ++ get_or xs i d ∷ [] = take_more xs i d below in
    ap first (ap (λ t. repeated_after same t (drop (i + 1) xs)) front
    ∙ sym (unrepeated same (take i xs) (drop (i + 1) xs) (get_or xs i d) new)
    ∙ ap (repeated_after same (take i xs)) (sym rest))

repeats_here : {A : Type 0} (same : A → A → Bool) (front rest : List A) (x : A) → list_any (λ y. same y x) front ≡ true
    → first (repeated_after same front (x ∷ rest)) ≡ Some x
repeats_here same front rest x e = ap (λ b. first (only_if b x ++ repeated_after same (front ++ x ∷ []) rest)) e

pub repeated_found : {A : Type 0} (same : A → A → Bool) (xs : List A) (i : ℕ) (d : A) → i < length xs
    → list_any (λ y. same y (get_or xs i d)) (take i xs) ≡ true
    → first (repeated_after same (take i xs) (drop i xs)) ≡ Some (get_or xs i d)
repeated_found same xs i d below old =
    let rest : drop i xs ≡ get_or xs i d ∷ drop (i + 1) xs = rw (add-one, drop-cons xs i d below) refl in
    ap (λ t. first (repeated_after same (take i xs) t)) rest ∙ repeats_here same (take i xs) (drop (i + 1) xs) (get_or xs i d) old

either : (a b : Bool) → cond b true a ≡ (a || (b || false))
either true true = refl
either true false = refl
either false true = refl
either false false = refl

-- test y q: the item y has the key q. The keys of the items so far, with one more
pub seen_more : {A K : Type 0} (test : A → K → Bool) (xs : List A) (i : ℕ) (d : A) (had has : K → Bool) → i < length xs
    → ((q : K) → has q ≡ cond (test (get_or xs i d) q) true (had q))
    → ((q : K) → had q ≡ list_any (λ y. test y q) (take i xs))
    → (q : K) → has q ≡ list_any (λ y. test y q) (take (i + 1) xs)
seen_more test xs i d had has below step so_far q =
    step q
    ∙ either (had q) (test (get_or xs i d) q)
    ∙ ap (λ b. b || (test (get_or xs i d) q || false)) (so_far q)
    ∙ sym (list_any-append (λ y. test y q) (take i xs) (get_or xs i d ∷ []))
    ∙ ap (list_any (λ y. test y q)) (sym (take_more xs i d below))

pub is_at_number : (a b : ℕ) → is_at (nat_cmp a) b ≡ (a == b)
is_at_number a b = grind (arith, nat_tests)

-- what `insert` says of a key
pub was_new : (b r : Bool) → r ≡ not b → r ≡ true → b ≡ false
was_new true r e f = cc
was_new false r e f = refl

pub was_old : (b r : Bool) → r ≡ not b → r ≡ false → b ≡ true
was_old true r e f = refl
was_old false r e f = cc
