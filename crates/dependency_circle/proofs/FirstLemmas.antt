-- There is one first circle, and it is the one that the search through all lists in order finds.
use Rattle.std.proofs.Common.{ℕ, ◌≡◌, ◌<◌, ◌≤◌, ◌+◌, ◌⊎◌, inl, inr, List, [], ◌∷◌, length, zero, suc, arith, ◌∙◌, ap, sym, refl, subst, Bool, true, false, cond, map}
use Rattle.std.specs.Prelude.{nat_lt, Option, Some, None, option_map}
use Rattle.std.specs.List.{find, flat_map, list_all, range_with_len}
use Rattle.std.specs.Option.{option_or}
use Rattle.std.proofs.lemmas.Bool.{cases_eq, and_parts, and_from}
use Rattle.std.proofs.lemmas.Bool.Decides.{nat_tests}
use Rattle.std.proofs.lemmas.List.Folds.{find-append}
use Rattle.law_lists.proofs.Tests.{find-map, find-passes}
use Rattle.ffm_model.specs.Circles.{is_circle, is_way, are_different, lists_up_to, first_circle}
use Rattle.dependency_circle.specs.Circles.{is_not_after, IsFirstCircle, AnswersCircle}
use Rattle.dependency_circle.proofs.Lists.{circle_fits}
use Rattle.dependency_circle.proofs.WayLemmas.{clash}

-- ---- one answer

same_first : (x y : ℕ) (c d : List ℕ) → is_not_after (x ∷ c) (y ∷ d) ≡ true → is_not_after (y ∷ d) (x ∷ c) ≡ true → x ≡ y
same_first x y c d h k = grind (arith, nat_tests)

rest_after : (x y : ℕ) (c d : List ℕ) → x ≡ y → is_not_after (x ∷ c) (y ∷ d) ≡ true → is_not_after c d ≡ true
rest_after x y c d e h = grind (arith, nat_tests)

same_list : (c d : List ℕ) → is_not_after c d ≡ true → is_not_after d c ≡ true → c ≡ d
same_list [] [] h k = refl
same_list [] (y ∷ d) h k = cc
same_list (x ∷ c) [] h k = cc
same_list (x ∷ c) (y ∷ d) h k =
    let e : x ≡ y = same_first x y c d h k in
    ap (λ z. z ∷ c) e ∙ ap (λ t. y ∷ t) (same_list c d (rest_after x y c d e h) (rest_after y x d c (sym e) k))

pub same_first_circle : (n : ℕ) (edge : ℕ → ℕ → Bool) (c d : List ℕ) → IsFirstCircle n edge c → IsFirstCircle n edge d → c ≡ d
same_first_circle n edge c d f g = same_list c d (f.least d g.circle) (g.least c f.circle)

one_answer : (n : ℕ) (edge : ℕ → ℕ → Bool) (a b : Option (List ℕ)) → AnswersCircle n edge a → AnswersCircle n edge b → a ≡ b
one_answer n edge (Some c) (Some d) f g = ap Some (same_first_circle n edge c d f g)
one_answer n edge (Some c) None f g = absurd (clash (is_circle n edge c) (g c) f.circle)
one_answer n edge None (Some d) f g = absurd (clash (is_circle n edge d) (f d) g.circle)
one_answer n edge None None f g = refl

-- ---- what is found in the lists

-- a list is found that comes no later than d
abbrev pub FoundBy : Option (List ℕ) → List ℕ → Type 0
FoundBy (Some c) d = is_not_after c d ≡ true
FoundBy None d = ⊥

-- the lists of at most k + 1 places that begin with one of xs
abbrev pub lists_from : ℕ → ℕ → List ℕ → List (List ℕ)
lists_from n k xs = flat_map (λ x. map (λ l. x ∷ l) (lists_up_to n k)) xs

found_in : (p : List ℕ → Bool) (n k y : ℕ) (d : List ℕ) → FoundBy (find (λ l. p (y ∷ l)) (lists_up_to n k)) d
    → (a m : ℕ) → a ≤ y → y < a + m → FoundBy (find p (lists_from n k (range_with_len a m))) (y ∷ d)
found_in p n k y d inner a zero h low = absurd (omega arith)
found_in p n k y d inner a (suc m) h low =
    let P : Option (List ℕ) → Type 0 = λ o. FoundBy o (y ∷ d) in
    subst P (sym (find-append p (map (λ l. a ∷ l) (lists_up_to n k)) (lists_from n k (range_with_len (a + 1) m)) ∙ ap (λ o. option_or o (find p (lists_from n k (range_with_len (a + 1) m)))) (find-map (λ l. a ∷ l) p (lists_up_to n k))))
    (by (find (λ l. p (a ∷ l)) (lists_up_to n k)) refl (λ above. found_in p n k y d inner (a + 1) m above (omega arith)))
  where
    earlier : (c : List ℕ) → (a ≡ y → ⊥) → is_not_after (a ∷ c) (y ∷ d) ≡ true
    earlier c ne = grind (arith, nat_tests)

    alike : (c : List ℕ) → a ≡ y → is_not_after c d ≡ true → is_not_after (a ∷ c) (y ∷ d) ≡ true
    alike c e k = grind (arith, nat_tests)

    at_first : (o : Option (List ℕ)) → find (λ l. p (a ∷ l)) (lists_up_to n k) ≡ o → a ≡ y → FoundBy o d
    at_first o e same = let P : ℕ → Type 0 = λ x. find (λ l. p (x ∷ l)) (lists_up_to n k) ≡ o in subst (λ t. FoundBy t d) (subst P same e) inner

    above : (a ≡ y → ⊥) → a + 1 ≤ y
    above ne = omega (arith, h, ne)

    at_some : (c : List ℕ) → find (λ l. p (a ∷ l)) (lists_up_to n k) ≡ Some c → (a ≡ y) ⊎ (a ≡ y → ⊥) → is_not_after (a ∷ c) (y ∷ d) ≡ true
    at_some c e (inl same) = alike c same (at_first (Some c) e same)
    at_some c e (inr ne) = earlier c ne

    at_none : find (λ l. p (a ∷ l)) (lists_up_to n k) ≡ None → (a + 1 ≤ y → FoundBy (find p (lists_from n k (range_with_len (a + 1) m))) (y ∷ d)) → (a ≡ y) ⊎ (a ≡ y → ⊥)
        → FoundBy (find p (lists_from n k (range_with_len (a + 1) m))) (y ∷ d)
    at_none e later (inl same) = absurd (at_first None e same)
    at_none e later (inr ne) = later (above ne)

    by : (o : Option (List ℕ)) → find (λ l. p (a ∷ l)) (lists_up_to n k) ≡ o → (a + 1 ≤ y → FoundBy (find p (lists_from n k (range_with_len (a + 1) m))) (y ∷ d))
        → FoundBy (option_or (option_map (λ l. a ∷ l) o) (find p (lists_from n k (range_with_len (a + 1) m)))) (y ∷ d)
    by (Some c) e later = at_some c e (cases_eq a y)
    by None e later = at_none e later (cases_eq a y)

-- the lists hold each list of at most k places below n that passes, and those before it first
found_by : (n k : ℕ) (p : List ℕ → Bool) (d : List ℕ) → list_all (λ x. nat_lt x n) d ≡ true → length d ≤ k → p d ≡ true → FoundBy (find p (lists_up_to n k)) d
found_by n zero p [] low fits h = by (p []) h
  where
    by : (b : Bool) → b ≡ true → FoundBy (cond b (Some []) None) []
    by true e = refl
    by false e = cc
found_by n zero p (y ∷ d) low fits h = absurd (omega arith)
found_by n (suc k) p [] low fits h = by (p []) h
  where
    by : (b : Bool) → b ≡ true → FoundBy (cond b (Some []) (find p (lists_from n k (range_with_len 0 n)))) []
    by true e = refl
    by false e = cc
found_by n (suc k) p (y ∷ d) low fits h =
    by (p []) (found_in p n k y d (found_by n k (λ l. p (y ∷ l)) d (and_parts (nat_lt y n) _ low).1 (omega arith) h) 0 n (omega arith) (below (and_parts (nat_lt y n) _ low).0))
  where
    below : nat_lt y n ≡ true → y < 0 + n
    below e = grind (arith, nat_tests)

    by : (b : Bool) → FoundBy (find p (lists_from n k (range_with_len 0 n))) (y ∷ d) → FoundBy (cond b (Some []) (find p (lists_from n k (range_with_len 0 n)))) (y ∷ d)
    by true f = refl
    by false f = f

-- ---- the definition answers

way_below : (n : ℕ) (edge : ℕ → ℕ → Bool) (home x : ℕ) (ys : List ℕ) → is_way n edge home x ys ≡ true → list_all (λ z. nat_lt z n) ys ≡ true
way_below n edge home x [] h = refl
way_below n edge home x (y ∷ ys) h =
    and_from (nat_lt y n) _ (and_parts (nat_lt y n) _ h).0 (way_below n edge home y ys (and_parts (edge x y) _ (and_parts (nat_lt y n) _ h).1).1)

circle_below : (n : ℕ) (edge : ℕ → ℕ → Bool) (c : List ℕ) → is_circle n edge c ≡ true → list_all (λ z. nat_lt z n) c ≡ true
circle_below n edge [] h = refl
circle_below n edge (x ∷ xs) h =
    and_from (nat_lt x n) _ (and_parts (nat_lt x n) _ h).0 (way_below n edge x x xs (and_parts (are_different (x ∷ xs)) _ (and_parts (nat_lt x n) _ h).1).1)

circle_found : (n : ℕ) (edge : ℕ → ℕ → Bool) (d : List ℕ) → is_circle n edge d ≡ true → FoundBy (first_circle n edge) d
circle_found n edge d h = found_by n n (is_circle n edge) d (circle_below n edge d h) (circle_fits n edge d h) h

pub first_answers : (n : ℕ) (edge : ℕ → ℕ → Bool) → AnswersCircle n edge (first_circle n edge)
first_answers n edge = by (first_circle n edge) refl
  where
    none : (b : Bool) → (b ≡ true → ⊥) → b ≡ false
    none true h = absurd (h refl)
    none false h = refl

    by : (o : Option (List ℕ)) → first_circle n edge ≡ o → AnswersCircle n edge o
    by (Some c) e = record {
      circle = find-passes (is_circle n edge) (lists_up_to n n) c e;
      least = λ d h. let P : Option (List ℕ) → Type 0 = λ t. FoundBy t d in subst P e (circle_found n edge d h);
    }
    by None e = λ d. none (is_circle n edge d) (λ (h : is_circle n edge d ≡ true). let P : Option (List ℕ) → Type 0 = λ t. FoundBy t d in subst P e (circle_found n edge d h))

-- an answer is the first circle
pub answer_is : (n : ℕ) (edge : ℕ → ℕ → Bool) (o : Option (List ℕ)) → AnswersCircle n edge o → o ≡ first_circle n edge
answer_is n edge o h = one_answer n edge o (first_circle n edge) h (first_answers n edge)
