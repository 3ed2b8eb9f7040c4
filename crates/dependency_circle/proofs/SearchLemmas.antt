-- The search for ways home: what holds of the places found.
use Rattle.std.proofs.Common.{ℕ, ◌≡◌, ◌<◌, ◌≤◌, ◌+◌, ◌-◌, ◌&&◌, ◌||◌, ◌⊎◌, inl, inr, not, List, [], ◌∷◌, ◌++◌, length, get_or, take, arith, ◌∙◌, ap, sym, refl, subst, Bool, true, false, filter, cond, zero, suc, length-append}
use Rattle.std.specs.Prelude.{◌==◌}
use Rattle.std.specs.List.{list_all, range_with_len}
use Rattle.std.proofs.lemmas.Bool.Decides.{nat_tests}
use Rattle.std.proofs.lemmas.List.{take_all, take_more, take-append-le, get_or_default}
use Rattle.std.proofs.lemmas.List.Folds.{list_any-append}
use Rattle.std.proofs.lemmas.Map.Steps.{length-le_from_distinct_below}
use Rattle.std.proofs.lemmas.Bool.{and_from, and_parts, cases_Bool, or_left, or_right, eqb-true}
use Rattle.law_lists.proofs.Bools.{or_rest}
use Rattle.ffm_model.specs.Circles.{is_new, are_different}
use Rattle.dependency_circle.specs.Ways.{marked, are_apart, is_unmarked_before, IsMarked, MarksMore, TellsWays}
use Rattle.dependency_circle.proofs.Lists.{distinct}
use Rattle.dependency_circle.proofs.WayLemmas.{MarkedWay, IsSound, reached, way_by, different-append}
use Rattle.dependency_circle.proofs.SpreadLemmas.{is_fresh, spread_from, spread_is, spread_marked, spreads, filter_marked, range_below}

or_by : {P : Type 0} (a b : Bool) → (a || b) ≡ true → (a ≡ true → P) → (a ≡ false → b ≡ true → P) → P
or_by true b h f g = f refl
or_by false b h f g = g refl h

all_mono : (p q : ℕ → Bool) (zs : List ℕ) → ((z : ℕ) → p z ≡ true → q z ≡ true) → list_all p zs ≡ true → list_all q zs ≡ true
all_mono p q [] f h = refl
all_mono p q (z ∷ zs) f h = and_from (q z) _ (f z (and_parts (p z) _ h).0) (all_mono p q zs f (and_parts (p z) _ h).1)

marked_more : (old more : List ℕ) (z : ℕ) → marked old z ≡ true → marked (old ++ more) z ≡ true
marked_more old more z h = list_any-append (λ y. z == y) old more ∙ or_left (marked old z) _ h

-- a place that was added
record Added (n : ℕ) (edge : ℕ → ℕ → Bool) (front : List ℕ) (y : ℕ) (old : List ℕ) (x : ℕ) : Type 0 where
  low : x < n
  unmarked : marked old x ≡ false
  new : is_new x front ≡ true
  step : edge x y ≡ true

added : (n : ℕ) (edge : ℕ → ℕ → Bool) (front : List ℕ) (y : ℕ) (old : List ℕ) (x : ℕ) → marked old x ≡ false → marked (spread_from n edge front y old) x ≡ true → Added n edge front y old x
added n edge front y old x unmarked h =
    let there : (marked old x || (is_fresh edge front y old x && marked (range_with_len 0 n) x)) ≡ true =
    ap (λ b. marked old x || b) (sym (filter_marked (is_fresh edge front y old) (range_with_len 0 n) x)) ∙ sym (list_any-append (λ z. x == z) old _) ∙ h in
    let fresh : (is_fresh edge front y old x && marked (range_with_len 0 n) x) ≡ true = or_rest (marked old x) _ unmarked there in
    let is : is_fresh edge front y old x ≡ true = (and_parts (is_fresh edge front y old x) _ fresh).0 in
    let two : (is_new x front && edge x y) ≡ true = (and_parts (not (marked old x)) _ is).1 in
    record { low = range_below n x (and_parts (is_fresh edge front y old x) _ fresh).1; unmarked = unmarked; new = (and_parts (is_new x front) _ two).0; step = (and_parts (is_new x front) _ two).1 }

kept_way : (n : ℕ) (edge : ℕ → ℕ → Bool) (home : ℕ) (front : List ℕ) (p q : ℕ → Bool) (x : ℕ) → ((z : ℕ) → p z ≡ true → q z ≡ true) → MarkedWay n edge home front p x → MarkedWay n edge home front q x
kept_way n edge home front p q x f w = record { below = w.below; homeward = w.homeward; all_marked = all_mono p q (x ∷ w.homeward.rest) f w.all_marked }

one_step : (n : ℕ) (edge : ℕ → ℕ → Bool) (home : ℕ) (front : List ℕ) (y : ℕ) (old : List ℕ) (x : ℕ) → IsSound n edge home front (marked old)
    → marked (spread_from n edge front y old) x ≡ true → Added n edge front y old x → (y ≡ home) ⊎ (marked old y ≡ true) → MarkedWay n edge home front (marked (spread_from n edge front y old)) x
one_step n edge home front y old x sound there a (inl e) = record {
  below = a.low;
  homeward = record { rest = []; way = ap (edge x) (sym e) ∙ a.step; different = refl; apart = and_from (is_new x front) true a.new refl };
  all_marked = and_from (marked (spread_from n edge front y old) x) true there refl;
}
one_step n edge home front y old x sound there a (inr h) =
    let w : MarkedWay n edge home front (marked old) y = sound y h in record {
      below = a.low;
      homeward = way_by n edge home front (marked old) x y a.unmarked a.new a.step w;
      all_marked = and_from (marked (spread_from n edge front y old) x) _ there
          (all_mono (marked old) (marked (spread_from n edge front y old)) (y ∷ w.homeward.rest) (marked_more old _) w.all_marked);
    }

pub spread_sound : (n : ℕ) (edge : ℕ → ℕ → Bool) (home : ℕ) (front : List ℕ) (y : ℕ) (old : List ℕ) → IsSound n edge home front (marked old)
    → (y ≡ home) ⊎ (marked old y ≡ true) → IsSound n edge home front (marked (spread_from n edge front y old))
spread_sound n edge home front y old sound from x h = by (cases_Bool (marked old x))
  where
    by : (marked old x ≡ true) ⊎ (marked old x ≡ false) → MarkedWay n edge home front (marked (spread_from n edge front y old)) x
    by (inl e) = kept_way n edge home front (marked old) (marked (spread_from n edge front y old)) x (marked_more old _) (sound x e)
    by (inr e) = one_step n edge home front y old x sound h (added n edge front y old x e h) from

-- each place before home, or before one of the first i that were found, is found
pub record Done (n : ℕ) (edge : ℕ → ℕ → Bool) (home : ℕ) (front : List ℕ) (found : List ℕ) (i : ℕ) : Type 0 where
  pub done : (x y : ℕ) → x < n → is_new x front ≡ true → edge x y ≡ true → ((y == home) || marked (take i found) y) ≡ true → marked found x ≡ true

pub spread_done : (n : ℕ) (edge : ℕ → ℕ → Bool) (home : ℕ) (front : List ℕ) (found : List ℕ) (i : ℕ) → i < length found → Done n edge home front found i
    → Done n edge home front (spread_from n edge front (get_or found i 0) found) (i + 1)
spread_done n edge home front found i low before = record { done = λ x y under new step from. one x y under new step (shape y from) }
  where
    front_is : (more : List ℕ) → take (i + 1) (found ++ more) ≡ take i found ++ get_or found i 0 ∷ []
    front_is more = let fits : i + 1 ≤ length found = omega arith in rw take-append-le (take_more found i 0 low)

    regroup : (a b c : Bool) → (a || (b || (c || false))) ≡ ((a || b) || c)
    regroup true b c = refl
    regroup false true c = refl
    regroup false false true = refl
    regroup false false false = refl

    shape : (y : ℕ) → ((y == home) || marked (take (i + 1) (spread_from n edge front (get_or found i 0) found)) y) ≡ true → (((y == home) || marked (take i found) y) || (y == get_or found i 0)) ≡ true
    shape y h = sym (regroup (y == home) (marked (take i found) y) (y == get_or found i 0))
        ∙ ap (λ b. (y == home) || b) (sym (list_any-append (λ z. y == z) (take i found) (get_or found i 0 ∷ []))) ∙ ap (λ t. (y == home) || marked t y) (sym (front_is _)) ∙ h

    one : (x y : ℕ) → x < n → is_new x front ≡ true → edge x y ≡ true → (((y == home) || marked (take i found) y) || (y == get_or found i 0)) ≡ true
        → marked (spread_from n edge front (get_or found i 0) found) x ≡ true
    one x y under new step h = or_by ((y == home) || marked (take i found) y) (y == get_or found i 0) h
        (λ e. marked_more found _ x (before.done x y under new step e))
        (λ _ e. spreads n edge front (get_or found i 0) found x under new (ap (edge x) (sym (eqb-true y (get_or found i 0) e)) ∙ step))

-- ---- the places found differ
all_new : (p : ℕ → Bool) (old xs : List ℕ) → ((z : ℕ) → p z ≡ true → is_new z old ≡ true) → are_apart old (filter p xs) ≡ true
all_new p old [] f = refl
all_new p old (x ∷ xs) f = by (p x) (f x) (all_new p old xs f)
  where
    by : (b : Bool) → (b ≡ true → is_new x old ≡ true) → are_apart old (filter p xs) ≡ true → are_apart old (cond b (x ∷ filter p xs) (filter p xs)) ≡ true
    by true g h = and_from (is_new x old) _ (g refl) h
    by false g h = h

not_before : (p : ℕ → Bool) (x a n : ℕ) → x < a → is_new x (filter p (range_with_len a n)) ≡ true
not_before p x a zero h = refl
not_before p x a (suc n) h = by (p a) (not_before p x (a + 1) n (omega arith))
  where
    step : (m : Bool) → not m ≡ true → not ((x == a) || m) ≡ true
    step m k = grind (arith, nat_tests)

    by : (b : Bool) → is_new x (filter p (range_with_len (a + 1) n)) ≡ true → is_new x (cond b (a ∷ filter p (range_with_len (a + 1) n)) (filter p (range_with_len (a + 1) n))) ≡ true
    by true k = step (marked (filter p (range_with_len (a + 1) n)) x) k
    by false k = k

range_different : (p : ℕ → Bool) (a n : ℕ) → are_different (filter p (range_with_len a n)) ≡ true
range_different p a zero = refl
range_different p a (suc n) = by (p a) (range_different p (a + 1) n)
  where
    by : (b : Bool) → are_different (filter p (range_with_len (a + 1) n)) ≡ true → are_different (cond b (a ∷ filter p (range_with_len (a + 1) n)) (filter p (range_with_len (a + 1) n))) ≡ true
    by true k = and_from (is_new a (filter p (range_with_len (a + 1) n))) _ (not_before p a (a + 1) n (omega arith)) k
    by false k = k

pub spread_different : (n : ℕ) (edge : ℕ → ℕ → Bool) (front : List ℕ) (y : ℕ) (old : List ℕ) → are_different old ≡ true → are_different (spread_from n edge front y old) ≡ true
spread_different n edge front y old h =
    different-append old _ ∙ and_from (are_different old) _ h (and_from (are_different (filter (is_fresh edge front y old) (range_with_len 0 n))) _ (range_different _ 0 n)
    (all_new (is_fresh edge front y old) old (range_with_len 0 n) (λ z e. (and_parts (not (marked old z)) _ e).0)))

pub found_fits : (n : ℕ) (edge : ℕ → ℕ → Bool) (home : ℕ) (front found : List ℕ) → are_different found ≡ true → IsSound n edge home front (marked found) → length found ≤ n
found_fits n edge home front found h sound = length-le_from_distinct_below found n (distinct found h) (λ q e. (sound q e).below)

-- ---- the search itself
pub record Search (n : ℕ) (edge : ℕ → ℕ → Bool) (home : ℕ) (front found : List ℕ) (i : ℕ) : Type 0 where
  pub sound : IsSound n edge home front (marked found)
  pub done : Done n edge home front found i
  pub different : are_different found ≡ true
  pub within : i ≤ length found

at_marked : (xs : List ℕ) (i : ℕ) → i < length xs → marked xs (get_or xs i 0) ≡ true
at_marked [] i h = absurd (omega arith)
at_marked (x ∷ xs) zero h = ap (λ b. b || marked xs x) (same x)
  where
    same : (x : ℕ) → (x == x) ≡ true
    same x = grind (arith, nat_tests)
at_marked (x ∷ xs) (suc i) h = or_right (get_or xs i 0 == x) _ (at_marked xs i (omega arith))

first_search : (n : ℕ) (edge : ℕ → ℕ → Bool) (home : ℕ) (front : List ℕ) → Search n edge home front (spread_from n edge front home []) 0
first_search n edge home front = record {
  sound = spread_sound n edge home front home [] (λ x h. absurd (nothing h)) (inl refl);
  done = record { done = λ x y low new step from. spreads n edge front home [] x low new (ap (edge x) (sym (eqb-true y home (left (y == home) from))) ∙ step) };
  different = spread_different n edge front home [] refl;
  within = omega arith;
}
  where
    nothing : false ≡ true → ⊥
    nothing h = cc

    left : (b : Bool) → (b || false) ≡ true → b ≡ true
    left true h = refl
    left false h = h

pub search_init : (n : ℕ) (edge : ℕ → ℕ → Bool) (home : ℕ) (front old now : List ℕ) (before after : List Bool) → old ≡ [] → IsMarked n front [] before
    → now ≡ old ++ filter (is_unmarked_before before edge home) (range_with_len 0 n) → MarksMore n edge home before after
    → IsMarked n front now after × Search n edge home front now 0
search_init n edge home front old now before after e h is more =
    let from_none : now ≡ spread_from n edge front home [] =
    spread_is n edge front home [] now before h (is ∙ ap (λ t. t ++ filter (is_unmarked_before before edge home) (range_with_len 0 n)) e) in
    let P : List ℕ → Type 0 = λ t. Search n edge home front t 0 in
    (spread_marked n edge front home [] now before after h more from_none, subst P (sym from_none) (first_search n edge home front))

next_search : (n : ℕ) (edge : ℕ → ℕ → Bool) (home : ℕ) (front found : List ℕ) (i : ℕ) → i < length found → Search n edge home front found i
    → Search n edge home front (spread_from n edge front (get_or found i 0) found) (i + 1)
next_search n edge home front found i low s = record {
  sound = spread_sound n edge home front (get_or found i 0) found s.sound (inr (at_marked found i low));
  done = spread_done n edge home front found i low s.done;
  different = spread_different n edge front (get_or found i 0) found s.different;
  within = longer found (filter (is_fresh edge front (get_or found i 0) found) (range_with_len 0 n)) low;
}
  where
    longer : (xs ys : List ℕ) → i < length xs → i + 1 ≤ length (xs ++ ys)
    longer xs ys h = omega (arith, length-append xs ys)

pub search_step : (n : ℕ) (edge : ℕ → ℕ → Bool) (home : ℕ) (front found now : List ℕ) (before after : List Bool) (i y : ℕ) → i < length found
    → IsMarked n front found before × Search n edge home front found i → y ≡ get_or found i y
    → now ≡ found ++ filter (is_unmarked_before before edge y) (range_with_len 0 n) → MarksMore n edge y before after
    → IsMarked n front now after × Search n edge home front now (i + 1)
search_step n edge home front found now before after i y low s at is more =
    let spread : now ≡ spread_from n edge front y found = spread_is n edge front y found now before s.0 is in
    let P : List ℕ → Type 0 = λ t. Search n edge home front t (i + 1) in (
      spread_marked n edge front y found now before after s.0 more spread,
      subst P (sym (spread ∙ ap (λ k. spread_from n edge front k found) (at ∙ get_or_default found i y 0 low))) (next_search n edge home front found i low s.1),
    )

pub search_smaller : (n : ℕ) (edge : ℕ → ℕ → Bool) (home : ℕ) (front found : List ℕ) (i : ℕ) → i < length found → Search n edge home front found i → n - (i + 1) < n - i
search_smaller n edge home front found i low s =
    let fits : length found ≤ n = found_fits n edge home front found s.different s.sound in omega arith

pub search_ends : (n : ℕ) (edge : ℕ → ℕ → Bool) (home : ℕ) (front found : List ℕ) (i : ℕ) (marks : List Bool) → length found ≤ i → Search n edge home front found i → IsMarked n front found marks
    → TellsWays n edge home front marks
search_ends n edge home front found i marks past s h = record {
  len = h.len;
  found = λ x low new e. (s.sound x (second (marked found x) (is_new x front) new (sym (h.told x low) ∙ e))).homeward;
  all = λ x low w. h.told x low ∙ or_left (marked found x) _ (reached n edge home front (marked found)
      (λ u v under new step from. s.done.done u v under new step (ap (λ t. (v == home) || marked t v) (take_all i found past) ∙ from)) x w.rest low w.way w.apart);
}
  where
    second : (m w : Bool) → w ≡ true → (m || not w) ≡ true → m ≡ true
    second true w e h = refl
    second false true e h = h
    second false false e h = cc
