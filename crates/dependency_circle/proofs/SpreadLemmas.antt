-- What the places that are added have, and how marks grow.
use Rattle.std.proofs.Common.{ℕ, ◌≡◌, ◌<◌, ◌≤◌, ◌+◌, ◌&&◌, ◌||◌, ◌⊎◌, inl, inr, not, List, [], ◌∷◌, ◌++◌, length, get_or, set, arith, ◌∙◌, ap, sym, refl, subst, Bool, true, false, append_assoc, filter, cond, length-set, add-one, zero, suc}
use Rattle.std.specs.Prelude.{◌==◌}
use Rattle.std.specs.List.{range_with_len}
use Rattle.std.proofs.lemmas.Bool.{cases_eq, eqb-true, or_right}
use Rattle.std.proofs.lemmas.List.{append-nil, get_or-set_same, get_or-set_other}
use Rattle.std.proofs.lemmas.List.Folds.{list_any-append}
use Rattle.std.proofs.lemmas.List.Elements.{filter-append}
use Rattle.std.proofs.lemmas.Bool.Decides.{nat_tests}
use Rattle.law_lists.proofs.Lists.{range_with_len-more}
use Rattle.ffm_model.specs.Circles.{is_new}
use Rattle.dependency_circle.specs.Ways.{marked, is_unmarked_before, IsMarked, MarksMore}

-- x is none of front and none of those found, and has an edge to y
abbrev pub is_fresh : (ℕ → ℕ → Bool) → List ℕ → ℕ → List ℕ → ℕ → Bool
is_fresh edge front y found x = not (marked found x) && (is_new x front && edge x y)

-- the places found once those before y are added
abbrev pub spread_from : ℕ → (ℕ → ℕ → Bool) → List ℕ → ℕ → List ℕ → List ℕ
spread_from n edge front y old = old ++ filter (is_fresh edge front y old) (range_with_len 0 n)

range_more : (a n : ℕ) → range_with_len a (n + 1) ≡ range_with_len a n ++ (a + n) ∷ []
range_more a n = rw add-one (range_with_len-more a n)

filtered_more : (p : ℕ → Bool) (x : ℕ) → filter p (range_with_len 0 (x + 1)) ≡ filter p (range_with_len 0 x) ++ cond (p x) (x ∷ []) []
filtered_more p x = ap (filter p) (range_more 0 x) ∙ filter-append p (range_with_len 0 x) ((0 + x) ∷ []) ∙ ap (λ k. filter p (range_with_len 0 x) ++ cond (p k) (k ∷ []) []) (omega arith)

-- ---- the loop that adds the places before y

-- what is found and marked once the places below x are through
pub record Spread (edge : ℕ → ℕ → Bool) (y : ℕ) (old : List ℕ) (before : List Bool) (found : List ℕ) (marks : List Bool) (x : ℕ) : Type 0 where
  pub found_is : found ≡ old ++ filter (is_unmarked_before before edge y) (range_with_len 0 x)
  pub len : length marks ≡ length before
  pub past : (z : ℕ) → z < x → get_or marks z false ≡ (get_or before z false || edge z y)
  pub rest : (z : ℕ) → x ≤ z → get_or marks z false ≡ get_or before z false

-- what holds below a place and at it, holds below the next
pub below_or_at : (P : ℕ → Type 0) (x : ℕ) → ((z : ℕ) → z < x → P z) → P x → (z : ℕ) → z < x + 1 → P z
below_or_at P x below here z h = by (cases_eq x z)
  where
    under : (x ≡ z → ⊥) → z < x
    under ne = omega (arith, h, ne)

    by : (x ≡ z) ⊎ (x ≡ z → ⊥) → P z
    by (inl e) = subst P e here
    by (inr ne) = below z (under ne)

pub took : (edge : ℕ → ℕ → Bool) (y : ℕ) (old : List ℕ) (before : List Bool) (found now : List ℕ) (marks after : List Bool) (x : ℕ) (r : Bool)
    → x < length before → Spread edge y old before found marks x → r ≡ is_unmarked_before marks edge y x → r ≡ true → now ≡ found ++ x ∷ [] → after ≡ set marks x true
    → Spread edge y old before now after (x + 1)
took edge y old before found now marks after x r low s want taken more at =
    let same : is_unmarked_before marks edge y x ≡ is_unmarked_before before edge y x = ap (λ b. not b && edge x y) (s.rest x (omega arith)) in
    let fresh : is_unmarked_before before edge y x ≡ true = sym same ∙ sym want ∙ taken in
    let p : ℕ → Bool = is_unmarked_before before edge y in
    let low' : x < length marks = omega (arith, s.len) in
    let apart : (z : ℕ) → (z ≡ x → ⊥) → get_or after z false ≡ get_or marks z false = λ z ne. ap (λ t. get_or t z false) at ∙ get_or-set_other marks x z true false ne in
    record {
      found_is = more ∙ ap (λ t. t ++ x ∷ []) s.found_is ∙ append_assoc old (filter p (range_with_len 0 x)) (x ∷ [])
          ∙ ap (λ b. old ++ (filter p (range_with_len 0 x) ++ cond b (x ∷ []) [])) (sym fresh) ∙ ap (λ t. old ++ t) (sym (filtered_more p x));
      len = ap length at ∙ length-set marks x true ∙ s.len;
      past = below_or_at (λ z. get_or after z false ≡ (get_or before z false || edge z y)) x
          (λ z h. apart z (λ e. differ z h e) ∙ s.past z h)
          (ap (λ t. get_or t x false) at ∙ get_or-set_same marks x true false low' ∙ sym (either (get_or before x false) (edge x y) fresh));
      rest = λ z h. apart z (λ e. beyond z h e) ∙ s.rest z (omega (arith, h));
    }
  where
    differ : (z : ℕ) → z < x → z ≡ x → ⊥
    differ z h e = omega (arith, h, e)

    beyond : (z : ℕ) → x + 1 ≤ z → z ≡ x → ⊥
    beyond z h e = omega (arith, h, e)

    either : (m e : Bool) → (not m && e) ≡ true → (m || e) ≡ true
    either true e h = refl
    either false e h = h

pub left : (edge : ℕ → ℕ → Bool) (y : ℕ) (old : List ℕ) (before : List Bool) (found : List ℕ) (marks : List Bool) (x : ℕ) (r : Bool)
    → Spread edge y old before found marks x → r ≡ is_unmarked_before marks edge y x → r ≡ false → Spread edge y old before found marks (x + 1)
left edge y old before found marks x r s want passed =
    let same : is_unmarked_before marks edge y x ≡ is_unmarked_before before edge y x = ap (λ b. not b && edge x y) (s.rest x (omega arith)) in
    let stale : is_unmarked_before before edge y x ≡ false = sym same ∙ sym want ∙ passed in
    let p : ℕ → Bool = is_unmarked_before before edge y in
    record {
      found_is = s.found_is ∙ ap (λ t. old ++ t) (sym (append-nil (filter p (range_with_len 0 x))))
          ∙ ap (λ b. old ++ (filter p (range_with_len 0 x) ++ cond b (x ∷ []) [])) (sym stale) ∙ ap (λ t. old ++ t) (sym (filtered_more p x));
      len = s.len;
      past = below_or_at (λ z. get_or marks z false ≡ (get_or before z false || edge z y)) x s.past
          (s.rest x (omega arith) ∙ unchanged (get_or before x false) (edge x y) stale);
      rest = λ z h. s.rest z (omega (arith, h));
    }
  where
    unchanged : (m e : Bool) → (not m && e) ≡ false → m ≡ (m || e)
    unchanged true e h = refl
    unchanged false e h = sym h

-- ---- what stands among those that were added
pub filter_marked : (p : ℕ → Bool) (xs : List ℕ) (z : ℕ) → marked (filter p xs) z ≡ (p z && marked xs z)
filter_marked p [] z = and_false (p z)
  where
    and_false : (b : Bool) → false ≡ (b && false)
    and_false true = refl
    and_false false = refl
filter_marked p (x ∷ xs) z =
    inner (p x) (filter p xs) ∙ split (p x) (p z) (z == x) (marked (filter p xs) z) (marked xs z) (filter_marked p xs z) (λ e. ap p (eqb-true z x e))
  where
    inner : (b : Bool) (rest : List ℕ) → marked (cond b (x ∷ rest) rest) z ≡ cond b ((z == x) || marked rest z) (marked rest z)
    inner true rest = refl
    inner false rest = refl

    split : (b c e f m : Bool) → f ≡ (c && m) → (e ≡ true → c ≡ b) → cond b (e || f) f ≡ (c && (e || m))
    split true c false f m h k = h
    split true true true f m h k = refl
    split true false true f m h k = sym (k refl)
    split false c false f m h k = h
    split false true true f m h k = absurd (clash (k refl))
      where
        clash : true ≡ false → ⊥
        clash e = cc
    split false false true f m h k = h

in_range : (a n z : ℕ) → a ≤ z → z < a + n → marked (range_with_len a n) z ≡ true
in_range a zero z h k = absurd (omega arith)
in_range a (suc n) z h k = by (cases_eq z a) (λ ne. in_range (a + 1) n z (above ne) (omega arith))
  where
    above : (z ≡ a → ⊥) → a + 1 ≤ z
    above ne = omega (arith, ne)

    eq : z ≡ a → (z == a) ≡ true
    eq e = grind (arith, nat_tests)

    by : (z ≡ a) ⊎ (z ≡ a → ⊥) → ((z ≡ a → ⊥) → marked (range_with_len (a + 1) n) z ≡ true) → ((z == a) || marked (range_with_len (a + 1) n) z) ≡ true
    by (inl e) rest = ap (λ b. b || marked (range_with_len (a + 1) n) z) (eq e)
    by (inr ne) rest = or_right (z == a) _ (rest ne)

under : (a n z : ℕ) → marked (range_with_len a n) z ≡ true → z < a + n
under a zero z h = cc
under a (suc n) z h = by (z == a) (marked (range_with_len (a + 1) n) z) refl h (λ k. under (a + 1) n z k)
  where
    here : (z == a) ≡ true → z < a + suc n
    here e = grind (arith, nat_tests)

    by : (b m : Bool) → (z == a) ≡ b → (b || m) ≡ true → (m ≡ true → z < (a + 1) + n) → z < a + suc n
    by true m e h rest = here e
    by false m e h rest = let k : z < (a + 1) + n = rest h in omega arith

pub range_below : (n z : ℕ) → marked (range_with_len 0 n) z ≡ true → z < n
range_below n z h = let k : z < 0 + n = under 0 n z h in omega arith

-- the places before y are found
pub spreads : (n : ℕ) (edge : ℕ → ℕ → Bool) (front : List ℕ) (y : ℕ) (old : List ℕ) (x : ℕ) → x < n → is_new x front ≡ true → edge x y ≡ true
    → marked (spread_from n edge front y old) x ≡ true
spreads n edge front y old x low new step =
    list_any-append (λ z. x == z) old (filter (is_fresh edge front y old) (range_with_len 0 n))
    ∙ ap (λ b. marked old x || b) (filter_marked (is_fresh edge front y old) (range_with_len 0 n) x)
    ∙ by (marked old x) (is_new x front) (edge x y) (marked (range_with_len 0 n) x) new step (in_range 0 n x (omega arith) (omega arith))
  where
    by : (m a b r : Bool) → a ≡ true → b ≡ true → r ≡ true → (m || ((not m && (a && b)) && r)) ≡ true
    by true a b r e f g = refl
    by false true true r e f g = g
    by false true false r e f g = cc
    by false false b r e f g = cc

-- ---- marks of what is found or stands in front

filter_below : (p q : ℕ → Bool) (a n : ℕ) → ((z : ℕ) → a ≤ z → z < a + n → p z ≡ q z) → filter p (range_with_len a n) ≡ filter q (range_with_len a n)
filter_below p q a zero f = refl
filter_below p q a (suc n) f =
    ap (λ b. cond b (a ∷ filter p (range_with_len (a + 1) n)) (filter p (range_with_len (a + 1) n))) (f a (omega arith) (omega arith))
    ∙ ap (λ t. cond (q a) (a ∷ t) t) (filter_below p q (a + 1) n (λ z h k. f z (omega (arith, h)) (omega (arith, k))))

pub spread_is : (n : ℕ) (edge : ℕ → ℕ → Bool) (front : List ℕ) (y : ℕ) (old now : List ℕ) (before : List Bool) → IsMarked n front old before
    → now ≡ old ++ filter (is_unmarked_before before edge y) (range_with_len 0 n) → now ≡ spread_from n edge front y old
spread_is n edge front y old now before h is =
    is ∙ ap (λ t. old ++ t) (filter_below (is_unmarked_before before edge y) (is_fresh edge front y old) 0 n (λ z _ low. alike z (omega (arith, low))))
  where
    regroup : (m w e : Bool) → (not (m || not w) && e) ≡ (not m && (w && e))
    regroup true w e = refl
    regroup false true e = refl
    regroup false false e = refl

    alike : (z : ℕ) → z < n → is_unmarked_before before edge y z ≡ is_fresh edge front y old z
    alike z low = ap (λ b. not b && edge z y) (h.told z low) ∙ regroup (marked old z) (is_new z front) (edge z y)

pub spread_marked : (n : ℕ) (edge : ℕ → ℕ → Bool) (front : List ℕ) (y : ℕ) (old now : List ℕ) (before after : List Bool) → IsMarked n front old before
    → MarksMore n edge y before after → now ≡ spread_from n edge front y old → IsMarked n front now after
spread_marked n edge front y old now before after h more is = record {
  len = more.len;
  told = λ z low. more.told z low ∙ ap (λ b. b || edge z y) (h.told z low)
      ∙ regroup (marked old z) (is_new z front) (edge z y) (marked (range_with_len 0 n) z) (in_range 0 n z (omega arith) (omega (arith, low)))
      ∙ ap (λ b. b || not (is_new z front)) (sym (ap (λ t. marked t z) is ∙ list_any-append (λ x. z == x) old _ ∙ ap (λ b. marked old z || b) (filter_marked (is_fresh edge front y old) (range_with_len 0 n) z)));
}
  where
    regroup : (m w e r : Bool) → r ≡ true → ((m || not w) || e) ≡ ((m || ((not m && (w && e)) && r)) || not w)
    regroup m w e false h = cc
    regroup true w e true h = refl
    regroup false true true true h = refl
    regroup false true false true h = refl
    regroup false false e true h = refl
