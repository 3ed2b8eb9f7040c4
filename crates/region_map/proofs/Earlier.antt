-- The earlier regions of a list, kept as sizes by their bases.
use Rattle.std.proofs.Common.{ℕ, ◌≡◌, ◌<◌, ◌≤◌, ◌+◌, ◌||◌, ◌&&◌, ◌⊎◌, inl, inr, ⊎_elim, not, List, [], ◌∷◌, ◌++◌, arith, ◌∙◌, ap, sym, refl, Bool, true, false, cond, Some}
use Rattle.std.specs.Prelude.{◌==◌}
use Rattle.std.specs.List.{list_any}
use Rattle.std.specs.Ordering.{nat_cmp}
use Rattle.std.specs.BTreeMap.{BTreeMap, get, Updates}
use Rattle.std.proofs.lemmas.Bool.Decides.{nat_tests}
use Rattle.std.proofs.lemmas.List.Folds.{list_any-append}
use Rattle.std.proofs.lemmas.Bool.{eq-eqb}
use Rattle.law_lists.proofs.Tests.{list_any-more}
use Rattle.ffm_model.specs.declared.system.Region.{Region}
use Rattle.ffm_model.specs.WellFormed.{apart}
use Rattle.region_map.proofs.RepeatLemmas.{is_at_number}
use Rattle.region_map.specs.Overlaps.{IsDisjoint, MeetsSome, MeetsNone}

-- each region's size stands at its base
abbrev pub AllThere : BTreeMap ℕ ℕ → List Region → Type 0
AllThere m [] = Unit {0}
AllThere m (r ∷ rs) = (get nat_cmp m r.base ≡ Some r.size) × AllThere m rs

abbrev pub has_range : ℕ → ℕ → Region → Bool
has_range base size r = (r.base == base) && (r.size == size)

-- the map holds the bases and sizes of the regions, and no others
pub record Holds (m : BTreeMap ℕ ℕ) (rs : List Region) : Type 0 where
  pub disjoint : IsDisjoint m
  pub there : AllThere m rs
  pub from : (base size : ℕ) → get nat_cmp m base ≡ Some size → list_any (has_range base size) rs ≡ true

meets_here : (base size : ℕ) (x r : Region) → 0 < size → 0 < x.size → base < x.base + x.size → x.base < base + size → has_range base size r ≡ true → not (apart r x) ≡ true
meets_here base size x r filled some before behind same = grind (arith, nat_tests)

pub meets_some : (m : BTreeMap ℕ ℕ) (rs : List Region) (x : Region) → Holds m rs → 0 < x.size → MeetsSome m x → list_any (λ r. not (apart r x)) rs ≡ true
meets_some m rs x holds some (base, size, there, before, behind) =
    list_any-more (has_range base size) (λ r. not (apart r x)) (λ r. meets_here base size x r (holds.disjoint.filled base size there) some before behind) rs (holds.from base size there)

apart_here : (r x : Region) → (r.base + r.size ≤ x.base) ⊎ (x.base + x.size ≤ r.base) → not (apart r x) ≡ false
apart_here r x (inl h) = grind (arith, nat_tests)
apart_here r x (inr h) = grind (arith, nat_tests)

none_meets : (m : BTreeMap ℕ ℕ) (rs : List Region) (x : Region) → AllThere m rs → MeetsNone m x → list_any (λ r. not (apart r x)) rs ≡ false
none_meets m [] x there none = refl
none_meets m (r ∷ rs) x there none =
    ap (λ b. b || list_any (λ r. not (apart r x)) rs) (apart_here r x (none r.base r.size there.0)) ∙ none_meets m rs x there.1 none

pub meets_none : (m : BTreeMap ℕ ℕ) (rs : List Region) (x : Region) → Holds m rs → MeetsNone m x → list_any (λ r. not (apart r x)) rs ≡ false
meets_none m rs x holds none = none_meets m rs x holds.there none

-- ---- one more region, which meets none

is_new : (m : BTreeMap ℕ ℕ) (x : Region) (base size : ℕ) → IsDisjoint m → 0 < x.size → MeetsNone m x → get nat_cmp m base ≡ Some size → (x.base == base) ≡ false
is_new m x base size disjoint some none there =
    ⊎_elim (λ (h : base + size ≤ x.base). let f = disjoint.filled base size there in grind (arith, nat_tests)) (λ (h : x.base + x.size ≤ base). grind (arith, nat_tests)) (none base size there)

-- what the new map has at a base
new_get : (m n : BTreeMap ℕ ℕ) (x : Region) → Updates nat_cmp m n x.base (Some x.size) → (q : ℕ) → get nat_cmp n q ≡ cond (x.base == q) (Some x.size) (get nat_cmp m q)
new_get m n x updates q = updates.0 q ∙ ap (λ b. cond b (Some x.size) (get nat_cmp m q)) (is_at_number x.base q)

all_there : (m n : BTreeMap ℕ ℕ) (rs : List Region) (x : Region) → IsDisjoint m → 0 < x.size → MeetsNone m x → Updates nat_cmp m n x.base (Some x.size) → AllThere m rs → AllThere n (rs ++ x ∷ [])
all_there m n [] x disjoint some none updates there = (new_get m n x updates x.base ∙ ap (λ b. cond b (Some x.size) (get nat_cmp m x.base)) (eq-eqb x.base x.base refl), tt)
all_there m n (r ∷ rs) x disjoint some none updates there = (
  new_get m n x updates r.base ∙ ap (λ b. cond b (Some x.size) (get nat_cmp m r.base)) (is_new m x r.base r.size disjoint some none there.0) ∙ there.0,
  all_there m n rs x disjoint some none updates there.1,
)

-- an entry of the new map is the new one or an old one
which : (m n : BTreeMap ℕ ℕ) (x : Region) (base size : ℕ) → Updates nat_cmp m n x.base (Some x.size) → get nat_cmp n base ≡ Some size
    → ((x.base ≡ base) × (x.size ≡ size)) ⊎ (get nat_cmp m base ≡ Some size)
which m n x base size updates there = by_test (x.base == base) refl (sym (new_get m n x updates base) ∙ there) where
  by_test : (b : Bool) → (x.base == base) ≡ b → cond b (Some x.size) (get nat_cmp m base) ≡ Some size → ((x.base ≡ base) × (x.size ≡ size)) ⊎ (get nat_cmp m base ≡ Some size)
  by_test true e h = inl (grind (arith, nat_tests), cc)
  by_test false e h = inr h

new_apart : (m : BTreeMap ℕ ℕ) (x : Region) (base size next next_size : ℕ) → IsDisjoint m → MeetsNone m x → base < next
    → ((x.base ≡ base) × (x.size ≡ size)) ⊎ (get nat_cmp m base ≡ Some size)
    → ((x.base ≡ next) × (x.size ≡ next_size)) ⊎ (get nat_cmp m next ≡ Some next_size)
    → base + size ≤ next
new_apart m x base size next next_size disjoint none less (inl h) (inl k) = absurd (omega arith)
new_apart m x base size next next_size disjoint none less (inl h) (inr k) =
    ⊎_elim (λ (e : next + next_size ≤ x.base). absurd (omega arith)) (λ (e : x.base + x.size ≤ next). omega arith) (none next next_size k)
new_apart m x base size next next_size disjoint none less (inr h) (inl k) =
    ⊎_elim (λ (e : base + size ≤ x.base). omega arith) (λ (e : x.base + x.size ≤ base). absurd (omega arith)) (none base size h)
new_apart m x base size next next_size disjoint none less (inr h) (inr k) = disjoint.apart base size next next_size h k less

range_here : (x : Region) (base size : ℕ) → x.base ≡ base → x.size ≡ size → has_range base size x ≡ true
range_here x base size e f = grind (arith, nat_tests)

in_either : (a b : Bool) → (b ≡ true) ⊎ (a ≡ true) → (a || (b || false)) ≡ true
in_either true b h = refl
in_either false true h = refl
in_either false false (inl h) = h
in_either false false (inr h) = h

pub holds_more : (m n : BTreeMap ℕ ℕ) (rs : List Region) (x : Region) → Holds m rs → 0 < x.size → MeetsNone m x → Updates nat_cmp m n x.base (Some x.size) → Holds n (rs ++ x ∷ [])
holds_more m n rs x holds some none updates = record {
  disjoint = record {
    filled = λ base size there. ⊎_elim (λ (h : (x.base ≡ base) × (x.size ≡ size)). omega arith) (λ (h : get nat_cmp m base ≡ Some size). holds.disjoint.filled base size h) (which m n x base size updates there);
    apart = λ base size next next_size there next_there less. new_apart m x base size next next_size holds.disjoint none less (which m n x base size updates there) (which m n x next next_size updates next_there);
  };
  there = all_there m n rs x holds.disjoint some none updates holds.there;
  from = λ base size there. list_any-append (has_range base size) rs (x ∷ []) ∙ in_either (list_any (has_range base size) rs) (has_range base size x) (⊎_elim (λ (h : (x.base ≡ base) × (x.size ≡ size)). inl (range_here x base size h.0 h.1)) (λ (h : get nat_cmp m base ≡ Some size). inr (holds.from base size h)) (which m n x base size updates there));
}
