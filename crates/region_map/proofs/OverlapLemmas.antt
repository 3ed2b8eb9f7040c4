-- Which regions share a byte with earlier ones.
use Rattle.std.proofs.Common.{ℕ, ◌≡◌, ◌<◌, ◌≤◌, ◌+◌, ◌||◌, inl, inr, ⊎_elim, not, List, [], ◌∷◌, arith, ◌∙◌, ap, sym, refl, false, Some}
use Rattle.std.specs.Prelude.{IsSome, sum_by}
use Rattle.std.specs.List.{list_any}
use Rattle.std.specs.Ordering.{nat_cmp, is_gt, is_lt}
use Rattle.std.specs.BTreeMap.{BTreeMap, get}
use Rattle.std.proofs.lemmas.Bool.{cases_lt}
use Rattle.std.proofs.lemmas.Bool.Decides.{nat_tests}
use Rattle.std.proofs.lemmas.List.Sums.{sum_by-cons}
use Rattle.ffm_model.specs.declared.system.Region.{Region}
use Rattle.ffm_model.specs.ManifestItems.{ManifestRecord}
use Rattle.ffm_model.specs.Layout.{ram_needed, rams_from}
use Rattle.ffm_model.specs.WellFormed.{apart}
use Rattle.region_map.specs.Overlaps.{extent, IsDisjoint, MeetsNone}
use Rattle.region_map.proofs.Numbers.{not_above, not_below}

-- ---- RAM

two_parts : (b s t : ℕ) (x : Region) → 0 < x.size → (not (apart (extent b s) x) || not (apart (extent (b + s) t) x)) ≡ not (apart (extent b (s + t)) x)
two_parts b s t x some = grind (arith, nat_tests)

-- the RAM of all partitions is one piece
pub rams_meet : (level k base : ℕ) (ms : List ManifestRecord) (x : Region) → 0 < x.size
    → list_any (λ r. not (apart r x)) (rams_from level k base ms) ≡ not (apart (extent base (sum_by ram_needed ms)) x)
rams_meet level k base [] x some = refl
rams_meet level k base (m ∷ ms) x some =
    ap (λ b. not (apart (extent base (ram_needed m)) x) || b) (rams_meet level (k + 1) (base + ram_needed m) ms x some)
    ∙ two_parts base (ram_needed m) (sum_by ram_needed ms) x some
    ∙ ap (λ n. not (apart (extent base n) x)) (sym (sum_by-cons ram_needed m ms))

-- ---- earlier regions

-- where the last region that begins before the end of x doesn't reach into x, none does
pub none_reaches : (m : BTreeMap ℕ ℕ) (x : Region) (last key reach : ℕ) → IsDisjoint m → last + 1 ≡ x.base + x.size
    → get nat_cmp m key ≡ Some reach
    → ((q : ℕ) → is_gt (nat_cmp q last) ≡ false → IsSome (get nat_cmp m q) → is_lt (nat_cmp key q) ≡ false)
    → key + reach ≤ x.base → MeetsNone m x
none_reaches m x last key reach disjoint end here greatest apart base size there =
    ⊎_elim (λ (below : base < x.base + x.size). inl (before below)) (λ (past : x.base + x.size ≤ base). inr past) (cases_lt base (x.base + x.size)) where
      some_there : IsSome (get nat_cmp m base)
      some_there = rw there refl

      upto : base < x.base + x.size → base ≤ key
      upto below = not_below key base (greatest base (not_above base last (omega arith)) some_there)

      before : base < x.base + x.size → base + size ≤ x.base
      before below = ⊎_elim
          (λ (less : base < key). let e = disjoint.apart base size key reach there here less in omega arith)
          (λ (more : key ≤ base).
          let same : base ≡ key = let u = upto below in omega arith in
          let size_same : Some size ≡ Some reach = sym there ∙ ap (get nat_cmp m) same ∙ here in
          let e : size ≡ reach = cc in omega arith)
          (cases_lt base key)
