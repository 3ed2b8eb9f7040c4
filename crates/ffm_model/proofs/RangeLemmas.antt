-- An index finds the one region that has a range, and the one service that has a SID.
use Rattle.std.proofs.Common.{ℕ, zero, suc, ◌≡◌, ◌<◌, ◌≤◌, ◌+◌, ◌-◌, ◌^◌, Bool, true, false, List, [], ◌∷◌, length, get_or, arith, ◌∙◌, ap, sym, refl, nat_lt, ltb-true, ◌⊎◌, inl, inr, slice_index_or}
use Rattle.std.specs.Prelude.{◌==◌, nat_le, if◌then◌else◌, All, Contains, Option, Some, None, map, not, position, is_some}
use Rattle.std.specs.List.{list_all, list_any, position_or_len}
use Rattle.std.specs.List.Sorted.{IsPartitionPoint}
use Rattle.std.proofs.lemmas.Bool.{cases_lt, and_from, and_parts}
use Rattle.std.proofs.lemmas.Bool.Decides.{nat_tests}
use Rattle.std.proofs.lemmas.Grind.{common_steps}
use Rattle.std.proofs.lemmas.List.{get_or-map, get_or_default, length-map}
use Rattle.std.proofs.lemmas.List.Folds.{list_all-map, list_any_at, list_any_none}
use Rattle.std.proofs.lemmas.List.Quantifiers.{position-Some}
use Rattle.std.proofs.lemmas.List.Sorted.{All-permutation, Contains-permutation}
use Rattle.std.proofs.lemmas.List.Sums.{fails_before_first, position_or_len_is}
use Rattle.ffm_model.specs.declared.starts.Start.{Start}
use Rattle.ffm_model.specs.declared.system.Region.{Region}
use Rattle.ffm_model.specs.declared.system.Service.{Service}
use Rattle.ffm_model.specs.declared.system.System.{System}
use Rattle.ffm_model.specs.Memory.{lies_in}
use Rattle.ffm_model.specs.WellFormed.{each_pair, apart}
use Rattle.ffm_model.specs.Ranges.{range_in, ranges_of, sid_in, sids_of, has_range, share_no_byte, address_of, starts_from, IsIndexOf, IsOnlyPlace}
use Rattle.ffm_model.proofs.TestLemmas.{holds_at}
use Rattle.ffm_model.proofs.WellFormedLemmas.{regions_hold, sids_differ}

-- the start is that of a region with a byte, where the first region's place is k
record IsStartOf (k : ℕ) (rs : List (ℕ × ℕ)) (s : Start) : Type 0 where
  i : ℕ
  place : s.place ≡ k + i
  below : i < length rs
  address : (get_or rs i (0, 0)).0 ≡ s.address
  some : 0 < (get_or rs i (0, 0)).1

later : (k : ℕ) (r : ℕ × ℕ) (rs : List (ℕ × ℕ)) (s : Start) → IsStartOf (k + 1) rs s → IsStartOf k (r ∷ rs) s
later k r rs s at = record { i = suc at.i; place = omega (arith, at.place); below = omega (arith, at.below); address = at.address; some = at.some }

All-both : (P : Start → Type 0) (b : Bool) (x : Start) (xs : List Start) → (b ≡ false → P x) → All P xs → All P (if b then xs else x ∷ xs)
All-both P true x xs first rest = rest
All-both P false x xs first rest = cons where
  cons : All P (x ∷ xs)
  cons zero d below = first refl
  cons (suc j) d below = rest j d (omega arith)

starts_are : (k : ℕ) (rs : List (ℕ × ℕ)) → All (IsStartOf k rs) (starts_from k rs)
starts_are k [] = λ j d below. absurd (omega arith)
starts_are k (r ∷ rs) =
    All-both (IsStartOf k (r ∷ rs)) (r.1 == 0) _ _ (λ some. record { i = 0; place = omega arith; below = omega arith; address = refl; some = grind (arith, nat_tests) })
    (λ j d below. later k r rs _ (starts_are (k + 1) rs j d below))

Contains-both : (b : Bool) (x y : Start) (xs : List Start) → Contains xs y → Contains (if b then xs else x ∷ xs) y
Contains-both true x y xs at = at
Contains-both false x y xs at = (suc at.0, omega (arith, at.1), at.2)

Contains-first : (b : Bool) (x : Start) (xs : List Start) → b ≡ false → Contains (if b then xs else x ∷ xs) x
Contains-first true x xs h = cc
Contains-first false x xs h = (0, omega arith, refl)

starts_have : (k : ℕ) (rs : List (ℕ × ℕ)) (i : ℕ) → i < length rs → 0 < (get_or rs i (0, 0)).1
    → Contains (starts_from k rs) (record { address = (get_or rs i (0, 0)).0; place = k + i })
starts_have k [] i below some = absurd (omega arith)
starts_have k (r ∷ rs) zero below some =
    let none : (r.1 == 0) ≡ false = grind (arith, nat_tests) in
    let place : k + 0 ≡ k = omega arith in
    rw place (Contains-first (r.1 == 0) _ _ none)
starts_have k (r ∷ rs) (suc i) below some =
    let place : k + suc i ≡ (k + 1) + i = omega arith in
    rw place (Contains-both (r.1 == 0) _ _ _ (starts_have (k + 1) rs i (omega arith) some))

apart_at : (rs : List (ℕ × ℕ)) (i j : ℕ) → i < j → j < length rs → each_pair share_no_byte rs ≡ true → share_no_byte (get_or rs i (0, 0)) (get_or rs j (0, 0)) ≡ true
apart_at [] i j less below apart = absurd (omega arith)
apart_at (r ∷ rs) i zero less below apart = absurd (omega arith)
apart_at (r ∷ rs) zero (suc j) less below apart = holds_at (share_no_byte r) rs j (0, 0) (omega arith) (and_parts _ _ apart).0
apart_at (r ∷ rs) (suc i) (suc j) less below apart = apart_at rs i j (omega arith) (omega arith) (and_parts _ _ apart).1

-- a range that isn't empty lies in one region at most
same_region : (rs : List (ℕ × ℕ)) (i j at : ℕ) → each_pair share_no_byte rs ≡ true → i < length rs → j < length rs
    → (get_or rs i (0, 0)).0 ≤ (get_or rs j (0, 0)).0 → (get_or rs j (0, 0)).0 ≤ at → at < (get_or rs i (0, 0)).0 + (get_or rs i (0, 0)).1 → 0 < (get_or rs j (0, 0)).1 → i ≡ j
same_region rs i j at apart i_below j_below low high inside some =
    by_order (cases_lt i j) (cases_lt j i) where
      by_order : (i < j) ⊎ (j ≤ i) → (j < i) ⊎ (i ≤ j) → i ≡ j
      by_order (inl less) other = let two : share_no_byte (get_or rs i (0, 0)) (get_or rs j (0, 0)) ≡ true = apart_at rs i j less j_below apart in absurd (grind (arith, nat_tests))
      by_order (inr most) (inl less) = let two : share_no_byte (get_or rs j (0, 0)) (get_or rs i (0, 0)) ≡ true = apart_at rs j i less i_below apart in absurd (grind (arith, nat_tests))
      by_order (inr most) (inr least) = omega arith

-- the region that has the range is that of the last start up to its address
record IsLastStart (starts : List Start) (count i : ℕ) : Type 0 where
  some : 0 < count
  is : (d : Start) → (slice_index_or starts (count - 1) d).place ≡ i

last_start : (rs : List (ℕ × ℕ)) (starts : List Start) (count at len i : ℕ) → IsIndexOf starts rs → each_pair share_no_byte rs ≡ true → count ≤ length starts
    → IsPartitionPoint (λ s. nat_le s.address at ≡ true) (λ s. nat_le s.address at ≡ false) starts count → 0 < len → i < length rs → has_range at len (get_or rs i (0, 0)) ≡ true
    → IsLastStart starts count i
last_start rs starts count at len i index apart bound point some below has = found (Contains-permutation _ _ _ index.same (starts_have 0 rs i below one)) where
  one : 0 < (get_or rs i (0, 0)).1
  one = grind (arith, nat_tests)

  first : (get_or rs i (0, 0)).0 ≤ at
  first = grind (arith, nat_tests)

  inside : at < (get_or rs i (0, 0)).0 + (get_or rs i (0, 0)).1
  inside = grind (arith, nat_tests)

  own : Start
  own = record { address = (get_or rs i (0, 0)).0; place = 0 + i }

  before : (j : ℕ) → j < length starts → slice_index_or starts j own ≡ own → (j < count) ⊎ (count ≤ j) → j < count
  before j within is (inl less) = less
  before j within is (inr most) =
      let fails : nat_le (slice_index_or starts j own).address at ≡ false = point.1 j own most within in
      let address : (slice_index_or starts j own).address ≡ (get_or rs i (0, 0)).0 = ap address_of is in
      absurd (grind (arith, nat_tests))

  last : (j : ℕ) → j < length starts → slice_index_or starts j own ≡ own → j < count → (d : Start) → (slice_index_or starts (count - 1) d).place ≡ i
  last j within is less d =
      let start : IsStartOf 0 rs (slice_index_or starts (count - 1) d) = All-permutation (IsStartOf 0 rs) _ _ index.same (starts_are 0 rs) (count - 1) d (omega arith) in
      let passes : nat_le (slice_index_or starts (count - 1) d).address at ≡ true = point.0 (count - 1) d (omega arith) (omega arith) in
      let rises : (slice_index_or starts j d).address ≤ (slice_index_or starts (count - 1) d).address = index.ordered j (count - 1) d (omega arith) (omega arith) in
      let address : (slice_index_or starts j d).address ≡ (get_or rs i (0, 0)).0 = ap address_of (get_or_default starts j d own within) ∙ ap address_of is in
      let high : (get_or rs start.i (0, 0)).0 ≤ at = grind (arith, nat_tests) in
      let same : i ≡ start.i = same_region rs i start.i at apart below start.below (omega arith) high inside start.some in
      omega arith

  found : Contains starts own → IsLastStart starts count i
  found here =
      let less : here.0 < count = before here.0 here.1 here.2 (cases_lt here.0 count) in
      record { some = omega arith; is = λ d. last here.0 here.1 here.2 less d }

-- the place of a start is that of a region
start_below : (rs : List (ℕ × ℕ)) (starts : List Start) (k : ℕ) (d : Start) → IsIndexOf starts rs → k < length starts → (slice_index_or starts k d).place < length rs
start_below rs starts k d index below =
    let start : IsStartOf 0 rs (slice_index_or starts k d) = All-permutation (IsStartOf 0 rs) _ _ index.same (starts_are 0 rs) k d below in
    omega (arith, start.place, start.below)

-- where no start comes up to the address, no region has the range
pub none_before : (rs : List (ℕ × ℕ)) (starts : List Start) (count at : ℕ) → IsIndexOf starts rs → each_pair share_no_byte rs ≡ true → count ≤ length starts
    → IsPartitionPoint (λ s. nat_le s.address at ≡ true) (λ s. nat_le s.address at ≡ false) starts count → count ≡ 0 → IsOnlyPlace rs at None
none_before rs starts count at index apart bound point no_start = record {
  below = tt;
  only = λ len i some below has. absurd (let last = last_start rs starts count at len i index apart bound point some below has in omega (arith, last.some));
}

-- else the region of the last start up to the address is the only one that may have it
pub only_last : (rs : List (ℕ × ℕ)) (starts : List Start) (count at : ℕ) (d : Start) → IsIndexOf starts rs → each_pair share_no_byte rs ≡ true → count ≤ length starts
    → IsPartitionPoint (λ s. nat_le s.address at ≡ true) (λ s. nat_le s.address at ≡ false) starts count → 0 < count → IsOnlyPlace rs at (Some (slice_index_or starts (count - 1) d).place)
only_last rs starts count at d index apart bound point some_start = record {
  below = start_below rs starts (count - 1) d index (omega arith);
  only = λ len i some below has. ap Some ((last_start rs starts count at len i index apart bound point some below has).is d);
}

-- ---- the regions of a system

pub apart_ranges : (rs : List Region) → each_pair apart rs ≡ true → each_pair share_no_byte (ranges_of rs) ≡ true
apart_ranges [] h = refl
apart_ranges (r ∷ rs) h = and_from _ _ (list_all-map (share_no_byte (range_in r)) range_in rs ∙ (and_parts _ _ h).0) (apart_ranges rs (and_parts _ _ h).1)

-- they share no byte
pub regions_apart : (s : System) → each_pair share_no_byte (ranges_of s.regions) ≡ true
regions_apart s = apart_ranges s.regions (and_parts _ _ (regions_hold s)).1

-- and are fewer than 2^31
pub regions_few : (s : System) → length s.regions < 2 ^ 31
regions_few s = ltb-true _ _ (and_parts (nat_lt (length s.services) (2 ^ 31)) (nat_lt (length s.regions) (2 ^ 31)) s.counted).1

-- ---- the services

sid_apart : (v w : Service) → not (v.sid.0 == w.sid.0) ≡ true → share_no_byte (sid_in v) (sid_in w) ≡ true
sid_apart v w other = grind (arith, nat_tests)

sid_apart_all : (v : Service) (vs : List Service) → list_all (λ w. not (v.sid.0 == w.sid.0)) vs ≡ true → list_all (share_no_byte (sid_in v)) (sids_of vs) ≡ true
sid_apart_all v [] h = refl
sid_apart_all v (w ∷ vs) h = and_from _ _ (sid_apart v w (and_parts _ _ h).0) (sid_apart_all v vs (and_parts _ _ h).1)

apart_sids : (vs : List Service) → each_pair (λ v w. not (v.sid.0 == w.sid.0)) vs ≡ true → each_pair share_no_byte (sids_of vs) ≡ true
apart_sids [] h = refl
apart_sids (v ∷ vs) h = and_from _ _ (sid_apart_all v vs (and_parts _ _ h).0) (apart_sids vs (and_parts _ _ h).1)

-- no two have one SID
pub services_apart : (s : System) → each_pair share_no_byte (sids_of s.services) ≡ true
services_apart s = apart_sids s.services (sids_differ s)

pub services_few : (s : System) → length s.services < 2 ^ 31
services_few s = ltb-true _ _ (and_parts (nat_lt (length s.services) (2 ^ 31)) (nat_lt (length s.regions) (2 ^ 31)) s.counted).0

-- ---- a look-up

place_is : {X : Type 0} (p : X → Bool) (xs : List X) (i : ℕ) (d : X) → i < length xs → ((k : ℕ) → k < i → p (get_or xs k d) ≡ false) → p (get_or xs i d) ≡ true → position p xs ≡ Some i
place_is p xs i d below fails passes = let at = position_or_len_is p xs i d (omega arith) fails (λ h. passes) in grind (arith, common_steps)

no_place : {X : Type 0} (p : X → Bool) (xs : List X) (d : X) → ((k : ℕ) → k < length xs → p (get_or xs k d) ≡ false) → position p xs ≡ None
no_place p xs d fails = let at = position_or_len_is p xs (length xs) d (omega arith) fails (λ h. absurd (omega arith)) in grind (arith, common_steps)

pub nowhere : {X : Type 0} (p : X → Bool) (xs : List X) → position p xs ≡ None → length xs ≤ position_or_len p xs
nowhere p xs none = grind (arith, common_steps)

pub any_place : {X : Type 0} (p : X → Bool) (xs : List X) → is_some (position p xs) ≡ list_any p xs
any_place p [] = refl
any_place p (x ∷ xs) = by (position p (x ∷ xs)) refl where
  by : (o : Option ℕ) → position p (x ∷ xs) ≡ o → is_some o ≡ list_any p (x ∷ xs)
  by None none = let last = nowhere p (x ∷ xs) none in sym (list_any_none p (x ∷ xs) (λ k d below. fails_before_first p (x ∷ xs) k d (omega arith)))
  by (Some i) at = let found = position-Some p (x ∷ xs) i x at in sym (list_any_at p (x ∷ xs) i x found.0 found.1)

-- a test that tells that an item has the range
module _ {T : Type 0} (range : T → ℕ × ℕ) (p : T → Bool) (at len : ℕ) (some : 0 < len) (tells : (x : T) → p x ≡ true → has_range at len (range x) ≡ true) where
  -- an item that passes is at the only place
  passes_at : (xs : List T) (k : ℕ) (d : T) (place : Option ℕ) → IsOnlyPlace (map range xs) at place → k < length xs → p (get_or xs k d) ≡ true → place ≡ Some k
  passes_at xs k d place only below passes =
      let counted : length (map range xs) ≡ length xs = length-map xs range in
      only.only len k some (omega arith) (ap (has_range at len) (get_or-map range xs k d (0, 0) below) ∙ tells _ passes)

  -- so where another place, or none, is the only one, the item fails
  fails_at : (xs : List T) (k : ℕ) (d : T) (place : Option ℕ) → IsOnlyPlace (map range xs) at place → k < length xs → (place ≡ Some k → ⊥) → p (get_or xs k d) ≡ false
  fails_at xs k d place only below other = by (p (get_or xs k d)) refl where
    by : (b : Bool) → p (get_or xs k d) ≡ b → b ≡ false
    by true passes = absurd (other (passes_at xs k d place only below passes))
    by false fails = refl

  pub found_place : (xs : List T) (i : ℕ) (d : T) → IsOnlyPlace (map range xs) at (Some i) → p (get_or xs i d) ≡ true → position p xs ≡ Some i
  found_place xs i d only passes =
      let counted : length (map range xs) ≡ length xs = length-map xs range in
      let inside : i < length (map range xs) = only.below in
      place_is p xs i d (omega arith) (λ k before. fails_at xs k d (Some i) only (omega arith) (λ same. let is : i ≡ k = cc in omega arith)) passes

  pub lacked_place : (xs : List T) (i : ℕ) (d : T) → IsOnlyPlace (map range xs) at (Some i) → p (get_or xs i d) ≡ false → position p xs ≡ None
  lacked_place xs i d only fails = no_place p xs d (λ k below. by k below (p (get_or xs k d)) refl) where
    by : (k : ℕ) → k < length xs → (b : Bool) → p (get_or xs k d) ≡ b → b ≡ false
    by k below true passes =
        let same : Some i ≡ Some k = passes_at xs k d (Some i) only below passes in
        let is : i ≡ k = cc in
        absurd (let here : p (get_or xs k d) ≡ false = ap (λ j. p (get_or xs j d)) (sym is) ∙ fails in cc)
    by k below false fails = refl

  pub missing_place : (xs : List T) → IsOnlyPlace (map range xs) at None → position p xs ≡ None
  missing_place [] only = refl
  missing_place (x ∷ xs) only = no_place p (x ∷ xs) x (λ k below. fails_at (x ∷ xs) k x None only below (λ same. cc))

pub lies_tells : (at len : ℕ) → 0 < len → (r : Region) → lies_in at len r ≡ true → has_range at len (range_in r) ≡ true
lies_tells at len some r lies = grind (arith, nat_tests)

pub sid_tells : (sid : ℕ) (v : Service) → (v.sid.0 == sid) ≡ true → has_range sid 1 (sid_in v) ≡ true
sid_tells sid v same = grind (arith, nat_tests)
