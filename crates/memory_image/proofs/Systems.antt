-- What an image needs to know of a system's regions, for callers that have a system.
use Rattle.std.proofs.Common.{arith, ℕ, ◌≡◌, ◌+◌, Bool, true, false, ◌&&◌, ◌||◌, List, [], ◌∷◌, length, refl}
use Rattle.std.specs.Prelude.{◌==◌, nat_le, fold, sum_by}
use Rattle.std.specs.List.{list_any, list_all}
use Rattle.std.proofs.lemmas.Bool.{and_from, and_parts}
use Rattle.std.proofs.lemmas.Bool.Decides.{nat_tests}
use Rattle.law_lists.proofs.Tests.{list_any-more}
use Rattle.memory_image.specs.Differences.{range_covers}
use Rattle.ffm_model.specs.declared.system.Class.{Class}
use Rattle.ffm_model.specs.declared.system.System.{System}
use Rattle.ffm_model.specs.declared.system.Region.{Region}
use Rattle.ffm_model.specs.Memory.{lies_in, is_ram_of, is_mmio_of, is_writable_mmio_of, valid_buffer, may_read, may_write}
use Rattle.ffm_model.specs.Reach.{covers}
use Rattle.ffm_model.specs.WellFormed.{owner_below, regions_fit}
use Rattle.ffm_model.proofs.WellFormedLemmas.{regions_hold}
use Rattle.ffm_model.proofs.RangeLemmas.{apart_ranges}
use Rattle.ffm_model.specs.Ranges.{ranges_of}
use Rattle.memory_image.specs.Pieces.{fit_an_image, is_inside}
use Rattle.memory_image.proofs.Opened.{is_inside-lies}

ends-ranges : (n : ℕ) (rs : List Region) → list_all (λ r. owner_below n r.class && nat_le r.size 1048576 && nat_le (r.base + r.size) 4294967296) rs ≡ true
    → list_all (λ e. nat_le (e.0 + e.1) 4294967296) (ranges_of rs) ≡ true
ends-ranges n [] h = refl
ends-ranges n (r ∷ rs) h = and_from _ _ (and_parts _ _ (and_parts _ _ h).0).1 (ends-ranges n rs (and_parts _ _ h).1)

added-ranges : (n : ℕ) (rs : List Region) → fold (λ m (e : ℕ × ℕ). m + e.1) n (ranges_of rs) ≡ fold (λ m (r : Region). m + r.size) n rs
added-ranges n [] = refl
added-ranges n (r ∷ rs) = added-ranges (n + r.size) rs

total-ranges : (rs : List Region) → sum_by (λ e. e.1) (ranges_of rs) ≡ sum_by (λ r. r.size) rs
total-ranges rs = added-ranges 0 rs

regions_fit-image : (n : ℕ) (rs : List Region) → regions_fit n rs ≡ true → fit_an_image (ranges_of rs) ≡ true
unfolding fit_an_image
regions_fit-image n rs h =
    let most : nat_le (sum_by (λ e. e.1) (ranges_of rs)) 16777216 ≡ true = rw (total-ranges rs) (and_parts _ _ (and_parts _ _ h).0).1 in
    and_from _ _ (and_from _ _ (apart_ranges rs (and_parts _ _ h).1) (ends-ranges n rs (and_parts _ _ (and_parts _ _ (and_parts _ _ h).0).0).1)) most

-- a system's regions fit an image
pub system_fits : (s : System) → fit_an_image (ranges_of s.regions) ≡ true
system_fits s = regions_fit-image (length s.partitions) s.regions (regions_hold s)

empty_or : (b c d : Bool) → (b || c) ≡ true → (c ≡ true → (b || d) ≡ true) → (b || d) ≡ true
empty_or true c d h rest = refl
empty_or false c d h rest = rest h

or_else : (a b c : Bool) → (a || b) ≡ true → (a ≡ true → c ≡ true) → (b ≡ true → c ≡ true) → c ≡ true
or_else true b c h first second = first refl
or_else false b c h first second = second h

-- a range of a region of some class lies inside
class_inside : (class : Region → Bool) (base len : ℕ) (rs : List Region) → list_any (λ r. class r && lies_in base len r) rs ≡ true → is_inside base len (ranges_of rs) ≡ true
class_inside class base len rs h = is_inside-lies base len rs (list_any-more (λ r. class r && lies_in base len r) (lies_in base len) (λ r both. (and_parts (class r) _ both).1) rs h)

-- a valid buffer lies inside of an image of the system's regions
pub buffer_inside : (s : System) (a base len : ℕ) → valid_buffer s a base len ≡ true → is_inside base len (ranges_of s.regions) ≡ true
buffer_inside s a base len h = empty_or (len == 0) _ _ h (class_inside (λ r. is_ram_of s a r.class) base len s.regions)

-- so does what an actor may read
pub readable_inside : (s : System) (a base len : ℕ) → may_read s a base len ≡ true → is_inside base len (ranges_of s.regions) ≡ true
readable_inside s a base len h = or_else _ _ _ h (buffer_inside s a base len) (class_inside (λ r. is_mmio_of a r.class) base len s.regions)

-- and what it may write
pub writable_inside : (s : System) (a base len : ℕ) → may_write s a base len ≡ true → is_inside base len (ranges_of s.regions) ≡ true
writable_inside s a base len h = or_else _ _ _ h (buffer_inside s a base len) (class_inside (λ r. is_writable_mmio_of a r.class) base len s.regions)

-- an address of a range that lies in a region is the region's
pub lies-covers : (base len x : ℕ) (r : Region) → range_covers (base, len) x ≡ true → lies_in base len r ≡ true → covers r x ≡ true
lies-covers base len x r inside lies = grind (arith, nat_tests)

-- so it is one of a region of the same class
pub class-covers : (class : Class → Bool) (base len x : ℕ) (rs : List Region) → range_covers (base, len) x ≡ true
    → list_any (λ r. class r.class && lies_in base len r) rs ≡ true → list_any (λ r. class r.class && covers r x) rs ≡ true
class-covers class base len x rs inside h =
    list_any-more (λ r. class r.class && lies_in base len r) (λ r. class r.class && covers r x)
    (λ r both. let parts = and_parts (class r.class) (lies_in base len r) both in and_from _ _ parts.0 (lies-covers base len x r inside parts.1)) rs h
