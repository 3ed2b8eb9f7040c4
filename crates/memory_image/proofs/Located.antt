-- At most one region has a range that isn't empty, so a test of the regions that have it is a test of that one.
use Rattle.std.proofs.Common.{ℕ, zero, suc, ◌≡◌, ◌<◌, Bool, true, false, ◌&&◌, ◌||◌, List, [], ◌∷◌, length, get_or, arith, ◌∙◌, ap, sym, refl}
use Rattle.std.specs.Prelude.{◌==◌, Some, None, position}
use Rattle.std.specs.List.{list_any, list_all}
use Rattle.std.proofs.lemmas.Bool.Decides.{nat_tests}
use Rattle.std.proofs.lemmas.List.{get_or-map, length-map}
use Rattle.std.proofs.lemmas.List.Folds.{list_any_none}
use Rattle.std.proofs.lemmas.List.Quantifiers.{position-Some}
use Rattle.std.proofs.lemmas.List.Sums.{fails_before_first}
use Rattle.std.proofs.lemmas.Bool.{and_parts, and_right, false_from_ne_true, or_from}
use Rattle.ffm_model.specs.declared.system.Class.{Class}
use Rattle.ffm_model.specs.declared.system.Region.{Region}
use Rattle.ffm_model.specs.declared.system.System.{System}
use Rattle.ffm_model.specs.Memory.{lies_in, is_ram_of, is_mmio_of, is_writable_mmio_of, valid_buffer, may_read, may_write}
use Rattle.ffm_model.specs.Ranges.{range_in, has_range, share_no_byte, ranges_of}
use Rattle.ffm_model.specs.WellFormed.{each_pair}
use Rattle.ffm_model.proofs.RangeLemmas.{nowhere, regions_apart}
use Rattle.ffm_model.proofs.TestLemmas.{holds_at}

-- a region of a class that has the range
abbrev pub has_it : (Class → Bool) → ℕ → ℕ → Region → Bool
has_it p base len r = p r.class && lies_in base len r

lies : (base len : ℕ) (r : Region) → 0 < len → lies_in base len r ≡ has_range base len (range_in r)
lies base len r some = let filled : (len == 0) ≡ false = grind (arith, nat_tests) in rw filled refl

hasnt : (p : Class → Bool) (base len : ℕ) (r : Region) → 0 < len → has_range base len (range_in r) ≡ false → has_it p base len r ≡ false
hasnt p base len r some off = and_right (p r.class) _ (lies base len r some ∙ off)

other : (base len : ℕ) (r q : ℕ × ℕ) → 0 < len → share_no_byte r q ≡ true → has_range base len r ≡ true → has_range base len q ≡ false
other base len r q some apart has = false_from_ne_true (has_range base len q) (λ e. grind (arith, nat_tests))

others : (p : Class → Bool) (base len : ℕ) (r : Region) (rs : List Region) → 0 < len → list_all (share_no_byte (range_in r)) (ranges_of rs) ≡ true → has_range base len (range_in r) ≡ true
    → list_any (has_it p base len) rs ≡ false
others p base len r [] some apart has = refl
others p base len r (q ∷ qs) some apart has =
    or_from _ _ (hasnt p base len q some (other base len (range_in r) (range_in q) some (and_parts _ _ apart).0 has)) (others p base len r qs some (and_parts _ _ apart).1 has)

-- the region at i has the range
pub one_of : (p : Class → Bool) (rs : List Region) (i base len : ℕ) (d : Region) → each_pair share_no_byte (ranges_of rs) ≡ true → 0 < len → i < length rs
    → has_range base len (range_in (get_or rs i d)) ≡ true → list_any (has_it p base len) rs ≡ p (get_or rs i d).class
one_of p [] i base len d apart some below has = absurd (omega arith)
one_of p (r ∷ rs) zero base len d apart some below has =
    by (p r.class) _ _ (lies base len r some ∙ has) (others p base len r rs some (and_parts _ _ apart).0 has) where
      by : (a b c : Bool) → b ≡ true → c ≡ false → ((a && b) || c) ≡ a
      by true b c e f = rw e refl
      by false b c e f = f
one_of p (r ∷ rs) (suc i) base len d apart some below has =
    let inside : i < length rs = omega arith in
    let counted : length (ranges_of rs) ≡ length rs = length-map rs range_in in
    let at : get_or (ranges_of rs) i (0, 0) ≡ range_in (get_or rs i d) = get_or-map range_in rs i d (0, 0) inside in
    let all : share_no_byte (range_in r) (get_or (ranges_of rs) i (0, 0)) ≡ true = holds_at (share_no_byte (range_in r)) (ranges_of rs) i (0, 0) (omega arith) (and_parts _ _ apart).0 in
    let here : share_no_byte (range_in r) (range_in (get_or rs i d)) ≡ true = ap (share_no_byte (range_in r)) (sym at) ∙ all in
    by (has_it p base len r) _ _ (hasnt p base len r some (off here)) (one_of p rs i base len d (and_parts _ _ apart).1 some inside has) where
      by : (a b c : Bool) → a ≡ false → b ≡ c → (a || b) ≡ c
      by a b c e f = rw e f

      off : share_no_byte (range_in r) (range_in (get_or rs i d)) ≡ true → has_range base len (range_in r) ≡ false
      off here = false_from_ne_true _ (λ e. let never = other base len (range_in r) (range_in (get_or rs i d)) some here e in cc)

-- ---- what a look-up says of the regions

pub class_found : (s : System) (i base len : ℕ) (d : Region) → 0 < len → position (lies_in base len) s.regions ≡ Some i → (p : Class → Bool) → list_any (has_it p base len) s.regions ≡ p (get_or s.regions i d).class
class_found s i base len d some at p =
    let found = position-Some (lies_in base len) s.regions i d at in
    one_of p s.regions i base len d (regions_apart s) some found.0 (sym (lies base len (get_or s.regions i d) some) ∙ found.1)

pub class_missing : (s : System) (base len : ℕ) → position (lies_in base len) s.regions ≡ None → (p : Class → Bool) → list_any (has_it p base len) s.regions ≡ false
class_missing s base len none p =
    let last = nowhere (lies_in base len) s.regions none in
    list_any_none (has_it p base len) s.regions (λ k d below. and_right (p (get_or s.regions k d).class) _ (fails_before_first (lies_in base len) s.regions k d (omega arith)))

-- ---- what actors may do with a range that isn't empty

filled : (len : ℕ) → 0 < len → (len == 0) ≡ false
filled len some = grind (arith, nat_tests)

buffer_by : (e x b : Bool) → e ≡ false → x ≡ b → b ≡ (e || x)
buffer_by e x b off is = rw (off, is) refl

access_by : (e x y b c : Bool) → e ≡ false → x ≡ b → y ≡ c → (b || c) ≡ ((e || x) || y)
access_by e x y b c off is also = rw (off, is, also) refl

pub buffer_is : (s : System) (a base len : ℕ) (b : Bool) → 0 < len → list_any (has_it (is_ram_of s a) base len) s.regions ≡ b → b ≡ valid_buffer s a base len
buffer_is s a base len b some is = buffer_by (len == 0) _ b (filled len some) is

pub read_is : (s : System) (a base len : ℕ) (b c : Bool) → 0 < len → list_any (has_it (is_ram_of s a) base len) s.regions ≡ b
    → list_any (has_it (is_mmio_of a) base len) s.regions ≡ c → (b || c) ≡ may_read s a base len
read_is s a base len b c some is mmio = access_by (len == 0) _ _ b c (filled len some) is mmio

pub write_is : (s : System) (a base len : ℕ) (b c : Bool) → 0 < len → list_any (has_it (is_ram_of s a) base len) s.regions ≡ b
    → list_any (has_it (is_writable_mmio_of a) base len) s.regions ≡ c → (b || c) ≡ may_write s a base len
write_is s a base len b c some is mmio = access_by (len == 0) _ _ b c (filled len some) is mmio
