-- What differs in the ranges that an entry may write is what it changed.
use Rattle.std.proofs.Common.{ℕ, zero, suc, ◌≡◌, ◌<◌, ◌≤◌, ◌+◌, ◌*◌, true, false, not, ◌&&◌, List, [], ◌∷◌, Option, Some, None, arith, ◌∙◌, ap, sym, refl, inl, inr, ◌⊎◌, nat_eq}
use Rattle.std.specs.Prelude.{nat_le, sum_by}
use Rattle.std.specs.List.{list_all}
use Rattle.std.specs.Option.{option_map}
use Rattle.std.proofs.lemmas.Bool.{and_parts, or_from, and_left}
use Rattle.std.proofs.lemmas.Bool.Decides.{nat_tests}
use Rattle.memory_image.specs.Differences.{any_covers, count_in, differs, range_covers, AreApart, IsLeast}
use Rattle.memory_image.proofs.LaneRanges.{count_in_ranges, covered, least_same}
use Rattle.ffm_model.specs.declared.constants.TheConstants.{MAX_IMAGE_BYTES}
use Rattle.ffm_model.specs.declared.scenario.Bytes.{Bytes}
use Rattle.ffm_model.specs.declared.system.System.{System}
use Rattle.ffm_model.specs.WellFormed.{each_pair}
use Rattle.ffm_model.specs.Ranges.{ranges_of, share_no_byte}
use Rattle.memory_image.specs.Pieces.{byte_at, fit_an_image, regions_of}
use Rattle.memory_image.proofs.Compared.{same_outside}
use Rattle.memory_image.proofs.Systems.{system_fits}
use Rattle.machine_check.specs.declared.differences.Differences.{Differences}
use Rattle.machine_check.specs.declared.written.Ranges.{Ranges}
use Rattle.machine_check.specs.Auditing.{own_ram, IsChangeOf}
use Rattle.machine_check.specs.Audited.{change_of}
use Rattle.machine_check.specs.Written.{ranges_from, ranges_in, AreDifferences, AreInside}
use Rattle.machine_check.proofs.Compared.{placed}

-- ---- ranges that share no address

off_other : (a n b k x : ℕ) → share_no_byte (a, n) (b, k) ≡ true → range_covers (a, n) x ≡ true → range_covers (b, k) x ≡ false
off_other a n b k x apart inside = grind (arith, nat_tests)

apart_from : (r : ℕ × ℕ) (rs : List (ℕ × ℕ)) (x : ℕ) → list_all (share_no_byte r) rs ≡ true → range_covers r x ≡ true → any_covers rs x ≡ false
apart_from r [] x apart inside = refl
apart_from r (q ∷ rs) x apart inside =
    let parts = and_parts (share_no_byte r q) (list_all (share_no_byte r) rs) apart in
    or_from (range_covers q x) (any_covers rs x) (off_other r.0 r.1 q.0 q.1 x parts.0 inside) (apart_from r rs x parts.1 inside)

ends_by : (a n : ℕ) → nat_le (a + n) 4294967296 ≡ true → a + n ≤ 4294967296
ends_by a n h = grind (arith, nat_tests)

regions-apart : (rs : List (ℕ × ℕ)) → each_pair share_no_byte rs ≡ true → list_all (λ e. nat_le (e.0 + e.1) 4294967296) rs ≡ true → AreApart 4294967296 rs
regions-apart [] apart ends = tt
regions-apart (r ∷ rs) apart ends =
    let apart_parts = and_parts (list_all (share_no_byte r) rs) (each_pair share_no_byte rs) apart in
    let end_parts = and_parts (nat_le (r.0 + r.1) 4294967296) (list_all (λ e. nat_le (e.0 + e.1) 4294967296) rs) ends in
    (ends_by r.0 r.1 end_parts.0, λ x inside. apart_from r rs x apart_parts.0 inside, regions-apart rs apart_parts.1 end_parts.1)

-- those of a system
system-apart : (s : System) → AreApart 4294967296 (ranges_of s.regions)
unfolding fit_an_image
system-apart s =
    let rs = ranges_of s.regions in
    let fit : (each_pair share_no_byte rs && list_all (λ e. nat_le (e.0 + e.1) 4294967296) rs && nat_le (sum_by (λ e. e.1) rs) MAX_IMAGE_BYTES) ≡ true = system_fits s in
    let parts = and_parts (each_pair share_no_byte rs) (list_all (λ e. nat_le (e.0 + e.1) 4294967296) rs) (and_parts (each_pair share_no_byte rs && list_all (λ e. nat_le (e.0 + e.1) 4294967296) rs) _ fit).0 in
    regions-apart rs parts.0 parts.1

-- after all of the first n
above : (first len n x : ℕ) → len ≤ 8 → first + 8 * n ≤ x → any_covers (ranges_from first len n) x ≡ false
above first len zero x small high = refl
above first len (suc n) x small high = or_from (range_covers (first + 8 * n, len) x) (any_covers (ranges_from first len n) x) (grind (arith, nat_tests)) (above first len n x small (omega arith))

at_least : (a len x : ℕ) → range_covers (a, len) x ≡ true → a ≤ x
at_least a len x inside = grind (arith, nat_tests)

ranges-apart : (first len n : ℕ) → (n ≤ 1) ⊎ (len ≤ 8) → ((k : ℕ) → k < n → (first + 8 * k) + len ≤ 4294967296) → AreApart 4294967296 (ranges_from first len n)
ranges-apart first len zero few ends = tt
ranges-apart first len (suc zero) few ends = (ends 0 (omega arith), λ x inside. refl, tt)
ranges-apart first len (suc (suc n)) (inl one) ends = absurd (omega arith)
ranges-apart first len (suc (suc n)) (inr small) ends =
    (ends (suc n) (omega arith), λ x inside. above first len (suc n) x small (at_least (first + 8 * suc n) len x inside), ranges-apart first len (suc n) (inr small) (λ k below. ends k (omega arith)))

written-apart : (regions : List (ℕ × ℕ)) (w : Ranges) → fit_an_image regions ≡ true → AreInside regions w → AreApart 4294967296 (ranges_in w)
written-apart regions w fit inside = ranges-apart w.first w.len w.times (few inside.few) (λ k below. let at = placed regions w k fit inside below in at.end) where
  few : (w.times ≤ 1) ⊎ ((w.times ≤ 4) × (w.len ≡ 4)) → (w.times ≤ 1) ⊎ (w.len ≤ 8)
  few (inl one) = inl one
  few (inr words) = inr (omega (arith, words.1))

-- ---- all differences lie in the ranges

same_byte : (a b : ℕ) → a ≡ b → not (nat_eq b a) ≡ false
same_byte a b h = grind (arith, nat_tests)

pub change-told : (s : System) (k a : ℕ) (old new : List Bytes) (w : Ranges) (d : Differences) → regions_of old ≡ ranges_of s.regions → regions_of new ≡ ranges_of s.regions
    → AreInside (ranges_of s.regions) w → ((x : ℕ) → any_covers (ranges_in w) x ≡ false → byte_at new x ≡ byte_at old x)
    → AreDifferences s a (byte_at old) (byte_at new) (ranges_in w) d → IsChangeOf s k a (byte_at old) (byte_at new) (change_of k d)
change-told s k a old new w d old_regions new_regions inside stays found =
    let m = byte_at old in
    let n = byte_at new in
    let rs = ranges_in w in
    let off : (x : ℕ) → any_covers rs x ≡ false → differs m n x ≡ false = λ x out. same_byte (n x) (m x) (stays x out) in
    let off_regions : (x : ℕ) → any_covers (ranges_of s.regions) x ≡ false → differs m n x ≡ false =
    λ x out. same_outside old new (old_regions ∙ sym new_regions) x (ap (λ r. any_covers r x) old_regions ∙ out) in
    let lowest : IsLeast (differs m n) d.lowest = least_same (λ x. differs m n x && any_covers rs x) (differs m n) d.lowest (λ x. covered (differs m n x) (any_covers rs x) (off x)) found.lowest in
    let count : d.count ≡ count_in (differs m n) (ranges_of s.regions) =
    found.count ∙ count_in_ranges (differs m n) rs (ranges_of s.regions) 4294967296 (written-apart (ranges_of s.regions) w (system_fits s) inside) (system-apart s) off off_regions in
    let outside : IsLeast (λ x. differs m n x && not (own_ram s a x)) d.outside =
    least_same (λ x. (differs m n x && not (own_ram s a x)) && any_covers rs x) (λ x. differs m n x && not (own_ram s a x)) d.outside
    (λ x. covered (differs m n x && not (own_ram s a x)) (any_covers rs x) (λ out. and_left (differs m n x) (not (own_ram s a x)) (off x out))) found.outside in
    let told : (o : Option ℕ) → IsLeast (differs m n) o → IsChangeOf s k a m n (option_map (λ x. record { place = k; lowest = x; count = d.count; outside = d.outside }) o) =
    elim [ None ↦ λ least. least | Some x ↦ λ least. record { place = refl; lowest = least; count = count; outside = outside } ] in
    told d.lowest lowest
