-- Bytes that are put into one piece are put into the memory.
use Rattle.std.proofs.Common.{ℕ, zero, suc, ◌≡◌, ◌<◌, ◌≤◌, ◌+◌, ◌-◌, Bool, true, false, ◌||◌, List, [], ◌∷◌, ◌++◌, length, get_or, set, take, drop, arith, ◌∙◌, ap, sym, refl}
use Rattle.std.proofs.Math.Path.{fun_ext}
use Rattle.std.proofs.Math.Seq.{take-append_seam}
use Rattle.std.specs.Prelude.{◌==◌, slice_index, nat_le}
use Rattle.std.specs.List.{list_all, list_any}
use Rattle.std.proofs.lemmas.Bool.Decides.{nat_tests}
use Rattle.ffm_model.specs.declared.scenario.Bytes.{Bytes}
use Rattle.ffm_model.specs.Memory.{ByteMap, write_bytes}
use Rattle.ffm_model.specs.WellFormed.{each_pair}
use Rattle.ffm_model.specs.Ranges.{has_range, share_no_byte}
use Rattle.memory_image.specs.Pieces.{byte_at, range_of, IsPut, regions_of, fit_an_image, is_inside}
use Rattle.std.proofs.lemmas.List.Folds.{list_all-map}
use Rattle.std.proofs.lemmas.Bool.{and_parts, or_right}
use Rattle.law_lists.proofs.Tests.{list_any-more}
use Rattle.law_lists.proofs.Bools.{or_rest}
use Rattle.ffm_model.proofs.TestLemmas.{holds_at}

or_then : (a b : Bool) (P : Type 0) → (a || b) ≡ true → (a ≡ true → P) → (b ≡ true → P) → P
or_then true b P h first second = first refl
or_then false b P h first second = second h

range_ends : (at len : ℕ) (regions : List (ℕ × ℕ)) → list_all (λ e. nat_le (e.0 + e.1) 4294967296) regions ≡ true → list_any (has_range at len) regions ≡ true → at + len ≤ 4294967296
range_ends at len [] fits inside = absurd cc
range_ends at len (e ∷ es) fits inside =
    or_then (has_range at len e) _ (at + len ≤ 4294967296) inside (λ here. let end : nat_le (e.0 + e.1) 4294967296 ≡ true = (and_parts _ _ fits).0 in grind (arith, nat_tests))
    (range_ends at len es (and_parts _ _ fits).1)

pub stay_apart : (ranges : List (ℕ × ℕ)) → fit_an_image ranges ≡ true → each_pair share_no_byte ranges ≡ true
unfolding fit_an_image
stay_apart ranges h = (and_parts _ _ (and_parts _ _ h).0).0

put_head : (p q : Bytes) (ps : List Bytes) (at : ℕ) (bs : List ℕ) → IsPut p q at bs → (x : ℕ) → byte_at (q ∷ ps) x ≡ write_bytes (byte_at (p ∷ ps)) at bs x
put_head p q ps at bs put x =
    let here : slice_index q.content (x - p.address) ≡ write_bytes (λ y. slice_index p.content y) (at - p.address) bs (x - p.address) = put.put (x - p.address) in
    let address : q.address ≡ p.address = ap (λ e. e.0) put.range in
    let long : length q.content ≡ length p.content = ap (λ e. e.1) put.range in
    let range : has_range at (length bs) (range_of p) ≡ true = put.inside in
    rw (address, long, here) (grind (arith, nat_tests))

put_after : (p r : Bytes) (ps qs : List Bytes) (at : ℕ) (bs : List ℕ) → share_no_byte (range_of p) (range_of r) ≡ true → has_range at (length bs) (range_of r) ≡ true → (x : ℕ)
    → byte_at qs x ≡ write_bytes (byte_at ps) at bs x → byte_at (p ∷ qs) x ≡ write_bytes (byte_at (p ∷ ps)) at bs x
put_after p r ps qs at bs apart range x rest = rw rest (grind (arith, nat_tests))

pub stored : (ps : List Bytes) (i : ℕ) (q d : Bytes) (at : ℕ) (bs : List ℕ) → i < length ps → each_pair share_no_byte (regions_of ps) ≡ true → IsPut (get_or ps i d) q at bs
    → (x : ℕ) → byte_at (set ps i q) x ≡ write_bytes (byte_at ps) at bs x
stored [] i q d at bs below apart put x = absurd (omega arith)
stored (p ∷ ps) zero q d at bs below apart put x = put_head p q ps at bs put x
stored (p ∷ ps) (suc i) q d at bs below apart put x =
    let inside : i < length ps = omega arith in
    let apart_from : share_no_byte (range_of p) (range_of (get_or ps i d)) ≡ true =
    holds_at (λ r. share_no_byte (range_of p) (range_of r)) ps i d inside (sym (list_all-map (share_no_byte (range_of p)) range_of ps) ∙ (and_parts _ _ apart).0) in
    put_after p (get_or ps i d) ps (set ps i q) at bs apart_from put.inside x
    (stored ps i q d at bs inside (and_parts _ _ apart).1 put x)

-- the regions stay
pub regions-kept : (ps : List Bytes) (i : ℕ) (q d : Bytes) → i < length ps → range_of q ≡ range_of (get_or ps i d) → regions_of (set ps i q) ≡ regions_of ps
regions-kept [] i q d below range = absurd (omega arith)
regions-kept (p ∷ ps) zero q d below range = ap (λ e. e ∷ regions_of ps) range
regions-kept (p ∷ ps) (suc i) q d below range =
    let inside : i < length ps = omega arith in
    ap (λ es. range_of p ∷ es) (regions-kept ps i q d inside range)

-- a range that isn't empty ends by 2^32
pub ends_below : (at len : ℕ) (regions : List (ℕ × ℕ)) → fit_an_image regions ≡ true → is_inside at len regions ≡ true → 0 < len → at + len ≤ 4294967296
unfolding fit_an_image
ends_below at len regions fits inside some =
    let empty : (len == 0) ≡ false = grind (arith, nat_tests) in
    range_ends at len regions (and_parts _ _ (and_parts _ _ fits).0).1 (or_rest _ _ empty inside)

-- a part of a range lies in the same region
pub part_inside : (at len b n : ℕ) (regions : List (ℕ × ℕ)) → at ≤ b → b + n ≤ at + len → is_inside at len regions ≡ true → is_inside b n regions ≡ true
part_inside at len b zero regions low high inside = refl
part_inside at len b (suc n) regions low high inside =
    let empty : (len == 0) ≡ false = grind (arith, nat_tests) in
    let part : list_any (has_range b (suc n)) regions ≡ true =
    list_any-more (has_range at len) (has_range b (suc n)) (λ e h. grind (arith, nat_tests)) regions (or_rest _ _ empty inside) in
    or_right _ _ part

whole : {X : Type 0} (xs ys : List X) (n : ℕ) → length ys ≡ n → take n (ys ++ drop (length ys) xs) ≡ ys
whole xs ys n long = ap (λ k. take k (ys ++ drop (length ys) xs)) (sym long) ∙ take-append_seam ys (drop (length ys) xs)

-- the pieces that an image holds are those that were changed
pub held : (f : ByteMap → ByteMap) (old new view : List Bytes) (n : ℕ) → length new ≡ n → old ≡ view
    → ((x : ℕ) → byte_at new x ≡ f (byte_at old) x) → byte_at (take n (new ++ drop (length new) old)) ≡ f (byte_at view)
held f old new view n long is changed = ap byte_at (whole old new n long) ∙ fun_ext changed ∙ ap (λ ps. f (byte_at ps)) is
