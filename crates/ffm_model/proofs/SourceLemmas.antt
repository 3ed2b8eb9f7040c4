-- How many interrupt sources a system has.
use Rattle.std.proofs.Common.{ℕ, ◌≡◌, ◌<◌, ◌≤◌, ◌+◌, ◌-◌, ◌*◌, ◌%◌, ◌^◌, Bool, true, false, not, ◌&&◌, eqb, List, [], ◌∷◌, length, map, arith, refl, subst, inl, inr}
use Rattle.std.specs.Prelude.{nat_le, nat_lt, ◌==◌, position, Some}
use Rattle.std.specs.List.{list_any, list_all, range_with_len, IsDistinct, AllByRecursion}
use Rattle.std.proofs.lemmas.Bool.{and_parts, or_cases, eqb-true, ne_eqb}
use Rattle.std.proofs.lemmas.Bool.Decides.{nat_tests}
use Rattle.std.proofs.lemmas.List.{length-map}
use Rattle.std.proofs.lemmas.List.Quantifiers.{position-Some}
use Rattle.std.proofs.lemmas.Map.Steps.{length-le_from_distinct_below}
use Rattle.ffm_model.specs.declared.system.System.{System}
use Rattle.ffm_model.specs.declared.system.Source.{Source}
use Rattle.ffm_model.specs.WellFormed.{each_pair, is_signal_bit, signal_fits}
use Rattle.ffm_model.proofs.ActorLemmas.{few_partitions}
use Rattle.ffm_model.proofs.WellFormedLemmas.{source_signals_hold, sources_differ}

-- a bit from 4 to 31 is a multiple of 16, from 16 to 2^31
abbrev is_mark : ℕ → Bool
is_mark w = (w % 16 == 0) && (nat_le 16 w && nat_le w 2147483648)

any_mark : (ks : List ℕ) (w : ℕ) → list_all (λ k. is_mark (2 ^ k)) ks ≡ true → list_any (λ k. 2 ^ k == w) ks ≡ true → is_mark w ≡ true
any_mark [] w all any = absurd (cc)
any_mark (k ∷ ks) w all any =
    let marks = and_parts (is_mark (2 ^ k)) (list_all (λ k. is_mark (2 ^ k)) ks) all in
    elim (or_cases (2 ^ k == w) (list_any (λ k. 2 ^ k == w) ks) any) [
      | inl here ↦ subst (λ (v : ℕ). is_mark v ≡ true) (eqb-true (2 ^ k) w here) marks.0
      | inr later ↦ any_mark ks w marks.1 later
    ]

-- the owner is one of at most 32 partitions, and the signal such a bit
record Fits (v : Source) : Type 0 where
  owner : v.owner < 32
  mark : v.signal % 16 ≡ 0
  least : 16 ≤ v.signal
  most : v.signal ≤ 2147483648

fits_from : (n : ℕ) (v : Source) → n ≤ 32 → signal_fits n v.owner v.signal ≡ true → Fits v
fits_from n v few h =
    let parts = and_parts (nat_lt v.owner n) (is_signal_bit v.signal) h in
    let mark = any_mark (range_with_len 4 28) v.signal refl parts.1 in
    let low = and_parts (v.signal % 16 == 0) (nat_le 16 v.signal && nat_le v.signal 2147483648) mark in
    let high = and_parts (nat_le 16 v.signal) (nat_le v.signal 2147483648) low.1 in
    let owner : nat_lt v.owner n ≡ true = parts.0 in
    let marked : (v.signal % 16 == 0) ≡ true = low.0 in
    let least : nat_le 16 v.signal ≡ true = high.0 in
    let most : nat_le v.signal 2147483648 ≡ true = high.1 in
    record { owner = grind (arith, nat_tests); mark = grind (arith, nat_tests); least = grind (arith, nat_tests); most = grind (arith, nat_tests) }

-- a number below 2^32 for a signal and its owner
abbrev code : Source → ℕ
code v = 2 * v.signal - 32 + v.owner

code_below : (v : Source) → Fits v → code v < 4294967296
code_below v f = omega (arith, f.owner, f.mark, f.least, f.most)

-- which tells both
code_signal : (v w : Source) → Fits v → Fits w → code v ≡ code w → v.signal ≡ w.signal
code_signal v w f g e = omega (arith, f.owner, g.owner, f.mark, g.mark, f.least, g.least, e)

codes_apart : (v w : Source) → Fits v → Fits w → not ((v.owner == w.owner) && (v.signal == w.signal)) ≡ true → eqb (code v) (code w) ≡ false
codes_apart v w f g apart =
    ne_eqb (code v) (code w) (λ e.
    let signals : v.signal ≡ w.signal = code_signal v w f g e in
    let owners : v.owner ≡ w.owner = omega (arith, e, signals, f.least, g.least) in
    absurd (grind (arith, nat_tests)))

first_apart : (n : ℕ) (v : Source) (xs : List Source) → n ≤ 32 → Fits v → list_all (λ w. signal_fits n w.owner w.signal) xs ≡ true
    → list_all (λ w. not ((v.owner == w.owner) && (v.signal == w.signal))) xs ≡ true → AllByRecursion (λ y. eqb (code v) y ≡ false) (map code xs)
first_apart n v [] few f fits apart = tt
first_apart n v (w ∷ ws) few f fits apart =
    let fit = and_parts (signal_fits n w.owner w.signal) _ fits in
    let other = and_parts (not ((v.owner == w.owner) && (v.signal == w.signal))) _ apart in
    (codes_apart v w f (fits_from n w few fit.0) other.0, first_apart n v ws few f fit.1 other.1)

-- no two sources have one
codes_distinct : (n : ℕ) (xs : List Source) → n ≤ 32 → list_all (λ v. signal_fits n v.owner v.signal) xs ≡ true
    → each_pair (λ v w. not ((v.owner == w.owner) && (v.signal == w.signal))) xs ≡ true → IsDistinct eqb (map code xs)
unfolding IsDistinct
codes_distinct n [] few fits apart = tt
codes_distinct n (v ∷ vs) few fits apart =
    let fit = and_parts (signal_fits n v.owner v.signal) _ fits in
    let pairs = and_parts (list_all (λ w. not ((v.owner == w.owner) && (v.signal == w.signal))) vs) _ apart in
    (first_apart n v vs few (fits_from n v few fit.0) fit.1 pairs.0, codes_distinct n vs few fit.1 pairs.1)

codes_below : (n : ℕ) (xs : List Source) (q : ℕ) → n ≤ 32 → list_all (λ v. signal_fits n v.owner v.signal) xs ≡ true → list_any (eqb q) (map code xs) ≡ true → q < 4294967296
codes_below n [] q few fits any = absurd (cc)
codes_below n (v ∷ vs) q few fits any =
    let fit = and_parts (signal_fits n v.owner v.signal) _ fits in
    elim (or_cases (eqb q (code v)) (list_any (eqb q) (map code vs)) any) [
      | inl here ↦ omega (arith, eqb-true q (code v) here, code_below v (fits_from n v few fit.0))
      | inr later ↦ codes_below n vs q few fit.1 later
    ]

-- at most 2^32, so that the place of each is a number of 32 bits
pub few_sources : (s : System) → length s.sources ≤ 4294967296
few_sources s =
    let apart = codes_distinct (length s.partitions) s.sources (few_partitions s) (source_signals_hold s) (sources_differ s) in
    let below = λ (q : ℕ). codes_below (length s.partitions) s.sources q (few_partitions s) (source_signals_hold s) in
    let few = length-le_from_distinct_below (map code s.sources) 4294967296 apart below in
    rw length-map at few

place_inside : {X : Type 0} (p : X → Bool) (xs : List X) (i : ℕ) → position p xs ≡ Some i → i < length xs
place_inside p [] i e = absurd (cc)
place_inside p (x ∷ xs) i e = (position-Some p (x ∷ xs) i x e).0

-- the place of a source that is found is below 2^32
pub place_below : (s : System) (p : Source → Bool) (i : ℕ) → position p s.sources ≡ Some i → i < 4294967296
place_below s p i e = omega (arith, place_inside p s.sources i e, few_sources s)
