-- The order of numbers, as maps compare keys.
use Rattle.std.proofs.Common.{ℕ, ◌≡◌, ◌≤◌, arith, false}
use Rattle.std.specs.Ordering.{nat_cmp, is_gt, is_lt}
use Rattle.std.proofs.lemmas.Bool.Decides.{nat_tests}

pub not_above : (q last : ℕ) → q ≤ last → is_gt (nat_cmp q last) ≡ false
not_above q last h = grind (arith, nat_tests)

pub not_below : (key q : ℕ) → is_lt (nat_cmp key q) ≡ false → q ≤ key
not_below key q h = grind (arith, nat_tests)
