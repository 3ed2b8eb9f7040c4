-- The bytes that a copy of a part, and the lengths of a reply, leave as they were.
use Rattle.std.proofs.Common.{ℕ, ◌≡◌, ◌≤◌, ◌+◌, Bool, true, false, ◌&&◌, ◌||◌, List, [], ◌∷◌, length, arith, ◌∙◌, refl}
use Rattle.std.specs.Prelude.{nat_le, nat_lt}
use Rattle.std.proofs.lemmas.Bool.Decides.{nat_tests}
use Rattle.ffm_model.specs.declared.objects.Span.{Span}
use Rattle.ffm_model.specs.Memory.{ByteMap, lengths_written, store_number}
use Rattle.ffm_model.specs.Reach.{span_has, length_word_has}
use Rattle.ffm_model.specs.ServiceCalls.{rest_of}
use Rattle.memory_image.proofs.Outside.{store_number-outside}
use Rattle.memory_image.specs.Differences.{range_covers}

or_false : (a b : Bool) {P : Type 0} → (a || b) ≡ false → (a ≡ false → b ≡ false → P) → P
or_false true b h more = cc
or_false false b h more = more refl h

-- a reply changes length words alone
pub lengths_written-outside : (m : ByteMap) (at x : ℕ) (vs : List Span) → length_word_has x at (length vs) ≡ false → lengths_written m at vs x ≡ m x
lengths_written-outside m at x [] out = refl
lengths_written-outside m at x (v ∷ vs) out =
    or_false (nat_le (at + 4) x && nat_lt x (at + 8)) (length_word_has x (at + 8) (length vs)) out
    (λ here rest. lengths_written-outside (store_number m (at + 4) 4 v.moved) (at + 8) x vs rest
    ∙ store_number-outside m (at + 4) 4 v.moved x (grind (arith, nat_tests)))

-- fewer bytes at the same address
pub range-part : (x base len n : ℕ) → n ≤ len → range_covers (base, len) x ≡ false → range_covers (base, n) x ≡ false
range-part x base len n fewer out = grind (arith, nat_tests)

pub rest-outside : (v : Span) (at n x : ℕ) → at ≡ v.base + v.moved → n ≤ rest_of v → v.moved ≤ v.len → span_has x v ≡ false → range_covers (at, n) x ≡ false
rest-outside v at n x is fits moved out = grind (arith, nat_tests)
