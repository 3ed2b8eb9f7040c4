-- Reading hexadecimal digits two by two.
use Rattle.std.proofs.Common.{◌≡◌, ℕ, List, [], ◌∷◌, ◌++◌, Option, length, Some, None, refl, sym, ap, ◌∙◌, append_assoc}
use Rattle.std.proofs.lemmas.List.{append-nil}
use Rattle.std.specs.Option.{option_map}
use Rattle.std.proofs.lemmas.List.{nil_from_length}
use Rattle.ffm_model.specs.Scenarios.{hex_byte, hex_bytes}

-- what was found, and what the rest spells
abbrev pub spelled_after : List ℕ → List ℕ → Option (List ℕ)
spelled_after found digits = option_map (λ bytes. found ++ bytes) (hex_bytes digits)

goes_on : (found : List ℕ) (high low byte : ℕ) (digits : List ℕ) → hex_byte high low ≡ Some byte → spelled_after found (high ∷ low ∷ digits) ≡ spelled_after (found ++ byte ∷ []) digits
unfolding hex_bytes
goes_on found high low byte digits is =
    rw is (elim (hex_bytes digits) as (λ o. option_map (λ bytes. found ++ bytes) (option_map (λ bytes. byte ∷ bytes) o) ≡ option_map (λ bytes. (found ++ byte ∷ []) ++ bytes) o) [ Some bytes ↦ ap Some (sym (append_assoc found (byte ∷ []) bytes)) | None ↦ refl ])

no_byte : (found : List ℕ) (high low : ℕ) (digits : List ℕ) → hex_byte high low ≡ None → spelled_after found (high ∷ low ∷ digits) ≡ None
unfolding hex_bytes
no_byte found high low digits is = rw is refl

odd : (found : List ℕ) (high : ℕ) → spelled_after found (high ∷ []) ≡ None
unfolding hex_bytes
odd found high = refl

is_done : (found : List ℕ) → spelled_after found [] ≡ Some found
unfolding hex_bytes
is_done found = ap Some (append-nil found)

-- ---- the steps of the loop, where `total` is what all digits spell

pub goes_on_so : (found digits : List ℕ) (high : ℕ) (behind_high : List ℕ) (low : ℕ) (behind_low : List ℕ) (byte : ℕ) (total : Option (List ℕ)) → digits ≡ high ∷ behind_high → behind_high ≡ low ∷ behind_low → hex_byte high low ≡ Some byte
    → spelled_after found digits ≡ total → spelled_after (found ++ byte ∷ []) behind_low ≡ total
goes_on_so found digits high behind_high low behind_low byte total first second is so_far =
    sym (goes_on found high low byte behind_low is) ∙ (rw (first, second) at so_far)

pub no_byte_so : (found digits : List ℕ) (high : ℕ) (behind_high : List ℕ) (low : ℕ) (behind_low : List ℕ) (total : Option (List ℕ)) → digits ≡ high ∷ behind_high → behind_high ≡ low ∷ behind_low → hex_byte high low ≡ None
    → spelled_after found digits ≡ total → None ≡ total
no_byte_so found digits high behind_high low behind_low total first second is so_far =
    sym (no_byte found high low behind_low is) ∙ (rw (first, second) at so_far)

pub odd_so : (found digits : List ℕ) (high : ℕ) (behind_high : List ℕ) (total : Option (List ℕ)) → digits ≡ high ∷ behind_high → length behind_high ≡ 0 → spelled_after found digits ≡ total → None ≡ total
odd_so found digits high behind_high total first second so_far =
    let alone = nil_from_length behind_high second in
    sym (odd found high) ∙ (rw (first, alone) at so_far)

pub is_done_so : (found digits : List ℕ) (total : Option (List ℕ)) → length digits ≡ 0 → spelled_after found digits ≡ total → Some found ≡ total
is_done_so found digits total past so_far =
    let none = nil_from_length digits past in
    sym (is_done found) ∙ (rw none at so_far)
