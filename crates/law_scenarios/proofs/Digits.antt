-- The numbers that digits spell are in range.
use Rattle.std.proofs.Common.{ℕ, zero, suc, ◌≡◌, ◌<◌, ◌≤◌, ◌+◌, ◌*◌, Bool, true, false, ◌&&◌, List, [], ◌∷◌, length, drop, arith, refl, length-drop}
use Rattle.std.specs.Prelude.{Option, Some, None, IfSome, if◌then◌else◌, nat_lt, nat_le, option_and_then}
use Rattle.std.specs.Char.{digit_value, is_digit}
use Rattle.std.specs.Option.{option_map}
use Rattle.std.proofs.lemmas.Bool.{and_parts}
use Rattle.std.proofs.lemmas.Bool.Decides.{nat_tests}
use Rattle.ffm_model.specs.Scenarios.{hex_byte, hex_bytes}
use Rattle.ffm_model.specs.Texts.{hex_after, hex_number}
use Rattle.ffm_model.specs.TraceText.{IsU32}
use Rattle.law_scenarios.proofs.Numbers.{AreBytes, byte-first, no-bytes}

below : (v r : ℕ) → nat_lt v r ≡ true → v < r
below v r e = grind (arith, nat_tests)

-- what is chosen where a test passes
chosen : {X : Type 0} (P : X → Type 0) (b : Bool) (o : Option X) → (b ≡ true → IfSome o P) → IfSome (if b then o else None) P
chosen P true o h = h refl
chosen P false o h = tt

-- ---- numbers in base 16

-- m, with so many zeros behind it in base 16
abbrev scaled : ℕ → ℕ → ℕ
scaled m zero = m
scaled m (suc k) = scaled (m * 16) k

scaled-more : (k m : ℕ) → m ≤ scaled m k
scaled-more zero m = omega arith
scaled-more (suc k) m = omega (arith, scaled-more k (m * 16))

-- so many digits at most, after those that spell a number below m
hex-after : (ds : List ℕ) (k n m : ℕ) → length ds ≤ k → n < m → IfSome (hex_after n ds) (λ v. v < scaled m k)
hex-after [] k n m h less = omega (arith, less, scaled-more k m)
hex-after (d ∷ ds) zero n m h less = absurd (omega arith)
hex-after (d ∷ ds) (suc k) n m h less =
    chosen (λ v. v < scaled (m * 16) k) (is_digit d 16) (hex_after (n * 16 + digit_value d) ds) (λ e.
    let digit : digit_value d < 16 = below (digit_value d) 16 e in
    hex-after ds k (n * 16 + digit_value d) (m * 16) (omega arith) (next n m (digit_value d) less digit)) where
      next : (n m v : ℕ) → n < m → v < 16 → n * 16 + v < m * 16
      next n m v less digit = omega arith

-- one to eight digits
pub hex-fits : (text : List ℕ) → IfSome (hex_number text) IsU32
unfolding hex_number
hex-fits text =
    chosen IsU32 _ (hex_after 0 (drop 2 text)) (λ e.
    let most : nat_le (length text) 10 ≡ true = (and_parts (nat_lt 2 (length text)) _ (and_parts _ _ (and_parts _ _ e).0).0).1 in
    let few : length text ≤ 10 = grind (arith, nat_tests) in
    hex-after (drop 2 text) 8 0 1 (omega (arith, length-drop 2 text)) (omega arith))

-- ---- bytes

byte-of : (high low : ℕ) → IfSome (hex_byte high low) (λ b. b < 256)
byte-of high low =
    chosen (λ b. b < 256) (is_digit high 16 && is_digit low 16) _ (λ e.
    let both = and_parts (is_digit high 16) (is_digit low 16) e in
    two (digit_value high) (digit_value low) (below (digit_value high) 16 both.0) (below (digit_value low) 16 both.1)) where
      two : (h l : ℕ) → h < 16 → l < 16 → h * 16 + l < 256
      two h l first second = omega arith

pub bytes-of : (digits : List ℕ) → IfSome (hex_bytes digits) AreBytes
unfolding hex_bytes
bytes-of [] = no-bytes
bytes-of (high ∷ []) = tt
bytes-of (high ∷ low ∷ digits) =
    let rest : IfSome (hex_bytes digits) AreBytes = bytes-of digits in
    let on : (b : ℕ) → b < 256 → (o : Option (List ℕ)) → IfSome o AreBytes → IfSome (option_map (λ bytes. b ∷ bytes) o) AreBytes = λ b h. elim [ None ↦ λ k. tt | Some bs ↦ λ k. byte-first b bs h k ] in
    let go : (o : Option ℕ) → IfSome o (λ b. b < 256) → IfSome (option_and_then (λ byte. option_map (λ bytes. byte ∷ bytes) (hex_bytes digits)) o) AreBytes = elim [ None ↦ λ k. tt | Some b ↦ λ k. on b k (hex_bytes digits) rest ] in
    go (hex_byte high low) (byte-of high low)
