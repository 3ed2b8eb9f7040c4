-- Numbers that fit: words of 32 bits and their signed values, bytes, and lists of them.
use Rattle.std.proofs.Common.{ℕ, zero, suc, ◌≡◌, ◌<◌, ◌+◌, ◌-◌, ◌/◌, ◌%◌, ◌^◌, Bool, true, false, ◌&&◌, ◌||◌, List, [], ◌∷◌, length, inl, inr, arith, sym, subst}
use Rattle.std.specs.Prelude.{ℤ, pos, negsuc, int_le, nat_le, nat_lt, slice_index, if◌then◌else◌, ◌==◌}
use Rattle.std.specs.Int.{w32, cast_signed}
use Rattle.std.proofs.Math.Facts.{sfits_to_z}
use Rattle.std.proofs.lemmas.Bool.{and_parts, eqb-true, or_cases}
use Rattle.std.proofs.lemmas.Bool.Decides.{nat_tests}
use Rattle.ffm_model.specs.Memory.{ByteMap, bytes_at, copy_bytes, load_number, low_bytes, store_number, words_stored, write_bytes}
use Rattle.ffm_model.specs.TraceText.{IsI32, IsU32}
use Rattle.law_scenarios.specs.Ranges.{HasBytes}

-- ---- numbers of 32 bits

-- the signed number of 32 bits is a value of an i32
pub signed-fits : (n : ℕ) → IsU32 n → IsI32 (cast_signed w32 n)
signed-fits n h = sfits_to_z (omega (arith, h))

pub zero-fits : IsU32 0
zero-fits = omega arith

-- a fresh handle is a positive number below 0x40000000
pub small-fits : (z : ℤ) → (int_le (pos 1) z && int_le z (pos 0x3fffffff)) ≡ true → IsI32 z
small-fits (pos n) h =
    let high : nat_le n 0x3fffffff ≡ true = (and_parts (int_le (pos 1) (pos n)) (int_le (pos n) (pos 0x3fffffff)) h).1 in
    let below : n < 2 ^ 31 = grind (arith, nat_tests) in
    record { sfits = below }
small-fits (negsuc n) h = absurd (cc)

-- ---- bytes

-- a list of bytes; past its end it has the byte 0
abbrev pub AreBytes : List ℕ → Type 0
AreBytes bs = (k : ℕ) → slice_index bs k < 256

pub no-bytes : AreBytes []
no-bytes k = omega arith

pub byte-first : (b : ℕ) (bs : List ℕ) → b < 256 → AreBytes bs → AreBytes (b ∷ bs)
byte-first b bs h rest zero = h
byte-first b bs h rest (suc k) = rest k

pub at-bytes : (m : ByteMap) (a n : ℕ) → HasBytes m → AreBytes (bytes_at m a n)
at-bytes m a zero h = no-bytes
at-bytes m a (suc n) h = byte-first (m a) (bytes_at m (a + 1) n) (h a) (at-bytes m (a + 1) n h)

low-bytes : (n v : ℕ) → AreBytes (low_bytes n v)
low-bytes zero v = no-bytes
low-bytes (suc n) v = byte-first (v % 256) (low_bytes n (v / 256)) (omega arith) (low-bytes n (v / 256))

-- ---- memories

pub written : (m : ByteMap) (a : ℕ) (bs : List ℕ) → HasBytes m → AreBytes bs → HasBytes (write_bytes m a bs)
written m a bs h of_bs x =
    elim (nat_le a x && nat_lt x (a + length bs)) as (λ (b : Bool). (if b then slice_index bs (x - a) else m x) < 256) [ true ↦ of_bs (x - a) | false ↦ h x ]

pub stored : (m : ByteMap) (a size v : ℕ) → HasBytes m → HasBytes (store_number m a size v)
stored m a size v h = written m a (low_bytes size v) h (low-bytes size v)

pub copied : (m : ByteMap) (from to n : ℕ) → HasBytes m → HasBytes (copy_bytes m from to n)
copied m from to n h = written m to (bytes_at m from n) h (at-bytes m from n h)

pub words-stored : (m : ByteMap) (at : ℕ) (ws : List ℕ) → HasBytes m → HasBytes (words_stored m at ws)
words-stored m at [] h = h
words-stored m at (w ∷ ws) h = words-stored (store_number m at 4 w) (at + 4) ws (stored m at 4 w h)

-- what a load of 1, 2 or 4 bytes gives
pub loaded : (m : ByteMap) (a n : ℕ) → HasBytes m → ((n == 1) || ((n == 2) || (n == 4))) ≡ true → IsU32 (load_number m a n)
loaded m a n h size =
    let one : load_number m a 1 < 4294967296 = omega (arith, h a) in
    let two : load_number m a 2 < 4294967296 = omega (arith, h a, h (a + 1)) in
    let four : load_number m a 4 < 4294967296 = omega (arith, h a, h (a + 1), h (a + 1 + 1), h (a + 1 + 1 + 1)) in
    let is : (k : ℕ) → load_number m a k < 4294967296 → n ≡ k → load_number m a n < 4294967296 = λ k below e. subst (λ (i : ℕ). load_number m a i < 4294967296) (sym e) below in
    elim (or_cases (n == 1) ((n == 2) || (n == 4)) size) [
      | inl e ↦ is 1 one (eqb-true n 1 e)
      | inr rest ↦ elim (or_cases (n == 2) (n == 4) rest) [ inl e ↦ is 2 two (eqb-true n 2 e) | inr e ↦ is 4 four (eqb-true n 4 e) ]
    ]
