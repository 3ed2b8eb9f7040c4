-- What is put into the memory changes its own bytes alone.
use Rattle.std.proofs.Common.{ℕ, zero, suc, ◌≡◌, ◌+◌, ◌*◌, ◌/◌, false, List, [], ◌∷◌, length, arith, ◌∙◌, ap, refl}
use Rattle.std.proofs.lemmas.Bool.Decides.{nat_tests}
use Rattle.memory_image.specs.Differences.{range_covers}
use Rattle.ffm_model.specs.Memory.{ByteMap, bytes_at, copy_bytes, low_bytes, store_number, words_stored, write_bytes}
use Rattle.ffm_model.proofs.BytesLemmas.{bytes-length}

length-low_bytes : (n v : ℕ) → length (low_bytes n v) ≡ n
length-low_bytes zero v = refl
length-low_bytes (suc n) v = ap suc (length-low_bytes n (v / 256))

-- outside of the bytes that are put, memory stays
pub write_bytes-outside : (m : ByteMap) (a : ℕ) (bs : List ℕ) (n x : ℕ) → length bs ≡ n → range_covers (a, n) x ≡ false → write_bytes m a bs x ≡ m x
write_bytes-outside m a bs n x long out = grind (arith, nat_tests)

-- a number changes its own bytes alone
pub store_number-outside : (m : ByteMap) (at size v x : ℕ) → range_covers (at, size) x ≡ false → store_number m at size v x ≡ m x
store_number-outside m at size v x out = write_bytes-outside m at (low_bytes size v) size x (length-low_bytes size v) out

-- and words theirs
pub words_stored-outside : (m : ByteMap) (at x : ℕ) (ws : List ℕ) → range_covers (at, 4 * length ws) x ≡ false → words_stored m at ws x ≡ m x
words_stored-outside m at x [] out = refl
words_stored-outside m at x (w ∷ ws) out =
    words_stored-outside (store_number m at 4 w) (at + 4) x ws (grind (arith, nat_tests)) ∙ store_number-outside m at 4 w x (grind (arith, nat_tests))

-- a copy changes its target alone
pub copy_bytes-outside : (m : ByteMap) (from to len x : ℕ) → range_covers (to, len) x ≡ false → copy_bytes m from to len x ≡ m x
copy_bytes-outside m from to len x out = write_bytes-outside m to (bytes_at m from len) len x (bytes-length m from len) out
