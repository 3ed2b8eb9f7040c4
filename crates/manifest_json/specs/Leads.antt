-- How far the bytes of a JSON file can be passed as they are.
-- Source: JSON, RFC 8259.
use Rattle.std.specs.Prelude.{ℕ, ◌≡◌, ◌≤◌, ◌++◌, ◌&&◌, ◌==◌, List, length, take, drop, Bool, not}
use Rattle.ffm_model.specs.Quote.{Where, quoted, is_run_byte}

-- the first n bytes, which begin at w, stay as they are, and the next one stands at v
abbrev pub Leads : Where → ℕ → Where → List ℕ → Type 0
Leads w n v bytes = (n ≤ length bytes) × (quoted w bytes ≡ take n bytes ++ quoted v (drop n bytes))

-- in a string neither its closing mark nor a backslash
abbrev pub is_text_byte : ℕ → Bool
is_text_byte b = not (b == 34) && not (b == 92)

-- outside strings neither an opening mark nor a byte of a run
abbrev pub is_other_byte : ℕ → Bool
is_other_byte b = not (b == 34) && not (is_run_byte b)
