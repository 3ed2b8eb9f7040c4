-- The parts of a text between separators.
use Rattle.std.proofs.Common.{zero, suc, true, Bool, refl, ap, sym, ◌∙◌, length-drop, ◌≡◌, ◌≢◌, ℕ, ◌+◌, ◌<◌, ◌≤◌, ◌==◌, false, List, [], ◌∷◌, take, drop, length, get_or, arith, Option, None, Some}
use Rattle.std.specs.List.{All, position_or_len, before_first, after_first}
use Rattle.std.specs.Prelude.{◌&&◌, if◌then◌else◌}
use Rattle.std.proofs.lemmas.Bool.{and_parts, eqb-true, ne_eqb, eq-eqb}
use Rattle.std.proofs.lemmas.List.{get_or-drop, get_or-take, length-take-le}
use Rattle.std.proofs.lemmas.List.Sums.{position_or_len_is}
use Rattle.std.proofs.lemmas.List.Elements.{All-from_get_or}
use Rattle.std.proofs.lemmas.List.Splits.{slice_split_first, slice_split_none, length-slice_split}
use Rattle.std.proofs.lemmas.Bool.Decides.{nat_tests}
use Rattle.memchr.specs.Find.{NoneBefore, Nowhere, Passes, is_byte}
use Rattle.ffm_model.specs.Binding.{◌>>=◌}
use Rattle.ffm_model.specs.TraceText.{Word}
use Rattle.trace_print.specs.Numbers.{hexadecimal_of, is_hexadecimal, number_after, with_digit}
use Rattle.trace_print.specs.Reading.{hexadecimal_at}
use Rattle.trace_print.specs.View.{parts}

-- the first separator stands at a place
pub cut_at : (s : ℕ) (xs : List ℕ) (i : ℕ) → i < length xs → get_or xs i 0 ≡ s → ((k : ℕ) → k < i → get_or xs k 0 ≢ s) → parts s xs ≡ take i xs ∷ parts s (drop (i + 1) xs)
cut_at s xs i inside here before =
    let place : position_or_len (λ b. b == s) xs ≡ i = position_or_len_is {X = ℕ} (λ b. b == s) xs i 0 (omega arith) (λ k lt. ne_eqb (get_or xs k 0) s (before k lt)) (λ lt. eq-eqb (get_or xs i 0) s here) in
    let some : position_or_len (λ b. b == s) xs < length xs = omega arith in
    let first : parts s xs ≡ before_first (λ b. b == s) xs ∷ parts s (after_first (λ b. b == s) xs) = slice_split_first (λ b. b == s) xs 0 some in
    rw place at first

-- there is no separator
pub not_cut : (s : ℕ) (xs : List ℕ) → All (λ b. (b == s) ≡ false) xs → parts s xs ≡ xs ∷ []
not_cut s xs none = slice_split_none (λ b. b == s) xs none

-- no byte before the end is one
pub none_before : (s : ℕ) (xs : List ℕ) (i : ℕ) → length xs ≤ i → ((k : ℕ) → k < i → get_or xs k 0 ≢ s) → parts s xs ≡ xs ∷ []
none_before s xs i over before = not_cut s xs (All-from_get_or (λ b. (b == s) ≡ false) xs 0 (λ k lt. ne_eqb (get_or xs k 0) s (before k (omega (arith, over, lt)))))

-- the first separator was found by a search
pub found_at : (s : ℕ) (xs : List ℕ) (i : ℕ) → NoneBefore (Passes (is_byte s) xs) 0 (length xs) i → Passes (is_byte s) xs i → parts s xs ≡ take i xs ∷ parts s (drop (i + 1) xs)
found_at s xs i first here = cut_at s xs i first.high (grind (arith, nat_tests, here)) (λ k lt is. first.before k (omega arith) lt (eq-eqb (get_or xs k 0) s is))

-- a search found no separator
pub found_nowhere : (s : ℕ) (xs : List ℕ) → Nowhere (Passes (is_byte s) xs) 0 (length xs) → parts s xs ≡ xs ∷ []
found_nowhere s xs none = not_cut s xs (All-from_get_or (λ b. (b == s) ≡ false) xs 0 (λ k lt. ne_eqb (get_or xs k 0) s (λ is. none k (omega arith) lt (eq-eqb (get_or xs k 0) s is))))

-- a text has at least one part
pub some_word : (text : List ℕ) → (length (parts 32 text) == 0) ≡ false
some_word text = grind (arith, nat_tests, length-slice_split {X = ℕ} (λ b. b == 32) text)

-- ---- a hexadecimal word with others after it

nothing : {X : Type 0} (x : X) → None ≡ Some x → ⊥
nothing x e = cc

goes-by : (m : ℕ) (bs : List ℕ) {C : Type 0} (o : Option ℕ) → (o >>= λ p. number_after 16 p bs) ≡ Some m → ((p : ℕ) → number_after 16 p bs ≡ Some m → C) → C
goes-by m bs (Some p) e go = go p e
goes-by m bs None e go = absurd (nothing m e)

-- no digit is a space
no-space : (n m : ℕ) (bs : List ℕ) → number_after 16 n bs ≡ Some m → (k : ℕ) → k < length bs → get_or bs k 0 ≢ 32
unfolding number_after
no-space n m [] e k lt = absurd (omega (arith, lt))
no-space n m (b ∷ bs) e zero lt = λ is. nothing m (ap (λ x. with_digit 16 n x >>= λ p. number_after 16 p bs) (sym is) ∙ e)
no-space n m (b ∷ bs) e (suc k) lt = goes-by m bs (with_digit 16 n b) e (λ p rest. no-space p m bs rest k (omega (arith, lt)))

both-some : (b : Bool) (o : Option ℕ) (n : ℕ) → (if b then o else None) ≡ Some n → (b ≡ true) × (o ≡ Some n)
both-some true o n e = (refl, e)
both-some false o n e = absurd (nothing n e)

first-word : (xs w : List ℕ) (ws : List Word) (n : ℕ) → parts 32 xs ≡ w ∷ ws → hexadecimal_of w ≡ Some n → hexadecimal_at (parts 32 xs) ≡ Some (n, ws)
first-word xs w ws n cut e = ap hexadecimal_at cut ∙ ap (λ o. o >>= λ x. Some (x, ws)) e

-- ten bytes that are a hexadecimal word, and a space after them
pub hexadecimal_first : (xs : List ℕ) (n : ℕ) → 10 < length xs → get_or xs 10 0 ≡ 32 → hexadecimal_of (take 10 xs) ≡ Some n → hexadecimal_at (parts 32 xs) ≡ Some (n, parts 32 (drop 11 xs))
hexadecimal_first xs n over space e =
    let w : List ℕ = take 10 xs in
    let is = both-some (is_hexadecimal w) (number_after 16 0 (drop 2 w)) n e in
    let front = and_parts (get_or w 0 0 == 48) (get_or w 1 0 == 120) (and_parts (length w == 10) ((get_or w 0 0 == 48) && (get_or w 1 0 == 120)) is.0).1 in
    let long : length w ≡ 10 = length-take-le 10 xs (omega (arith, over)) in
    let before : (k : ℕ) → k < 10 → get_or w k 0 ≢ 32 = elim [
      | zero ↦ λ lt is_space. omega (arith, is_space, eqb-true (get_or w 0 0) 48 front.0)
      | suc zero ↦ λ lt is_space. omega (arith, is_space, eqb-true (get_or w 1 0) 120 front.1)
      | suc (suc k) ↦ λ lt is_space. no-space 0 n (drop 2 w) is.1 k (omega (arith, lt, length-drop 2 w, long)) (get_or-drop 2 w k 0 ∙ ap (λ j. get_or w j 0) (omega arith) ∙ is_space)
    ] in
    let cut = cut_at 32 xs 10 over space (λ k lt is_space. before k lt (get_or-take 10 xs k 0 lt ∙ is_space)) in
    first-word xs w (parts 32 (drop 11 xs)) n cut e
