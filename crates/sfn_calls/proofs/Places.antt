-- Where the pieces of a script stand.
use Rattle.std.proofs.Common.{ℕ, zero, suc, ◌+◌, ◌<◌, ◌≡◌, List, [], ◌∷◌, ◌++◌, length, refl, ap, ◌∙◌, subst, arith, length-append}
use Rattle.std.specs.Prelude.{Option, Some, None, slice_get}
use Rattle.std.proofs.lemmas.Option.{slice_get_within}
use Rattle.ffm_model.specs.declared.script.Operand.TheVariants.{Register, Number}
use Rattle.ffm_model.specs.declared.script.Instruction.{Instruction}
use Rattle.ffm_model.specs.declared.script.Instruction.TheVariants.{Jump}
use Rattle.ffm_model.specs.declared.script.CallName.TheVariants as name
use Rattle.ffm_model.specs.declared.script.SfnInstruction.{SfnInstruction}
use Rattle.ffm_model.specs.declared.script.SfnInstruction.TheVariants.{Plain, Return}
use Rattle.sfn_calls.specs.Loop.{place_in, moved, lines_code, function_code, call_line}

-- a piece stands in a script at a place
pub record StandsAt (code : List Instruction) (at : ℕ) (xs : List Instruction) : Type 0 where
  pub get : (k : ℕ) → k < length xs → slice_get code (at + k) ≡ slice_get xs k

get-append-left : {A : Type 0} (xs ys : List A) (k : ℕ) → k < length xs → slice_get (xs ++ ys) k ≡ slice_get xs k
get-append-left [] ys k h = absurd (omega arith)
get-append-left (x ∷ xs) ys zero h = refl
get-append-left (x ∷ xs) ys (suc k) h = get-append-left xs ys k (omega arith)

get-append-right : {A : Type 0} (xs ys : List A) (k : ℕ) → slice_get (xs ++ ys) (length xs + k) ≡ slice_get ys k
get-append-right [] ys k = ap (slice_get ys) (omega arith)
get-append-right (x ∷ xs) ys k = let e : length (x ∷ xs) + k ≡ suc (length xs + k) = omega arith in rw e (get-append-right xs ys k)

pub stands-left : (code : List Instruction) (at : ℕ) (xs ys : List Instruction) → StandsAt code at (xs ++ ys) → StandsAt code at xs
stands-left code at xs ys s = record { get = λ k h. s.get k (omega (arith, length-append xs ys)) ∙ get-append-left xs ys k h }

pub stands-right : (code : List Instruction) (at : ℕ) (xs ys : List Instruction) → StandsAt code at (xs ++ ys) → StandsAt code (at + length xs) ys
stands-right code at xs ys s = record { get = λ k h. ap (slice_get code) (omega arith) ∙ (s.get (length xs + k) (omega (arith, length-append xs ys)) ∙ get-append-right xs ys k) }

pub stands-tail : (code : List Instruction) (at : ℕ) (x : Instruction) (xs : List Instruction) → StandsAt code at (x ∷ xs) → StandsAt code (at + 1) xs
stands-tail code at x xs s = record { get = λ k h. ap (slice_get code) (omega arith) ∙ (s.get (suc k) (omega arith)) }

pub stands-head : (code : List Instruction) (at : ℕ) (x : Instruction) (xs : List Instruction) → StandsAt code at (x ∷ xs) → slice_get code at ≡ Some x
stands-head code at x xs s = ap (slice_get code) (omega arith) ∙ s.get 0 (omega arith)

pub stands-whole : (code : List Instruction) → StandsAt code 0 code
stands-whole code = record { get = λ k h. ap (slice_get code) (omega arith) }

pub stands-moved : (code : List Instruction) (at to : ℕ) (xs : List Instruction) → at ≡ to → StandsAt code at xs → StandsAt code to xs
stands-moved code at to xs e s = subst (λ n. StandsAt code n xs) e s

-- ---- a function's code

-- what stands where a line of the function stood, and after its last line
abbrev pub code_of : (ℕ → ℕ) → Option SfnInstruction → Instruction
code_of to None = call_line name.Reply (Register 14) (Number 0)
code_of to (Some (Plain i)) = moved to i
code_of to (Some (Return v)) = call_line name.Reply (Register 14) v

pub code-at : (to : ℕ → ℕ) (xs : List SfnInstruction) (t : ℕ) → slice_get (lines_code to xs) (place_in xs t) ≡ Some (code_of to (slice_get xs t))
unfolding place_in lines_code
code-at to [] t = refl
code-at to (Plain i ∷ xs) zero = refl
code-at to (Return v ∷ xs) zero = refl
code-at to (Plain i ∷ xs) (suc t) = let e : 1 + place_in xs t ≡ suc (place_in xs t) = omega arith in rw e (code-at to xs t)
code-at to (Return v ∷ xs) (suc t) = let e : 2 + place_in xs t ≡ suc (suc (place_in xs t)) = omega arith in rw e (code-at to xs t)

-- after a reply the loop goes back
abbrev pub IsReturning : Option SfnInstruction → Type 0
IsReturning None = Unit {0}
IsReturning (Some (Plain i)) = ⊥
IsReturning (Some (Return v)) = Unit {0}

pub back-at : (to : ℕ → ℕ) (xs : List SfnInstruction) (t : ℕ) → IsReturning (slice_get xs t) → slice_get (lines_code to xs) (place_in xs t + 1) ≡ Some (Jump 0)
unfolding place_in lines_code
back-at to [] t h = refl
back-at to (Plain i ∷ xs) zero h = absurd h
back-at to (Return v ∷ xs) zero h = refl
back-at to (Plain i ∷ xs) (suc t) h = let e : 1 + place_in xs t + 1 ≡ suc (place_in xs t + 1) = omega arith in rw e (back-at to xs t h)
back-at to (Return v ∷ xs) (suc t) h = let e : 2 + place_in xs t + 1 ≡ suc (suc (place_in xs t + 1)) = omega arith in rw e (back-at to xs t h)

pub place-first : (xs : List SfnInstruction) → place_in xs 0 ≡ 0
unfolding place_in
place-first [] = refl
place-first (x ∷ xs) = refl

pub place-next : (xs : List SfnInstruction) (t : ℕ) (i : Instruction) → slice_get xs t ≡ Some (Plain i) → place_in xs (t + 1) ≡ place_in xs t + 1
unfolding place_in
place-next [] t i e = cc
place-next (Plain j ∷ xs) zero i e = rw (place-first xs) refl
place-next (Return v ∷ xs) zero i e = cc
place-next (x ∷ xs) (suc t) i e =
    let n : suc t + 1 ≡ suc (t + 1) = omega arith in
    let h = place-next xs t i e in
    rw n (omega arith)

pub code-here : (code : List Instruction) (lines : List SfnInstruction) (at t : ℕ) → StandsAt code at (function_code lines at)
    → slice_get code (at + place_in lines t) ≡ Some (code_of (λ u. at + place_in lines u) (slice_get lines t))
code-here code lines at t s =
    let e = code-at (λ u. at + place_in lines u) lines t in
    s.get (place_in lines t) (slice_get_within _ _ _ e) ∙ e

pub back-here : (code : List Instruction) (lines : List SfnInstruction) (at t : ℕ) → StandsAt code at (function_code lines at) → IsReturning (slice_get lines t)
    → slice_get code (at + place_in lines t + 1) ≡ Some (Jump 0)
back-here code lines at t s h =
    let e = back-at (λ u. at + place_in lines u) lines t h in
    ap (slice_get code) (omega arith) ∙ (s.get (place_in lines t + 1) (slice_get_within _ _ _ e) ∙ e)
