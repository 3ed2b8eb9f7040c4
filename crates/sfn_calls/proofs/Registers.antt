-- Fourteen registers of a function, and the two of the loop after them.
use Rattle.std.proofs.Common.{ℕ, zero, suc, ◌<◌, ◌≡◌, List, [], ◌∷◌, ◌++◌, length, get_or, refl, ap, ◌∙◌, arith, lit<}
use Rattle.std.specs.Prelude.{slice_set}
use Rattle.std.proofs.Math.ListN.{set}
use Rattle.std.proofs.lemmas.List.{set-append_left, set-append_right, length-set, get_or_append_left, get_or-append_right}
use Rattle.std.specs.List.{AllByRecursion}
use Rattle.ffm_model.specs.declared.script.Operand.{Operand}
use Rattle.ffm_model.specs.declared.script.Operand.TheVariants.{Register, Number}
use Rattle.ffm_model.specs.declared.machine.Message.{Message}
use Rattle.ffm_model.specs.declared.machine.Outcome.{Outcome}
use Rattle.ffm_model.specs.declared.machine.Outcome.TheVariants as outcome
use Rattle.ffm_model.specs.ScriptRuns.{value_of, noted, with_message}
use Rattle.ffm_model.specs.SfnScripts.{IsFunctionOperand}

pub get-low : (rs xs : List ℕ) (r : ℕ) → length rs ≡ 14 → r < 14 → get_or (rs ++ xs) r 0 ≡ get_or rs r 0
get-low rs xs r long low = get_or_append_left rs xs 0 r (omega arith)

pub set-low : (rs xs : List ℕ) (r v : ℕ) → length rs ≡ 14 → r < 14 → slice_set (rs ++ xs) r v ≡ slice_set rs r v ++ xs
set-low rs xs r v long low = set-append_left rs xs r v (omega arith)

pub set-15 : (rs : List ℕ) (h t v : ℕ) → length rs ≡ 14 → slice_set (rs ++ h ∷ (t ∷ [])) 15 v ≡ rs ++ h ∷ (v ∷ [])
set-15 rs h t v long = set-append_right rs (h ∷ (t ∷ [])) 14 15 v long (omega arith)

pub set-14 : (rs : List ℕ) (h t v : ℕ) → length rs ≡ 14 → slice_set (rs ++ h ∷ (t ∷ [])) 14 v ≡ rs ++ v ∷ (t ∷ [])
set-14 rs h t v long = set-append_right rs (h ∷ (t ∷ [])) 14 14 v long (omega arith)

pub get-15 : (rs : List ℕ) (h t : ℕ) → length rs ≡ 14 → get_or (rs ++ h ∷ (t ∷ [])) 15 0 ≡ t
get-15 rs h t long = get_or-append_right rs (h ∷ (t ∷ [])) 14 15 0 long (omega arith)

pub get-14 : (rs : List ℕ) (h t : ℕ) → length rs ≡ 14 → get_or (rs ++ h ∷ (t ∷ [])) 14 0 ≡ h
get-14 rs h t long = get_or-append_right rs (h ∷ (t ∷ [])) 14 14 0 long (omega arith)

pub value-low : (rs xs : List ℕ) (v : Operand) → length rs ≡ 14 → IsFunctionOperand v → value_of (rs ++ xs) v ≡ value_of rs v
value-low rs xs (Register r) long low = get-low rs xs r long low
value-low rs xs (Number n) long low = refl

pub operand-at : (vs : List Operand) (i : ℕ) → AllByRecursion IsFunctionOperand vs → IsFunctionOperand (get_or vs i (Number 0))
operand-at [] i each = tt
operand-at (v ∷ vs) zero each = each.0
operand-at (v ∷ vs) (suc i) each = operand-at vs i each.1

long-set : (rs : List ℕ) (r v n : ℕ) → length rs ≡ n → length (slice_set rs r v) ≡ n
long-set rs r v n long = length-set rs r v ∙ long

pub message-long : (m : Message) (rs : List ℕ) → length rs ≡ 14 → length (with_message m rs) ≡ 14
message-long m rs long = long-set _ _ _ 14 (long-set _ _ _ 14 (long-set _ _ _ 14 (long-set _ _ _ 14 (long-set rs _ _ 14 long))))

-- five registers, one after another
five-low : (rs xs : List ℕ) (a b c d e : ℕ) → length rs ≡ 14
    → slice_set (slice_set (slice_set (slice_set (slice_set (rs ++ xs) 0 a) 1 b) 2 c) 3 d) 4 e
    ≡ slice_set (slice_set (slice_set (slice_set (slice_set rs 0 a) 1 b) 2 c) 3 d) 4 e ++ xs
five-low rs xs a b c d e long =
    let r0 = slice_set rs 0 a in
    let r1 = slice_set r0 1 b in
    let r2 = slice_set r1 2 c in
    let r3 = slice_set r2 3 d in
    let l0 : length r0 ≡ 14 = long-set rs 0 a 14 long in
    let l1 : length r1 ≡ 14 = long-set r0 1 b 14 l0 in
    let l2 : length r2 ≡ 14 = long-set r1 2 c 14 l1 in
    let l3 : length r3 ≡ 14 = long-set r2 3 d 14 l2 in
    ap (λ (l : List ℕ). slice_set (slice_set (slice_set (slice_set l 1 b) 2 c) 3 d) 4 e) (set-low rs xs 0 a long (lit< tt))
    ∙ (ap (λ (l : List ℕ). slice_set (slice_set (slice_set l 2 c) 3 d) 4 e) (set-low r0 xs 1 b l0 (lit< tt))
    ∙ (ap (λ (l : List ℕ). slice_set (slice_set l 3 d) 4 e) (set-low r1 xs 2 c l1 (lit< tt))
    ∙ (ap (λ (l : List ℕ). slice_set l 4 e) (set-low r2 xs 3 d l2 (lit< tt))
    ∙ set-low r3 xs 4 e l3 (lit< tt))))

pub message-low : (m : Message) (rs xs : List ℕ) → length rs ≡ 14 → with_message m (rs ++ xs) ≡ with_message m rs ++ xs
message-low m rs xs long = five-low rs xs 0 _ _ _ _ long

pub noted-long : (o : Outcome) (rs : List ℕ) → length rs ≡ 14 → length (noted o rs) ≡ 14
noted-long (outcome.Got m) rs long = message-long m rs long
noted-long outcome.Blocked rs long = long
noted-long outcome.Done rs long = long
noted-long outcome.Panicked rs long = long
noted-long _ rs long = long-set rs _ _ 14 long

pub noted-low : (o : Outcome) (rs xs : List ℕ) → length rs ≡ 14 → noted o (rs ++ xs) ≡ noted o rs ++ xs
noted-low (outcome.Value z) rs xs long = set-low rs xs 0 _ long (lit< tt)
noted-low (outcome.Number n) rs xs long = set-low rs xs 0 n long (lit< tt)
noted-low (outcome.Signals n) rs xs long = set-low rs xs 0 n long (lit< tt)
noted-low (outcome.Got m) rs xs long = message-low m rs xs long
noted-low _ rs xs long = refl
