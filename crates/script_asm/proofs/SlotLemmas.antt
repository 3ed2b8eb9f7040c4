-- So many operands, filled from the front.
use Rattle.std.specs.List.{AllByRecursion}
use Rattle.ffm_model.specs.Scripts.{IsOperand}
use Rattle.std.proofs.Common.{ℕ, zero, suc, ◌≡◌, ◌<◌, ◌≤◌, ◌+◌, ◌-◌, List, [], ◌∷◌, ◌++◌, length, refl, ap, sym, ◌∙◌, arith, take, drop, replicate, append_assoc, map, get_or, Bor, add-one, drop-cons, append-nil}
use Rattle.std.specs.Prelude.{Option, Some, None, option_map, slice_set}
use Rattle.std.proofs.lemmas.List.{drop-drop, drop-set-lt, drop-replicate, take_more_set}
use Rattle.std.proofs.lemmas.Grind.{common_steps}
use Rattle.ffm_model.specs.declared.script.Operand.{Operand}
use Rattle.ffm_model.specs.declared.script.Operand.TheVariants.{Number}
use Rattle.script_asm.specs.Words.{Word, operand_of}
use Rattle.script_asm.specs.Lines.{operands_of, filled}

pub unused-set : (room : ℕ) (xs : List Operand) (i : ℕ) (x : Operand) → i < room → drop i xs ≡ replicate (room - i) (Number 0) → drop (i + 1) (slice_set xs i x) ≡ replicate (room - (i + 1)) (Number 0)
unused-set room xs i x h e =
    let first = drop-set-lt (i + 1) xs i x (omega arith) in
    let past : drop (i + 1) xs ≡ drop 1 (drop i xs) = sym (drop-drop 1 i xs) in
    let one = drop-replicate 1 (room - i) (Number 0) in
    let count : room - i - 1 ≡ room - (i + 1) = omega arith in
    first ∙ past ∙ ap (drop 1) e ∙ one ∙ ap (λ n. replicate n (Number 0)) count

shift : (front : List Operand) (x : Operand) (o : Option (List Operand)) → option_map (λ xs. (front ++ x ∷ []) ++ xs) o ≡ option_map (λ xs. front ++ xs) (option_map (λ xs. x ∷ xs) o)
shift front x None = refl
shift front x (Some ys) = ap Some (append_assoc front (x ∷ []) ys)

pub rest-step : (front : List Operand) (w : Word) (ws : List Word) (x : Operand) → operand_of w ≡ Some x
    → option_map (λ xs. (front ++ x ∷ []) ++ xs) (operands_of ws) ≡ option_map (λ xs. front ++ xs) (operands_of (w ∷ ws))
unfolding operands_of
rest-step front w ws x e = rw e (shift front x (operands_of ws))

pub all-filled : (room : ℕ) (xs : List Operand) (n : ℕ) → n ≤ length xs → drop n xs ≡ replicate (room - n) (Number 0) → filled room (take n xs) ≡ xs
all-filled room xs n h e =
    let count : length (take n xs) ≡ n = grind (arith, common_steps) in
    let joined : take n xs ++ drop n xs ≡ xs = grind (arith, common_steps) in
    rw (count, ← e) joined

abbrev pub with_front : List Operand → Option (List Operand) → Option (List Operand)
with_front front o = option_map (λ xs. front ++ xs) o

pub rest-next : (ops : List Operand) (ws : List (Bor Word)) (i : ℕ) (x : Operand) (d : Bor Word) → i < length ws → i < length ops → Some x ≡ operand_of (get_or ws i d).now
    → with_front (take (i + 1) (slice_set ops i x)) (operands_of (map (λ w. w.now) (drop (i + 1) ws))) ≡ with_front (take i ops) (operands_of (map (λ w. w.now) (drop i ws)))
rest-next ops ws i x d inside within e =
    let more : take (i + 1) (slice_set ops i x) ≡ take i ops ++ x ∷ [] = take_more_set ops i x within in
    let cons : drop i ws ≡ get_or ws i d ∷ drop (i + 1) ws = rw add-one (drop-cons ws i d inside) in
    rw (more, cons) (rest-step (take i ops) _ _ x (sym e))

pub done : (room : ℕ) (ops : List Operand) (ws : List (Bor Word)) (n : ℕ) → length ws ≤ n → n ≤ length ops → drop n ops ≡ replicate (room - n) (Number 0)
    → with_front (take n ops) (operands_of (map (λ w. w.now) (drop n ws))) ≡ operands_of (map (λ w. w.now) ws)
    → Some ops ≡ option_map (filled room) (operands_of (map (λ w. w.now) ws))
unfolding operands_of
done room ops ws n all within unused rest =
    let none : drop n ws ≡ [] = grind (arith, common_steps) in
    let found : Some (take n ops) ≡ operands_of (map (λ w. w.now) ws) = sym (ap Some (append-nil (take n ops))) ∙ (rw none at rest) in
    rw (← found) (ap Some (sym (all-filled room ops n within unused)))

pub each-set : (xs : List Operand) (i : ℕ) (x : Operand) → AllByRecursion IsOperand xs → IsOperand x → AllByRecursion IsOperand (slice_set xs i x)
each-set [] i x h k = h
each-set (y ∷ xs) zero x h k = (k, h.1)
each-set (y ∷ xs) (suc i) x h k = (h.0, each-set xs i x h.1 k)
