-- The numbers of lines that were assembled are values of a u32.
use Rattle.std.proofs.Common.{ℕ, zero, suc, ◌≡◌, ◌<◌, ◌≤◌, ◌+◌, ◌-◌, ◌*◌, Bool, true, false, ◌&&◌, List, [], ◌∷◌, length, map, replicate, take, arith, refl}
use Rattle.std.specs.Prelude.{Option, Some, None, Result, Ok, Err, IfOk, IfSome, if◌then◌else◌, is_some, nat_le, option_and_then, slice_index, ◌==◌}
use Rattle.std.specs.Char.{digit_value, is_digit}
use Rattle.std.specs.List.{AllByRecursion}
use Rattle.std.specs.Option.{option_map}
use Rattle.std.proofs.lemmas.Bool.{and_parts}
use Rattle.std.proofs.lemmas.Bool.Decides.{nat_tests}
use Rattle.law_lists.proofs.Lists.{AllByRecursion-append}
use Rattle.law_lists.proofs.Options.{each_made, each_mapped}
use Rattle.ffm_model.specs.declared.scenario.RaiseItem.{RaiseItem}
use Rattle.ffm_model.specs.declared.script.Instruction.{Instruction}
use Rattle.ffm_model.specs.declared.script.Instruction.TheVariants.{Make, Map}
use Rattle.ffm_model.specs.declared.script.Operand.{Operand}
use Rattle.ffm_model.specs.declared.script.Operand.TheVariants.{Register, Number}
use Rattle.ffm_model.specs.declared.system.ActorKind.{ActorKind}
use Rattle.ffm_model.specs.Texts.{hex_number}
use Rattle.ffm_model.specs.TraceText.{IsU32}
use Rattle.script_asm.specs.declared.first_words.Head.{Head}
use Rattle.script_asm.specs.declared.first_words.Head.TheVariants as head
use Rattle.script_asm.specs.Device.{device_script, raise, raised}
use Rattle.script_asm.specs.Lines.{Line, passed, label, order, assembled, assembled_lines, filled, has_line, instruction_at, instruction_of, line_then, lines_of, made_from, made_of, may_map, one_word, operands_of, place_of, script_or_refusal, script_read, three_words, two_words}
use Rattle.script_asm.specs.Words.{Word, decimal_after, decimal_number, head_of, negated, negative_number, number_of, operand_of, register_of}
use Rattle.law_scenarios.specs.Ranges.{LineFits, OperandFits, PartsFit}
use Rattle.law_scenarios.proofs.Digits.{hex-fits}
use Rattle.law_scenarios.proofs.Numbers.{zero-fits}
use Rattle.law_scenarios.proofs.Openings.{RaiseFits}

-- ---- numbers

decimal-after : (limit n : ℕ) (ds : List ℕ) → n ≤ limit → IfSome (decimal_after limit n ds) (λ v. v ≤ limit)
decimal-after limit n [] h = h
decimal-after limit n (d ∷ ds) h =
    let m : ℕ = n * 10 + digit_value d in
    let go : (b : Bool) → (is_digit d 10 && nat_le m limit) ≡ b → IfSome (if b then decimal_after limit m ds else None) (λ v. v ≤ limit) = elim [
      | true ↦ λ e. (let short : nat_le m limit ≡ true = (and_parts (is_digit d 10) (nat_le m limit) e).1 in decimal-after limit m ds (let few : m ≤ limit = grind (arith, nat_tests) in few))
      | false ↦ λ e. tt
    ] in
    go (is_digit d 10 && nat_le m limit) refl

decimal-fits : (limit : ℕ) (w : Word) → IfSome (decimal_number limit w) (λ v. v ≤ limit)
unfolding decimal_number
decimal-fits limit [] = tt
decimal-fits limit (d ∷ ds) = decimal-after limit 0 (d ∷ ds) (omega arith)

negated-fits : (n : ℕ) → IfSome (negated n) IsU32
negated-fits n =
    let go : (b : Bool) → (n == 0) ≡ b → IfSome (if b then None else Some (4294967296 - n)) IsU32 = elim [ true ↦ λ e. tt | false ↦ λ e. (let some : 0 < n = grind (arith, nat_tests) in omega (arith, some)) ] in
    go (n == 0) refl

negative-fits : (w : Word) → IfSome (negative_number w) IsU32
unfolding negative_number
negative-fits [] = tt
negative-fits (c ∷ ds) =
    elim (c == 45) as (λ (b : Bool). IfSome (if b then option_and_then negated (decimal_number 2147483648 ds) else None) IsU32) [
      | true ↦ each_made IsU32 negated (decimal_number 2147483648 ds) (λ n e. negated-fits n)
      | false ↦ tt
    ]

weaker : {X : Type 0} (P Q : X → Type 0) (o : Option X) → ((x : X) → P x → Q x) → IfSome o P → IfSome o Q
weaker P Q None f h = tt
weaker P Q (Some x) f h = f x h

number-fits : (w : Word) → IfSome (number_of w) IsU32
unfolding number_of
number-fits w =
    elim (slice_index w 0 == 45) as (λ (b : Bool). IfSome (if b then negative_number w else (if slice_index w 1 == 120 then hex_number w else decimal_number 4294967295 w)) IsU32) [
      | true ↦ negative-fits w
      | false ↦ elim (slice_index w 1 == 120) as (λ (b : Bool). IfSome (if b then hex_number w else decimal_number 4294967295 w) IsU32) [
        | true ↦ hex-fits w
        | false ↦ weaker (λ v. v ≤ 4294967295) IsU32 (decimal_number 4294967295 w) (λ v h. omega (arith, h)) (decimal-fits 4294967295 w)
      ]
    ]

mapped : {X Y : Type 0} (P : X → Type 0) (Q : Y → Type 0) (f : X → Y) (o : Option X) → ((x : X) → P x → Q (f x)) → IfSome o P → IfSome (option_map f o) Q
mapped P Q f None each h = tt
mapped P Q f (Some x) each h = each x h

pub operand-of-fits : (w : Word) → IfSome (operand_of w) OperandFits
unfolding operand_of
operand-of-fits w =
    elim (slice_index w 0 == 114) as (λ (b : Bool). IfSome (if b then option_map Register (register_of w) else option_map Number (number_of w)) OperandFits) [
      | true ↦ each_mapped OperandFits Register (register_of w) (λ r e. tt)
      | false ↦ mapped IsU32 OperandFits Number (number_of w) (λ n h. h) (number-fits w)
    ]

-- ---- lines

-- a value of which something is known, and then another
pub then-has : {X Y : Type 0} (P : X → Type 0) (Q : Y → Type 0) (f : X → Option Y) (o : Option X) → ((x : X) → P x → IfSome (f x) Q) → IfSome o P → IfSome (option_and_then f o) Q
then-has P Q f None each h = tt
then-has P Q f (Some x) each h = each x h

operands-fit : (ws : List Word) → IfSome (operands_of ws) (AllByRecursion OperandFits)
unfolding operands_of
operands-fit [] = tt
operands-fit (w ∷ ws) =
    then-has OperandFits (AllByRecursion OperandFits) _ (operand_of w) (λ x h. mapped (AllByRecursion OperandFits) (AllByRecursion OperandFits) (λ xs. x ∷ xs) (operands_of ws) (λ xs k. (h, k)) (operands-fit ws)) (operand-of-fits w)

zeros-fit : (n : ℕ) → AllByRecursion OperandFits (replicate n (Number 0))
zeros-fit zero = tt
zeros-fit (suc n) = (zero-fits, zeros-fit n)

filled-fit : (room : ℕ) (xs : List Operand) → AllByRecursion OperandFits xs → AllByRecursion OperandFits (filled room xs)
filled-fit room xs h = AllByRecursion-append OperandFits xs (replicate (room - length xs) (Number 0)) h (zeros-fit (room - length xs))

instruction-at-fits : (kind : ActorKind) (all : List Line) (h : Head) (ws : List Word) → IfSome (instruction_at kind all h ws) LineFits
instruction-at-fits kind all (head.Change o) ws =
    each_made LineFits _ (two_words ws) (λ w e. each_made LineFits _ (register_of w.0) (λ r f. then-has OperandFits LineFits _ (operand_of w.1) (λ x k. k) (operand-of-fits w.1)))
instruction-at-fits kind all head.Jump ws = each_made LineFits _ (one_word ws) (λ w e. each_made LineFits _ (place_of w all) (λ target f. tt))
instruction-at-fits kind all (head.JumpIf c) ws =
    each_made LineFits _ (three_words ws) (λ w e. each_made LineFits _ (register_of w.0) (λ r f. then-has OperandFits LineFits _ (operand_of w.1.0) (λ x k. each_made LineFits _ (place_of w.1.1 all) (λ target g. k)) (operand-of-fits w.1.0)))
instruction-at-fits kind all (head.Make n count) ws =
    elim (has_line kind n && (length ws == count)) as (λ (b : Bool). IfSome (if b then option_map (λ xs. Make n (filled 6 xs)) (operands_of ws) else None) LineFits) [
      | true ↦ mapped (AllByRecursion OperandFits) LineFits (λ xs. Make n (filled 6 xs)) (operands_of ws) (λ xs h. filled-fit 6 xs h) (operands-fit ws)
      | false ↦ tt
    ]
instruction-at-fits kind all (head.Map n count) ws =
    elim (may_map kind && (length ws == count)) as (λ (b : Bool). IfSome (if b then option_map (λ xs. Map n (filled 3 xs)) (operands_of ws) else None) LineFits) [
      | true ↦ mapped (AllByRecursion OperandFits) LineFits (λ xs. Map n (filled 3 xs)) (operands_of ws) (λ xs h. filled-fit 3 xs h) (operands-fit ws)
      | false ↦ tt
    ]

pub instruction-fits : (kind : ActorKind) (all : List Line) (ws : List Word) → IfSome (instruction_of kind all ws) LineFits
unfolding instruction_of
instruction-fits kind all [] = tt
instruction-fits kind all (w ∷ ws) = each_made LineFits (λ h. instruction_at kind all h ws) (head_of w) (λ h e. instruction-at-fits kind all h ws)

-- ---- scripts

line-then : {A : Type 0} (P : A → Type 0) (o : Option (List A)) (i : ℕ) (r : Result (List A) ℕ) → IfSome o (AllByRecursion P) → IfOk r (AllByRecursion P) → IfOk (line_then o i r) (AllByRecursion P)
line-then P None i r h k = tt
line-then P (Some xs) i (Ok ys) h k = AllByRecursion-append P xs ys h k
line-then P (Some xs) i (Err e) h k = tt

pub made-from-fits : {A : Type 0} (P : A → Type 0) (make : ℕ → Line → Option (List A)) → ((i : ℕ) (l : Line) → IfSome (make i l) (AllByRecursion P)) → (i : ℕ) (ls : List Line) → IfOk (made_from make i ls) (AllByRecursion P)
unfolding made_from
made-from-fits P make each i [] = tt
made-from-fits P make each i (l ∷ ls) = line-then P (make i l) i (made_from make (i + 1) ls) (each i l) (made-from-fits P make each (i + 1) ls)

made-of-fits : (kind : ActorKind) (all : List Line) (i : ℕ) (l : Line) → IfSome (made_of kind all i l) (AllByRecursion LineFits)
unfolding made_of
made-of-fits kind all i passed = tt
made-of-fits kind all i (label n) = elim (is_some (place_of n (take i all))) as (λ (b : Bool). IfSome (if b then None else Some []) (AllByRecursion LineFits)) [ true ↦ tt | false ↦ tt ]
made-of-fits kind all i (order ws) = mapped LineFits (AllByRecursion LineFits) (λ x. x ∷ []) (instruction_of kind all ws) (λ x h. (h, tt)) (instruction-fits kind all ws)

assembled-fits : (kind : ActorKind) (texts : List (List ℕ)) → IfOk (assembled kind texts) (AllByRecursion LineFits)
unfolding assembled assembled_lines
assembled-fits kind texts = made-from-fits LineFits (made_of kind (lines_of texts)) (made-of-fits kind (lines_of texts)) 0 (lines_of texts)

pub script-fits : (kind : ActorKind) (number : ℕ) (texts : List (List ℕ)) → IfOk (script_read kind number texts) PartsFit
script-fits kind number texts =
    let go : (r : Result (List Instruction) ℕ) → IfOk r (AllByRecursion LineFits) → IfOk (script_or_refusal number r) PartsFit = elim [ Ok xs ↦ λ h. (h, tt) | Err e ↦ λ h. tt ] in
    go (assembled kind texts) (assembled-fits kind texts)

-- ---- the device

raised-fits : (source : ℕ) (answer : Option ℕ) → IsU32 source → IfSome answer IsU32 → LineFits (raised source answer)
raised-fits source None h k = filled-fit 6 (Number source ∷ []) (h, tt)
raised-fits source (Some answer) h k = filled-fit 6 (Number source ∷ Number answer ∷ []) (h, (k, tt))

raises-fit : (raises : List RaiseItem) → AllByRecursion RaiseFits raises → AllByRecursion LineFits (map raise raises)
raises-fit [] h = tt
raises-fit (x ∷ xs) h = (raised-fits x.source x.result h.0.source h.0.answer, raises-fit xs h.1)

pub device-fits : (raises : List RaiseItem) → AllByRecursion RaiseFits raises → PartsFit (device_script raises)
unfolding device_script
device-fits raises h = (raises-fit raises h, tt)
