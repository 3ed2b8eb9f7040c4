-- What the lines so far make, and what the other lines make.
use Rattle.std.proofs.Common.{ℕ, ◌≡◌, ◌<◌, ◌+◌, List, [], ◌∷◌, ◌++◌, length, refl, ap, sym, ◌∙◌, append_assoc, append-nil, get_or, drop, zero-add, suc, arith, subst, sum_by, length-append, ◌≤◌, add-one, drop-cons}
use Rattle.std.specs.Prelude.{Option, Some, None, Result, Ok, Err}
use Rattle.ffm_model.specs.declared.system.ActorKind.{ActorKind}
use Rattle.ffm_model.specs.declared.script.Instruction.{Instruction}
use Rattle.std.specs.Prelude.{option_map, Bool, true, false, IfSome, is_some, take, if◌then◌else◌}
use Rattle.std.proofs.lemmas.List.{map_more}
use Rattle.std.proofs.lemmas.List.Sums.{sum_by-append}
use Rattle.std.specs.List.{AllByRecursion}
use Rattle.script_asm.specs.Made.{listed}
use Rattle.std.proofs.lemmas.Grind.{common_steps}
use Rattle.std.proofs.lemmas.Option.{same_Some}
use Rattle.script_asm.specs.Lines.{Line, passed, label, order, width, instruction_of, place_of, made_of, made_from, line_then}
use Rattle.script_asm.specs.declared.lines.Line as code
use Rattle.script_asm.specs.Views.{line_view, lines_view}

abbrev pub with_made : {A : Type 0} → List A → Result (List A) ℕ → Result (List A) ℕ
with_made front (Ok xs) = Ok (front ++ xs)
with_made front (Err e) = Err e

with_made-and : {A : Type 0} (front xs : List A) (i : ℕ) (r : Result (List A) ℕ) → with_made (front ++ xs) r ≡ with_made front (line_then (Some xs) i r)
with_made-and front xs i (Ok ys) = ap Ok (append_assoc front xs ys)
with_made-and front xs i (Err e) = refl

made-next : {A : Type 0} (make : ℕ → Line → Option (List A)) (front xs : List A) (i : ℕ) (l : Line) (ls : List Line) → Some xs ≡ make i l
    → with_made (front ++ xs) (made_from make (i + 1) ls) ≡ with_made front (made_from make i (l ∷ ls))
unfolding made_from
made-next make front xs i l ls e = rw (← e) (with_made-and front xs i (made_from make (i + 1) ls))

made-wrong : {A : Type 0} (make : ℕ → Line → Option (List A)) (front : List A) (i : ℕ) (l : Line) (ls : List Line) → None ≡ make i l
    → with_made front (made_from make i (l ∷ ls)) ≡ Err i
unfolding made_from
made-wrong make front i l ls e = rw (← e) refl

made-end : {A : Type 0} (make : ℕ → Line → Option (List A)) (front : List A) (i : ℕ) → with_made front (made_from make i []) ≡ Ok front
unfolding made_from
made-end make front i = ap Ok (append-nil front)

pub made-next-at : {A : Type 0} (make : ℕ → Line → Option (List A)) (ls : List code.Line) (front xs : List A) (i : ℕ) (l : code.Line) → i < length ls → l ≡ get_or ls i l
    → Some xs ≡ make i (line_view l)
    → with_made (front ++ xs) (made_from make (i + 1) (lines_view (drop (i + 1) ls))) ≡ with_made front (made_from make i (lines_view (drop i ls)))
made-next-at make ls front xs i l inside is e =
    let cons : drop i ls ≡ l ∷ drop (i + 1) ls = rw add-one (drop-cons ls i l inside ∙ ap (λ x. x ∷ drop (suc i) ls) (sym is)) in
    rw cons (made-next make front xs i (line_view l) (lines_view (drop (i + 1) ls)) e)

pub made-wrong-at : {A : Type 0} (make : ℕ → Line → Option (List A)) (ls : List code.Line) (front : List A) (i : ℕ) (l : code.Line) → i < length ls → l ≡ get_or ls i l
    → None ≡ make i (line_view l) → with_made front (made_from make i (lines_view (drop i ls))) ≡ Err i
made-wrong-at make ls front i l inside is e =
    let cons : drop i ls ≡ l ∷ drop (i + 1) ls = rw add-one (drop-cons ls i l inside ∙ ap (λ x. x ∷ drop (suc i) ls) (sym is)) in
    rw cons (made-wrong make front i (line_view l) (lines_view (drop (i + 1) ls)) e)

without : {A : Type 0} (r : Result (List A) ℕ) → with_made [] r ≡ r
without (Ok xs) = refl
without (Err e) = refl

pub made-start : {A : Type 0} (make : ℕ → Line → Option (List A)) (all : List Line) (front : List A) → front ≡ [] → with_made front (made_from make 0 all) ≡ made_from make 0 all
made-start make all front e = rw e (without (made_from make 0 all))

pub finished : {A : Type 0} (make : ℕ → Line → Option (List A)) (ls : List code.Line) (front : List A) (i : ℕ) → length ls ≤ i
    → with_made front (made_from make i (lines_view (drop i ls))) ≡ Ok front
finished make ls front i past =
    let none : drop i ls ≡ [] = grind (arith, common_steps) in
    rw none (made-end make front i)

-- ---- what is made fits all lines, and counts as the lines' width

-- what fits so many instructions
abbrev pub Fits : Type 0 → Type 1
Fits A = ℕ → A → Type 0

pub record Fitting {A : Type 0} (P : Fits A) (all : List Line) (before : List Line) (front : List A) : Type 0 where
  pub each : AllByRecursion (P (sum_by width all)) front
  pub count : length front ≡ sum_by width before

each-push : {A : Type 0} (P : A → Type 0) (front : List A) (made : Option A) → AllByRecursion P front → IfSome made P → AllByRecursion P (front ++ listed made)
each-push P [] None h k = tt
each-push P [] (Some x) h k = (k, tt)
each-push P (y ∷ ys) made h k = (h.0, each-push P ys made h.1 k)

-- no line makes another number than its width
pub label-width : {A : Type 0} (b : Bool) (made : Option A) → Some (listed made) ≡ (if b then None else Some []) → length (listed made) ≡ 0
label-width true made e = cc
label-width false made e = ap length (same_Some _ _ e)

pub order-width : {A : Type 0} (o : Option A) (made : Option A) → Some (listed made) ≡ option_map (λ x. x ∷ []) o → length (listed made) ≡ 1
order-width None made e = cc
order-width (Some x) made e = ap length (same_Some _ _ e)

pub passed-width : {A : Type 0} (made : Option A) → Some (listed made) ≡ Some [] → length (listed made) ≡ 0
passed-width made e = ap length (same_Some _ _ e)

pub listed-width : (k : ActorKind) (all : List Line) (i : ℕ) (l : Line) (made : Option Instruction) → Some (listed made) ≡ made_of k all i l → length (listed made) ≡ width l
unfolding made_of
listed-width k all i passed made e = passed-width made e
listed-width k all i (label n) made e = label-width (is_some (place_of n (take i all))) made e
listed-width k all i (order ws) made e = order-width (instruction_of k all ws) made e

pub fitting-next : {A : Type 0} (P : Fits A) (ls : List code.Line) (front : List A) (made : Option A) (i : ℕ) (l : code.Line) → i < length ls → l ≡ get_or ls i l
    → length (listed made) ≡ width (line_view l) → IfSome made (P (sum_by width (lines_view ls)))
    → Fitting P (lines_view ls) (lines_view (take i ls)) front → Fitting P (lines_view ls) (lines_view (take (i + 1) ls)) (front ++ listed made)
fitting-next P ls front made i l inside is wide fits f =
    let more : lines_view (take (i + 1) ls) ≡ lines_view (take i ls) ++ line_view l ∷ [] = map_more line_view ls i l inside ∙ ap (λ x. lines_view (take i ls) ++ line_view x ∷ []) (sym is) in
    record {
      each = each-push (P (sum_by width (lines_view ls))) front made f.each fits;
      count = length-append front (listed made) ∙ ap (λ n. n + length (listed made)) f.count ∙ ap (λ n. sum_by width (lines_view (take i ls)) + n) wide
          ∙ sym (ap (sum_by width) more ∙ sum_by-append width (lines_view (take i ls)) (line_view l ∷ []) ∙ ap (λ n. sum_by width (lines_view (take i ls)) + n) (zero-add (width (line_view l))));
    }

pub fitting-end : {A : Type 0} (P : Fits A) (ls : List code.Line) (front : List A) (i : ℕ) → length ls ≤ i → Fitting P (lines_view ls) (lines_view (take i ls)) front
    → AllByRecursion (P (length front)) front
fitting-end P ls front i past f =
    let all : take i ls ≡ ls = grind (arith, common_steps) in
    let count : length front ≡ sum_by width (lines_view ls) = f.count ∙ ap (λ x. sum_by width (lines_view x)) all in
    let Q : ℕ → Type 0 = λ n. AllByRecursion (P n) front in
    subst Q (sym count) f.each

pub fitting-start : {A : Type 0} (P : Fits A) (all : List Line) → Fitting P all [] []
fitting-start P all = record { each = tt; count = refl }
