-- The map of the labels, a line further.
use Rattle.std.proofs.Common.{ℕ, zero, suc, ◌≡◌, ◌<◌, ◌≤◌, ◌+◌, List, [], ◌∷◌, ◌++◌, length, take, refl, ap, sym, ◌∙◌, subst, arith, sum_by, zero-add, length-append, Option, Some, None, option_map, IfSome, Bool, true, false, cond, if◌then◌else◌, is_some, get_or, ◌⊎◌, inl, inr}
use Rattle.std.specs.BTreeMap.{BTreeMap}
use Rattle.std.specs.Borrow.{Bor}
use Rattle.std.specs.Option.{option_or}
use Rattle.std.specs.Str.{bytes_eq}
use Rattle.std.proofs.lemmas.Bool.{cases_lt}
use Rattle.std.proofs.lemmas.Grind.{common_steps}
use Rattle.std.proofs.lemmas.List.{take-append-le, take_all, map_more}
use Rattle.std.proofs.lemmas.List.Sums.{sum_by-append, sum_by-cons}
use Rattle.std.proofs.lemmas.Slice.Eq.{bytes_eq-Decides}
use Rattle.script_asm.specs.declared.labels.FirstLabel.{FirstLabel}
use Rattle.script_asm.specs.Labels.{label_in, is_before, HasPlaces, HasLines}
use Rattle.script_asm.specs.Lines.{Line, passed, label, order, width, is_label, place_of}
use Rattle.script_asm.specs.Views.{line_view, lines_view}
use Rattle.script_asm.specs.Words.{Word}
use Rattle.script_asm.specs.declared.lines.Line as code

-- ---- a label is put in where it is the first of its name

or-none : {A : Type 0} (o : Option A) → o ≡ option_or o None
or-none None = refl
or-none (Some x) = refl

or-new : {A : Type 0} (o p : Option A) → is_some o ≡ false → p ≡ option_or o p
or-new None p h = refl
or-new (Some x) p h = cc

put-by : (labels : BTreeMap (Bor Word) FirstLabel) (m n : Word) (l : FirstLabel) (b : Bool) → bytes_eq m n ≡ b → is_some (label_in labels m) ≡ false
    → cond b (Some l) (label_in labels n) ≡ option_or (label_in labels n) (if b then Some l else None)
put-by labels m n l true e h = or-new _ _ (subst (λ k. is_some (label_in labels k) ≡ false) ((bytes_eq-Decides m n).0 e) h)
put-by labels m n l false e h = or-none _

-- no label of the name is there, and it is put in
pub put : (labels : BTreeMap (Bor Word) FirstLabel) (m n : Word) (l : FirstLabel) → is_some (label_in labels m) ≡ false
    → cond (bytes_eq m n) (Some l) (label_in labels n) ≡ option_or (label_in labels n) (if bytes_eq m n then Some l else None)
put labels m n l h = put-by labels m n l (bytes_eq m n) refl h

-- ---- where a label leads, with a line more

place-cons-by : (b c : Bool) (w s : ℕ) (o : Option ℕ)
    → (if b then Some 0 else option_map (λ k. w + k) (option_or o (if c then Some s else None))) ≡ option_or (if b then Some 0 else option_map (λ k. w + k) o) (if c then Some (w + s) else None)
place-cons-by true c w s o = refl
place-cons-by false true w s None = refl
place-cons-by false false w s None = refl
place-cons-by false c w s (Some k) = refl

place-more : (n : Word) (xs : List Line) (l : Line) → place_of n (xs ++ l ∷ []) ≡ option_or (place_of n xs) (if is_label n l then Some (sum_by width xs) else None)
unfolding place_of
place-more n [] l = refl
place-more n (x ∷ xs) l =
    ap (λ o. if is_label n x then Some 0 else option_map (λ k. width x + k) o) (place-more n xs l)
    ∙ place-cons-by (is_label n x) (is_label n l) (width x) (sum_by width xs) (place_of n xs)
    ∙ ap (λ s. option_or (if is_label n x then Some 0 else option_map (λ k. width x + k) (place_of n xs)) (if is_label n l then Some s else None)) (sym (sum_by-cons width x xs))

place-below-by : (b : Bool) (w s : ℕ) (o : Option ℕ) → IfSome o (λ k. k ≤ s) → IfSome (if b then Some 0 else option_map (λ k. w + k) o) (λ k. k ≤ w + s)
place-below-by true w s o h = omega arith
place-below-by false w s None h = tt
place-below-by false w s (Some k) h = omega (arith, h)

-- a label leads at most past all instructions
pub place-within : (n : Word) (xs : List Line) → IfSome (place_of n xs) (λ k. k ≤ sum_by width xs)
unfolding place_of
place-within n [] = tt
place-within n (x ∷ xs) = rw (sum_by-cons width x xs) (place-below-by (is_label n x) (width x) (sum_by width xs) (place_of n xs) (place-within n xs))

pub leads-within : (labels : BTreeMap (Bor Word) FirstLabel) (xs : List Line) (n : Word) (l : FirstLabel) → HasPlaces labels xs → Some l ≡ label_in labels n → l.place ≤ sum_by width xs
leads-within labels xs n l has is =
    let P : Option ℕ → Type 0 = λ o. IfSome o (λ k. k ≤ sum_by width xs) in
    subst P (sym (ap (option_map (λ k. k.place)) is ∙ has n)) (place-within n xs)

-- ---- the map of the labels, with a line more

places-by : (o : Option FirstLabel) (b : Bool) (l : FirstLabel) → option_map (λ k. k.place) (option_or o (if b then Some l else None)) ≡ option_or (option_map (λ k. k.place) o) (if b then Some l.place else None)
places-by None true l = refl
places-by None false l = refl
places-by (Some k) b l = refl

pub places-more : (old new : BTreeMap (Bor Word) FirstLabel) (xs : List Line) (x : Line) (l : FirstLabel) → l.place ≡ sum_by width xs
    → ((n : Word) → label_in new n ≡ option_or (label_in old n) (if is_label n x then Some l else None))
    → HasPlaces old xs → HasPlaces new (xs ++ x ∷ [])
places-more old new xs x l e kept has = λ n.
    ap (option_map (λ k. k.place)) (kept n)
    ∙ places-by (label_in old n) (is_label n x) l
    ∙ ap (λ o. option_or o (if is_label n x then Some l.place else None)) (has n)
    ∙ ap (λ s. option_or (place_of n xs) (if is_label n x then Some s else None)) e
    ∙ sym (place-more n xs x)

not-before : (o : Option FirstLabel) (b : Bool) (l : FirstLabel) (i : ℕ) → i ≤ l.line → is_before i (option_or o (if b then Some l else None)) ≡ is_before i o
not-before None true l i h = grind (arith, common_steps)
not-before None false l i h = refl
not-before (Some k) b l i h = refl

before-end : (o : Option FirstLabel) (b : Bool) (l : FirstLabel) (i s : ℕ) → l.line < i → is_before i o ≡ is_some (option_map (λ k. k.place) o)
    → is_before i (option_or o (if b then Some l else None)) ≡ is_some (option_or (option_map (λ k. k.place) o) (if b then Some s else None))
before-end None true l i s h e = grind (arith, common_steps)
before-end None false l i s h e = refl
before-end (Some k) b l i s h e = e

-- up to a line of those before, nothing changes
lines-before : (old new : BTreeMap (Bor Word) FirstLabel) (xs : List Line) (x : Line) (l : FirstLabel) (n : Word) (i : ℕ) → l.line ≡ length xs → i ≤ length xs
    → label_in new n ≡ option_or (label_in old n) (if is_label n x then Some l else None)
    → is_before i (label_in old n) ≡ is_some (place_of n (take i xs)) → is_before i (label_in new n) ≡ is_some (place_of n (take i (xs ++ x ∷ [])))
lines-before old new xs x l n i e h kept has =
    ap (is_before i) kept
    ∙ not-before (label_in old n) (is_label n x) l i (rw e h)
    ∙ has
    ∙ ap (λ ls. is_some (place_of n ls)) (sym (take-append-le i xs (x ∷ []) h))

-- after the line, all labels of all lines are there
lines-after : (old new : BTreeMap (Bor Word) FirstLabel) (xs : List Line) (x : Line) (l : FirstLabel) (n : Word) (i : ℕ) → l.line ≡ length xs → length xs < i
    → label_in new n ≡ option_or (label_in old n) (if is_label n x then Some l else None)
    → option_map (λ k. k.place) (label_in old n) ≡ place_of n xs
    → is_before i (label_in old n) ≡ is_some (place_of n (take i xs)) → is_before i (label_in new n) ≡ is_some (place_of n (take i (xs ++ x ∷ [])))
lines-after old new xs x l n i e h kept leads has =
    let long : length (xs ++ x ∷ []) ≤ i = rw (length-append xs (x ∷ [])) (omega arith) in
    let all : take i (xs ++ x ∷ []) ≡ xs ++ x ∷ [] = take_all i (xs ++ x ∷ []) long in
    let short : take i xs ≡ xs = take_all i xs (omega arith) in
    let there : is_before i (label_in old n) ≡ is_some (option_map (λ k. k.place) (label_in old n)) = has ∙ ap (λ ls. is_some (place_of n ls)) short ∙ ap is_some (sym leads) in
    ap (is_before i) kept
    ∙ before-end (label_in old n) (is_label n x) l i (sum_by width xs) (rw e h) there
    ∙ ap (λ o. is_some (option_or o (if is_label n x then Some (sum_by width xs) else None))) leads
    ∙ ap is_some (sym (place-more n xs x))
    ∙ ap (λ ls. is_some (place_of n ls)) (sym all)

lines-by : (old new : BTreeMap (Bor Word) FirstLabel) (xs : List Line) (x : Line) (l : FirstLabel) (n : Word) (i : ℕ) → l.line ≡ length xs
    → label_in new n ≡ option_or (label_in old n) (if is_label n x then Some l else None)
    → option_map (λ k. k.place) (label_in old n) ≡ place_of n xs
    → is_before i (label_in old n) ≡ is_some (place_of n (take i xs)) → (length xs < i) ⊎ (i ≤ length xs) → is_before i (label_in new n) ≡ is_some (place_of n (take i (xs ++ x ∷ [])))
lines-by old new xs x l n i e kept leads has (inl h) = lines-after old new xs x l n i e h kept leads has
lines-by old new xs x l n i e kept leads has (inr h) = lines-before old new xs x l n i e h kept has

pub lines-more : (old new : BTreeMap (Bor Word) FirstLabel) (xs : List Line) (x : Line) (l : FirstLabel) → l.line ≡ length xs
    → ((n : Word) → label_in new n ≡ option_or (label_in old n) (if is_label n x then Some l else None))
    → HasPlaces old xs → HasLines old xs → HasLines new (xs ++ x ∷ [])
lines-more old new xs x l e kept leads has = λ n i. lines-by old new xs x l n i e (kept n) (leads n) (has n i) (cases_lt (length xs) i)

-- ---- the loop over the lines

pub width-one : (x : Line) → width x ≤ 1
width-one passed = omega arith
width-one (label n) = omega arith
width-one (order ws) = omega arith

-- the map of the labels of the lines so far
pub record Labels (labels : BTreeMap (Bor Word) FirstLabel) (ls : List code.Line) (i place : ℕ) : Type 0 where
  pub leads : HasPlaces labels (lines_view (take i ls))
  pub stand : HasLines labels (lines_view (take i ls))
  pub place_is : place ≡ sum_by width (lines_view (take i ls))
  pub within : place ≤ i

none-in : (labels : BTreeMap (Bor Word) FirstLabel) (n : Word) → labels.entries ≡ [] → label_in labels n ≡ None
none-in labels n e = rw e refl

no-lines : (i : ℕ) (n : Word) → is_some (place_of n (take i [])) ≡ false
unfolding place_of
no-lines zero n = refl
no-lines (suc i) n = refl

pub labels-start : (labels : BTreeMap (Bor Word) FirstLabel) (ls : List code.Line) → labels.entries ≡ [] → Labels labels ls 0 0
unfolding place_of
labels-start labels ls e = record {
  leads = λ n. ap (option_map (λ k. k.place)) (none-in labels n e);
  stand = λ n i. ap (is_before i) (none-in labels n e) ∙ sym (no-lines i n);
  place_is = refl;
  within = omega arith;
}

pub labels-next : (old new : BTreeMap (Bor Word) FirstLabel) (ls : List code.Line) (i place w : ℕ) (x : code.Line) (l : FirstLabel) → i < length ls → x ≡ get_or ls i x
    → l.line ≡ i → l.place ≡ place → w ≡ width (line_view x)
    → ((n : Word) → label_in new n ≡ option_or (label_in old n) (if is_label n (line_view x) then Some l else None))
    → Labels old ls i place → Labels new ls (i + 1) (place + w)
labels-next old new ls i place w x l inside is at leads wide kept so_far =
    let more : lines_view (take (i + 1) ls) ≡ lines_view (take i ls) ++ line_view x ∷ [] = map_more line_view ls i x inside ∙ ap (λ y. lines_view (take i ls) ++ line_view y ∷ []) (sym is) in
    let long : length (lines_view (take i ls)) ≡ i = grind (arith, common_steps) in
    let P : List Line → Type 0 = HasPlaces new in
    let Q : List Line → Type 0 = HasLines new in
    record {
      leads = subst P (sym more) (places-more old new (lines_view (take i ls)) (line_view x) l (leads ∙ so_far.place_is) kept so_far.leads);
      stand = subst Q (sym more) (lines-more old new (lines_view (take i ls)) (line_view x) l (at ∙ sym long) kept so_far.leads so_far.stand);
      place_is = ap (λ p. p + w) so_far.place_is ∙ ap (λ k. sum_by width (lines_view (take i ls)) + k) (wide ∙ sym (zero-add (width (line_view x)))) ∙ sym (ap (sum_by width) more ∙ sum_by-append width (lines_view (take i ls)) (line_view x ∷ []));
      within = omega (arith, so_far.within, wide, width-one (line_view x));
    }
