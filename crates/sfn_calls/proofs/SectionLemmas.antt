-- The lines before a head, and the sections of lines.
use Rattle.std.proofs.Common.{ℕ, ◌≡◌, ◌<◌, ◌≤◌, ◌+◌, ◌-◌, List, [], ◌∷◌, ◌++◌, length, refl, ap, ap₂, sym, ◌∙◌, arith, get_or, take, drop, add-one, suc, drop-cons, Bool, true, false, cond, not, Bor}
use Rattle.std.proofs.lemmas.List.{length-map, take_rest}
use Rattle.std.specs.Prelude.{Option, Some, None, option_map, is_some, nat_lt}
use Rattle.std.specs.List.{position, prefix_len, take-map, drop-map}
use Rattle.std.specs.Option.{option_map_or, option_to_list}
use Rattle.std.proofs.lemmas.Grind.{common_steps}
use Rattle.script_asm.specs.Lines.{Line, lines_of, line_of}
use Rattle.script_asm.specs.Views.{line_view, lines_view}
use Rattle.script_asm.specs.Words.{Word}
use Rattle.script_asm.specs.declared.lines.Line as code
use Rattle.sfn_calls.specs.Sections.{before, head_name, sections, is_used}

-- ---- the lines before the first head

before-by : (o : Option Word) (l : Line) (ls : List Line) → o ≡ None → option_map_or (λ name. []) o (l ∷ before ls) ≡ l ∷ before ls
before-by None l ls e = refl
before-by (Some n) l ls e = cc

before-next : (l : Line) (ls : List Line) → head_name l ≡ None → before (l ∷ ls) ≡ l ∷ before ls
unfolding before
before-next l ls e = before-by (head_name l) l ls e

before-head-by : (o : Option Word) (n : Word) (ls : List Line) → o ≡ Some n → option_map_or (λ name. []) o ls ≡ []
before-head-by None n ls e = cc
before-head-by (Some m) n ls e = refl

before-head : (l : Line) (ls : List Line) (n : Word) → head_name l ≡ Some n → before (l ∷ ls) ≡ []
unfolding before
before-head l ls n e = before-head-by (head_name l) n (l ∷ before ls) e

before-take-by : (o : Option Word) (l : Line) (ls : List Line) → before ls ≡ take (length (before ls)) ls
    → option_map_or (λ name. []) o (l ∷ before ls) ≡ take (length (option_map_or (λ name. []) o (l ∷ before ls))) (l ∷ ls)
before-take-by None l ls h = ap (λ xs. l ∷ xs) h
before-take-by (Some n) l ls h = refl

-- they are so many of the first lines
pub before-take : (ls : List Line) → before ls ≡ take (length (before ls)) ls
unfolding before
before-take [] = refl
before-take (l ∷ ls) = before-take-by (head_name l) l ls (before-take ls)

-- ---- whether a line is a head, as the code gives it

pub no-head : (o : Option (Bor Word)) (l : Line) → option_map (λ w. w.now) o ≡ head_name l → is_some o ≡ false → head_name l ≡ None
no-head None l e h = sym e
no-head (Some w) l e h = cc

pub is-head : (o : Option (Bor Word)) (l : Line) → option_map (λ w. w.now) o ≡ head_name l → is_some o ≡ true → (n : Word) × (head_name l ≡ Some n)
is-head None l e h = cc
is-head (Some w) l e h = (w.now, sym e)

-- ---- line by line

at-cons : (ls : List code.Line) (i : ℕ) (l : code.Line) → i < length ls → l ≡ get_or ls i l → lines_view (drop i ls) ≡ line_view l ∷ lines_view (drop (i + 1) ls)
at-cons ls i l inside is = rw add-one (ap lines_view (drop-cons ls i l inside ∙ ap (λ x. x ∷ drop (suc i) ls) (sym is)))

-- a line more that is no head
pub count-next : (ls : List code.Line) (i : ℕ) (l : code.Line) → i < length ls → l ≡ get_or ls i l → head_name (line_view l) ≡ None
    → length (before (lines_view ls)) ≡ i + length (before (lines_view (drop i ls))) → length (before (lines_view ls)) ≡ i + 1 + length (before (lines_view (drop (i + 1) ls)))
count-next ls i l inside is none h =
    let e : before (lines_view (drop i ls)) ≡ line_view l ∷ before (lines_view (drop (i + 1) ls)) =
    ap before (at-cons ls i l inside is) ∙ before-next (line_view l) (lines_view (drop (i + 1) ls)) none in
    omega (arith, ap (λ (x : List Line). length x) e)

pub count-head : (ls : List code.Line) (i : ℕ) (l : code.Line) (n : Word) → i < length ls → l ≡ get_or ls i l → head_name (line_view l) ≡ Some n
    → length (before (lines_view ls)) ≡ i + length (before (lines_view (drop i ls))) → i ≡ length (before (lines_view ls))
count-head ls i l n inside is some h =
    let e : before (lines_view (drop i ls)) ≡ [] = ap before (at-cons ls i l inside is) ∙ before-head (line_view l) (lines_view (drop (i + 1) ls)) n some in
    omega (arith, ap (λ (x : List Line). length x) e)

pub count-end : (ls : List code.Line) (i : ℕ) → length ls ≤ i → i ≤ length ls → length (before (lines_view ls)) ≡ i + length (before (lines_view (drop i ls))) → length ls ≡ length (before (lines_view ls))
unfolding before
count-end ls i past within h =
    let none : drop i ls ≡ [] = grind (arith, common_steps) in
    let e : before (lines_view (drop i ls)) ≡ [] = ap (λ (x : List code.Line). before (lines_view x)) none in
    omega (arith, ap (λ (x : List Line). length x) e)

-- ---- a line before all heads

prefix-view : (p : Line → Bool) (ls : List code.Line) → prefix_len (λ l. p (line_view l)) ls ≡ prefix_len p (lines_view ls)
prefix-view p [] = refl
prefix-view p (l ∷ ls) = ap (λ (n : ℕ). cond (p (line_view l)) (1 + n) 0) (prefix-view p ls)

position-view : (ls : List code.Line) → position (λ l. is_used (line_view l)) ls ≡ position is_used (lines_view ls)
position-view ls =
    ap₂ (λ (n k : ℕ). cond (nat_lt n k) (Some n) None) (prefix-view (λ l. not (is_used l)) ls) (sym (length-map ls line_view))

pub used-place : (ls : List code.Line) (n : ℕ) → n ≡ length (before (lines_view ls)) → position (λ l. is_used (line_view l)) (take n ls) ≡ position is_used (before (lines_view ls))
used-place ls n e =
    position-view (take n ls)
    ∙ ap (position is_used) (sym (take-map line_view n ls) ∙ ap (λ (k : ℕ). take k (lines_view ls)) e ∙ sym (before-take (lines_view ls)))

-- ---- a section

-- the texts below the head at a place, up to the next head
pub texts-below : (texts : List (List ℕ)) (ls : List code.Line) (at n : ℕ) → lines_view ls ≡ lines_of texts
    → n ≡ length (before (lines_view (take (length ls - (at + 1)) (drop (at + 1) ls))))
    → lines_of (take (at + 1 + n - (at + 1)) (drop (at + 1) texts)) ≡ before (lines_view (drop (at + 1) ls))
texts-below texts ls at n same e =
    let below : List code.Line = drop (at + 1) ls in
    let count : at + 1 + n - (at + 1) ≡ n = omega arith in
    let all : take (length ls - (at + 1)) below ≡ below = take_rest ls (at + 1) in
    let rest : lines_of (drop (at + 1) texts) ≡ lines_view below = sym (drop-map line_of (at + 1) texts) ∙ ap (drop (at + 1)) (sym same) ∙ drop-map line_view (at + 1) ls in
    ap (λ (k : ℕ). lines_of (take k (drop (at + 1) texts))) count
    ∙ sym (take-map line_of n (drop (at + 1) texts))
    ∙ ap₂ (λ (k : ℕ) (x : List Line). take k x) (e ∙ ap (λ (x : List code.Line). length (before (lines_view x))) all) rest
    ∙ sym (before-take (lines_view below))

pub section-none : (ls : List code.Line) (i : ℕ) (l : code.Line) → i < length ls → l ≡ get_or ls i l → head_name (line_view l) ≡ None
    → sections i (lines_view (drop i ls)) ≡ sections (i + 1) (lines_view (drop (i + 1) ls))
unfolding sections
section-none ls i l inside is none =
    ap (sections i) (at-cons ls i l inside is)
    ∙ ap (λ (o : Option Word). option_to_list (option_map (λ name. record { line = i; name = name; lines = before (lines_view (drop (i + 1) ls)) }) o) ++ sections (i + 1) (lines_view (drop (i + 1) ls))) none

pub section-some : (ls : List code.Line) (i : ℕ) (l : code.Line) (n : Word) (lines : List Line) → i < length ls → l ≡ get_or ls i l → head_name (line_view l) ≡ Some n
    → lines ≡ before (lines_view (drop (i + 1) ls))
    → sections i (lines_view (drop i ls)) ≡ record { line = i; name = n; lines = lines } ∷ sections (i + 1) (lines_view (drop (i + 1) ls))
unfolding sections
section-some ls i l n lines inside is some e =
    ap (sections i) (at-cons ls i l inside is)
    ∙ (ap (λ (o : Option Word). option_to_list (option_map (λ name. record { line = i; name = name; lines = before (lines_view (drop (i + 1) ls)) }) o) ++ sections (i + 1) (lines_view (drop (i + 1) ls))) some
    ∙ ap (λ (x : List Line). record { line = i; name = n; lines = x } ∷ sections (i + 1) (lines_view (drop (i + 1) ls))) (sym e))
