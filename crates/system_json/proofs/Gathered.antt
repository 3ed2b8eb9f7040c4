-- Scripts that are gathered one after the other are those of each actor.
use Rattle.std.proofs.Common.{◌≡◌, ℕ, ◌<◌, List, [], ◌∷◌, ◌++◌, length, map, fold, replicate, true, false, refl, sym, ap, subst, ◌∙◌, eqb-true, arith, append_assoc}
use Rattle.std.specs.Prelude.{get_or, slice_set, ◌==◌}
use Rattle.std.specs.List.{AllByRecursion, range_with_len}
use Rattle.std.proofs.lemmas.Bool.Decides.{nat_tests}
use Rattle.std.proofs.lemmas.List.{append-nil, ext_get_or, get_or_default, get_or-map, get_or-replicate, get_or-set_other, get_or-set_same, length-map, length-replicate, length-set, set-set}
use Rattle.std.proofs.lemmas.List.FromFn.{get_or-map-range_with_len, length-range_with_len}
use Rattle.ffm_model.specs.declared.script_item.ScriptItem.{ScriptItem}
use Rattle.ffm_model.specs.Scenarios.{lines_for, or_empty_script, lines_by_actor}
use Rattle.system_json.specs.Gathering.{with_script}

-- a list that is taken out, and put back with one script more
pub put_back : (all : List (List (List (List ℕ)))) (x : ScriptItem) (left was own : List (List (List ℕ))) → x.actor.0 < length all → was ≡ get_or all x.actor.0 was → own ≡ was ++ x.lines ∷ []
    → slice_set (slice_set all x.actor.0 left) x.actor.0 own ≡ with_script all x
put_back all x left was own lt is more =
    set-set all x.actor.0 left own ∙ ap (λ y. slice_set all x.actor.0 y) (more ∙ ap (λ y. y ++ x.lines ∷ []) (is ∙ get_or_default all x.actor.0 was [] lt))

pub length-with_script : (all : List (List (List (List ℕ)))) (x : ScriptItem) → length (with_script all x) ≡ length all
length-with_script all x = length-set all x.actor.0 (get_or all x.actor.0 [] ++ x.lines ∷ [])

length-gathered : (all : List (List (List (List ℕ)))) (scripts : List ScriptItem) → length (fold with_script all scripts) ≡ length all
length-gathered all [] = refl
length-gathered all (x ∷ xs) = length-gathered (with_script all x) xs ∙ length-with_script all x

-- one script more, at its actor and at any other
one_more : (all : List (List (List (List ℕ)))) (x : ScriptItem) (xs : List ScriptItem) (a : ℕ) → x.actor.0 < length all
    → get_or (with_script all x) a [] ++ lines_for xs a ≡ get_or all a [] ++ lines_for (x ∷ xs) a
one_more all x xs a lt =
    elim (x.actor.0 == a) as (λ b. (x.actor.0 == a) ≡ b → get_or (with_script all x) a [] ++ lines_for xs a ≡ get_or all a [] ++ lines_for (x ∷ xs) a) [
      | true ↦ λ e.
          let P : ℕ → Type 0 = λ n. get_or (with_script all x) n [] ≡ get_or all n [] ++ x.lines ∷ [] in
          let here : get_or (with_script all x) a [] ≡ get_or all a [] ++ x.lines ∷ [] = subst P (eqb-true x.actor.0 a e) (get_or-set_same all x.actor.0 (get_or all x.actor.0 [] ++ x.lines ∷ []) [] lt) in
          let more : lines_for (x ∷ xs) a ≡ x.lines ∷ lines_for xs a = rw e refl in
          rw (here, more) (append_assoc (get_or all a []) (x.lines ∷ []) (lines_for xs a))
      | false ↦ λ e.
          let other : a ≡ x.actor.0 → ⊥ = λ same. absurd (grind (arith, nat_tests)) in
          let here : get_or (with_script all x) a [] ≡ get_or all a [] = get_or-set_other all x.actor.0 a (get_or all x.actor.0 [] ++ x.lines ∷ []) [] other in
          let more : lines_for (x ∷ xs) a ≡ lines_for xs a = rw e refl in
          rw (here, more) refl
    ] refl

gathered_at : (all : List (List (List (List ℕ)))) (scripts : List ScriptItem) (n a : ℕ) → length all ≡ n → AllByRecursion (λ script. script.actor.0 < n) scripts
    → get_or (fold with_script all scripts) a [] ≡ get_or all a [] ++ lines_for scripts a
gathered_at all [] n a whole within = sym (append-nil (get_or all a []))
gathered_at all (x ∷ xs) n a whole within =
    gathered_at (with_script all x) xs n a (length-with_script all x ∙ whole) within.1 ∙ one_more all x xs a (omega (arith, whole, within.0))

pub lines_are : (n : ℕ) (scripts : List ScriptItem) → AllByRecursion (λ script. script.actor.0 < n) scripts → map or_empty_script (fold with_script (replicate n []) scripts) ≡ lines_by_actor n scripts
lines_are n scripts within =
    let none : List (List (List (List ℕ))) = replicate n [] in
    let all = fold with_script none scripts in
    let whole : length none ≡ n = length-replicate n [] in
    let counted : length all ≡ n = length-gathered none scripts ∙ whole in
    let length_left : length (map or_empty_script all) ≡ n = length-map all or_empty_script ∙ counted in
    let length_right : length (lines_by_actor n scripts) ≡ n = length-map (range_with_len 0 n) (λ a. or_empty_script (lines_for scripts a)) ∙ length-range_with_len 0 n in
    ext_get_or [] (map or_empty_script all) (lines_by_actor n scripts) (length_left ∙ sym length_right) (λ i lt.
    let below : i < n = omega (arith, length_left, lt) in
    let left : get_or (map or_empty_script all) i [] ≡ or_empty_script (get_or all i []) = get_or-map or_empty_script all i [] [] (omega (arith, counted, below)) in
    let here : get_or all i [] ≡ lines_for scripts i = gathered_at none scripts n i whole within ∙ rw (get_or-replicate {A = List (List (List ℕ))} n i [] [] below) refl in
    let right : get_or (lines_by_actor n scripts) i [] ≡ or_empty_script (lines_for scripts i) = get_or-map-range_with_len (λ a. or_empty_script (lines_for scripts a)) 0 n i i [] below (omega arith) in
    left ∙ ap or_empty_script here ∙ sym right)

pub length-lines_by_actor : (n : ℕ) (scripts : List ScriptItem) → length (lines_by_actor n scripts) ≡ n
length-lines_by_actor n scripts = length-map (range_with_len 0 n) (λ a. or_empty_script (lines_for scripts a)) ∙ length-range_with_len 0 n
