-- One step after the other.
use Rattle.std.proofs.Common.{subst, ◌≡◌, ℕ, List, ◌++◌, Option, None, Some, Result, Ok, Err}
use Rattle.std.specs.Prelude.{IfSome, IsSomeAnd, Contains}
use Rattle.std.proofs.lemmas.List.Elements.{Contains-append_left, Contains-append_right}
use Rattle.ffm_model.specs.declared.place.PartsError.{PartsError}
use Rattle.ffm_model.specs.declared.place.PartsError.TheVariants as parts_error
use Rattle.ffm_model.specs.Reading.{Reading, Contents, ◌>>=◌, Stop, go_on, after_names, Gives}

among_left : (last : Option (Option (List ℕ))) (xs ys : List (List ℕ)) → IfSome last (λ name. IsSomeAnd name (λ failed. Contains xs failed)) → IfSome last (λ name. IsSomeAnd name (λ failed. Contains (xs ++ ys) failed))
among_left None xs ys h = tt
among_left (Some None) xs ys h = h
among_left (Some (Some failed)) xs ys h = Contains-append_left xs ys failed h

among_right : (last : Option (Option (List ℕ))) (xs ys : List (List ℕ)) → IfSome last (λ name. IsSomeAnd name (λ failed. Contains ys failed)) → IfSome last (λ name. IsSomeAnd name (λ failed. Contains (xs ++ ys) failed))
among_right None xs ys h = tt
among_right (Some None) xs ys h = h
among_right (Some (Some failed)) xs ys h = Contains-append_right xs ys failed h

after_names_gives : {X Z : Type 0} (view : X → Z) (last : Option (Option (List ℕ))) (r : Result X PartsError) (names : List (List ℕ)) (second : Reading Z) → Gives view last r second → Gives view last r (after_names names second)
after_names_gives view last (Ok x) names second h = h
after_names_gives view last (Err (parts_error.Refused f)) names second h = h
after_names_gives view last (Err parts_error.ReadFault) names second h = among_right last names second.names h
after_names_gives view last (Err parts_error.Memory) names second h = tt

-- a step after one that gave y
pub after_ok : {X Y Z : Type 0} (view : X → Z) (last : Option (Option (List ℕ))) (r : Result X PartsError) (first : Reading Y) (f : Y → Reading Z) (y : Y) → first.gives ≡ Ok y → Gives view last r (f y) → Gives view last r (first >>= f)
after_ok view last r first f y e h = rw e (after_names_gives view last r first.names (f y) h)

ended : {X W Y Z : Type 0} (seen : W → Y) (view : X → Z) (last : Option (Option (List ℕ))) (t : PartsError) (names : List (List ℕ)) (gives : Result Y Stop) (f : Y → Reading Z) → Gives seen last (Err t) (record { names = names; gives = gives }) → Gives view last (Err t) (go_on names gives f)
ended seen view last (parts_error.Refused r) names (Ok y) f h = absurd cc
ended seen view last (parts_error.Refused r) names (Err e) f h = cc
ended seen view last parts_error.ReadFault names (Ok y) f h = among_left last names (f y).names h
ended seen view last parts_error.ReadFault names (Err e) f h = h
ended seen view last parts_error.Memory names gives f h = tt

-- the end at a step that came to no end
pub after_err : {X W Y Z : Type 0} (seen : W → Y) (view : X → Z) (last : Option (Option (List ℕ))) (t : PartsError) (first : Reading Y) (f : Y → Reading Z) → Gives seen last (Err t) first → Gives view last (Err t) (first >>= f)
after_err seen view last t first f h = ended seen view last t first.names first.gives f h

-- the second of two steps decides, over what the files tell
pub goes_second : {X Y Z : Type 0} (view : X → Z) (held mid : Option Contents) (last : Option (Option (List ℕ))) (r : Result X PartsError) (first : Contents → Reading Y) (second : Contents → Y → Reading Z) (y : Y)
    → mid ≡ held → IfSome held (λ of. (first of).gives ≡ Ok y) → IfSome mid (λ of. Gives view last r (second of y)) → IfSome held (λ of. Gives view last r (first of >>= second of))
goes_second view None mid last r first second y same one two = tt
goes_second view (Some of) mid last r first second y same one two =
    after_ok view last r (first of) (second of) y one (subst (λ (o : Option Contents). IfSome o (λ at. Gives view last r (second at y))) same two)
