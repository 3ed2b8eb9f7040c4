-- Elements of a fixed length, after a loan.
use Rattle.std.proofs.Common.{◌≡◌, Bool, true, false, List, length, ap, ◌∙◌, refl}
use Rattle.std.specs.Prelude.{Vec, if◌then◌else◌}
use Rattle.std.specs.Vec.{with_items}
use Rattle.std.proofs.lemmas.List.{with_items_is}

-- a change that keeps the length, made of lent elements, is made of the elements
pub lent-changed : {X Z : Type 0} (v : Vec X Z) (f : List X → List X) (old new : List X) → ((xs : List X) → length (f xs) ≡ length xs)
    → old ≡ v.items → length old ≡ v.len → new ≡ f old → (with_items v new).items ≡ f v.items
lent-changed v f old new keeps is long e = with_items_is v new (ap length e ∙ keeps old ∙ long) ∙ e ∙ ap f is

pub length-unless : {X : Type 0} (f : List X → List X) → ((xs : List X) → length (f xs) ≡ length xs) → (skip : Bool) (xs : List X) → length (if skip then xs else f xs) ≡ length xs
length-unless f keeps true xs = refl
length-unless f keeps false xs = keeps xs
