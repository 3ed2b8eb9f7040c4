-- What holds of what an option makes, and of the value that it has.
use Rattle.std.proofs.Common.{◌≡◌, refl, subst, sym}
use Rattle.std.specs.Prelude.{Option, Some, None, IfSome, IsSome, IsSomeAnd, option_and_then}
use Rattle.std.specs.Option.{option_map}

-- what holds of what each value makes, holds of what an option makes
pub each_made : {X Y : Type 0} (P : Y → Type 0) (f : X → Option Y) (o : Option X) → ((x : X) → o ≡ Some x → IfSome (f x) P) → IfSome (option_and_then f o) P
each_made P f None h = tt
each_made P f (Some x) h = h x refl

pub each_mapped : {X Y : Type 0} (P : Y → Type 0) (f : X → Y) (o : Option X) → ((x : X) → o ≡ Some x → P (f x)) → IfSome (option_map f o) P
each_mapped P f None h = tt
each_mapped P f (Some x) h = h x refl

-- the value that is there
pub some-value : {X : Type 0} (o : Option X) → IsSome o → (x : X) × (o ≡ Some x)
some-value None h = absurd cc
some-value (Some x) h = (x, refl)

-- what is said of it, and what it has
pub if-some : {X : Type 0} (o : Option X) (x : X) (P : X → Type 0) → o ≡ Some x → IfSome o P → P x
if-some o x P is h = subst (λ y. IfSome y P) is h

pub some-and : {X : Type 0} (o : Option X) (x : X) (P : X → Type 0) → o ≡ Some x → P x → IsSomeAnd o P
some-and o x P is h = subst (λ y. IsSomeAnd y P) (sym is) h
