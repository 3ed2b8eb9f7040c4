-- What holds of a value where there is one.
use Rattle.std.proofs.Common.{◌≡◌, Bool, true, false, Option, None, Some, refl, subst}
use Rattle.std.specs.Prelude.{IfSome, if◌then◌else◌}
use Rattle.ffm_model.specs.Binding.{◌>>=◌}

-- P of the one that a test chooses
pub chosen : {A : Type 0} (P : A → Type 0) (t : Bool) (x y : A) → (t ≡ true → P x) → (t ≡ false → P y) → P (if t then x else y)
chosen P true x y h k = h refl
chosen P false x y h k = k refl

-- P of the value, where there is one
unfoldable pub Gives : {A : Type 0} → Option A → (A → Type 0) → Type 0
Gives o P = IfSome o P

pub done : {A : Type 0} (x : A) (P : A → Type 0) → P x → Gives (Some x) P
unfolding Gives
done x P h = h

pub nothing : {A : Type 0} (P : A → Type 0) → Gives None P
unfolding Gives
nothing P = tt

-- what is given by a second step
pub after : {A B : Type 0} (o : Option A) (f : A → Option B) (P : A → Type 0) (Q : B → Type 0) → Gives o P → ((x : A) → P x → Gives (f x) Q) → Gives (o >>= f) Q
unfolding Gives
after (Some x) f P Q h k = k x h
after None f P Q h k = tt

-- what is given by a test
pub either : {A : Type 0} (t : Bool) (p q : Option A) (P : A → Type 0) → (t ≡ true → Gives p P) → Gives q P → Gives (if t then p else q) P
either t p q P h k = chosen (λ o. Gives o P) t p q h (λ _. k)

-- what is given where a test passes
pub when : {A : Type 0} (t : Bool) (o : Option A) (P : A → Type 0) → (t ≡ true → Gives o P) → Gives (if t then o else None) P
when t o P h = either t o None P h (nothing P)

pub weaker : {A : Type 0} (o : Option A) (P Q : A → Type 0) → ((x : A) → P x → Q x) → Gives o P → Gives o Q
unfolding Gives
weaker (Some x) P Q k h = k x h
weaker None P Q k h = tt

pub given : {A : Type 0} (o : Option A) (P : A → Type 0) → ((x : A) → o ≡ Some x → P x) → Gives o P
unfolding Gives
given (Some x) P h = h x refl
given None P h = tt

pub given_is : {A : Type 0} (o : Option A) (P : A → Type 0) (x : A) → Gives o P → o ≡ Some x → P x
unfolding Gives
given_is (Some y) P x h e = let same : y ≡ x = cc in subst P same h
given_is None P x h e = cc
