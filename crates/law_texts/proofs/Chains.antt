-- What a chain of readings gives, where its first reading is known.
use Rattle.std.proofs.Common.{◌≡◌, ap, refl}
use Rattle.std.specs.Prelude.{Result, Ok, Err}
use Rattle.ffm_model.specs.Reading.{Reading, Stop, ◌>>=◌, go_on}

-- the second reading gives what the chain gives
pub goes-on : {A B : Type 0} (r : Reading A) (f : A → Reading B) (x : A) → r.gives ≡ Ok x → (r >>= f).gives ≡ (f x).gives
goes-on {A} {B} r f x is =
    let go : (o : Result A Stop) → o ≡ Ok x → (go_on r.names o f).gives ≡ (f x).gives = elim [
      | Ok y ↦ λ e. (let same : y ≡ x = cc in ap (λ (z : A). (f z).gives) same)
      | Err y ↦ λ e. absurd (cc)
    ] in
    go r.gives is

-- what the first reading of a chain gave
pub record Chain {A B : Type 0} (r : Reading A) (f : A → Reading B) (y : B) : Type 0 where
  pub value : A
  pub first : r.gives ≡ Ok value
  pub rest : (f value).gives ≡ Ok y

pub chain-of : {A B : Type 0} (r : Reading A) (f : A → Reading B) (y : B) → (r >>= f).gives ≡ Ok y → Chain r f y
chain-of {A} {B} r f y is =
    let go : (o : Result A Stop) → r.gives ≡ o → (go_on r.names o f).gives ≡ Ok y → Chain r f y = elim [
      | Ok x ↦ λ e h. record { value = x; first = e; rest = h }
      | Err x ↦ λ e h. absurd (cc)
    ] in
    go r.gives refl is
