-- A vector's new state.
use Rattle.std.proofs.Common.{ℕ, zero, suc, ◌≡◌, List, [], ◌∷◌, map, get_or, set, ap, refl}
use Rattle.ffm_model.specs.Held as model
use Rattle.mm_iovec.specs.declared.vector.VectorState.{VectorState}
use Rattle.mm_iovec.specs.declared.vector.HeldVector.{HeldVector}
use Rattle.mm_iovec.specs.Items.{state_of, vector_of}

pub state-set : (vs : List HeldVector) (i : ℕ) (u : VectorState) (d : HeldVector)
    → map vector_of (set vs i (record { size = (get_or vs i d).size; state = u })) ≡ model.with_state (state_of u) i (map vector_of vs)
state-set [] i u d = refl
state-set (v ∷ vs) zero u d = refl
state-set (v ∷ vs) (suc i) u d = ap (λ ws. vector_of v ∷ ws) (state-set vs i u d)
