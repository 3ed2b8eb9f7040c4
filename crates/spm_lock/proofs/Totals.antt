-- Sums over the views, and one view that changes.
use Rattle.std.proofs.Common.{◌≡◌, ◌≢◌, ℕ, zero, suc, ◌+◌, ◌≤◌, List, [], ◌∷◌, ◌++◌, set, sym, refl, ap, subst, ⊎_elim, arith}
use mathlib.Core.Option.{some, some-injective, some-ne-none}
use lib.ListN.{get_elem?}
use Rattle.atomic_table.proofs.Lists.{at_set, at_snoc}
use Rattle.spm_lock.specs.declared.view.View.{View}
use Rattle.spm_lock.specs.Views.{total}

pub total_set : (f : View → ℕ) (vs : List View) (j : ℕ) (v w : View) → get_elem? vs j ≡ some v → total f (set vs j w) + f v ≡ total f vs + f w
total_set f [] j v w at = absurd (some-ne-none v (sym at))
total_set f (u ∷ vs) zero v w at = let same : f u ≡ f v = ap f (some-injective u v at) in omega arith
total_set f (u ∷ vs) (suc j) v w at = let h = total_set f vs j v w at in omega arith

pub total_snoc : (f : View → ℕ) (vs : List View) (w : View) → total f (vs ++ w ∷ []) ≡ total f vs + f w
total_snoc f [] w = omega arith
total_snoc f (u ∷ vs) w = let h = total_snoc f vs w in omega arith

pub total_one : (f : View → ℕ) (vs : List View) (j : ℕ) (v : View) → get_elem? vs j ≡ some v → f v ≤ total f vs
total_one f [] j v at = absurd (some-ne-none v (sym at))
total_one f (u ∷ vs) zero v at = let same : f u ≡ f v = ap f (some-injective u v at) in omega arith
total_one f (u ∷ vs) (suc j) v at = let h = total_one f vs j v at in omega arith

pub total_two : (f : View → ℕ) (vs : List View) (j k : ℕ) (v w : View) → j ≢ k → get_elem? vs j ≡ some v → get_elem? vs k ≡ some w → f v + f w ≤ total f vs
total_two f [] j k v w ne at there = absurd (some-ne-none v (sym at))
total_two f (u ∷ vs) zero zero v w ne at there = absurd (ne refl)
total_two f (u ∷ vs) zero (suc k) v w ne at there = let same : f u ≡ f v = ap f (some-injective u v at) in let h = total_one f vs k w there in omega arith
total_two f (u ∷ vs) (suc j) zero v w ne at there = let same : f u ≡ f w = ap f (some-injective u w there) in let h = total_one f vs j v at in omega arith
total_two f (u ∷ vs) (suc j) (suc k) v w ne at there = let h = total_two f vs j k v w (λ e. ne (ap suc e)) at there in omega arith

pub total_le : (f g : View → ℕ) (vs : List View) → ((j : ℕ) (v : View) → get_elem? vs j ≡ some v → f v ≤ g v) → total f vs ≤ total g vs
total_le f g [] below = omega arith
total_le f g (u ∷ vs) below = let here = below 0 u refl in let h = total_le f g vs (λ j v at. below (suc j) v at) in omega arith

-- what holds of each seat, after one view changes
pub each_set : (P : ℕ → View → Type 0) (vs : List View) (id : ℕ) (w : View) → ((j : ℕ) (u : View) → j ≢ id → get_elem? vs j ≡ some u → P j u) → P id w
    → (j : ℕ) (u : View) → get_elem? (set vs id w) j ≡ some u → P j u
each_set P vs id w others mine j u at = ⊎_elim
    (λ (t : (j ≡ id) × (w ≡ u)). subst (λ (y : ℕ × View). P y.0 y.1) (λ i. (sym t.0 i, t.1 i)) mine)
    (λ (t : (j ≢ id) × (get_elem? vs j ≡ some u)). others j u t.0 t.1)
    (at_set vs id j w u at)

-- and after one more comes
pub each_snoc : (P : View → Type 0) (vs : List View) (w : View) → ((j : ℕ) (u : View) → get_elem? vs j ≡ some u → P u) → P w
    → (j : ℕ) (u : View) → get_elem? (vs ++ w ∷ []) j ≡ some u → P u
each_snoc P vs w others mine j u at = ⊎_elim (λ was. others j u was) (λ (same : w ≡ u). subst P same mine) (at_snoc vs w u j at)
