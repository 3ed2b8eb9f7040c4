-- Where an entry stands in a list of entries.
use Rattle.std.proofs.Common.{◌≡◌, List, [], ◌∷◌, ◌++◌, refl, ap, ap₂}
use Rattle.ffm_model.specs.declared.machine.Entry.{Entry}

pub never-nil : (before behind : List Entry) (e : Entry) → [] ≡ before ++ e ∷ behind → ⊥
never-nil [] behind e h = cc
never-nil (x ∷ before) behind e h = cc

-- an entry of a list is the last one, or stands before it
pub push-split : (xs before behind : List Entry) (x e : Entry) (P : Type 0) → xs ++ x ∷ [] ≡ before ++ e ∷ behind → (xs ≡ before → x ≡ e → P) → ((rest : List Entry) → xs ≡ before ++ e ∷ rest → P) → P
push-split [] [] behind x e P h last earlier = last refl cc
push-split [] (b ∷ before) behind x e P h last earlier = let none : [] ≡ before ++ e ∷ behind = cc in absurd (never-nil before behind e none)
push-split (y ∷ ys) [] behind x e P h last earlier = let same : y ≡ e = cc in earlier ys (ap (λ (z : Entry). z ∷ ys) same)
push-split (y ∷ ys) (b ∷ before) behind x e P h last earlier =
    let same : y ≡ b = cc in
    let tail : ys ++ x ∷ [] ≡ before ++ e ∷ behind = cc in
    push-split ys before behind x e P tail (λ past. last (ap₂ (λ (z : Entry) (l : List Entry). z ∷ l) same past)) (λ rest past. earlier rest (ap₂ (λ (z : Entry) (l : List Entry). z ∷ l) same past))
