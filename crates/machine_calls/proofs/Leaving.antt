-- What is left of connections after a panic, and the messages that are sent for them.
use Rattle.std.proofs.Common.{ℕ, ◌≡◌, ◌<◌, ◌+◌, ◌++◌, Bool, cond, List, [], ◌∷◌, length, take, get_or, ap, sym, ◌∙◌, subst}
use Rattle.std.specs.Prelude.{Option, Some, None}
use Rattle.std.specs.List.{filter_map, cons_option}
use Rattle.std.specs.List.Retain.{RetainsInTurn}
use Rattle.std.proofs.lemmas.List.{take_more, append_assoc}
use Rattle.std.proofs.lemmas.List.Elements.{filter_map-append}
use Rattle.ffm_model.specs.declared.objects.OpenConnection.{OpenConnection}
use Rattle.machine_calls.specs.Leaving.{Leaves}

-- connections that a test leaves or changes, one after the other
pub retained : {F : Type 0} (R : F → OpenConnection → Bool → F → OpenConnection → Type 0) (f : OpenConnection → Option OpenConnection) (p : F)
    → ((x : OpenConnection) (b : Bool) (q : F) (y : OpenConnection) → R p x b q y → Leaves (f x) b y × (q ≡ p))
    → (xs ys : List OpenConnection) → RetainsInTurn R p xs ys → ys ≡ filter_map f xs
retained R f p says [] ys r = r
retained {F} R f p says (x ∷ xs) ys r =
    let b = r.0 in
    let y = r.2 in
    let zs = r.4 in
    let said = says x b r.1 y r.3 in
    let rest : zs ≡ filter_map f xs = retained R f p says xs zs (subst (λ (q : F). RetainsInTurn R q xs zs) said.1 r.5) in
    let go : (o : Option OpenConnection) → Leaves o b y → cond b (y ∷ zs) zs ≡ cons_option o (filter_map f xs) =
    elim [ None ↦ λ h. ap (λ t. cond t (y ∷ zs) zs) h ∙ rest | Some kept ↦ λ h. ap (λ t. cond t (y ∷ zs) zs) h.0 ∙ ap (λ (z : OpenConnection). z ∷ zs) h.1 ∙ ap (λ (ws : List OpenConnection). kept ∷ ws) rest ] in
    r.6 ∙ go (f x) said.0

-- what one more item gives goes last
pub filter_map_more : {X Y : Type 0} (f : X → Option Y) (xs : List X) (i : ℕ) (d : X) (sent now more : List Y) → i < length xs → now ≡ sent ++ filter_map f (take i xs)
    → more ≡ now ++ cons_option (f (get_or xs i d)) [] → more ≡ sent ++ filter_map f (take (i + 1) xs)
filter_map_more {X} {Y} f xs i d sent now more below so_far one =
    one ∙ ap (λ (ys : List Y). ys ++ cons_option (f (get_or xs i d)) []) so_far
    ∙ append_assoc sent (filter_map f (take i xs)) (cons_option (f (get_or xs i d)) [])
    ∙ ap (λ (ys : List Y). sent ++ ys) (sym (filter_map-append f (take i xs) (get_or xs i d ∷ [])) ∙ ap (λ (ys : List X). filter_map f ys) (sym (take_more xs i d below)))
