-- Items of a list that go while others stay, where no two items are like each other.
use Rattle.std.proofs.Common.{◌≡◌, ◌≤◌, Bool, true, false, cond, not, ◌&&◌, ◌||◌, List, [], ◌∷◌, ◌++◌, filter, get_or, arith, ◌∙◌, ap, refl}
use Rattle.std.specs.Prelude.{count_by, All}
use Rattle.std.specs.List.{list_any}
use Rattle.std.proofs.lemmas.List.Folds.{list_any-append}
use Rattle.std.proofs.lemmas.Bool.{and_from}
use Rattle.law_lists.proofs.Counts.{any-count, bit}
use Rattle.law_counting.proofs.Pairs.{count-split, member-counts}
use Rattle.law_calls.proofs.KeptSlots.{any-at}

pub any-filter : {X : Type 0} (p q : X → Bool) (xs : List X) → list_any p (filter q xs) ≡ list_any (λ x. q x && p x) xs
any-filter p q [] = refl
any-filter {X = X} p q (x ∷ xs) =
    let go : (b : Bool) → list_any p (cond {A = List X} b (x ∷ filter q xs) (filter q xs)) ≡ ((b && p x) || list_any (λ y. q y && p y) xs) =
    elim [ true ↦ ap (λ b. p x || b) (any-filter p q xs) | false ↦ any-filter p q xs ] in
    go (q x)

-- an item is like one of those that stay, or of the new ones, exactly where it stays itself
pub like-kept : {X : Type 0} (like : X → X → Bool) → ((x : X) → like x x ≡ true) → (q : X → Bool) (xs new : List X)
    → ((x : X) → count_by (like x) xs ≤ 1) → All (λ x. q x ≡ false → list_any (like x) new ≡ false) xs
    → All (λ x. list_any (like x) (filter q xs ++ new) ≡ q x) xs
like-kept {X} like self q xs new one apart = λ k d lt.
    let x : X = get_or xs k d in
    let stays : q x ≡ true → list_any (λ y. q y && like x y) xs ≡ true = λ e. any-at (λ y. q y && like x y) xs k d lt (and_from (q x) (like x x) e (self x)) in
    let gone : q x ≡ false → (b : Bool) → list_any (λ y. q y && like x y) xs ≡ b → b ≡ false =
    λ e. elim [
      | true ↦ λ f.
          absurd (omega (
            arith,
            any-count (λ y. q y && like x y) xs f,
            member-counts (λ y. not (q y) && like x y) xs k d lt,
            ap bit (and_from (not (q x)) (like x x) (ap not e) (self x)),
            count-split q (like x) xs,
            one x,
          ))
      | false ↦ λ f. refl
    ] in
    let go : (b : Bool) → q x ≡ b → (list_any (λ y. q y && like x y) xs || list_any (like x) new) ≡ b =
    elim [
      | true ↦ λ e. ap (λ b. b || list_any (like x) new) (stays e)
      | false ↦ λ e. ap (λ b. b || list_any (like x) new) (gone e (list_any (λ y. q y && like x y) xs) refl) ∙ apart k d lt e
    ] in
    list_any-append (like x) (filter q xs) new ∙ ap (λ b. b || list_any (like x) new) (any-filter (like x) q xs) ∙ go (q x) refl
