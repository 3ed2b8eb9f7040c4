-- At most as many connections as the budgets allow together.
use Rattle.std.proofs.Common.{ℕ, ◌≡◌, ◌≤◌, ◌+◌, ◌==◌, Bool, true, false, cond, not, ◌&&◌, List, [], ◌∷◌, length, arith, ◌∙◌, ap, refl}
use Rattle.std.specs.Prelude.{count_by, sum_by, find, Some, filter}
use Rattle.std.specs.Option.{option_map_or, option_map}
use Rattle.std.proofs.lemmas.List.Sums.{sum_by-cons}
use Rattle.std.proofs.lemmas.Bool.{and_parts, eqb-true}
use Rattle.law_lists.proofs.Counts.{bit, count-cons, count-filter-le}
use Rattle.ffm_model.specs.declared.system.System.{System}
use Rattle.ffm_model.specs.declared.system.Budget.{Budget}
use Rattle.ffm_model.specs.declared.objects.OpenConnection.{OpenConnection}
use Rattle.ffm_model.specs.State.{SpmState}
use Rattle.ffm_model.specs.Names.{capacity}
use Rattle.law_counting.specs.Objects.{ObjectsFit}
use Rattle.law_counting.proofs.Parts.{is_itself}

abbrev pair : ℕ → ℕ → OpenConnection → Bool
pair a v c = (c.client.0 == a) && (c.service == v)

abbrev allowed_by : List Budget → ℕ → ℕ → ℕ
allowed_by bs a v = option_map_or (λ n. n) (option_map (λ b. b.count) (find (λ b. (b.client.0 == a) && (b.service == v)) bs)) 0

count-not : {X : Type 0} (q : X → Bool) (xs : List X) → count_by q xs + length (filter (λ x. not (q x)) xs) ≡ length xs
count-not q [] = refl
count-not {X = X} q (x ∷ xs) =
    let rest : List X = filter (λ y. not (q y)) xs in
    let go : (b : Bool) → bit b + count_by q xs + length (cond (not b) (x ∷ rest) rest) ≡ 1 + length xs =
    elim [ true ↦ omega (arith, count-not q xs) | false ↦ omega (arith, count-not q xs) ] in
    omega (arith, count-cons q x xs, go (q x))

count-apart : {X : Type 0} (q : X → Bool) (xs : List X) → count_by q (filter (λ x. not (q x)) xs) ≡ 0
count-apart q [] = refl
count-apart {X = X} q (x ∷ xs) =
    let rest : List X = filter (λ y. not (q y)) xs in
    let go : (b : Bool) → q x ≡ b → count_by q (cond (not b) (x ∷ rest) rest) ≡ 0 =
    elim [ true ↦ λ e. count-apart q xs | false ↦ λ e. omega (arith, count-cons q x rest, ap bit e, count-apart q xs) ] in
    go (q x) refl

and_itself : (a v : ℕ) → bit ((a == a) && (v == v)) ≡ 1
and_itself a v = ap (λ b. bit (b && (v == v))) (is_itself a) ∙ ap bit (is_itself v)

pub connections-le : (bs : List Budget) (cs : List OpenConnection) → ((a v : ℕ) → count_by (pair a v) cs ≤ allowed_by bs a v) → length cs ≤ sum_by (λ b. b.count) bs
connections-le [] [] h = omega arith
connections-le [] (c ∷ cs) h = absurd (omega (arith, h c.client.0 c.service, count-cons (pair c.client.0 c.service) c cs, and_itself c.client.0 c.service))
connections-le (b ∷ bs) cs h =
    let q : OpenConnection → Bool = pair b.client.0 b.service in
    let rest : List OpenConnection = filter (λ c. not (q c)) cs in
    let here : (d : Bool) → ((b.client.0 == b.client.0) && (b.service == b.service)) ≡ d → option_map_or (λ n. n) (option_map (λ (x : Budget). x.count) (cond d (Some b) (find (λ x. (x.client.0 == b.client.0) && (x.service == b.service)) bs))) 0 ≤ b.count =
    elim [ true ↦ λ e. omega arith | false ↦ λ e. absurd (omega (arith, and_itself b.client.0 b.service, ap bit e)) ] in
    let first : count_by q cs ≤ b.count = omega (arith, h b.client.0 b.service, here _ refl) in
    let later : (a v : ℕ) → count_by (pair a v) rest ≤ allowed_by bs a v =
    λ a v.
    let go : (d : Bool) → ((b.client.0 == a) && (b.service == v)) ≡ d → count_by (pair a v) cs ≤ option_map_or (λ n. n) (option_map (λ (x : Budget). x.count) (cond d (Some b) (find (λ x. (x.client.0 == a) && (x.service == v)) bs))) 0
    → count_by (pair a v) rest ≤ allowed_by bs a v =
    elim [
      | true ↦ λ e k.
          let x : b.client.0 ≡ a = eqb-true _ _ (and_parts _ _ e).0 in
          let y : b.service ≡ v = eqb-true _ _ (and_parts _ _ e).1 in
          omega (arith, count-apart q cs, ap (λ n. count_by (pair n b.service) rest) x, ap (λ n. count_by (pair a n) rest) y)
      | false ↦ λ e k. omega (arith, k, count-filter-le (pair a v) (λ c. not (q c)) cs)
    ] in
    go _ refl (h a v) in
    omega (arith, count-not q cs, first, connections-le bs rest later, sum_by-cons (λ (x : Budget). x.count) b bs)

pub count-all : {X : Type 0} (xs : List X) → count_by (λ x. true) xs ≡ length xs
count-all [] = refl
count-all (x ∷ xs) = omega (arith, count-cons (λ y. true) x xs, count-all xs)

pub few-connections : (s : System) (b : SpmState) → ObjectsFit s b → length b.connections ≤ capacity s
few-connections s b h = connections-le s.budgets b.connections h.budgets
