-- Budgets in order: the one of a client for a service is found by a binary search.
use Rattle.std.proofs.Common.{ℕ, zero, suc, ◌≡◌, ◌<◌, ◌≤◌, ◌==◌, ◌&&◌, Bool, true, false, cond, List, [], ◌∷◌, length, get_or, arith, refl, ◌∙◌, ap, sym}
use Rattle.std.specs.Prelude.{Some, None, find, nat_lt}
use Rattle.std.specs.List.{list_all, HoldsAt}
use Rattle.std.specs.Option.{option_map}
use Rattle.std.specs.Ordering.{nat_cmp, ordering_then, ordering_index}
use Rattle.std.specs.declared.cmp.Ordering.{Ordering}
use Rattle.std.specs.declared.cmp.Ordering.TheVariants.{Less, Equal, Greater}
use Rattle.std.specs.List.Sorted.{IsNonDecreasingBy, IsPartitionPoint}
use Rattle.std.proofs.lemmas.Bool.{and_parts}
use Rattle.std.proofs.lemmas.Bool.Decides.{nat_tests}
use Rattle.ffm_model.specs.declared.system.Budget.{Budget}
use Rattle.ffm_model.specs.WellFormed.{each_pair, budget_before}
use Rattle.ffm_model.proofs.TestLemmas.{holds_at}

abbrev pub is_of : ℕ → ℕ → Budget → Bool
is_of client service b = (b.client.0 == client) && (b.service == service)

-- how a budget stands to those of a client for a service
abbrev pub order_to : ℕ → ℕ → Budget → Ordering
order_to client service b = ordering_then (nat_cmp b.client.0 client) (nat_cmp b.service service)

by_cmp : (x y : ℕ) (P : Ordering → Type 0) → (x < y → P Less) → (x ≡ y → P Equal) → (y < x → P Greater) → P (nat_cmp x y)
by_cmp x y P less same more =
    let go : (a b : Bool) → nat_lt x y ≡ a → (x == y) ≡ b → P (cond a Less (cond b Equal Greater)) =
    elim [
      | true ↦ λ b p q. less (grind (arith, nat_tests))
      | false ↦ elim [ true ↦ λ p q. same (grind (arith, nat_tests)) | false ↦ λ p q. more (grind (arith, nat_tests)) ]
    ] in
    go (nat_lt x y) (x == y) refl refl

cmp-self : (x y : ℕ) → x ≡ y → nat_cmp x y ≡ Equal
cmp-self x y e = by_cmp x y (λ o. o ≡ Equal) (λ h. absurd (omega arith)) (λ h. refl) (λ h. absurd (omega arith))

cmp-equal : (x y : ℕ) → nat_cmp x y ≡ Equal → x ≡ y
cmp-equal x y = by_cmp x y (λ o. o ≡ Equal → x ≡ y) (λ h e. absurd cc) (λ h e. h) (λ h e. absurd cc)

index_le : (o : Ordering) → ordering_index o ≤ 2
index_le Less = omega arith
index_le Equal = omega arith
index_le Greater = omega arith

cmp-rises : (x y z : ℕ) → x ≤ y → ordering_index (nat_cmp x z) ≤ ordering_index (nat_cmp y z)
cmp-rises x y z le =
    by_cmp x z (λ o. ordering_index o ≤ ordering_index (nat_cmp y z)) (λ h. omega arith)
    (λ h. by_cmp y z (λ o. 1 ≤ ordering_index o) (λ k. absurd (omega arith)) (λ k. omega arith) (λ k. omega arith))
    (λ h. by_cmp y z (λ o. 2 ≤ ordering_index o) (λ k. absurd (omega arith)) (λ k. absurd (omega arith)) (λ k. omega arith))

-- of two pairs the first is before the second
then-rises : (x y z : ℕ) (a b : Ordering) → x ≤ y → (x ≡ y → ordering_index a ≤ ordering_index b)
    → ordering_index (ordering_then (nat_cmp x z) a) ≤ ordering_index (ordering_then (nat_cmp y z) b)
then-rises x y z a b le then_by =
    by_cmp x z (λ o. ordering_index (ordering_then o a) ≤ ordering_index (ordering_then (nat_cmp y z) b)) (λ h. omega arith)
    (λ h. by_cmp y z (λ o. ordering_index a ≤ ordering_index (ordering_then o b)) (λ k. absurd (omega arith)) (λ k. then_by (omega arith)) (λ k. index_le a))
    (λ h. by_cmp y z (λ o. 2 ≤ ordering_index (ordering_then o b)) (λ k. absurd (omega arith)) (λ k. absurd (omega arith)) (λ k. omega arith))

before-rises : (client service : ℕ) (b c : Budget) → budget_before b c ≡ true → ordering_index (order_to client service b) ≤ ordering_index (order_to client service c)
before-rises client service b c before =
    let clients : b.client.0 ≤ c.client.0 = grind (arith, nat_tests) in
    then-rises b.client.0 c.client.0 client (nat_cmp b.service service) (nat_cmp c.service service) clients
    (λ e. let services : b.service ≤ c.service = grind (arith, nat_tests) in cmp-rises b.service c.service service services)

pair-at : (bs : List Budget) (i j : ℕ) (d : Budget) → each_pair budget_before bs ≡ true → i < j → j < length bs → budget_before (get_or bs i d) (get_or bs j d) ≡ true
pair-at [] i j d order lt within = absurd (omega arith)
pair-at (b ∷ bs) i zero d order lt within = absurd (omega arith)
pair-at (b ∷ bs) zero (suc j) d order lt within = holds_at (budget_before b) bs j d (omega arith) (and_parts (list_all (budget_before b) bs) (each_pair budget_before bs) order).0
pair-at (b ∷ bs) (suc i) (suc j) d order lt within = pair-at bs i j d (and_parts (list_all (budget_before b) bs) (each_pair budget_before bs) order).1 (omega arith) (omega arith)

-- so a binary search may look for them
pub order-rises : (client service : ℕ) (bs : List Budget) → each_pair budget_before bs ≡ true → IsNonDecreasingBy (λ b. ordering_index (order_to client service b)) bs
order-rises client service bs order = λ i j d le within.
    let go : (t : Bool) → nat_lt i j ≡ t → ordering_index (order_to client service (get_or bs i d)) ≤ ordering_index (order_to client service (get_or bs j d)) =
    elim [
      | true ↦ λ e. let lt : i < j = grind (arith, nat_tests) in before-rises client service (get_or bs i d) (get_or bs j d) (pair-at bs i j d order lt within)
      | false ↦ λ e.
          let same : i ≡ j = grind (arith, nat_tests) in
          omega (arith, ap (λ k. ordering_index (order_to client service (get_or bs k d))) same)
    ] in
    go (nat_lt i j) refl

equal-is : (client service : ℕ) (b : Budget) → order_to client service b ≡ Equal → is_of client service b ≡ true
equal-is client service b =
    by_cmp b.client.0 client (λ o. ordering_then o (nat_cmp b.service service) ≡ Equal → is_of client service b ≡ true) (λ h e. absurd cc)
    (λ h e. let same : b.service ≡ service = cmp-equal b.service service e in grind (arith, nat_tests)) (λ h e. absurd cc)

is-equal : (client service : ℕ) (b : Budget) → is_of client service b ≡ true → order_to client service b ≡ Equal
is-equal client service b e =
    let parts = and_parts (b.client.0 == client) (b.service == service) e in
    let clients : b.client.0 ≡ client = grind (arith, nat_tests) in
    let services : b.service ≡ service = grind (arith, nat_tests) in
    rw (cmp-self b.client.0 client clients) (cmp-self b.service service services)

first : (client service : ℕ) (bs : List Budget) (i : ℕ) (d : Budget) → each_pair budget_before bs ≡ true → i < length bs → is_of client service (get_or bs i d) ≡ true
    → find (is_of client service) bs ≡ Some (get_or bs i d)
first client service [] i d order lt is = absurd (omega arith)
first client service (b ∷ bs) zero d order lt is = rw is refl
first client service (b ∷ bs) (suc i) d order lt is =
    let parts = and_parts (list_all (budget_before b) bs) (each_pair budget_before bs) order in
    let before : budget_before b (get_or bs i d) ≡ true = holds_at (budget_before b) bs i d (omega arith) parts.0 in
    let other : is_of client service b ≡ false = grind (arith, nat_tests) in
    rw other (first client service bs i d parts.1 (omega arith) is)

none : (client service : ℕ) (bs : List Budget) → ((k : ℕ) (d : Budget) → k < length bs → is_of client service (get_or bs k d) ≡ false) → find (is_of client service) bs ≡ None
none client service [] off = refl
none client service (b ∷ bs) off =
    let other : is_of client service b ≡ false = off 0 b (omega arith) in
    rw other (none client service bs (λ k d lt. off (suc k) d (omega arith)))

not-equal : (client service : ℕ) (b : Budget) (o : Ordering) → order_to client service b ≡ o → (o ≡ Equal → ⊥) → is_of client service b ≡ false
not-equal client service b o e other =
    let go : (t : Bool) → is_of client service b ≡ t → t ≡ false = elim [ true ↦ λ k. absurd (other (sym e ∙ is-equal client service b k)) | false ↦ λ k. refl ] in
    go (is_of client service b) refl

-- what a binary search finds is the first one, since no two are of one client for one service
pub found_is_first : (client service : ℕ) (bs : List Budget) (i : ℕ) (d : Budget) → each_pair budget_before bs ≡ true → i < length bs
    → HoldsAt (λ b. order_to client service b ≡ Equal) bs i → Some (get_or bs i d).count ≡ option_map (λ b. b.count) (find (is_of client service) bs)
found_is_first client service bs i d order lt here = ap (option_map (λ (b : Budget). b.count)) (sym (first client service bs i d order lt (equal-is client service (get_or bs i d) (here d))))

-- and where it finds none there is none
pub none_is_there : (client service : ℕ) (bs : List Budget) (i : ℕ) → IsPartitionPoint (λ b. order_to client service b ≡ Less) (λ b. order_to client service b ≡ Greater) bs i
    → None ≡ option_map (λ b. b.count) (find (is_of client service) bs)
none_is_there client service bs i parted =
    let off : (k : ℕ) (d : Budget) → k < length bs → is_of client service (get_or bs k d) ≡ false =
    λ k d lt.
    let go : (t : Bool) → nat_lt k i ≡ t → is_of client service (get_or bs k d) ≡ false =
    elim [
      | true ↦ λ e. not-equal client service (get_or bs k d) Less (parted.0 k d (omega arith) (grind (arith, nat_tests))) (λ q. cc)
      | false ↦ λ e. not-equal client service (get_or bs k d) Greater (parted.1 k d (grind (arith, nat_tests)) lt) (λ q. cc)
    ] in
    go (nat_lt k i) refl in
    ap (option_map (λ (b : Budget). b.count)) (sym (none client service bs off))
