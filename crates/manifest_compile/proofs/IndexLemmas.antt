-- Indices of stateless services, one by one.
use Rattle.std.proofs.Common.{ℕ, suc, ◌≡◌, ◌<◌, ◌≤◌, ◌+◌, ◌-◌, ◌==◌, ◌||◌, List, [], ◌∷◌, ◌++◌, length, take, Option, Some, Bool, true, false, not, cond, find, refl, ap, ap₂, sym, ◌∙◌, arith, append_assoc, get_or, eq-eqb, ne_eqb, count_by, ◌&&◌}
use Rattle.std.specs.List.{list_any, range_with_len}
use Rattle.std.specs.Option.{option_map_or}
use Rattle.std.proofs.lemmas.List.Folds.{list_any-append}
use Rattle.std.proofs.lemmas.List.Sums.{count_by_more_yes, count_by_more_no}
use Rattle.law_lists.proofs.Tests.{list_any-false}
use Rattle.ffm_model.specs.declared.system.Service.{Service}
use Rattle.ffm_model.specs.ManifestItems.{ServiceRecord}
use Rattle.ffm_model.specs.Layout.{Located}
use Rattle.ffm_model.specs.Compiled.{free_index, index_for, service_of, services_from}
use Rattle.law_systems.proofs.Stateless.{is_taken}

-- ---- the least free index

-- the least one from i on
abbrev pub free_from : List ℕ → ℕ → ℕ
free_from taken i = option_map_or (λ j. j) (find (λ j. not (list_any (λ t. t == j) taken)) (range_with_len i (33 - i))) 0

range_from : (i n m : ℕ) → n ≡ suc m → range_with_len i n ≡ i ∷ range_with_len (i + 1) m
range_from i n m e = ap (range_with_len i) e

rest_from : (i : ℕ) → i < 33 → range_with_len i (33 - i) ≡ i ∷ range_with_len (i + 1) (33 - (i + 1))
rest_from i below = range_from i (33 - i) (33 - (i + 1)) (omega arith)

abbrev chosen : Bool → ℕ → Option ℕ → ℕ
chosen b i rest = option_map_or (λ j. j) (cond b (Some i) rest) 0

pub free_here : (taken : List ℕ) (i : ℕ) → i < 33 → is_taken taken i ≡ false → free_from taken i ≡ i
free_here taken i below e =
    let test : ℕ → Bool = λ j. not (is_taken taken j) in
    ap (λ js. option_map_or (λ j. j) (find test js) 0) (rest_from i below)
    ∙ ap (λ b. chosen (not b) i (find test (range_with_len (i + 1) (33 - (i + 1))))) e

pub free_past : (taken : List ℕ) (i : ℕ) → i < 33 → is_taken taken i ≡ true → free_from taken (i + 1) ≡ free_from taken i
free_past taken i below e =
    let test : ℕ → Bool = λ j. not (is_taken taken j) in
    sym (ap (λ js. option_map_or (λ j. j) (find test js) 0) (rest_from i below)
    ∙ ap (λ b. chosen (not b) i (find test (range_with_len (i + 1) (33 - (i + 1))))) e)

-- ---- which are taken, in any order

abbrev pub SameTaken : List ℕ → List ℕ → Type 0
SameTaken a b = (i : ℕ) → is_taken a i ≡ is_taken b i

free_same : (a b : List ℕ) → SameTaken a b → free_index a ≡ free_index b
free_same a b same =
    let tests : (λ (i : ℕ). not (is_taken a i)) ≡ (λ i. not (is_taken b i)) = λ k i. not (same i k) in
    ap (λ (t : ℕ → Bool). option_map_or (λ i. i) (find t (range_with_len 1 32)) 0) tests

index_by : (connected auto : Bool) (free free_too stated : ℕ) → free ≡ free_too → (cond connected 0 (cond auto free stated)) ≡ (cond connected 0 (cond auto free_too stated))
index_by connected auto free free_too stated e = ap (λ f. cond connected 0 (cond auto f stated)) e

index_same : (a b : List ℕ) (v : ServiceRecord) → SameTaken a b → index_for a v ≡ index_for b v
index_same a b v same = index_by v.connection_based (v.stateless_handle == 0) (free_index a) (free_index b) v.stateless_handle (free_same a b same)

-- services take the same indices, whatever the order of those that are taken
services_same : (a b : List ℕ) (xs : List (Located ServiceRecord)) → SameTaken a b → services_from a xs ≡ services_from b xs
services_same a b [] same = refl
services_same a b (x ∷ xs) same =
    let e : index_for a x.value ≡ index_for b x.value = index_same a b x.value same in
    ap₂ (λ v vs. v ∷ vs) (ap (λ i. service_of i x) e) (services_same (index_for a x.value ∷ a) (index_for b x.value ∷ b) xs (λ j. ap₂ (λ s t. s || t) (ap (λ i. i == j) e) (same j)))

turned : (a b : Bool) → (a || b) ≡ (b || (a || false))
turned true true = refl
turned true false = refl
turned false true = refl
turned false false = refl

-- one index more, after the others
pub taken_after : (taken : List ℕ) (i : ℕ) (xs : List (Located ServiceRecord)) → services_from (i ∷ taken) xs ≡ services_from (taken ++ i ∷ []) xs
taken_after taken i xs = services_same (i ∷ taken) (taken ++ i ∷ []) xs (λ j. turned (i == j) (is_taken taken j) ∙ sym (list_any-append (λ t. t == j) taken (i ∷ [])))

-- one service more
pub services_more : (front front_2 want : List Service) (taken taken_2 : List ℕ) (x : Located ServiceRecord) (rest all : List (Located ServiceRecord)) (i : ℕ) (v : Service)
    → all ≡ x ∷ rest → i ≡ index_for taken x.value → v ≡ service_of i x → front_2 ≡ front ++ v ∷ [] → taken_2 ≡ taken ++ i ∷ []
    → front ++ services_from taken all ≡ want → front_2 ++ services_from taken_2 rest ≡ want
services_more front front_2 want taken taken_2 x rest all i v a b c d e so_far =
    ap₂ (λ f t. f ++ services_from t rest) d e
    ∙ append_assoc front (v ∷ []) (services_from (taken ++ i ∷ []) rest)
    ∙ ap (λ vs. front ++ v ∷ vs) (sym (taken_after taken i rest))
    ∙ ap (λ w. front ++ w ∷ services_from (i ∷ taken) rest) c
    ∙ ap (λ j. front ++ service_of j x ∷ services_from (j ∷ taken) rest) b
    ∙ ap (λ xs. front ++ services_from taken xs) (sym a)
    ∙ so_far

-- ---- indices that an earlier service states

abbrev pub same_index : Located ServiceRecord → Located ServiceRecord → Bool
same_index x y = not (y.value.stateless_handle == 0) && (x.value.stateless_handle == y.value.stateless_handle)

pub states_again : (ys : List (Located ServiceRecord)) (x : Located ServiceRecord) (n : ℕ) → n ≡ x.value.stateless_handle → (n ≡ 0 → ⊥) → list_any (λ y. y.value.stateless_handle == n) ys ≡ true → list_any (λ y. same_index y x) ys ≡ true
states_again ys x n e some old =
    let zero : (x.value.stateless_handle == 0) ≡ false = ne_eqb _ _ (λ z. some (e ∙ z)) in
    ap (λ b. list_any (λ (y : Located ServiceRecord). not b && (y.value.stateless_handle == x.value.stateless_handle)) ys) zero
    ∙ ap (λ m. list_any (λ (y : Located ServiceRecord). y.value.stateless_handle == m) ys) (sym e) ∙ old

pub states_none : (ys : List (Located ServiceRecord)) (x : Located ServiceRecord) (n : ℕ) → n ≡ x.value.stateless_handle → n ≡ 0 → list_any (λ y. same_index y x) ys ≡ false
states_none ys x n e none =
    let zero : (x.value.stateless_handle == 0) ≡ true = eq-eqb _ _ (sym e ∙ none) in
    ap (λ b. list_any (λ (y : Located ServiceRecord). not b && (y.value.stateless_handle == x.value.stateless_handle)) ys) zero ∙ list_any-false ys

none_where : (b : Bool) (n : ℕ) (ys : List (Located ServiceRecord)) → list_any (λ y. y.value.stateless_handle == n) ys ≡ false → list_any (λ y. not b && (y.value.stateless_handle == n)) ys ≡ false
none_where true n ys h = list_any-false ys
none_where false n ys h = h

pub states_first : (ys : List (Located ServiceRecord)) (x : Located ServiceRecord) (n : ℕ) → n ≡ x.value.stateless_handle → list_any (λ y. y.value.stateless_handle == n) ys ≡ false → list_any (λ y. same_index y x) ys ≡ false
states_first ys x n e new =
    none_where (x.value.stateless_handle == 0) x.value.stateless_handle ys (ap (λ m. list_any (λ (y : Located ServiceRecord). y.value.stateless_handle == m) ys) (sym e) ∙ new)

-- ---- how many are stateless

abbrev pub stateless_in : List (Located ServiceRecord) → ℕ
stateless_in xs = count_by (λ x. not x.value.connection_based) xs

pub stateless_more : (xs : List (Located ServiceRecord)) (i : ℕ) (x : Located ServiceRecord) (old new : ℕ) (b : Bool) → i < length xs → get_or xs i x ≡ x → b ≡ not x.value.connection_based
    → old ≡ stateless_in (take i xs) → old ≤ i → new ≡ cond b (old + 1) old → (new ≡ stateless_in (take (i + 1) xs)) × (new ≤ i + 1)
stateless_more xs i x old new true below is e so_far few step =
    let more : stateless_in (take (i + 1) xs) ≡ stateless_in (take i xs) + 1 = count_by_more_yes (λ y. not y.value.connection_based) xs i x below (ap (λ (y : Located ServiceRecord). not y.value.connection_based) is ∙ sym e) in
    (step ∙ ap (λ n. n + 1) so_far ∙ sym more, omega (arith, step, few))
stateless_more xs i x old new false below is e so_far few step =
    let more : stateless_in (take (i + 1) xs) ≡ stateless_in (take i xs) = count_by_more_no (λ y. not y.value.connection_based) xs i x below (ap (λ (y : Located ServiceRecord). not y.value.connection_based) is ∙ sym e) in
    (step ∙ so_far ∙ sym more, omega (arith, step, few))
