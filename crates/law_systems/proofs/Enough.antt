-- There are indices enough: where at most 32 services are stateless, each of them has one.
use Rattle.std.proofs.Common.{ℕ, zero, suc, ◌≡◌, ◌+◌, ◌<◌, ◌≤◌, ◌==◌, Bool, true, false, ◌&&◌, ◌||◌, not, List, [], ◌∷◌, map, Option, Some, None, IfSome, cond, find, count_by, ap, ap₂, refl, sym, ◌∙◌, if◌then◌else◌, arith, eq-eqb, eqb-true, ne_eqb, ltb-false}
use Rattle.std.specs.List.{AllByRecursion as Each, range_with_len}
use Rattle.std.specs.Option.{option_map_or}
use Rattle.std.proofs.lemmas.Bool.{or_right}
use Rattle.law_lists.proofs.Counts.{bit, count-cons}
use Rattle.law_lists.proofs.Lists.{AllByRecursion-weaker}
use Rattle.ffm_model.specs.ManifestItems.{ServiceRecord}
use Rattle.ffm_model.specs.PartsItems.{PartsRecord}
use Rattle.ffm_model.specs.Layout.{Located}
use Rattle.ffm_model.specs.Permissions.{services_in}
use Rattle.ffm_model.specs.Compiled.{free_index, index_for, services_from, stated_indices, services_of}
use Rattle.ffm_model.specs.Rules.{too_many_stateless}
use Rattle.law_systems.proofs.Stateless.{is_taken, found, all_taken}
use Rattle.ffm_model.proofs.RuleLemmas.{only_if_nil}

-- ---- how many indices are free

abbrev frees : List ℕ → List ℕ → ℕ
frees taken js = count_by (λ j. not (is_taken taken j)) js

abbrev free_count : List ℕ → ℕ
free_count taken = frees taken (range_with_len 1 32)

one_lost : (same taken : Bool) → bit (not taken) ≤ bit (not (same || taken)) + bit same
one_lost true true = omega arith
one_lost true false = omega arith
one_lost false true = omega arith
one_lost false false = omega arith

-- one more that is taken costs those that are the same
lost : (i : ℕ) (taken js : List ℕ) → frees taken js ≤ frees (i ∷ taken) js + count_by (λ j. i == j) js
lost i taken [] = omega arith
lost i taken (j ∷ js) =
    let here : bit (not (is_taken taken j)) ≤ bit (not ((i == j) || is_taken taken j)) + bit (i == j) = one_lost (i == j) (is_taken taken j) in
    let rest : frees taken js ≤ frees (i ∷ taken) js + count_by (λ j. i == j) js = lost i taken js in
    omega (arith, here, rest, count-cons (λ k. not (is_taken taken k)) j js, count-cons (λ k. not (is_taken (i ∷ taken) k)) j js, count-cons (λ k. i == k) j js)

none_before : (i a n : ℕ) → i < a → count_by (λ j. i == j) (range_with_len a n) ≡ 0
none_before i a zero below = refl
none_before i a (suc n) below =
    let here : bit (i == a) ≡ 0 = ap bit (ne_eqb i a (λ e. omega arith)) in
    let rest : count_by (λ j. i == j) (range_with_len (a + 1) n) ≡ 0 = none_before i (a + 1) n (omega arith) in
    omega (arith, here, rest, count-cons (λ j. i == j) a (range_with_len (a + 1) n))

once_by : (i a n : ℕ) (b : Bool) → (i == a) ≡ b → count_by (λ j. i == j) (range_with_len (a + 1) n) ≤ 1 → bit (i == a) + count_by (λ j. i == j) (range_with_len (a + 1) n) ≤ 1
once_by i a n true e rest =
    let same : i ≡ a = eqb-true i a e in
    let here : bit (i == a) ≡ 1 = ap bit e in
    let none : count_by (λ j. i == j) (range_with_len (a + 1) n) ≡ 0 = none_before i (a + 1) n (omega (arith, same)) in
    omega (arith, here, none)
once_by i a n false e rest = let here : bit (i == a) ≡ 0 = ap bit e in omega (arith, here, rest)

once : (i a n : ℕ) → count_by (λ j. i == j) (range_with_len a n) ≤ 1
once i a zero = omega arith
once i a (suc n) = omega (arith, once_by i a n (i == a) refl (once i (a + 1) n), count-cons (λ j. i == j) a (range_with_len (a + 1) n))

-- an index more costs one at most, and 0 or one that is taken already costs none
one_less : (i : ℕ) (taken : List ℕ) → free_count taken ≤ free_count (i ∷ taken) + 1
one_less i taken =
    let l : free_count taken ≤ free_count (i ∷ taken) + count_by (λ j. i == j) (range_with_len 1 32) = lost i taken (range_with_len 1 32) in
    let m : count_by (λ j. i == j) (range_with_len 1 32) ≤ 1 = once i 1 32 in
    omega (arith, l, m)

none_less : (taken : List ℕ) → free_count taken ≤ free_count (0 ∷ taken)
none_less taken =
    let l : free_count taken ≤ free_count (0 ∷ taken) + count_by (λ j. 0 == j) (range_with_len 1 32) = lost 0 taken (range_with_len 1 32) in
    let m : count_by (λ j. 0 == j) (range_with_len 1 32) ≡ 0 = none_before 0 1 32 (omega arith) in
    omega (arith, l, m)

same_taken : (i : ℕ) (taken : List ℕ) (j : ℕ) → is_taken taken i ≡ true → is_taken (i ∷ taken) j ≡ is_taken taken j
same_taken i taken j t = by (i == j) refl where
  by : (b : Bool) → (i == j) ≡ b → ((i == j) || is_taken taken j) ≡ is_taken taken j
  by true e = let here : is_taken taken j ≡ true = ap (is_taken taken) (sym (eqb-true i j e)) ∙ t in or_right (i == j) _ here ∙ sym here
  by false e = ap (λ b. b || is_taken taken j) e

taken_already : (i : ℕ) (taken : List ℕ) → is_taken taken i ≡ true → free_count (i ∷ taken) ≡ free_count taken
taken_already i taken t = ap (λ (p : ℕ → Bool). count_by p (range_with_len 1 32)) (λ k j. not (same_taken i taken j t k))

-- ---- a free one is found

none_by : (p : ℕ → Bool) (j : ℕ) (rest : Option ℕ) (b : Bool) → p j ≡ b → cond (p j) (Some j) rest ≡ None → (p j ≡ false) × (rest ≡ None)
none_by p j rest true h e = let some : Some j ≡ None = ap (λ b. cond b (Some j) rest) (sym h) ∙ e in absurd cc
none_by p j rest false h e = (h, ap (λ b. cond b (Some j) rest) (sym h) ∙ e)

none_free : (p : ℕ → Bool) (js : List ℕ) → find p js ≡ None → count_by p js ≡ 0
none_free p [] e = refl
none_free p (j ∷ js) e =
    let parts : (p j ≡ false) × (find p js ≡ None) = none_by p j (find p js) (p j) refl e in
    let here : bit (p j) ≡ 0 = ap bit parts.0 in
    omega (arith, here, none_free p js parts.1, count-cons p j js)

from_one : (a n : ℕ) → 0 < a → Each (λ i. 0 < i) (range_with_len a n)
from_one a zero h = tt
from_one a (suc n) h = (h, from_one (a + 1) n (omega arith))

some_by : (o : Option ℕ) → IfSome o (λ i. 0 < i) → (o ≡ None → ⊥) → 0 < option_map_or (λ i. i) o 0
some_by None h k = absurd (k refl)
some_by (Some i) h k = h

weaker_some : (o : Option ℕ) (p : ℕ → Bool) → IfSome o (λ i. (p i ≡ true) × (0 < i)) → IfSome o (λ i. 0 < i)
weaker_some None p h = tt
weaker_some (Some i) p h = h.1

some_free : (taken : List ℕ) → 0 < free_count taken → 0 < free_index taken
some_free taken h =
    let p : ℕ → Bool = λ i. not (is_taken taken i) in
    some_by (find p (range_with_len 1 32)) (weaker_some _ p (found p (λ i. 0 < i) (range_with_len 1 32) (from_one 1 32 (omega arith))))
    (λ e. let none : free_count taken ≡ 0 = none_free p (range_with_len 1 32) e in omega (arith, none, h))

-- ---- services

abbrev is_auto : Located ServiceRecord → Bool
is_auto x = not x.value.connection_based && (x.value.stateless_handle == 0)

abbrev states_one : Located ServiceRecord → Bool
states_one x = not (x.value.stateless_handle == 0)

-- one that clients connect to states no index
abbrev NoneStated : Located ServiceRecord → Type 0
NoneStated x = x.value.connection_based ≡ true → x.value.stateless_handle ≡ 0

kinds_of_one : (connected zero_stated : Bool) → (connected ≡ true → zero_stated ≡ true) → bit (not connected && zero_stated) + bit (not zero_stated) ≡ bit (not connected)
kinds_of_one true true h = refl
kinds_of_one true false h = absurd (let e : false ≡ true = h refl in cc)
kinds_of_one false true h = refl
kinds_of_one false false h = refl

kinds : (xs : List (Located ServiceRecord)) → Each NoneStated xs → count_by is_auto xs + count_by states_one xs ≡ count_by (λ x. not x.value.connection_based) xs
kinds [] h = refl
kinds (x ∷ xs) h =
    let here : bit (is_auto x) + bit (states_one x) ≡ bit (not x.value.connection_based) = kinds_of_one x.value.connection_based (x.value.stateless_handle == 0) (λ c. eq-eqb _ _ (h.0 c)) in
    let rest : count_by is_auto xs + count_by states_one xs ≡ count_by (λ x. not x.value.connection_based) xs = kinds xs h.1 in
    omega (arith, here, rest, count-cons is_auto x xs, count-cons states_one x xs, count-cons (λ (x : Located ServiceRecord). not x.value.connection_based) x xs)

-- each index that is stated costs one at most
cost_by : (taken : List ℕ) (stated others : ℕ) (b : Bool) → (stated == 0) ≡ b → 32 ≤ free_count taken + others → 32 ≤ free_count (stated ∷ taken) + (bit (not (stated == 0)) + others)
cost_by taken stated others true e rest =
    let none : stated ≡ 0 = eqb-true stated 0 e in
    let kept : free_count taken ≤ free_count (0 ∷ taken) = none_less taken in
    rw none (omega (arith, rest, kept))
cost_by taken stated others false e rest =
    let here : bit (not (stated == 0)) ≡ 1 = ap (λ b. bit (not b)) e in
    let kept : free_count taken ≤ free_count (stated ∷ taken) + 1 = one_less stated taken in
    omega (arith, here, rest, kept)

stated_cost : (xs : List (Located ServiceRecord)) → 32 ≤ free_count (map (λ x. x.value.stateless_handle) xs) + count_by states_one xs
stated_cost [] = omega arith
stated_cost (x ∷ xs) =
    let all : 32 ≤ free_count (map (λ x. x.value.stateless_handle) (x ∷ xs)) + (bit (states_one x) + count_by states_one xs) =
    cost_by (map (λ x. x.value.stateless_handle) xs) x.value.stateless_handle (count_by states_one xs) (x.value.stateless_handle == 0) refl (stated_cost xs) in
    omega (arith, all, count-cons states_one x xs)

-- ---- each takes its own

abbrev chosen : List ℕ → Bool → Bool → ℕ → ℕ
chosen taken connected auto stated = if connected then 0 else (if auto then free_index taken else stated)

one_service : (taken : List ℕ) (connected auto : Bool) (stated more : ℕ) → (stated == 0) ≡ auto → is_taken taken stated ≡ true → bit (not connected && auto) + more ≤ free_count taken
    → ((chosen taken connected auto stated == 0) ≡ connected) × (more ≤ free_count (chosen taken connected auto stated ∷ taken))
one_service taken true auto stated more e t room = (refl, let l : free_count taken ≤ free_count (0 ∷ taken) = none_less taken in omega (arith, room, l))
one_service taken false true stated more e t room =
    let some : 0 < free_index taken = some_free taken (omega (arith, room)) in
    let l : free_count taken ≤ free_count (free_index taken ∷ taken) + 1 = one_less (free_index taken) taken in
    (ne_eqb _ _ (λ (z : free_index taken ≡ 0). omega (arith, some, z)), omega (arith, room, l))
one_service taken false false stated more e t room = (e, let l : free_count (stated ∷ taken) ≡ free_count taken = taken_already stated taken t in omega (arith, room, l))

all_services : (taken : List ℕ) (xs : List (Located ServiceRecord)) → Each (λ y. is_taken taken y.value.stateless_handle ≡ true) xs → count_by is_auto xs ≤ free_count taken
    → map (λ v. v.stateless == 0) (services_from taken xs) ≡ map (λ x. x.value.connection_based) xs
all_services taken [] t room = refl
all_services taken (x ∷ xs) t room =
    let i : ℕ = index_for taken x.value in
    let here : ((i == 0) ≡ x.value.connection_based) × (count_by is_auto xs ≤ free_count (i ∷ taken)) =
    one_service taken x.value.connection_based (x.value.stateless_handle == 0) x.value.stateless_handle (count_by is_auto xs) refl t.0 (rw (← count-cons is_auto x xs) room) in
    ap₂ (λ b bs. b ∷ bs) here.0
    (all_services (i ∷ taken) xs (AllByRecursion-weaker (λ y. is_taken taken y.value.stateless_handle ≡ true) (λ y. is_taken (i ∷ taken) y.value.stateless_handle ≡ true) (λ y b. or_right (i == y.value.stateless_handle) _ b) xs t.1) here.1)

pub all_have_indices : (p : PartsRecord) → Each (λ x. x.value.connection_based ≡ true → x.value.stateless_handle ≡ 0) (services_in p) → too_many_stateless p ≡ []
    → map (λ v. v.stateless == 0) (services_of p) ≡ map (λ x. x.value.connection_based) (services_in p)
all_have_indices p none rule =
    let few : count_by (λ x. not x.value.connection_based) (services_in p) ≤ 32 = ltb-false _ _ (only_if_nil _ _ rule) in
    let both : count_by is_auto (services_in p) + count_by states_one (services_in p) ≡ count_by (λ x. not x.value.connection_based) (services_in p) = kinds (services_in p) none in
    let cost : 32 ≤ free_count (stated_indices p) + count_by states_one (services_in p) = stated_cost (services_in p) in
    all_services (stated_indices p) (services_in p) (all_taken (services_in p)) (omega (arith, few, both, cost))
