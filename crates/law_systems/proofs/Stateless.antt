-- The indices of stateless services: at most 32, no two the same, and no connection for what has one.
use Rattle.std.proofs.Common.{ℕ, zero, suc, ◌≡◌, ◌+◌, ◌<◌, ◌≤◌, ◌==◌, Bool, true, false, ◌&&◌, ◌||◌, not, List, [], ◌∷◌, ◌++◌, map, flat_map, length, length-append, Option, Some, None, IfSome, slice_get, if◌then◌else◌, cond, find, ap, refl, sym, ◌∙◌, arith, subst, append_assoc, eq-eqb, eqb-true, le-leb}
use Rattle.std.specs.Prelude.{nat_le}
use Rattle.std.specs.List.{AllByRecursion as Each, list_any, list_all, enumerate_from, range_with_len}
use Rattle.std.specs.Option.{option_map_or}
use Rattle.std.proofs.lemmas.Bool.{or_left, or_right, and_from, not_from_false, false_from_ne_true, false≢true}
use Rattle.law_lists.proofs.Lists.{slice_get-after, map_nil, AllByRecursion-weaker, AllByRecursion-append}
use Rattle.law_lists.proofs.Bools.{if_passes}
use Rattle.ffm_model.specs.declared.system.Service.{Service}
use Rattle.ffm_model.specs.ManifestItems.{ManifestRecord, ServiceRecord, IsManifest, IsService}
use Rattle.ffm_model.specs.PartsItems.{PartsRecord, IsParts}
use Rattle.ffm_model.specs.Layout.{Located, located_from}
use Rattle.ffm_model.specs.Permissions.{services_in, Permitted, permitted_to, depends_on, permitted_to_partition, permitted_to_client, permitted, count_for, budgets_of}
use Rattle.ffm_model.specs.Compiled.{free_index, index_for, service_of, services_from, stated_indices, services_of}
use Rattle.ffm_model.specs.Rules.{duplicate_indices}
use Rattle.ffm_model.specs.WellFormed.{budget_is_fitting, each_pair, stateless_fit}
use Rattle.law_systems.proofs.Lists.{three, each_both, each_map, each_filter_map, all_from, Pairs, pairs_weaker, repeated_nil}
use Rattle.law_systems.proofs.Numbered.{each_numbered}
use Rattle.law_systems.proofs.Located.{item_each}

-- ---- the least free index

abbrev pub is_taken : List ℕ → ℕ → Bool
is_taken taken i = list_any (λ t. t == i) taken

found_by : (p : ℕ → Bool) (P : ℕ → Type 0) (b : Bool) (i : ℕ) (rest : Option ℕ) → p i ≡ b → P i → IfSome rest (λ j. (p j ≡ true) × P j) → IfSome (cond b (Some i) rest) (λ j. (p j ≡ true) × P j)
found_by p P true i rest e h k = (e, h)
found_by p P false i rest e h k = k

-- what is found passes the test, and has what each one has
pub found : (p : ℕ → Bool) (P : ℕ → Type 0) (xs : List ℕ) → Each P xs → IfSome (find p xs) (λ j. (p j ≡ true) × P j)
found p P [] h = tt
found p P (x ∷ xs) h = found_by p P (p x) x (find p xs) refl h.0 (found p P xs h.1)

in_range : (a n : ℕ) → Each (λ i. i < a + n) (range_with_len a n)
in_range a zero = tt
in_range a (suc n) = (omega arith, AllByRecursion-weaker (λ i. i < a + 1 + n) (λ i. i < a + suc n) (λ i l. omega arith) (range_with_len (a + 1) n) (in_range (a + 1) n))

abbrev IsFree : List ℕ → ℕ → Type 0
IsFree taken i = (not (is_taken taken i) ≡ true) × (i < 33)

free_found : (taken : List ℕ) → IfSome (find (λ i. not (is_taken taken i)) (range_with_len 1 32)) (IsFree taken)
free_found taken = found (λ i. not (is_taken taken i)) (λ i. i < 33) (range_with_len 1 32) (in_range 1 32)

low_found : (taken : List ℕ) (o : Option ℕ) → IfSome o (IsFree taken) → option_map_or (λ i. i) o 0 ≤ 32
low_found taken None h = omega arith
low_found taken (Some i) h = let l : i < 33 = h.1 in omega arith

free_low : (taken : List ℕ) → free_index taken ≤ 32
free_low taken = low_found taken (find (λ i. not (is_taken taken i)) (range_with_len 1 32)) (free_found taken)

-- ---- indices that differ, where 0 is none

abbrev differ : ℕ → ℕ → Bool
differ i j = (i == 0) || not (i == j)

apart : (i j : ℕ) → (i ≡ j → ⊥) → differ i j ≡ true
apart i j h = or_right (i == 0) _ (not_from_false _ (false_from_ne_true _ (λ e. h (eqb-true i j e))))

either : (b : Bool) → (b || not b) ≡ true
either true = refl
either false = refl

none_differs : (i : ℕ) → differ i 0 ≡ true
none_differs i = either (i == 0)

not_taken : (taken : List ℕ) (i : ℕ) → not (is_taken taken i) ≡ true → is_taken taken i ≡ true → ⊥
not_taken taken i free taken_too = false≢true (sym (ap not taken_too) ∙ free)

-- what is found free differs from what is taken
found_differs : (taken : List ℕ) (h : ℕ) (o : Option ℕ) → IfSome o (IsFree taken) → is_taken taken h ≡ true → (differ (option_map_or (λ i. i) o 0) h ≡ true) × (differ h (option_map_or (λ i. i) o 0) ≡ true)
found_differs taken h None f t = (refl, none_differs h)
found_differs taken h (Some i) f t = (
  apart i h (λ e. not_taken taken i f.0 (ap (is_taken taken) e ∙ t)),
  apart h i (λ e. not_taken taken i f.0 (ap (is_taken taken) (sym e) ∙ t)),
)

free_differs : (taken : List ℕ) (h : ℕ) → is_taken taken h ≡ true → (differ (free_index taken) h ≡ true) × (differ h (free_index taken) ≡ true)
free_differs taken h t = found_differs taken h (find (λ i. not (is_taken taken i)) (range_with_len 1 32)) (free_found taken) t

-- ---- the index of a service

index_by : (P : ℕ → Type 0) (connected auto : Bool) (free stated : ℕ) → P 0 → P free → P stated → P (if connected then 0 else (if auto then free else stated))
index_by P true auto free stated a b c = a
index_by P false true free stated a b c = b
index_by P false false free stated a b c = c

index_low : (taken : List ℕ) (v : ServiceRecord) → v.stateless_handle ≤ 32 → nat_le (index_for taken v) 32 ≡ true
index_low taken v l = index_by (λ i. nat_le i 32 ≡ true) v.connection_based (v.stateless_handle == 0) (free_index taken) v.stateless_handle refl (le-leb _ _ (free_low taken)) (le-leb _ _ l)

-- it differs from an index that is taken, unless it is stated
later_differs : (i : ℕ) (taken : List ℕ) (v : ServiceRecord) → is_taken taken i ≡ true → differ i v.stateless_handle ≡ true → differ i (index_for taken v) ≡ true
later_differs i taken v t h = index_by (λ j. differ i j ≡ true) v.connection_based (v.stateless_handle == 0) (free_index taken) v.stateless_handle (none_differs i) (free_differs taken i t).1 h

-- all stated ones are taken
stated_differs : (taken : List ℕ) (v : ServiceRecord) (h : ℕ) → is_taken taken h ≡ true → differ v.stateless_handle h ≡ true → differ (index_for taken v) h ≡ true
stated_differs taken v h t d = index_by (λ i. differ i h ≡ true) v.connection_based (v.stateless_handle == 0) (free_index taken) v.stateless_handle refl (free_differs taken h t).0 d

-- ---- all services

abbrev stated : Located ServiceRecord → ℕ
stated x = x.value.stateless_handle

all_low : (taken : List ℕ) (xs : List (Located ServiceRecord)) → Each (λ x. x.value.stateless_handle ≤ 32) xs → list_all (λ v. nat_le v.stateless 32) (services_from taken xs) ≡ true
all_low taken [] h = refl
all_low taken (x ∷ xs) h = and_from _ _ (index_low taken x.value h.0) (all_low (index_for taken x.value ∷ taken) xs h.1)

others_differ : (i : ℕ) (taken : List ℕ) (xs : List (Located ServiceRecord)) → is_taken taken i ≡ true → Each (λ y. differ i (stated y) ≡ true) xs → list_all (λ w. (i == 0) || not (i == w.stateless)) (services_from taken xs) ≡ true
others_differ i taken [] t h = refl
others_differ i taken (x ∷ xs) t h =
    and_from _ _ (later_differs i taken x.value t h.0) (others_differ i (index_for taken x.value ∷ taken) xs (or_right (index_for taken x.value == i) _ t) h.1)

all_differ : (taken : List ℕ) (xs : List (Located ServiceRecord)) → Each (λ y. is_taken taken (stated y) ≡ true) xs → Pairs (λ x y. differ (stated x) (stated y) ≡ true) xs
    → each_pair (λ v w. (v.stateless == 0) || not (v.stateless == w.stateless)) (services_from taken xs) ≡ true
all_differ taken [] t h = refl
all_differ taken (x ∷ xs) t h =
    let i : ℕ = index_for taken x.value in
    and_from _ _
    (others_differ i (i ∷ taken) xs (or_left _ _ (eq-eqb i i refl))
    (AllByRecursion-weaker (λ y. (is_taken taken (stated y) ≡ true) × (differ (stated x) (stated y) ≡ true)) (λ y. differ i (stated y) ≡ true) (λ y b. stated_differs taken x.value (stated y) b.0 b.1) xs
    (each_both (λ y. is_taken taken (stated y) ≡ true) (λ y. differ (stated x) (stated y) ≡ true) xs t.1 h.0)))
    (all_differ (i ∷ taken) xs (AllByRecursion-weaker (λ y. is_taken taken (stated y) ≡ true) (λ y. is_taken (i ∷ taken) (stated y) ≡ true) (λ y b. or_right (i == stated y) _ b) xs t.1) h.1)

pub all_taken : (xs : List (Located ServiceRecord)) → Each (λ y. is_taken (map (λ x. x.value.stateless_handle) xs) (stated y) ≡ true) xs
all_taken [] = tt
all_taken (x ∷ xs) = (
  or_left _ _ (eq-eqb (stated x) (stated x) refl),
  AllByRecursion-weaker (λ y. is_taken (map (λ x. x.value.stateless_handle) xs) (stated y) ≡ true) (λ y. is_taken (map (λ x. x.value.stateless_handle) (x ∷ xs)) (stated y) ≡ true) (λ y b. or_right (stated x == stated y) _ b) xs (all_taken xs),
)

-- no index is stated twice
not_twice : (i j : ℕ) → (not (j == 0) && (i == j)) ≡ false → differ i j ≡ true
not_twice i j e = grind arith

stated_apart : (p : PartsRecord) → duplicate_indices p ≡ [] → Pairs (λ x y. differ (stated x) (stated y) ≡ true) (services_in p)
stated_apart p rule =
    let same : Located ServiceRecord → Located ServiceRecord → Bool = λ x y. not (y.value.stateless_handle == 0) && (x.value.stateless_handle == y.value.stateless_handle) in
    pairs_weaker (λ x y. same x y ≡ false) (λ x y. differ (stated x) (stated y) ≡ true) (λ x y e. not_twice (stated x) (stated y) e) (services_in p) (repeated_nil same (services_in p) (map_nil _ _ rule))

pub items_right : (ms : List ManifestRecord) → Each IsManifest ms → Each (λ x. IsService x.value) (located_from (λ m. m.services) 0 ms)
items_right ms h =
    item_each (λ j v. IsService v) (λ m. m.services) 0 ms
    (each_numbered (λ m. Each IsService m.services) 0 ms (AllByRecursion-weaker IsManifest (λ m. Each IsService m.services) (λ m r. r.services) ms h))

-- ---- budgets

-- a service that clients connect to has no index
abbrev Connected : List Service → ℕ × Located ServiceRecord → Type 0
Connected services e = e.1.value.connection_based ≡ true → option_map_or (λ v. v.stateless == 0) (slice_get services e.0) true ≡ true

no_index : (taken : List ℕ) (x : Located ServiceRecord) (o : Option Service) → o ≡ Some (service_of (index_for taken x.value) x) → x.value.connection_based ≡ true → option_map_or (λ v. v.stateless == 0) o true ≡ true
no_index taken x o e h = rw (e, h) refl

connected_from : (taken : List ℕ) (k : ℕ) (xs : List (Located ServiceRecord)) (front : List Service) → length front ≡ k → Each (Connected (front ++ services_from taken xs)) (enumerate_from k xs)
connected_from taken k [] front e = tt
connected_from taken k (x ∷ xs) front e =
    let i : ℕ = index_for taken x.value in
    let v : Service = service_of i x in (
      λ h. no_index taken x _ (slice_get-after front v (services_from (i ∷ taken) xs) k e) h,
      subst (λ vs. Each (Connected vs) (enumerate_from (k + 1) xs)) (append_assoc front (v ∷ []) (services_from (i ∷ taken) xs))
          (connected_from (i ∷ taken) (k + 1) xs (front ++ v ∷ []) (let l = length-append front (v ∷ []) in omega arith)),
    )

abbrev Fitting : List Service → Permitted → Type 0
Fitting services pair = pair.connects ≡ true → option_map_or (λ v. v.stateless == 0) (slice_get services pair.service) true ≡ true

fitting_to : (services : List Service) (client : ℕ) (name : List ℕ) (may_use : ServiceRecord → Bool) (xs : List (Located ServiceRecord)) → Each (Connected services) (enumerate_from 0 xs)
    → Each (Fitting services) (permitted_to client name may_use xs)
fitting_to services client name may_use xs h =
    each_filter_map (Fitting services) (λ e. if may_use e.1.value then Some (record { client = client; client_name = name; service = e.0; service_name = e.1.value.name; connects = e.1.value.connection_based }) else None) (enumerate_from 0 xs)
    (AllByRecursion-weaker (Connected services) (λ e. IfSome (if may_use e.1.value then Some (record { client = client; client_name = name; service = e.0; service_name = e.1.value.name; connects = e.1.value.connection_based }) else None) (Fitting services))
    (λ e c. if_passes (Fitting services) (may_use e.1.value) (record { client = client; client_name = name; service = e.0; service_name = e.1.value.name; connects = e.1.value.connection_based }) (λ used. c)) (enumerate_from 0 xs) h)

each_flat : {A B : Type 0} (P : B → Type 0) (f : A → List B) → ((x : A) → Each P (f x)) → (xs : List A) → Each P (flat_map f xs)
each_flat P f h [] = tt
each_flat P f h (x ∷ xs) = AllByRecursion-append P (f x) (flat_map f xs) (h x) (each_flat P f h xs)

all_fitting : (p : PartsRecord) → Each (Fitting (services_of p)) (permitted p)
all_fitting p =
    let connected : Each (Connected (services_of p)) (enumerate_from 0 (services_in p)) = connected_from (stated_indices p) 0 (services_in p) [] refl in
    AllByRecursion-append (Fitting (services_of p)) (flat_map (permitted_to_partition (services_in p)) (enumerate_from 0 p.manifests)) (flat_map (permitted_to_client (services_in p)) (enumerate_from (length p.manifests) p.clients))
    (each_flat (Fitting (services_of p)) (permitted_to_partition (services_in p)) (λ e. fitting_to (services_of p) e.0 e.1.name (depends_on e.1) (services_in p) connected) (enumerate_from 0 p.manifests))
    (each_flat (Fitting (services_of p)) (permitted_to_client (services_in p)) (λ e. fitting_to (services_of p) e.0 e.1 (λ v. v.nonsecure) (services_in p) connected) (enumerate_from (length p.manifests) p.clients))

-- none is declared where the service has an index
count_by_kind : (o : Option Service) (connects : Bool) (n : ℕ) → (connects ≡ true → option_map_or (λ v. v.stateless == 0) o true ≡ true)
    → option_map_or (λ v. (v.stateless == 0) || ((if connects then n else 0) == 0)) o true ≡ true
count_by_kind None connects n h = refl
count_by_kind (Some v) true n h = or_left (v.stateless == 0) _ (h refl)
count_by_kind (Some v) false n h = or_right (v.stateless == 0) _ refl

budgets_fitting : (p : PartsRecord) → list_all (budget_is_fitting (services_of p)) (budgets_of p) ≡ true
budgets_fitting p =
    all_from (λ b. budget_is_fitting (services_of p) b ≡ true) (budget_is_fitting (services_of p)) (λ b h. h) (budgets_of p)
    (each_map (λ b. budget_is_fitting (services_of p) b ≡ true) (λ pair. record { client = record { 0 = pair.client }; service = pair.service; count = count_for p.connections pair }) (permitted p)
    (AllByRecursion-weaker (Fitting (services_of p)) (λ pair. budget_is_fitting (services_of p) (record { client = record { 0 = pair.client }; service = pair.service; count = count_for p.connections pair }) ≡ true)
    (λ pair h. count_by_kind (slice_get (services_of p) pair.service) pair.connects _ h) (permitted p) (all_fitting p)))

pub stateless_do_fit : (p : PartsRecord) → IsParts p → duplicate_indices p ≡ [] → stateless_fit (services_of p) (budgets_of p) ≡ true
stateless_do_fit p parts rule =
    three _ _ _
    (all_low (stated_indices p) (services_in p) (AllByRecursion-weaker (λ x. IsService x.value) (λ x. x.value.stateless_handle ≤ 32) (λ x s. s.index) (services_in p) (items_right p.manifests parts.manifests)))
    (all_differ (stated_indices p) (services_in p) (all_taken (services_in p)) (stated_apart p rule))
    (budgets_fitting p)
