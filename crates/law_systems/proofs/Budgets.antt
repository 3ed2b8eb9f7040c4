-- The budgets: each is for a service of another partition, and they come in order.
use Rattle.std.proofs.Common.{ℕ, ◌≡◌, ◌+◌, ◌<◌, ◌≤◌, ◌⊎◌, inl, inr, ⊎_elim, Bool, true, false, not, ◌&&◌, ◌||◌, ◌==◌, List, [], ◌∷◌, ◌++◌, map, flat_map, length, Option, Some, None, IfSome, slice_get, if◌then◌else◌, bytes_eq, refl, ap, sym, ◌∙◌, arith, append_assoc, subst, nat_lt, lt-ltb, le-leb, ltb-false, eq-eqb, ne_eqb, length-append}
use Rattle.std.specs.List.{AllByRecursion as Each, enumerate_from, list_any}
use Rattle.std.specs.Option.{option_map, option_map_or}
use Rattle.std.proofs.lemmas.Option.{slice_get-map}
use Rattle.std.proofs.lemmas.Bool.{not_from_false, and_from, or_left, or_right, or_cases, false≢true}
use Rattle.law_lists.proofs.Lists.{slice_get-after, map_nil, AllByRecursion-weaker, AllByRecursion-append}
use Rattle.law_lists.proofs.Bools.{if_passes}
use Rattle.ffm_model.specs.declared.system.Budget.{Budget}
use Rattle.ffm_model.specs.declared.system.Service.{Service}
use Rattle.ffm_model.specs.ManifestItems.{ManifestRecord, ServiceRecord}
use Rattle.ffm_model.specs.PartsItems.{PartsRecord}
use Rattle.ffm_model.specs.WellFormed.{budget_before, budgets_fit}
use Rattle.ffm_model.specs.Layout.{Located}
use Rattle.ffm_model.specs.Permissions.{services_in, Permitted, permitted_to, depends_on, permitted_to_partition, permitted_to_client, permitted, count_for, budgets_of}
use Rattle.ffm_model.specs.Compiled.{services_of}
use Rattle.ffm_model.specs.Rules.{has_service, self_dependencies, too_many_connections}
use Rattle.law_systems.proofs.Lists.{three, filter_nil, none_any, each_both, each_map, each_filter_map, all_from, Pairs, pairs_test, pairs_weaker, pairs_map, pairs_append, pairs_filter_map, across_from, across_turned}
use Rattle.law_systems.proofs.Numbered.{Among, each_numbered, numbers_of, numbers_rise, flat_each, flat_pairs}
use Rattle.law_systems.proofs.Located.{each_item, items_below}
use Rattle.law_systems.proofs.Services.{bare, service_at, services_are}
use Rattle.ffm_model.proofs.RuleLemmas.{only_if_nil}

-- ---- the services that an actor may use

-- the place of each item of a list, after those in front
numbered_get : {A B : Type 0} (f : A → B) (k : ℕ) (xs : List A) (front : List B) → length front ≡ k → Each (λ e. slice_get (front ++ map f xs) e.0 ≡ Some (f e.1)) (enumerate_from k xs)
numbered_get f k [] front e = tt
numbered_get f k (x ∷ xs) front e = (
  slice_get-after front (f x) (map f xs) k e,
  subst (λ ys. Each (λ e. slice_get ys e.0 ≡ Some (f e.1)) (enumerate_from (k + 1) xs)) (append_assoc front (f x ∷ []) (map f xs))
      (numbered_get f (k + 1) xs (front ++ f x ∷ []) (let l = length-append front (f x ∷ []) in omega arith)),
)

-- an actor's, for a service of another actor
pub record Allowed (services : List Service) (client : ℕ) (pair : Permitted) : Type 0 where
  pub actor : pair.client ≡ client
  pub other : option_map_or (λ v. not (v.owner == client)) (slice_get services pair.service) false ≡ true

-- the services without their indices
abbrev services_without_index : PartsRecord → List Service
services_without_index p = map service_at (services_in p)

others : (client : ℕ) (found : Option Service) (v : Service) → found ≡ Some v → (v.owner ≡ client → ⊥) → option_map_or (λ w. not (w.owner == client)) found false ≡ true
others client found v e h = rw e (not_from_false _ (ne_eqb _ _ h))

abbrev pub permit : ℕ → List ℕ → ℕ × Located ServiceRecord → Permitted
permit client name e = record { client = client; client_name = name; service = e.0; service_name = e.1.value.name; connects = e.1.value.connection_based }

abbrev pub permit_if : ℕ → List ℕ → (ServiceRecord → Bool) → ℕ × Located ServiceRecord → Option Permitted
permit_if client name may_use e = if may_use e.1.value then Some (permit client name e) else None

permitted_allowed : (p : PartsRecord) (client : ℕ) (name : List ℕ) (may_use : ServiceRecord → Bool)
    → Each (λ x. may_use x.value ≡ true → x.manifest ≡ client → ⊥) (services_in p) → Each (Allowed (services_without_index p) client) (permitted_to client name may_use (services_in p))
permitted_allowed p client name may_use h =
    each_filter_map (Allowed (services_without_index p) client) (permit_if client name may_use) (enumerate_from 0 (services_in p))
    (AllByRecursion-weaker (λ e. (slice_get (services_without_index p) e.0 ≡ Some (service_at e.1)) × (may_use e.1.value ≡ true → e.1.manifest ≡ client → ⊥))
    (λ e. IfSome (permit_if client name may_use e) (Allowed (services_without_index p) client))
    (λ e b. if_passes (Allowed (services_without_index p) client) (may_use e.1.value) (permit client name e)
    (λ used. record { actor = refl; other = others client (slice_get (services_without_index p) e.0) (service_at e.1) b.0 (b.1 used) }))
    (enumerate_from 0 (services_in p))
    (each_both (λ e. slice_get (services_without_index p) e.0 ≡ Some (service_at e.1)) (λ e. may_use e.1.value ≡ true → e.1.manifest ≡ client → ⊥) (enumerate_from 0 (services_in p))
    (numbered_get service_at 0 (services_in p) [] refl)
    (each_numbered (λ x. may_use x.value ≡ true → x.manifest ≡ client → ⊥) 0 (services_in p) h)))

abbrev ComesBefore : Permitted → Permitted → Type 0
ComesBefore a b = (a.client < b.client) ⊎ ((a.client ≡ b.client) × (a.service < b.service))

permitted_in_order : (client : ℕ) (name : List ℕ) (may_use : ServiceRecord → Bool) (services : List (Located ServiceRecord)) → Pairs ComesBefore (permitted_to client name may_use services)
permitted_in_order client name may_use services =
    pairs_filter_map ComesBefore (permit_if client name may_use) (enumerate_from 0 services)
    (pairs_weaker (λ e f. e.0 < f.0)
    (λ e f. IfSome (permit_if client name may_use e)
    (λ b. IfSome (permit_if client name may_use f) (ComesBefore b)))
    (λ e f l. if_passes (λ b. IfSome (permit_if client name may_use f) (ComesBefore b)) (may_use e.1.value)
    (permit client name e)
    (λ used. if_passes (ComesBefore (permit client name e)) (may_use f.1.value)
    (permit client name f) (λ used_too. inr (refl, l))))
    (enumerate_from 0 services) (numbers_rise 0 services))

-- ---- partitions, and then clients

no_dependency : (name : List ℕ) (j k : ℕ) (dependencies : List (List ℕ)) → Each (λ d. ((j == k) && bytes_eq name d) ≡ false) dependencies → list_any (bytes_eq name) dependencies ≡ true → j ≡ k → ⊥
no_dependency name j k [] h used same = false≢true used
no_dependency name j k (d ∷ ds) h used same =
    ⊎_elim (λ (s : bytes_eq name d ≡ true). false≢true (sym h.0 ∙ and_from _ _ (eq-eqb j k same) s))
    (λ (s : list_any (bytes_eq name) ds ≡ true). no_dependency name j k ds h.1 s same) (or_cases _ _ used)

abbrev NoneOwn : PartsRecord → ℕ × ManifestRecord → Type 0
NoneOwn p e = Each (λ d. has_service p e.0 d ≡ false) e.1.dependencies

not_own : (p : PartsRecord) (e : ℕ × ManifestRecord) → NoneOwn p e → Each (λ x. depends_on e.1 x.value ≡ true → x.manifest ≡ e.0 → ⊥) (services_in p)
not_own p e h =
    AllByRecursion-weaker (λ x. Each (λ d. ((x.manifest == e.0) && bytes_eq x.value.name d) ≡ false) e.1.dependencies) (λ x. depends_on e.1 x.value ≡ true → x.manifest ≡ e.0 → ⊥)
    (λ x. no_dependency x.value.name x.manifest e.0 e.1.dependencies) (services_in p)
    (across_turned (λ d x. ((x.manifest == e.0) && bytes_eq x.value.name d) ≡ false) e.1.dependencies (services_in p)
    (AllByRecursion-weaker (λ d. has_service p e.0 d ≡ false) (λ d. Each (λ x. ((x.manifest == e.0) && bytes_eq x.value.name d) ≡ false) (services_in p))
    (λ d. none_any (λ x. (x.manifest == e.0) && bytes_eq x.value.name d) (services_in p)) e.1.dependencies h))

none_own : (p : PartsRecord) → self_dependencies p ≡ [] → Each (NoneOwn p) (enumerate_from 0 p.manifests)
none_own p rule = each_item (λ k d. has_service p k d ≡ false) (λ m. m.dependencies) 0 p.manifests (filter_nil _ _ (map_nil _ _ rule))

of_partition : (p : PartsRecord) (e : ℕ × ManifestRecord) → NoneOwn p e → Each (Allowed (services_without_index p) e.0) (permitted_to_partition (services_in p) e)
of_partition p e h = permitted_allowed p e.0 e.1.name (depends_on e.1) (not_own p e h)

of_client : (p : PartsRecord) (e : ℕ × List ℕ) → length p.manifests ≤ e.0 → Each (Allowed (services_without_index p) e.0) (permitted_to_client (services_in p) e)
of_client p e from =
    permitted_allowed p e.0 e.1 (λ v. v.nonsecure)
    (AllByRecursion-weaker (λ x. x.manifest < 0 + length p.manifests) (λ x. x.value.nonsecure ≡ true → x.manifest ≡ e.0 → ⊥) (λ x below used same. omega arith) (services_in p) (items_below (λ m. m.services) 0 p.manifests))

clients_after : (p : PartsRecord) → Each (λ e. length p.manifests ≤ e.0) (enumerate_from (length p.manifests) p.clients)
clients_after p =
    AllByRecursion-weaker (λ e. (length p.manifests ≤ e.0) × (e.0 < length p.manifests + length p.clients)) (λ e. length p.manifests ≤ e.0) (λ e h. h.0)
    (enumerate_from (length p.manifests) p.clients) (numbers_of (length p.manifests) p.clients)

abbrev to_partitions : PartsRecord → List Permitted
to_partitions p = flat_map (permitted_to_partition (services_in p)) (enumerate_from 0 p.manifests)

abbrev to_clients : PartsRecord → List Permitted
to_clients p = flat_map (permitted_to_client (services_in p)) (enumerate_from (length p.manifests) p.clients)

abbrev actors_of : PartsRecord → ℕ
actors_of p = length p.manifests + length p.clients

abbrev AllowedAmong : PartsRecord → ℕ → ℕ → Permitted → Type 0
AllowedAmong p = Among (Allowed (services_without_index p))

of_partitions : (p : PartsRecord) → self_dependencies p ≡ [] → Each (AllowedAmong p 0 (0 + length p.manifests)) (to_partitions p)
of_partitions p rule = flat_each (NoneOwn p) (Allowed (services_without_index p)) (permitted_to_partition (services_in p)) (of_partition p) 0 p.manifests (none_own p rule)

of_clients : (p : PartsRecord) → Each (AllowedAmong p (length p.manifests) (actors_of p)) (to_clients p)
of_clients p = flat_each (λ e. length p.manifests ≤ e.0) (Allowed (services_without_index p)) (permitted_to_client (services_in p)) (of_client p) (length p.manifests) p.clients (clients_after p)

all_allowed : (p : PartsRecord) → self_dependencies p ≡ [] → Each (AllowedAmong p 0 (actors_of p)) (permitted p)
all_allowed p rule =
    AllByRecursion-append (AllowedAmong p 0 (actors_of p)) (to_partitions p) (to_clients p)
    (AllByRecursion-weaker (AllowedAmong p 0 (0 + length p.manifests)) (AllowedAmong p 0 (actors_of p))
    (λ a h. record { number = h.number; from = h.from; below = let l : h.number < 0 + length p.manifests = h.below in omega arith; holds = h.holds })
    (to_partitions p) (of_partitions p rule))
    (AllByRecursion-weaker (AllowedAmong p (length p.manifests) (actors_of p)) (AllowedAmong p 0 (actors_of p))
    (λ a h. record { number = h.number; from = omega arith; below = h.below; holds = h.holds })
    (to_clients p) (of_clients p))

later_actor : (services : List Service) (i j : ℕ) (a b : Permitted) → i < j → Allowed services i a → Allowed services j b → ComesBefore a b
later_actor services i j a b l h k = inl (let s : a.client ≡ i = h.actor in let t : b.client ≡ j = k.actor in omega arith)

all_in_order : (p : PartsRecord) → self_dependencies p ≡ [] → Pairs ComesBefore (permitted p)
all_in_order p rule =
    pairs_append ComesBefore (to_partitions p) (to_clients p)
    (flat_pairs (NoneOwn p) (Allowed (services_without_index p)) ComesBefore (permitted_to_partition (services_in p)) (of_partition p)
    (λ e h. permitted_in_order e.0 e.1.name (depends_on e.1) (services_in p)) (later_actor (services_without_index p)) 0 p.manifests (none_own p rule))
    (flat_pairs (λ e. length p.manifests ≤ e.0) (Allowed (services_without_index p)) ComesBefore (permitted_to_client (services_in p)) (of_client p)
    (λ e h. permitted_in_order e.0 e.1 (λ v. v.nonsecure) (services_in p)) (later_actor (services_without_index p)) (length p.manifests) p.clients (clients_after p))
    (across_from (AllowedAmong p 0 (0 + length p.manifests)) (AllowedAmong p (length p.manifests) (actors_of p)) ComesBefore
    (λ a b h k. later_actor (services_without_index p) h.number k.number a b (let l : h.number < 0 + length p.manifests = h.below in let m : length p.manifests ≤ k.number = k.from in omega arith) h.holds k.holds)
    (to_partitions p) (to_clients p) (of_partitions p rule) (of_clients p))

-- ---- budgets

abbrev has_other : List Service → ℕ → Budget → Bool
has_other services actors b = nat_lt b.client.0 actors && option_map_or (λ v. not (v.owner == b.client.0)) (slice_get services b.service) false

abbrev budget_for : PartsRecord → Permitted → Budget
budget_for p pair = record { client = record { 0 = pair.client }; service = pair.service; count = count_for p.connections pair }

-- owners are the same without indices
bare_other : (services : List Service) (actors : ℕ) (b : Budget) → has_other (map bare services) actors b ≡ has_other services actors b
bare_other services actors b =
    let other : Option Service → Bool = λ o. option_map_or (λ v. not (v.owner == b.client.0)) o false in
    ap (λ t. nat_lt b.client.0 actors && t) (ap other (slice_get-map bare services b.service) ∙ mapped (slice_get services b.service)) where
      mapped : (o : Option Service) → option_map_or (λ v. not (v.owner == b.client.0)) (option_map bare o) false ≡ option_map_or (λ v. not (v.owner == b.client.0)) o false
      mapped None = refl
      mapped (Some v) = refl

plain_other : (p : PartsRecord) (b : Budget) → has_other (services_without_index p) (actors_of p) b ≡ has_other (services_of p) (actors_of p) b
plain_other p b = ap (λ vs. has_other vs (actors_of p) b) (sym (services_are p)) ∙ bare_other (services_of p) (actors_of p) b

allowed_fits : (services : List Service) (actors : ℕ) (a : Permitted) → Among (Allowed services) 0 actors a
    → (nat_lt a.client actors && option_map_or (λ v. not (v.owner == a.client)) (slice_get services a.service) false) ≡ true
allowed_fits services actors a h =
    let same : a.client ≡ h.number = h.holds.actor in
    and_from _ _ (lt-ltb a.client actors (let l : h.number < actors = h.below in omega arith)) (rw same h.holds.other)

in_order : (a b : Permitted) → ComesBefore a b → (nat_lt a.client b.client || ((a.client == b.client) && nat_lt a.service b.service)) ≡ true
in_order a b h =
    ⊎_elim (λ (l : a.client < b.client). or_left _ _ (lt-ltb _ _ l))
    (λ (s : (a.client ≡ b.client) × (a.service < b.service)). or_right (nat_lt a.client b.client) _ (and_from _ _ (eq-eqb _ _ s.0) (lt-ltb _ _ s.1))) h

pub budgets_do_fit : (p : PartsRecord) (n : ℕ) → n ≡ length p.manifests → self_dependencies p ≡ [] → too_many_connections p ≡ [] → budgets_fit (n + length p.clients) (services_of p) (budgets_of p) ≡ true
budgets_do_fit p n counted self_rule count_rule =
    rw counted (three _ _ _
    (all_from (λ b. has_other (services_without_index p) (actors_of p) b ≡ true)
    (has_other (services_of p) (actors_of p)) (λ b h. sym (plain_other p b) ∙ h) (budgets_of p)
    (each_map (λ b. has_other (services_without_index p) (actors_of p) b ≡ true) (budget_for p) (permitted p)
    (AllByRecursion-weaker (AllowedAmong p 0 (actors_of p))
    (λ a. has_other (services_without_index p) (actors_of p) (budget_for p a) ≡ true)
    (allowed_fits (services_without_index p) (actors_of p)) (permitted p) (all_allowed p self_rule))))
    (pairs_test (λ b c. budget_before b c ≡ true) budget_before (λ b c h. h) (budgets_of p)
    (pairs_map (λ b c. budget_before b c ≡ true) (budget_for p) (permitted p)
    (pairs_weaker ComesBefore (λ a b. (nat_lt a.client b.client || ((a.client == b.client) && nat_lt a.service b.service)) ≡ true) in_order (permitted p) (all_in_order p self_rule))))
    (le-leb _ _ (ltb-false _ _ (only_if_nil _ _ count_rule))))
