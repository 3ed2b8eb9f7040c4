-- Marks of dependencies.
use Rattle.std.proofs.Common.{ℕ, ◌≡◌, ◌<◌, ◌≤◌, ◌+◌, ◌*◌, ◌&&◌, ◌||◌, List, [], ◌∷◌, ◌++◌, length, take, replicate, get_or, Option, Some, None, Bool, true, false, zero, suc, refl, ap, sym, ◌∙◌, arith, IfSome, subst, ⊎_elim, eqb-true, eq-eqb}
use Rattle.std.specs.Prelude.{◌==◌, nat_lt}
use Rattle.std.proofs.Math.Seq.{take-append_seam}
use Rattle.std.specs.BTreeMap.{BTreeMap}
use Rattle.std.specs.List.{list_any, AllByRecursion as Each}
use Rattle.std.specs.Option.{option_map_or}
use Rattle.std.specs.Str.{bytes_eq}
use Rattle.std.proofs.lemmas.Bool.{or_cases, and_parts, and_right}
use Rattle.std.proofs.lemmas.List.Folds.{list_any_more}
use denote.Ref.{Bor}
use Rattle.law_lists.proofs.Lists.{AllByRecursion-weaker, get_or-replicate_same}
use Rattle.ffm_model.specs.Layout.{Located, located_from}
use Rattle.ffm_model.specs.ManifestItems.{ManifestRecord}
use Rattle.ffm_model.specs.PartsItems.{PartsRecord}
use Rattle.ffm_model.specs.Permissions.{services_in}
use Rattle.ffm_model.specs.Rules.{dependencies_in, has_service, depends}
use Rattle.law_systems.proofs.Located.{items_below}
use Rattle.manifest_compile.specs.Owners.{Owns, owner_of, is_owner, is_marked}

pub some_below : (o : Option ℕ) (k : ℕ) → Some k ≡ o → IfSome o (λ x. x < 256) → k < 256
some_below o k e h = let P : Option ℕ → Type 0 = λ q. IfSome q (λ x. x < 256) in subst P (sym e) h

or-assoc : (a b c : Bool) → ((a || b) || c) ≡ (a || (b || c))
or-assoc true b c = refl
or-assoc false b c = refl

-- one item more
pub marks_more : {A : Type 0} (t : A → Bool) (xs : List A) (i : ℕ) (d : A) (first old new : Bool) → i < length xs
    → new ≡ (old || t (get_or xs i d)) → old ≡ (first || list_any t (take i xs)) → new ≡ (first || list_any t (take (i + 1) xs))
marks_more t xs i d first old new below step so_far =
    step ∙ ap (λ b. b || t (get_or xs i d)) so_far ∙ or-assoc first (list_any t (take i xs)) (t (get_or xs i d)) ∙ ap (λ b. first || b) (sym (list_any_more t xs i d below))

pub each_at : {A : Type 0} (P : A → Type 0) (xs : List A) (i : ℕ) (d : A) → Each P xs → i < length xs → P (get_or xs i d)
each_at P [] i d h below = absurd (omega arith)
each_at P (x ∷ xs) zero d h below = h.0
each_at P (x ∷ xs) (suc i) d h below = each_at P xs i d h.1 (omega arith)

-- ---- a new square

-- what is written over a whole list
pub written : {A : Type 0} (new rest : List A) (n : ℕ) → length new ≡ n → take n (new ++ rest) ≡ new
written new rest n e = let P : ℕ → Type 0 = λ m. take m (new ++ rest) ≡ new in subst P e (take-append_seam new rest)

pub unmarked : (marks : List Bool) (n k j : ℕ) → marks ≡ replicate n false → is_marked marks k j ≡ false
unmarked marks n k j e = ap (λ ms. is_marked ms k j) e ∙ and_right (nat_lt k 256 && nat_lt j 256) _ (get_or-replicate_same n (k * 256 + j) false)

-- ---- places of manifests

pub few_manifests : (p q : PartsRecord) → p ≡ q → length p.manifests ≤ 256 → length q.manifests ≤ 256
few_manifests p q e few = let P : PartsRecord → Type 0 = λ r. length r.manifests ≤ 256 in subst P e few

pub all_below : {A : Type 0} (items : ManifestRecord → List A) (ms : List ManifestRecord) → length ms ≤ 256 → Each (λ x. x.manifest < 256) (located_from items 0 ms)
all_below items ms few = AllByRecursion-weaker (λ x. x.manifest < 0 + length ms) (λ x. x.manifest < 256) (λ x l. omega arith) (located_from items 0 ms) (items_below items 0 ms)

-- a square of as many rows as manifests has a row for each
pub rows_fit : {A : Type 0} (items : ManifestRecord → List A) (ms : List ManifestRecord) (n : ℕ) → n ≡ length ms * 256 → Each (λ x. x.manifest * 256 + 256 ≤ n) (located_from items 0 ms)
rows_fit items ms n e =
    AllByRecursion-weaker (λ x. x.manifest < 0 + length ms) (λ x. x.manifest * 256 + 256 ≤ n) (λ x l. omega (arith, e)) (located_from items 0 ms) (items_below items 0 ms)

-- some item passes, so what holds of each holds of one that passes
some_passes : {A : Type 0} (P : A → Type 0) (t : A → Bool) (Q : Type 0) → ((x : A) → P x → t x ≡ true → Q) → (xs : List A) → Each P xs → list_any t xs ≡ true → Q
some_passes P t Q f [] h e = absurd cc
some_passes P t Q f (x ∷ xs) h e = ⊎_elim (λ here. f x h.0 here) (λ there. some_passes P t Q f xs h.1 there) (or_cases (t x) (list_any t xs) e)

has_below : (p : PartsRecord) (k : ℕ) (name : List ℕ) → length p.manifests ≤ 256 → has_service p k name ≡ true → k < 256
has_below p k name few e =
    some_passes (λ v. v.manifest < 256) (λ v. (v.manifest == k) && bytes_eq v.value.name name) (k < 256)
    (λ v below here. let same : v.manifest ≡ k = eqb-true v.manifest k (and_parts _ _ here).0 in omega (arith, same))
    (services_in p) (all_below (λ m. m.services) p.manifests few) e

owner_below : (o : Option ℕ) (P : ℕ → Bool) → ((k : ℕ) → option_map_or (λ owner. owner == k) o false ≡ P k) → ((k : ℕ) → P k ≡ true → k < 256) → IfSome o (λ owner. owner < 256)
owner_below None P f g = tt
owner_below (Some x) P f g = g x (sym (f x) ∙ eq-eqb x x refl)

-- the owners that the map has are partitions
pub owners_below : (owners : BTreeMap (Bor (List ℕ)) ℕ) (p : PartsRecord) → length p.manifests ≤ 256 → Owns owners p → (name : List ℕ) → IfSome (owner_of owners name) (λ owner. owner < 256)
owners_below owners p few o name = owner_below (owner_of owners name) (λ k. has_service p k name) (o.owned name) (λ k. has_below p k name few)

-- the marks of all dependencies
pub depends_by : (owners : BTreeMap (Bor (List ℕ)) ℕ) (p : PartsRecord) → Owns owners p → (k j : ℕ) → list_any (λ d. (d.manifest == k) && is_owner owners j d.value) (dependencies_in p) ≡ depends p k j
depends_by owners p o k j = ap (λ (t : Located (List ℕ) → Bool). list_any t (dependencies_in p)) (λ i d. (d.manifest == k) && o.owned d.value j i)
