-- Circles of dependencies, and their refusals.
use Rattle.std.proofs.Common.{ℕ, ◌≡◌, ◌<◌, ◌≤◌, ◌+◌, ◌&&◌, List, [], ◌∷◌, length, map, get_or, Option, Some, Bool, true, refl, ap, sym, ◌∙◌, arith, All, Result, Ok, Err, ltb-true, subst}
use Rattle.std.specs.Prelude.{nat_lt}
use Rattle.std.specs.List.{AllByRecursion as Each}
use Rattle.std.proofs.lemmas.Bool.{and_parts}
use Rattle.ffm_model.specs.declared.codes.TheConstants.{DEPENDENCY_CYCLE}
use Rattle.ffm_model.specs.declared.key.Key.TheVariants as key
use Rattle.ffm_model.specs.declared.place.ReadError.{ReadError}
use Rattle.ffm_model.specs.declared.place.ReadError.TheVariants.{Refused, Memory}
use Rattle.ffm_model.specs.declared.place.Refusal.{Refusal}
use Rattle.ffm_model.specs.declared.place.Root.TheVariants as root
use Rattle.ffm_model.specs.Circles.{is_way, is_circle, first_circle}
use Rattle.ffm_model.specs.PartsItems.{PartsRecord}
use Rattle.ffm_model.specs.Repeats.{first}
use Rattle.ffm_model.specs.Rules.{cycle_refusal, cycle_refusals, at_attribute, depends, dependency_cycle}
use Rattle.dependency_circle.specs.Circles.{AnswersCircle}
use Rattle.manifest_compile.specs.Keeps.{Keeps, IsRefused}
use Rattle.manifest_compile.proofs.GraphLemmas.{each_at}

pub cycle_refusal_at : (ks : List ℕ) → 0 < length ks → cycle_refusal ks ≡ record { code = DEPENDENCY_CYCLE; place = record { root = root.System; steps = at_attribute (get_or ks 0 0) key.Dependencies }; cycle = map (λ k. k + 1) ks }
cycle_refusal_at [] some = absurd (omega arith)
cycle_refusal_at (k ∷ ks) some = refl

-- ---- the places of a circle

way_below : (n : ℕ) (edge : ℕ → ℕ → Bool) (home x : ℕ) (xs : List ℕ) → is_way n edge home x xs ≡ true → Each (λ y. y < n) xs
way_below n edge home x [] e = tt
way_below n edge home x (y ∷ ys) e =
    let here : (nat_lt y n ≡ true) × ((edge x y && is_way n edge home y ys) ≡ true) = and_parts _ _ e in
    let rest : (edge x y ≡ true) × (is_way n edge home y ys ≡ true) = and_parts _ _ here.1 in
    (ltb-true y n here.0, way_below n edge home y ys rest.1)

circle_below : (n : ℕ) (edge : ℕ → ℕ → Bool) (xs : List ℕ) → is_circle n edge xs ≡ true → Each (λ y. y < n) xs
circle_below n edge [] e = tt
circle_below n edge (x ∷ xs) e =
    let here = and_parts _ _ e in
    let rest = and_parts _ _ here.1 in
    (ltb-true x n here.0, way_below n edge x x xs rest.1)

-- the places of the first circle are partitions
pub found_below : (n : ℕ) (edge : ℕ → ℕ → Bool) (found : Option (List ℕ)) (c : List ℕ) → n ≤ 256 → AnswersCircle n edge found → found ≡ Some c → All (λ k. k < 256) c
found_below n edge found c few h e =
    let P : Option (List ℕ) → Type 0 = AnswersCircle n edge in
    let is : AnswersCircle n edge (Some c) = subst P e h in
    λ k d below. let at : get_or c k d < n = each_at (λ y. y < n) c k d (circle_below n edge c is.circle) below in omega arith

-- ---- the refusal of the rule

pub keeps_one : {A : Type 0} (r : Result A ReadError) (x : Refusal) (broken : List Refusal) → IsRefused r x → broken ≡ x ∷ [] → Keeps r broken
keeps_one (Ok v) x broken h e = absurd h
keeps_one (Err (Refused s)) x broken h e = ap first e ∙ ap Some (sym h)
keeps_one (Err Memory) x broken h e = tt

pub cycle_is : (p : PartsRecord) (edge : ℕ → ℕ → Bool) (n : ℕ) (found : Option (List ℕ)) (c : List ℕ) → ((k j : ℕ) → edge k j ≡ depends p k j) → n ≡ length p.manifests
    → found ≡ first_circle n edge → found ≡ Some c → dependency_cycle p ≡ cycle_refusal c ∷ []
cycle_is p edge n found c same count is e =
    let edges : edge ≡ depends p = λ i k j. same k j i in
    ap cycle_refusals (ap (λ f. first_circle (length p.manifests) f) (sym edges) ∙ ap (λ m. first_circle m edge) (sym count) ∙ sym is ∙ e)
