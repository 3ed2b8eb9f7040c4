-- The last service with a name, where no two have one name, is the one that has it.
use Rattle.std.proofs.Common.{ℕ, ◌≡◌, ◌<◌, ◌+◌, ◌&&◌, ◌||◌, List, [], ◌∷◌, length, take, get_or, Option, Some, None, Bool, true, false, cond, fold, refl, ap, sym, ◌∙◌}
use Rattle.std.specs.Prelude.{◌==◌, is_some}
use Rattle.std.specs.List.{list_any, AllByRecursion as Each}
use Rattle.std.specs.Option.{option_map_or}
use Rattle.std.specs.Str.{bytes_eq}
use Rattle.ffm_model.specs.Layout.{Located}
use Rattle.ffm_model.specs.ManifestItems.{ServiceRecord}
use Rattle.std.specs.BTreeMap.{BTreeMap}
use Rattle.std.proofs.lemmas.Bool.{or_from, and_right}
use Rattle.std.proofs.lemmas.Bool.Decides.{same_from_decides, Decides-like}
use Rattle.std.proofs.lemmas.Slice.Eq.{bytes_eq-Decides}
use Rattle.std.proofs.lemmas.List.Sums.{fold_more}
use Rattle.law_lists.proofs.Lists.{map_nil, AllByRecursion-weaker}
use denote.Ref.{Bor}
use Rattle.ffm_model.specs.PartsItems.{PartsRecord}
use Rattle.ffm_model.specs.Permissions.{services_in}
use Rattle.ffm_model.specs.Rules.{duplicate_services}
use Rattle.law_systems.proofs.Lists.{Pairs, repeated_nil}
use Rattle.manifest_compile.specs.Owners.{Owns, owner_of}

-- the service has the name
abbrev pub is_named : List ℕ → Located ServiceRecord → Bool
is_named name v = bytes_eq v.value.name name

abbrev pub newer : List ℕ → Option ℕ → Located ServiceRecord → Option ℕ
newer name owner v = cond (is_named name v) (Some v.manifest) owner

-- the partition of the last service with the name
abbrev pub last_owner : List ℕ → List (Located ServiceRecord) → Option ℕ
last_owner name services = fold (newer name) None services

known_by : (b : Bool) (m : ℕ) (o : Option ℕ) (rest : Bool) → (is_some (cond b (Some m) o) || rest) ≡ (is_some o || (b || rest))
known_by true m None rest = refl
known_by false m None rest = refl
known_by true m (Some o) rest = refl
known_by false m (Some o) rest = refl

known_from : (name : List ℕ) (o : Option ℕ) (xs : List (Located ServiceRecord)) → is_some (fold (newer name) o xs) ≡ (is_some o || list_any (is_named name) xs)
known_from name None [] = refl
known_from name (Some o) [] = refl
known_from name o (x ∷ xs) = known_from name (newer name o x) xs ∙ known_by (is_named name x) x.manifest o (list_any (is_named name) xs)

pub last_owner-known : (name : List ℕ) (xs : List (Located ServiceRecord)) → is_some (last_owner name xs) ≡ list_any (is_named name) xs
last_owner-known name xs = known_from name None xs

-- ---- where names differ

abbrev owns : List ℕ → ℕ → Located ServiceRecord → Bool
owns name k v = (v.manifest == k) && bytes_eq v.value.name name

-- services of other names leave the owner that was found before them
unnamed : (name : List ℕ) (o : Option ℕ) (xs : List (Located ServiceRecord)) → Each (λ v. is_named name v ≡ false) xs → fold (newer name) o xs ≡ o
unnamed name o [] h = refl
unnamed name o (x ∷ xs) h = ap (λ b. fold (newer name) (cond b (Some x.manifest) o) xs) h.0 ∙ unnamed name o xs h.1

none_own : (name : List ℕ) (k : ℕ) (xs : List (Located ServiceRecord)) → Each (λ v. is_named name v ≡ false) xs → list_any (owns name k) xs ≡ false
none_own name k [] h = refl
none_own name k (x ∷ xs) h = or_from _ _ (and_right (x.manifest == k) _ h.0) (none_own name k xs h.1)

pub bytes_eq-flip : (xs ys : List ℕ) → bytes_eq xs ys ≡ bytes_eq ys xs
bytes_eq-flip xs ys = same_from_decides (bytes_eq xs ys) (bytes_eq ys xs) (bytes_eq-Decides xs ys) (Decides-like (bytes_eq ys xs) sym sym (bytes_eq-Decides ys xs))

-- those after a service of this name have other names
others : (name : List ℕ) (x : Located ServiceRecord) (xs : List (Located ServiceRecord)) → is_named name x ≡ true
    → Each (λ y. bytes_eq x.value.name y.value.name ≡ false) xs → Each (λ v. is_named name v ≡ false) xs
others name x xs e h =
    let same : x.value.name ≡ name = (bytes_eq-Decides x.value.name name).0 e in
    AllByRecursion-weaker (λ y. bytes_eq x.value.name y.value.name ≡ false) (λ v. is_named name v ≡ false)
    (λ v differ. bytes_eq-flip v.value.name name ∙ ap (λ n. bytes_eq n v.value.name) (sym same) ∙ differ) xs h

alone : (a r : Bool) → r ≡ false → ((a && true) || r) ≡ a
alone true r e = refl
alone false r e = e

left_over : (a r : Bool) → ((a && false) || r) ≡ r
left_over true r = refl
left_over false r = refl

owned_by : (name : List ℕ) (k : ℕ) (x : Located ServiceRecord) (xs : List (Located ServiceRecord)) (b : Bool) → is_named name x ≡ b
    → Each (λ y. bytes_eq x.value.name y.value.name ≡ false) xs
    → option_map_or (λ owner. owner == k) (last_owner name xs) false ≡ list_any (owns name k) xs
    → option_map_or (λ owner. owner == k) (fold (newer name) (cond b (Some x.manifest) None) xs) false ≡ (((x.manifest == k) && b) || list_any (owns name k) xs)
owned_by name k x xs true e h rest =
    ap (λ o. option_map_or (λ owner. owner == k) o false) (unnamed name (Some x.manifest) xs (others name x xs e h))
    ∙ sym (alone (x.manifest == k) (list_any (owns name k) xs) (none_own name k xs (others name x xs e h)))
owned_by name k x xs false e h rest = rest ∙ sym (left_over (x.manifest == k) (list_any (owns name k) xs))

pub last_owner-owned : (name : List ℕ) (k : ℕ) (xs : List (Located ServiceRecord)) → Pairs (λ x y. bytes_eq x.value.name y.value.name ≡ false) xs
    → option_map_or (λ owner. owner == k) (last_owner name xs) false ≡ list_any (owns name k) xs
last_owner-owned name k [] h = refl
last_owner-owned name k (x ∷ xs) h = owned_by name k x xs (is_named name x) refl h.0 (last_owner-owned name k xs h.1)

-- ---- the map

-- where names differ, the map of the last owners is the map of the owners
pub owns_all : (owners : BTreeMap (Bor (List ℕ)) ℕ) (p : PartsRecord) → duplicate_services p ≡ []
    → ((name : List ℕ) → owner_of owners name ≡ last_owner name (services_in p)) → Owns owners p
owns_all owners p e h =
    let differ : Pairs (λ x y. bytes_eq x.value.name y.value.name ≡ false) (services_in p) = repeated_nil (λ x y. bytes_eq x.value.name y.value.name) (services_in p) (map_nil _ _ e) in
    record {
      known = λ name. ap is_some (h name) ∙ last_owner-known name (services_in p);
      owned = λ name k. ap (λ o. option_map_or (λ owner. owner == k) o false) (h name) ∙ last_owner-owned name k (services_in p) differ;
    }

-- one service more
pub owners_more : (name : List ℕ) (xs : List (Located ServiceRecord)) (i : ℕ) (d : Located ServiceRecord) (old new : Option ℕ) → i < length xs
    → new ≡ cond (is_named name (get_or xs i d)) (Some (get_or xs i d).manifest) old
    → old ≡ last_owner name (take i xs) → new ≡ last_owner name (take (i + 1) xs)
owners_more name xs i d old new below step so_far =
    step ∙ ap (λ o. newer name o (get_or xs i d)) so_far ∙ sym (fold_more (newer name) None xs i d below)
