-- A step of the search for the first region that shares a byte with one before it.
use Rattle.std.proofs.Common.{ℕ, ◌≡◌, ◌<◌, ◌≤◌, ◌+◌, ◌||◌, ◌⊎◌, inl, inr, ⊎_elim, not, List, [], ◌∷◌, ◌++◌, length, map, take, drop, get_or, arith, ◌∙◌, ap, sym, refl, Bool, true, false, Some, append_assoc}
use Rattle.std.specs.Prelude.{sum_by}
use Rattle.std.specs.List.{AllByRecursion, list_any}
use Rattle.std.specs.BTreeMap.{BTreeMap}
use Rattle.std.proofs.Math.Bool.{or-false}
use Rattle.std.proofs.lemmas.List.{map_more, drop_more}
use Rattle.std.proofs.lemmas.List.Folds.{list_any-append}
use Rattle.std.proofs.lemmas.Bool.{or_from}
use Rattle.std.proofs.lemmas.Bool.Decides.{nat_tests}
use Rattle.ffm_model.specs.declared.constants.TheConstants.{RAM_BASE}
use Rattle.ffm_model.specs.declared.system.Region.{Region}
use Rattle.ffm_model.specs.PartsItems.{PartsRecord}
use Rattle.ffm_model.specs.Repeats.{first, only_if}
use Rattle.ffm_model.specs.Layout.{Located, ram_needed, rounded, rams_of, non_secure_of, overlapping}
use Rattle.ffm_model.specs.WellFormed.{apart}
use Rattle.region_map.specs.declared.place.Placed.{Placed}
use Rattle.region_map.specs.Placements.{located_of}
use Rattle.region_map.specs.Overlaps.{extent, meets_ram, MeetsSome, MeetsNone}
use Rattle.region_map.proofs.Earlier.{Holds, meets_some, meets_none}
use Rattle.region_map.proofs.OverlapLemmas.{rams_meet}

-- a region shares a byte with one of rs
abbrev pub meets_one : Region → List Region → Bool
meets_one x rs = list_any (λ r. not (apart r x)) rs

abbrev pub front : PartsRecord → List Region
front p = rams_of p ++ non_secure_of p ∷ []

front_meets : (p : PartsRecord) (ram non_secure : ℕ) (x : Region) → 0 < x.size → ram ≡ sum_by ram_needed p.manifests → non_secure ≡ rounded p.non_secure_ram
    → meets_one x (front p) ≡ meets_ram ram non_secure x
front_meets p ram non_secure x some is others =
    list_any-append (λ r. not (apart r x)) (rams_of p) (non_secure_of p ∷ [])
    ∙ ap (λ b. b || (not (apart (non_secure_of p) x) || false)) (rams_meet p.level 0 RAM_BASE p.manifests x some)
    ∙ ap (λ b. not (apart (extent RAM_BASE (sum_by ram_needed p.manifests)) x) || b) (or-false (not (apart (non_secure_of p) x)))
    ∙ ap (λ n. meets_ram n (rounded p.non_secure_ram) x) (sym is)
    ∙ ap (λ n. meets_ram ram n x) (sym others)

both : (p : PartsRecord) (rs : List Region) (x : Region) → meets_one x (front p ++ rs) ≡ (meets_one x (front p) || meets_one x rs)
both p rs x = list_any-append (λ r. not (apart r x)) (front p) rs

either : (a b : Bool) → (a ≡ true) ⊎ (b ≡ true) → (a || b) ≡ true
either true b h = refl
either false b (inl h) = cc
either false b (inr h) = h

pub meets_front : (p : PartsRecord) (ram non_secure : ℕ) (m : BTreeMap ℕ ℕ) (rs : List Region) (x : Region) → Holds m rs → 0 < x.size
    → ram ≡ sum_by ram_needed p.manifests → non_secure ≡ rounded p.non_secure_ram
    → (meets_ram ram non_secure x ≡ true) ⊎ MeetsSome m x → meets_one x (front p ++ rs) ≡ true
meets_front p ram non_secure m rs x holds some is others hit =
    both p rs x ∙ either (meets_one x (front p)) (meets_one x rs)
    (⊎_elim (λ (h : meets_ram ram non_secure x ≡ true). inl (front_meets p ram non_secure x some is others ∙ h)) (λ (h : MeetsSome m x). inr (meets_some m rs x holds some h)) hit)

pub misses_front : (p : PartsRecord) (ram non_secure : ℕ) (m : BTreeMap ℕ ℕ) (rs : List Region) (x : Region) → Holds m rs → 0 < x.size
    → ram ≡ sum_by ram_needed p.manifests → non_secure ≡ rounded p.non_secure_ram
    → meets_ram ram non_secure x ≡ false → MeetsNone m x → meets_one x (front p ++ rs) ≡ false
misses_front p ram non_secure m rs x holds some is others miss none =
    both p rs x ∙ or_from (meets_one x (front p)) (meets_one x rs) (front_meets p ram non_secure x some is others ∙ miss) (meets_none m rs x holds none)

-- ---- the search

abbrev pub regions_in : List Placed → List Region
regions_in xs = map (λ y. y.region) xs

unmet : (fs : List Region) (x : Located Region) (xs : List (Located Region)) → meets_one x.value fs ≡ false → overlapping fs (x ∷ xs) ≡ overlapping (fs ++ x.value ∷ []) xs
unmet fs x xs e = ap (λ b. only_if b x ++ overlapping (fs ++ x.value ∷ []) xs) e

met : (fs : List Region) (x : Located Region) (xs : List (Located Region)) → meets_one x.value fs ≡ true → first (overlapping fs (x ∷ xs)) ≡ Some x
met fs x xs e = ap (λ b. first (only_if b x ++ overlapping (fs ++ x.value ∷ []) xs)) e

rest : (xs : List Placed) (i : ℕ) (x : Placed) → i < length xs → x ≡ get_or xs i x → map located_of (drop i xs) ≡ located_of x ∷ map located_of (drop (i + 1) xs)
rest xs i x below here = ap (map located_of) (drop_more xs i x below) ∙ ap (λ y. located_of y ∷ map located_of (drop (i + 1) xs)) (sym here)

pub more_regions : (xs : List Placed) (i : ℕ) (x : Placed) → i < length xs → x ≡ get_or xs i x → regions_in (take (i + 1) xs) ≡ regions_in (take i xs) ++ x.region ∷ []
more_regions xs i x below here = map_more (λ y. y.region) xs i x below ∙ ap (λ (y : Placed). regions_in (take i xs) ++ y.region ∷ []) (sym here)

pub overlap_step : (fs : List Region) (xs : List Placed) (i : ℕ) (x : Placed) → i < length xs → x ≡ get_or xs i x → meets_one x.region (fs ++ regions_in (take i xs)) ≡ false
    → first (overlapping (fs ++ regions_in (take (i + 1) xs)) (map located_of (drop (i + 1) xs))) ≡ first (overlapping (fs ++ regions_in (take i xs)) (map located_of (drop i xs)))
overlap_step fs xs i x below here none =
    ap (λ t. first (overlapping (fs ++ t) (map located_of (drop (i + 1) xs)))) (more_regions xs i x below here)
    ∙ ap (λ t. first (overlapping t (map located_of (drop (i + 1) xs)))) (sym (append_assoc fs (regions_in (take i xs)) (x.region ∷ [])))
    ∙ ap first (sym (unmet (fs ++ regions_in (take i xs)) (located_of x) (map located_of (drop (i + 1) xs)) none))
    ∙ ap (λ t. first (overlapping (fs ++ regions_in (take i xs)) t)) (sym (rest xs i x below here))

pub overlap_found : (fs : List Region) (xs : List Placed) (i : ℕ) (x : Placed) → i < length xs → x ≡ get_or xs i x → meets_one x.region (fs ++ regions_in (take i xs)) ≡ true
    → first (overlapping (fs ++ regions_in (take i xs)) (map located_of (drop i xs))) ≡ Some (located_of x)
overlap_found fs xs i x below here some =
    ap (λ t. first (overlapping (fs ++ regions_in (take i xs)) t)) (rest xs i x below here)
    ∙ met (fs ++ regions_in (take i xs)) (located_of x) (map located_of (drop (i + 1) xs)) some

-- ---- regions one after the other

-- each region ends by this address
abbrev pub EndBy : ℕ → List Region → Type 0
EndBy end rs = AllByRecursion (λ r. r.base + r.size ≤ end) rs

before_all : (end : ℕ) (rs : List Region) (x : Region) → EndBy end rs → end ≤ x.base → meets_one x rs ≡ false
before_all end [] x by behind = refl
before_all end (r ∷ rs) x by behind =
    let here : not (apart r x) ≡ false = let e = by.0 in grind (arith, nat_tests) in
    ap (λ b. b || meets_one x rs) here ∙ before_all end rs x by.1 behind

pub misses_all : (p : PartsRecord) (ram non_secure end : ℕ) (rs : List Region) (x : Region) → 0 < x.size
    → ram ≡ sum_by ram_needed p.manifests → non_secure ≡ rounded p.non_secure_ram
    → meets_ram ram non_secure x ≡ false → EndBy end rs → end ≤ x.base → meets_one x (front p ++ rs) ≡ false
misses_all p ram non_secure end rs x some is others miss by behind =
    both p rs x ∙ or_from (meets_one x (front p)) (meets_one x rs) (front_meets p ram non_secure x some is others ∙ miss) (before_all end rs x by behind)

pub one_after : (end : ℕ) (rs : List Region) (x : Region) → EndBy end rs → end ≤ x.base → EndBy (x.base + x.size) (rs ++ x ∷ [])
one_after end [] x by behind = (omega arith, tt)
one_after end (r ∷ rs) x by behind = (let e = by.0 in omega arith, one_after end rs x by.1 behind)
