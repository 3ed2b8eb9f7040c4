-- A range of a region is an actor's own RAM as a whole, or not at all.
use Rattle.std.proofs.Common.{ℕ, ◌≡◌, ◌<◌, ◌≤◌, Bool, true, false, ◌&&◌, ◌||◌, List, [], ◌∷◌, length, get_or, arith, ◌∙◌, ap, sym, refl, subst, inl, inr, ◌⊎◌}
use Rattle.std.specs.Prelude.{◌==◌, All, Option, Some, None, option_and_then, slice_get, if◌then◌else◌}
use Rattle.std.specs.List.{list_all, list_any}
use Rattle.std.specs.Option.{option_map_or}
use Rattle.std.proofs.lemmas.Bool.{and_parts}
use Rattle.std.proofs.lemmas.Bool.Decides.{nat_tests}
use Rattle.std.proofs.lemmas.List.Elements.{All-cons, All-head, All-nil, All-tail}
use Rattle.std.proofs.lemmas.Option.{slice_get_cases}
use Rattle.memory_image.specs.Differences.{range_covers}
use Rattle.law_lists.proofs.Bools.{or_rest}
use Rattle.ffm_model.specs.declared.system.Partition.{Partition}
use Rattle.ffm_model.specs.declared.system.Region.{Region}
use Rattle.ffm_model.specs.declared.system.System.{System}
use Rattle.ffm_model.specs.Actors.{is_partition, kind_of}
use Rattle.ffm_model.specs.Memory.{is_ram_of}
use Rattle.ffm_model.specs.PartitionRam.{ram_of}
use Rattle.ffm_model.specs.Reach.{covers}
use Rattle.ffm_model.specs.WellFormed.{each_pair}
use Rattle.ffm_model.specs.Ranges.{has_range, ranges_of, share_no_byte}
use Rattle.memory_image.specs.Pieces.{is_inside}
use Rattle.ffm_model.proofs.RangeLemmas.{regions_apart}
use Rattle.machine_check.specs.Auditing.{own_ram}

-- a region covers an address as it covers another one
abbrev CoversAlike : ℕ → ℕ → Region → Type 0
CoversAlike a x r = covers r x ≡ covers r a

-- ---- an address of a range, and the range's first one

in_region : (a len x : ℕ) (r : Region) → has_range a len (r.base, r.size) ≡ true → range_covers (a, len) x ≡ true → CoversAlike a x r
in_region a len x r has inside = grind (arith, nat_tests)

off_region : (a len x : ℕ) (r q : Region) → has_range a len (r.base, r.size) ≡ true → range_covers (a, len) x ≡ true → share_no_byte (r.base, r.size) (q.base, q.size) ≡ true → CoversAlike a x q
off_region a len x r q has inside apart = grind (arith, nat_tests)

off_region_before : (a len x : ℕ) (r q : Region) → has_range a len (q.base, q.size) ≡ true → range_covers (a, len) x ≡ true → share_no_byte (r.base, r.size) (q.base, q.size) ≡ true → CoversAlike a x r
off_region_before a len x r q has inside apart = grind (arith, nat_tests)

-- the range lies in this region, and so in none of the others
others_alike : (a len x : ℕ) (r : Region) (rs : List Region) → has_range a len (r.base, r.size) ≡ true → range_covers (a, len) x ≡ true
    → list_all (share_no_byte (r.base, r.size)) (ranges_of rs) ≡ true → All (CoversAlike a x) rs
others_alike a len x r [] has inside apart = All-nil (CoversAlike a x)
others_alike a len x r (q ∷ rs) has inside apart =
    let parts = and_parts (share_no_byte (r.base, r.size) (q.base, q.size)) (list_all (share_no_byte (r.base, r.size)) (ranges_of rs)) apart in
    All-cons (CoversAlike a x) q rs (off_region a len x r q has inside parts.0) (others_alike a len x r rs has inside parts.1)

-- it lies in one of the others, and so not in this one
alike_before : (a len x : ℕ) (r : Region) (rs : List Region) → list_any (has_range a len) (ranges_of rs) ≡ true → range_covers (a, len) x ≡ true
    → list_all (share_no_byte (r.base, r.size)) (ranges_of rs) ≡ true → CoversAlike a x r
alike_before a len x r [] has inside apart = absurd (cc)
alike_before a len x r (q ∷ rs) has inside apart =
    let parts = and_parts (share_no_byte (r.base, r.size) (q.base, q.size)) (list_all (share_no_byte (r.base, r.size)) (ranges_of rs)) apart in
    let go : (b : Bool) → has_range a len (q.base, q.size) ≡ b → (b || list_any (has_range a len) (ranges_of rs)) ≡ true → CoversAlike a x r = elim [
      | true ↦ λ here any. off_region_before a len x r q here inside parts.0
      | false ↦ λ here any. alike_before a len x r rs any inside parts.1
    ] in
    go (has_range a len (q.base, q.size)) refl has

all_alike : (a len x : ℕ) (rs : List Region) → each_pair share_no_byte (ranges_of rs) ≡ true → list_any (has_range a len) (ranges_of rs) ≡ true → range_covers (a, len) x ≡ true → All (CoversAlike a x) rs
all_alike a len x [] apart has inside = All-nil (CoversAlike a x)
all_alike a len x (r ∷ rs) apart has inside =
    let parts = and_parts (list_all (share_no_byte (r.base, r.size)) (ranges_of rs)) (each_pair share_no_byte (ranges_of rs)) apart in
    let go : (b : Bool) → has_range a len (r.base, r.size) ≡ b → (b || list_any (has_range a len) (ranges_of rs)) ≡ true → All (CoversAlike a x) (r ∷ rs) = elim [
      | true ↦ λ here any. All-cons (CoversAlike a x) r rs (in_region a len x r here inside) (others_alike a len x r rs here inside parts.0)
      | false ↦ λ here any. All-cons (CoversAlike a x) r rs (alike_before a len x r rs any inside parts.0) (all_alike a len x rs parts.1 any inside)
    ] in
    go (has_range a len (r.base, r.size)) refl has

-- ---- the own RAM

any_alike : (class : Region → Bool) (a x : ℕ) (rs : List Region) → All (CoversAlike a x) rs → list_any (λ r. class r && covers r x) rs ≡ list_any (λ r. class r && covers r a) rs
any_alike class a x [] alike = refl
any_alike class a x (r ∷ rs) alike =
    ap (λ b. (class r && b) || list_any (λ q. class q && covers q x) rs) (All-head (CoversAlike a x) r rs alike)
    ∙ ap (λ b. (class r && covers r a) || b) (any_alike class a x rs (All-tail (CoversAlike a x) r rs alike))

at_place : (a x : ℕ) (rs : List Region) (k : ℕ) → All (CoversAlike a x) rs → option_map_or (λ r. covers r x) (slice_get rs k) false ≡ option_map_or (λ r. covers r a) (slice_get rs k) false
at_place a x rs k alike =
    let both : Option Region → Type 0 = λ o. option_map_or (λ r. covers r x) o false ≡ option_map_or (λ r. covers r a) o false in
    let cases : ((r : Region) × (k < length rs) × (slice_get rs k ≡ Some r) × (get_or rs k r ≡ r)) ⊎ ((length rs ≤ k) × (slice_get rs k ≡ None)) = (slice_get_cases rs k).1 in
    elim cases [
      | inl here ↦ subst both (sym here.2) (subst (CoversAlike a x) here.3 (alike k here.0 here.1))
      | inr past ↦ subst both (sym past.1) refl
    ]

own-alike : (s : System) (act a x : ℕ) → All (CoversAlike a x) s.regions → own_ram s act x ≡ own_ram s act a
own-alike s act a x alike = by_kind (is_partition (kind_of s act)) where
  own : (o : Option Partition) → option_map_or (λ r. covers r x) (option_and_then (λ p. slice_get s.regions p.ram) o) false ≡ option_map_or (λ r. covers r a) (option_and_then (λ p. slice_get s.regions p.ram) o) false
  own None = refl
  own (Some p) = at_place a x s.regions p.ram alike

  by_kind : (b : Bool) → (if b then option_map_or (λ r. covers r x) (ram_of s act) false else list_any (λ r. is_ram_of s act r.class && covers r x) s.regions)
      ≡ (if b then option_map_or (λ r. covers r a) (ram_of s act) false else list_any (λ r. is_ram_of s act r.class && covers r a) s.regions)
  by_kind true = own (slice_get s.partitions act)
  by_kind false = any_alike (λ r. is_ram_of s act r.class) a x s.regions alike

pub own-whole : (s : System) (act a len x : ℕ) → is_inside a len (ranges_of s.regions) ≡ true → range_covers (a, len) x ≡ true → own_ram s act x ≡ own_ram s act a
own-whole s act a len x inside here =
    let some : (len == 0) ≡ false = grind (arith, nat_tests) in
    own-alike s act a x (all_alike a len x s.regions (regions_apart s) (or_rest (len == 0) _ some inside) here)
