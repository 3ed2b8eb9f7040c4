-- What a system says of a partition: its RAM is there, its heap lies in it, and it has at most 28 services.
use Rattle.std.proofs.Common.{ℕ, zero, suc, ◌≡◌, ◌+◌, ◌<◌, ◌≤◌, ◌^◌, ◌==◌, Bool, true, false, cond, not, ◌&&◌, ◌||◌, List, [], ◌∷◌, length, map, filter, get_or, take, ◌∙◌, ap, sym, refl, subst, arith}
use Rattle.std.specs.Prelude.{Option, Some, None, IfSome, nat_eq, nat_lt, nat_le, slice_get}
use Rattle.std.specs.List.{list_any, list_all, AllByRecursion, IsDistinct, range_with_len}
use Rattle.std.specs.Option.{option_map_or}
use Rattle.std.specs.Cmp.{nat_eq_equiv}
use Rattle.std.proofs.lemmas.Bool.{and_parts}
use Rattle.std.proofs.lemmas.Bool.Decides.{nat_tests}
use Rattle.std.proofs.lemmas.List.{length-map}
use Rattle.std.proofs.lemmas.List.FromFn.{length-range_with_len}
use Rattle.std.proofs.lemmas.List.Filters.{length-filter_more}
use Rattle.std.proofs.lemmas.Map.Made.{length-le_from_is_member}
use Rattle.std.proofs.lemmas.Option.{slice_get_within}
use Rattle.law_lists.proofs.Tests.{list_all-at}
use Rattle.ffm_model.specs.declared.system.Partition.{Partition}
use Rattle.ffm_model.specs.declared.system.Region.{Region}
use Rattle.ffm_model.specs.declared.system.Service.{Service}
use Rattle.ffm_model.specs.declared.system.System.{System}
use Rattle.ffm_model.specs.Held.{Holder, HolderService, holder_of}
use Rattle.ffm_model.specs.WellFormed.{each_pair, is_ram_in, is_signal_bit, owner_below, ram_size, signal_fits}
use Rattle.ffm_model.proofs.WellFormedLemmas.{models_hold, partitions_hold, regions_hold, signals_hold, service_signals_hold}
use Rattle.mm_iovec.specs.Items.{own_services}

-- ---- at most 28 services

abbrev is_own : ℕ → Service → Bool
is_own a v = v.owner == a

abbrev are_apart : Service → Service → Bool
are_apart v w = not ((v.owner == w.owner) && (v.signal == w.signal))

abbrev signals : ℕ → List Service → List ℕ
signals a vs = map (λ v. v.signal) (filter (is_own a) vs)

apart-by : (v w : Service) (a : ℕ) → is_own a v ≡ true → is_own a w ≡ true → are_apart v w ≡ true → nat_eq v.signal w.signal ≡ false
apart-by v w a own also apart = grind (arith, nat_tests)

all-apart : (v : Service) (a : ℕ) (ws : List Service) → is_own a v ≡ true → list_all (are_apart v) ws ≡ true → AllByRecursion (λ n. nat_eq v.signal n ≡ false) (signals a ws)
all-apart v a [] own h = tt
all-apart v a (w ∷ ws) own h =
    let hs = and_parts (are_apart v w) _ h in
    let rest = all-apart v a ws own hs.1 in
    let go : (b : Bool) → is_own a w ≡ b → AllByRecursion (λ n. nat_eq v.signal n ≡ false) (map (λ u. u.signal) (cond b (w ∷ filter (is_own a) ws) (filter (is_own a) ws))) =
    elim [ true ↦ λ e. (apart-by v w a own e hs.0, rest) | false ↦ λ e. rest ] in
    go (is_own a w) refl

distinct : (a : ℕ) (vs : List Service) → each_pair are_apart vs ≡ true → IsDistinct nat_eq (signals a vs)
unfolding IsDistinct
distinct a [] h = tt
distinct a (v ∷ vs) h =
    let hs = and_parts (list_all (are_apart v) vs) _ h in
    let rest = distinct a vs hs.1 in
    let go : (b : Bool) → is_own a v ≡ b → IsDistinct nat_eq (map (λ u. u.signal) (cond b (v ∷ filter (is_own a) vs) (filter (is_own a) vs))) =
    elim [ true ↦ λ e. (all-apart v a vs e hs.0, rest) | false ↦ λ e. rest ] in
    go (is_own a v) refl

bit-by : (q w : ℕ) (x y : Bool) → (x ≡ true → y ≡ true) → ((w == q) || x) ≡ true → (nat_eq q w || y) ≡ true
bit-by q w x y go h = grind (arith, nat_tests)

bit-member : (q : ℕ) (ks : List ℕ) → list_any (λ k. 2 ^ k == q) ks ≡ true → list_any (nat_eq q) (map (λ k. 2 ^ k) ks) ≡ true
bit-member q [] h = cc h
bit-member q (k ∷ ks) h = bit-by q (2 ^ k) _ _ (bit-member q ks) h

member-by : (q w : ℕ) (x : Bool) (ks : List ℕ) → (x ≡ true → list_any (λ k. 2 ^ k == q) ks ≡ true) → list_any (λ k. 2 ^ k == w) ks ≡ true → (nat_eq q w || x) ≡ true → list_any (λ k. 2 ^ k == q) ks ≡ true
member-by q w x ks go bit h =
    let split : (b : Bool) → nat_eq q w ≡ b → (b || x) ≡ true → list_any (λ k. 2 ^ k == q) ks ≡ true =
    elim [ true ↦ λ e g. let at : w ≡ q = grind (arith, nat_tests) in subst (λ n. list_any (λ k. 2 ^ k == n) ks ≡ true) at bit | false ↦ λ e g. go g ] in
    split (nat_eq q w) refl h

is-bit : (n a q : ℕ) (vs : List Service) → list_all (λ v. signal_fits n v.owner v.signal) vs ≡ true → list_any (nat_eq q) (signals a vs) ≡ true → is_signal_bit q ≡ true
is-bit n a q [] h m = cc m
is-bit n a q (v ∷ vs) h m =
    let hs = and_parts (signal_fits n v.owner v.signal) _ h in
    let go : (b : Bool) → list_any (nat_eq q) (map (λ u. u.signal) (cond b (v ∷ filter (is_own a) vs) (filter (is_own a) vs))) ≡ true → is_signal_bit q ≡ true =
    elim [
      | true ↦ λ g. member-by q v.signal _ (range_with_len 4 28) (is-bit n a q vs hs.1) (and_parts (nat_lt v.owner n) _ hs.0).1 g
      | false ↦ λ g. is-bit n a q vs hs.1 g
    ] in
    go (is_own a v) m

pub few_services : (s : System) (a : ℕ) → length (filter (λ v. v.owner == a) s.services) ≤ 28
few_services s a =
    let apart : each_pair are_apart s.services ≡ true = (and_parts _ _ (and_parts _ _ (and_parts _ _ (signals_hold s)).0).0).1 in
    let bits : List ℕ = map (λ k. 2 ^ k) (range_with_len 4 28) in
    let most = length-le_from_is_member nat_eq_equiv (signals a s.services) bits (distinct a s.services apart)
    (λ q m. bit-member q (range_with_len 4 28) (is-bit (length s.partitions) a q s.services (service_signals_hold s) m)) in
    omega (arith, most, length-map (filter (is_own a) s.services) (λ v. v.signal), length-map (range_with_len 4 28) (λ k. 2 ^ k), length-range_with_len 4 28)

-- ---- the services that were passed

filter-take : {A : Type 0} (p : A → Bool) (n : ℕ) (xs : List A) → length (filter p (take n xs)) ≤ length (filter p xs)
filter-take p zero xs = omega arith
filter-take p (suc n) [] = omega arith
filter-take p (suc n) (x ∷ xs) =
    let rest = filter-take p n xs in
    let go : (b : Bool) → length (cond b (x ∷ filter p (take n xs)) (filter p (take n xs))) ≤ length (cond b (x ∷ filter p xs) (filter p xs)) =
    elim [ true ↦ omega arith | false ↦ omega arith ] in
    go (p x)

-- where one more comes, fewer than 28 have come
pub own_room : {A : Type 0} (f : A → HolderService) (items : List A) (a i : ℕ) (vs : List Service) (v : Service)
    → map f items ≡ own_services a (take i vs) → i < length vs → v ≡ get_or vs i v → v.owner ≡ a → length (filter (is_own a) vs) ≤ 28 → length items < 28
own_room f items a i vs v same inside at own most =
    let here : is_own a (get_or vs i v) ≡ true = subst (λ u. is_own a u ≡ true) at (grind (arith, nat_tests)) in
    omega (
      arith,
      most,
      sym (length-map items f) ∙ ap length same ∙ length-map (filter (is_own a) (take i vs)) (λ u. let w : HolderService = record { signal = u.signal; mm = u.mm } in w),
      length-filter_more (is_own a) vs i v inside,
      ap {B = ℕ} (λ b. cond b 1 0) here,
      filter-take (is_own a) (i + 1) vs,
    )

-- ---- its RAM

abbrev has_ram : List Region → Partition → Bool
has_ram regions p = option_map_or (λ r. is_ram_in p.domain r.class) (slice_get regions p.ram) false

ram-by : (rs : List Region) (k : ℕ) (o : Option Region) (f : Region → Bool) → slice_get rs k ≡ o → option_map_or f o false ≡ true → k < length rs
ram-by rs k None f e h = cc h
ram-by rs k (Some r) f e h = slice_get_within rs k r e

pub ram_there : (s : System) (a : ℕ) (p : Partition) → slice_get s.partitions a ≡ Some p → p.ram < length s.regions
ram_there s a p e =
    let has : has_ram s.regions p ≡ true = list_all-at (has_ram s.regions) s.partitions a p (and_parts _ _ (and_parts _ _ (partitions_hold s)).0).0 e in
    ram-by s.regions p.ram (slice_get s.regions p.ram) (λ r. is_ram_in p.domain r.class) refl has

-- its end is an address or 2^32, and the heap lies in it
pub record RamFits (p : Partition) (r : Region) : Type 0 where
  pub end : r.base + r.size ≤ 2 ^ 32
  pub heap : p.heap ≤ r.size

heap-by : (p : Partition) (r : Region) (o : Option Region) → o ≡ Some r → nat_le p.heap (option_map_or (λ q. q.size) o 0) ≡ true → p.heap ≤ r.size
heap-by p r None e h = cc e
heap-by p r (Some q) e h = let at : q ≡ r = cc in let size : q.size ≡ r.size = ap (λ (x : Region). x.size) at in grind (arith, nat_tests)

pub ram_fits : (s : System) (a : ℕ) (p : Partition) (r : Region) → slice_get s.partitions a ≡ Some p → slice_get s.regions p.ram ≡ Some r → RamFits p r
ram_fits s a p r at ram =
    let heaps = (and_parts _ _ (models_hold s)).1 in
    let heap : nat_le p.heap (ram_size s.regions p) ≡ true = list_all-at (λ q. nat_le q.heap (ram_size s.regions q)) s.partitions a p heaps at in
    let ends = (and_parts _ _ (and_parts _ _ (and_parts _ _ (regions_hold s)).0).0).1 in
    let end : (owner_below (length s.partitions) r.class && nat_le r.size 1048576 && nat_le (r.base + r.size) 4294967296) ≡ true =
    list_all-at (λ q. owner_below (length s.partitions) q.class && nat_le q.size 1048576 && nat_le (q.base + q.size) 4294967296) s.regions p.ram r ends ram in
    let last : nat_le (r.base + r.size) 4294967296 ≡ true = (and_parts (owner_below (length s.partitions) r.class && nat_le r.size 1048576) _ end).1 in
    record { end = grind (arith, nat_tests); heap = heap-by p r (slice_get s.regions p.ram) ram heap }

-- the partition as the definitions have it
pub holder_made : (s : System) (a : ℕ) (p : Partition) (r : Region) (vs : List HolderService) → slice_get s.partitions a ≡ Some p → slice_get s.regions p.ram ≡ Some r → vs ≡ own_services a s.services
    → holder_of s a ≡ record { base = r.base; size = r.size; heap = p.heap; services = vs }
holder_made s a p r vs at ram own = rw (at, own) (rw ram refl)

-- ---- by a look-up of the region

ram_some : (s : System) (a : ℕ) (p : Partition) → slice_get s.partitions a ≡ Some p → slice_get s.regions p.ram ≡ None → ⊥
ram_some s a p at none =
    let has : has_ram s.regions p ≡ true = list_all-at (has_ram s.regions) s.partitions a p (and_parts _ _ (and_parts _ _ (partitions_hold s)).0).0 at in
    let off : has_ram s.regions p ≡ false = ap (λ (o : Option Region). option_map_or (λ r. is_ram_in p.domain r.class) o false) none in
    cc (has, off)

pub end_if : (s : System) (a : ℕ) (p : Partition) → slice_get s.partitions a ≡ Some p → IfSome (slice_get s.regions p.ram) (λ r. r.base + r.size ≤ 2 ^ 32)
end_if s a p at =
    let go : (o : Option Region) → slice_get s.regions p.ram ≡ o → IfSome o (λ r. r.base + r.size ≤ 2 ^ 32) =
    elim [ None ↦ λ e. absurd (ram_some s a p at e) | Some r ↦ λ e. (ram_fits s a p r at e).end ] in
    go _ refl

pub heap_if : (s : System) (a : ℕ) (p : Partition) → slice_get s.partitions a ≡ Some p → IfSome (slice_get s.regions p.ram) (λ r. p.heap ≤ r.size)
heap_if s a p at =
    let go : (o : Option Region) → slice_get s.regions p.ram ≡ o → IfSome o (λ r. p.heap ≤ r.size) =
    elim [ None ↦ λ e. absurd (ram_some s a p at e) | Some r ↦ λ e. (ram_fits s a p r at e).heap ] in
    go _ refl

pub holder_if : (s : System) (a : ℕ) (p : Partition) (vs : List HolderService) (h : Holder) → slice_get s.partitions a ≡ Some p → vs ≡ own_services a s.services
    → IfSome (slice_get s.regions p.ram) (λ r. h ≡ record { base = r.base; size = r.size; heap = p.heap; services = vs }) → h ≡ holder_of s a
holder_if s a p vs h at own made =
    let go : (o : Option Region) → slice_get s.regions p.ram ≡ o → IfSome o (λ r. h ≡ record { base = r.base; size = r.size; heap = p.heap; services = vs }) → h ≡ holder_of s a =
    elim [ None ↦ λ e i. absurd (ram_some s a p at e) | Some r ↦ λ e i. i ∙ sym (holder_made s a p r vs at e own) ] in
    go _ refl made
