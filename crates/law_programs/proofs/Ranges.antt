-- The windows of a partition lie in its own RAM, and a copy leaves the bytes that it read.
use Rattle.std.proofs.Common.{ℕ, zero, suc, ◌+◌, ◌-◌, ◌*◌, ◌/◌, ◌<◌, ◌≤◌, ◌≡◌, ◌==◌, List, [], ◌∷◌, length, get_or, refl, ap, ap₂, sym, ◌∙◌, arith, Bool, true, false}
use Rattle.std.specs.Prelude.{Option, Some, None, if◌then◌else◌, ◌&&◌, nat_lt, nat_le, option_and_then, slice_get, slice_index}
use Rattle.std.specs.List.{list_all}
use Rattle.std.specs.Option.{option_map_or}
use Rattle.std.proofs.lemmas.Bool.{and_parts, and_from, or_right}
use Rattle.std.proofs.lemmas.Bool.Decides.{nat_tests}
use Rattle.law_lists.proofs.Tests.{list_all-at, list_any-at}
use Rattle.ffm_model.specs.declared.system.ActorKind.TheVariants as kind
use Rattle.ffm_model.specs.declared.system.Partition.{Partition}
use Rattle.ffm_model.specs.declared.system.Region.{Region}
use Rattle.ffm_model.specs.declared.system.System.{System}
use Rattle.ffm_model.specs.Actors.{is_partition, kind_of}
use Rattle.ffm_model.specs.Held.{holder_of, window, window_size}
use Rattle.ffm_model.specs.Memory.{ByteMap, bytes_at, copy_bytes, domain_of, is_ram_of, lies_in, valid_buffer, write_bytes}
use Rattle.ffm_model.specs.PartitionRam.{heap_of, ram_base, ram_size_of}
use Rattle.ffm_model.specs.WellFormed.{is_ram_in, ram_size}
use Rattle.ffm_model.proofs.BytesLemmas.{bytes-index, bytes-length, bytes-same}
use Rattle.ffm_model.proofs.WellFormedLemmas.{models_hold, partitions_hold}
use Rattle.law_counting.proofs.Owners.{own-ram}

-- ---- lists

some-at : {X : Type 0} (xs : List X) (i : ℕ) → i < length xs → (x : X) × (slice_get xs i ≡ Some x)
some-at [] i lt = absurd (omega (arith, lt))
some-at (x ∷ xs) zero lt = (x, refl)
some-at (x ∷ xs) (suc i) lt = some-at xs i (omega (arith, lt))

-- ---- windows

-- the end of the last window is that of the RAM
window-ends : (i w : ℕ) → i < 8 → i * w + w ≤ 8 * w
window-ends i w lt = grind arith

window-inside : (base size heap i len : ℕ) (r : Region) → base ≡ r.base → size ≡ r.size → nat_le heap size ≡ true → i < 8 → len ≤ heap / 8 → lies_in (base + size - 8 * (heap / 8) + i * (heap / 8)) len r ≡ true
window-inside base size heap i len r at big fits few short =
    let w : ℕ = heap / 8 in
    let room : heap ≤ size = grind (arith, nat_tests) in
    let whole : 8 * (heap / 8) ≤ heap = omega arith in
    let ends : i * (heap / 8) + heap / 8 ≤ 8 * (heap / 8) = window-ends i (heap / 8) few in
    let start : ℕ = base + size - 8 * (heap / 8) + i * (heap / 8) in
    let low : r.base ≤ base + size - 8 * (heap / 8) + i * (heap / 8) = omega arith in
    let high : base + size - 8 * (heap / 8) + i * (heap / 8) + len ≤ r.base + r.size = omega arith in
    let one : nat_le r.base (base + size - 8 * (heap / 8) + i * (heap / 8)) ≡ true = grind (arith, nat_tests) in
    let two : nat_le (base + size - 8 * (heap / 8) + i * (heap / 8) + len) (r.base + r.size) ≡ true = grind (arith, nat_tests) in
    or_right (len == 0) _ (and_from (nat_le r.base (base + size - 8 * (heap / 8) + i * (heap / 8))) (nat_le (base + size - 8 * (heap / 8) + i * (heap / 8) + len) (r.base + r.size)) one two)

window-by : (s : System) (a i len : ℕ) (p : Partition) (o : Option Region) → kind_of s a ≡ kind.Partition → slice_get s.partitions a ≡ Some p → slice_get s.regions p.ram ≡ o → option_map_or (λ r. is_ram_in p.domain r.class) o false ≡ true
    → nat_le p.heap (ram_size s.regions p) ≡ true → i < 8 → len ≤ window_size (holder_of s a) → valid_buffer s a (window (holder_of s a) i) len ≡ true
window-by s a i len p None partition at there own fits few short = absurd (cc)
window-by s a i len p (Some r) partition at there own fits few short =
    let base : ram_base s a ≡ r.base =
    ap (λ (o : Option Partition). option_map_or (λ r. r.base) (option_and_then (λ p. slice_get s.regions p.ram) o) 0) at ∙ ap (λ (o : Option Region). option_map_or (λ r. r.base) o 0) there in
    let size : ram_size_of s a ≡ r.size = ap (λ (o : Option Partition). option_map_or (ram_size s.regions) o 0) at ∙ ap (λ (o : Option Region). option_map_or (λ r. r.size) o 0) there in
    let heap : nat_le (heap_of s a) (ram_size_of s a) ≡ true = ap₂ (λ x y. nat_le x y) (ap (λ (o : Option Partition). option_map_or (λ p. p.heap) o 0) at) (ap (λ (o : Option Partition). option_map_or (ram_size s.regions) o 0) at) ∙ fits in
    let domain : p.domain ≡ domain_of s a = sym (ap (λ (o : Option Partition). option_map_or (λ q. q.domain) o 0) at) in
    let mine : is_ram_of s a r.class ≡ true = own-ram s a p.domain r.class (ap is_partition partition) domain own in
    or_right (len == 0) _ (list_any-at (λ r. is_ram_of s a r.class && lies_in (window (holder_of s a) i) len r) s.regions p.ram r there
    (and_from (is_ram_of s a r.class) (lies_in (window (holder_of s a) i) len r) mine (window-inside (ram_base s a) (ram_size_of s a) (heap_of s a) i len r base size heap few short)))

-- a partition may hand its windows to a call
pub window-valid : (s : System) (a i len : ℕ) → kind_of s a ≡ kind.Partition → a < length s.partitions → i < 8 → len ≤ window_size (holder_of s a) → valid_buffer s a (window (holder_of s a) i) len ≡ true
window-valid s a i len partition inside few short =
    let p = some-at s.partitions a inside in
    let all = and_parts _ (list_all (λ p. nat_le p.heap (ram_size s.regions p)) s.partitions) (models_hold s) in
    let rams = (and_parts _ _ (and_parts _ _ (partitions_hold s)).0).0 in
    window-by s a i len p.0 (slice_get s.regions p.0.ram) partition p.1 refl (list_all-at (λ q. option_map_or (λ r. is_ram_in q.domain r.class) (slice_get s.regions q.ram) false) s.partitions a p.0 rams p.1)
    (list_all-at (λ q. nat_le q.heap (ram_size s.regions q)) s.partitions a p.0 all.1 p.1) few short

-- ---- copies

pub written-at : (m : ByteMap) (bs : List ℕ) (x i : ℕ) → i < length bs → write_bytes m x bs (x + i) ≡ get_or bs i 0
written-at m bs x i lt =
    let one : nat_le x (x + i) ≡ true = grind (arith, nat_tests) in
    let two : nat_lt (x + i) (x + length bs) ≡ true = grind (arith, nat_tests) in
    let place : x + i - x ≡ i = omega arith in
    ap₂ (λ (a b : Bool). if a && b then slice_index bs (x + i - x) else m (x + i)) one two ∙ ap (λ (k : ℕ). get_or bs k 0) place

-- what was read stands where it was written, wherever that is
pub copied : (m : ByteMap) (from to n : ℕ) → bytes_at (copy_bytes m from to n) to n ≡ bytes_at m from n
copied m from to n =
    bytes-same (copy_bytes m from to n) m to from n
    (λ i lt. written-at m (bytes_at m from n) to i (omega (arith, bytes-length m from n)) ∙ bytes-index m from n i lt)
