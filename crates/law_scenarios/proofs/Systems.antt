-- What the parts of a system keep of ranges: no vector of a message is longer than a region, and where a partition's RAM ends.
use Rattle.std.proofs.Common.{ℕ, zero, suc, ◌≡◌, ◌<◌, ◌≤◌, ◌+◌, ◌^◌, Bool, true, false, ◌&&◌, not, List, [], ◌∷◌, ◌++◌, length, get_or, inl, inr, arith, refl, ap, sym, subst, ◌∙◌}
use Rattle.std.specs.Prelude.{All, Option, Some, None, nat_le, option_and_then, find, slice_get, slice_index, if◌then◌else◌, ◌==◌}
use Rattle.std.specs.List.{enumerate_from, list_all, list_any}
use Rattle.std.specs.Option.{option_map_or, option_to_list, option_map}
use Rattle.std.proofs.lemmas.Bool.{and_parts, eqb-true, or_cases}
use Rattle.std.proofs.lemmas.Bool.Decides.{nat_tests}
use Rattle.std.proofs.lemmas.Nat.{pow_below}
use Rattle.std.proofs.lemmas.List.{get_or-map, length-map}
use Rattle.std.proofs.lemmas.List.Elements.{All-cons, All-get_or, All-nil}
use Rattle.law_lists.proofs.Bools.{or_rest}
use Rattle.law_lists.proofs.Tests.{list_all-at}
use Rattle.ffm_model.specs.declared.machine.Entry.{Entry}
use Rattle.ffm_model.specs.declared.objects.Span.{Span}
use Rattle.ffm_model.specs.declared.objects.Vectors.{Vectors}
use Rattle.ffm_model.specs.declared.script.SfnFunction.{SfnFunction}
use Rattle.ffm_model.specs.declared.system.Partition.{Partition}
use Rattle.ffm_model.specs.declared.system.Region.{Region}
use Rattle.ffm_model.specs.declared.system.System.{System}
use Rattle.ffm_model.specs.Functions.{SfnService}
use Rattle.ffm_model.specs.Held.{holder_of}
use Rattle.ffm_model.specs.Memory.{ByteMap, no_span}
use Rattle.ffm_model.specs.PartitionRam.{ram_base}
use Rattle.ffm_model.specs.Ranges.{has_range, range_in, ranges_of}
use Rattle.ffm_model.specs.ServiceCalls.{service_of_signal, sizes_of}
use Rattle.ffm_model.specs.SfnRuns.{lines_for, sfn_partition, sfn_service_at, sfn_services_from}
use Rattle.ffm_model.specs.State.{State}
use Rattle.ffm_model.specs.Step.{after}
use Rattle.ffm_model.specs.TraceText.{AreFourSizes, IsU32}
use Rattle.ffm_model.specs.WellFormed.{functions_fit, owner_below, ram_size}
use Rattle.ffm_model.proofs.WellFormedLemmas.{models_hold, regions_hold}
use Rattle.law_calls.proofs.Within.{run-four, run-vectors}
use Rattle.law_calls.specs.Vectors.{AreFour}
use Rattle.memory_image.specs.Pieces.{is_inside}
use Rattle.machine_rules.specs.Vectors.{AreWithin}
use Rattle.sfn_calls.specs.Partitions.{is_sfn}
use Rattle.law_scenarios.specs.Ranges.{FunctionsFit}
use Rattle.law_scenarios.proofs.MachineRanges.{SizesFit}
use Rattle.law_scenarios.proofs.Mapping.{RamEnds}
use Rattle.law_scenarios.proofs.Numbers.{zero-fits}
use Rattle.law_scenarios.proofs.Rounds.{LinesFit, PartitionFits, ServiceFits}

-- ---- regions

-- at most 1 MiB, and the end by 2^32
abbrev is_short : ℕ → Region → Bool
is_short n r = owner_below n r.class && nat_le r.size 1048576 && nat_le (r.base + r.size) 4294967296

regions-short : (s : System) → list_all (is_short (length s.partitions)) s.regions ≡ true
regions-short s = (and_parts _ _ (and_parts _ _ (and_parts _ _ (regions_hold s)).0).0).1

size-short : (n : ℕ) (r : Region) → is_short n r ≡ true → r.size ≤ 1048576
size-short n r h = let test : nat_le r.size 1048576 ≡ true = (and_parts (owner_below n r.class) _ (and_parts _ (nat_le (r.base + r.size) 4294967296) h).0).1 in grind (arith, nat_tests)

ends-by : (n : ℕ) (r : Region) → is_short n r ≡ true → r.base + r.size ≤ 4294967296
ends-by n r h = let test : nat_le (r.base + r.size) 4294967296 ≡ true = (and_parts (owner_below n r.class && nat_le r.size 1048576) _ h).1 in grind (arith, nat_tests)

-- a range that lies in a region is no longer than it
range-short : (at len : ℕ) (r : Region) → r.size ≤ 1048576 → has_range at len (range_in r) ≡ true → len ≤ 1048576
range-short at len r short h =
    let tests = and_parts (nat_le r.base at) (nat_le (at + len) (r.base + r.size)) h in
    let low : nat_le r.base at ≡ true = tests.0 in
    let high : nat_le (at + len) (r.base + r.size) ≡ true = tests.1 in
    grind (arith, nat_tests)

any-short : (n at len : ℕ) (rs : List Region) → list_all (is_short n) rs ≡ true → list_any (has_range at len) (ranges_of rs) ≡ true → len ≤ 1048576
any-short n at len [] all h = cc
any-short n at len (r ∷ rs) all h =
    let parts = and_parts (is_short n r) (list_all (is_short n) rs) all in
    elim (or_cases (has_range at len (range_in r)) (list_any (has_range at len) (ranges_of rs)) h) [ inl here ↦ range-short at len r (size-short n r parts.0) here | inr later ↦ any-short n at len rs parts.1 later ]

inside-fits : (s : System) (at len : ℕ) → is_inside at len (ranges_of s.regions) ≡ true → IsU32 len
inside-fits s at len h = elim (or_cases (len == 0) (list_any (has_range at len) (ranges_of s.regions)) h) [
  | inl none ↦ omega (arith, eqb-true len 0 none)
  | inr some ↦ omega (arith, any-short (length s.partitions) at len s.regions (regions-short s) some)
]

-- ---- the sizes of messages

four-fit : (s : System) (vs : List Span) → length vs ≡ 4 → All (λ v. is_inside v.base v.len (ranges_of s.regions) ≡ true) vs → AreFourSizes (sizes_of vs)
four-fit s vs four all =
    let at : (k : ℕ) → k < 4 → IsU32 (slice_index (sizes_of vs) k) = λ k few.
    let below : k < length vs = omega (arith, four, few) in
    subst IsU32 (sym (get_or-map (λ (v : Span). v.len) vs k no_span 0 below)) (inside-fits s _ _ (All-get_or (λ v. is_inside v.base v.len (ranges_of s.regions) ≡ true) vs k no_span below all)) in
    (length-map vs (λ (v : Span). v.len) ∙ four, at 0 (omega arith), at 1 (omega arith), at 2 (omega arith), at 3 (omega arith))

pub run-sizes : (s : System) (m : ByteMap) (es : List Entry) (st : State) → after s m es ≡ Some st → SizesFit st.spm
run-sizes s m es st h =
    let both : (v : Vectors) → AreFour v → AreWithin (ranges_of s.regions) v → AreFourSizes (sizes_of v.input) × AreFourSizes (sizes_of v.output) =
    λ v four within. (four-fit s v.input four.inputs within.inputs, four-fit s v.output four.outputs within.outputs) in
    λ k d below. both (get_or st.spm.messages k d).vectors (run-four s m es st h k d below) (run-vectors s m es st h k d below)

-- ---- the RAM of a partition

abbrev EndsBy : ℕ → ℕ → ℕ → Type 0
EndsBy base size heap = (base + size ≤ 4294967296) × (heap ≤ size)

ram-ends : (s : System) (o : Option Partition) → ((p : Partition) → o ≡ Some p → p.heap ≤ ram_size s.regions p)
    → EndsBy (option_map_or (λ r. r.base) (option_and_then (λ p. slice_get s.regions p.ram) o) 0) (option_map_or (ram_size s.regions) o 0) (option_map_or (λ p. p.heap) o 0)
ram-ends s None heap = (omega arith, omega arith)
ram-ends s (Some p) heap =
    let go : (o : Option Region) → slice_get s.regions p.ram ≡ o → p.heap ≤ option_map_or (λ r. r.size) o 0 → EndsBy (option_map_or (λ r. r.base) o 0) (option_map_or (λ r. r.size) o 0) p.heap = elim [
      | None ↦ λ e h. (omega arith, h)
      | Some r ↦ λ e h. (ends-by (length s.partitions) r (list_all-at (is_short (length s.partitions)) s.regions p.ram r (regions-short s) e), h)
    ] in
    go (slice_get s.regions p.ram) refl (heap p refl)

at-most : (n k : ℕ) → nat_le n k ≡ true → n ≤ k
at-most n k h = grind (arith, nat_tests)

heap-within : (s : System) (a : ℕ) (p : Partition) → slice_get s.partitions a ≡ Some p → p.heap ≤ ram_size s.regions p
heap-within s a p e =
    let all = and_parts _ (list_all (λ q. nat_le q.heap (ram_size s.regions q)) s.partitions) (models_hold s) in
    at-most p.heap (ram_size s.regions p) (list_all-at (λ q. nat_le q.heap (ram_size s.regions q)) s.partitions a p all.1 e)

pub holder-ends : (s : System) (a : ℕ) → RamEnds (holder_of s a)
holder-ends s a = ram-ends s (slice_get s.partitions a) (heap-within s a)

-- ---- a partition of the SFN model

enumerated : {X : Type 0} (k : ℕ) (xs : List X) (i : ℕ) (x : X) → slice_get xs i ≡ Some x → slice_get (enumerate_from k xs) i ≡ Some (k + i, x)
enumerated k [] i x e = cc
enumerated {X} k (y ∷ ys) zero x e =
    let same : y ≡ x = cc in
    let first : k ≡ k + 0 = omega arith in
    ap (λ (z : X). Some (k, z)) same ∙ ap (λ (n : ℕ). Some (n, x)) first
enumerated k (y ∷ ys) (suc i) x e =
    let later : k + 1 + i ≡ k + suc i = omega arith in
    enumerated (k + 1) ys i x e ∙ ap (λ (n : ℕ). Some (n, x)) later

-- its RAM has room for messages
room-for-messages : (s : System) (a : ℕ) (p : Partition) → slice_get s.partitions a ≡ Some p → p.sfn ≡ true → 48 ≤ ram_size s.regions p
room-for-messages s a p e own =
    let fits : functions_fit s.services s.regions (0 + a, p) ≡ true =
    list_all-at (functions_fit s.services s.regions) (enumerate_from 0 s.partitions) a (0 + a, p) (and_parts _ (list_all (λ q. nat_le q.heap (ram_size s.regions q)) s.partitions) (models_hold s)).0 (enumerated 0 s.partitions a p e) in
    let rest : (list_any (λ v. v.owner == 0 + a) s.services && nat_le 48 (ram_size s.regions p)) ≡ true = or_rest (not p.sfn) _ (ap not own) fits in
    let test : nat_le 48 (ram_size s.regions p) ≡ true = (and_parts (list_any (λ v. v.owner == 0 + a) s.services) (nat_le 48 (ram_size s.regions p)) rest).1 in
    at-most 48 (ram_size s.regions p) test

-- so it begins below 2^32
pub sfn-base : (s : System) (a : ℕ) → is_sfn s a ≡ true → IsU32 (ram_base s a)
sfn-base s a h =
    let region : (p : Partition) (o : Option Region) → slice_get s.regions p.ram ≡ o → 48 ≤ option_map_or (λ r. r.size) o 0 → IsU32 (option_map_or (λ r. r.base) o 0) = λ p. elim [
      | None ↦ λ e room. zero-fits
      | Some r ↦ λ e room. omega (arith, room, ends-by (length s.partitions) r (list_all-at (is_short (length s.partitions)) s.regions p.ram r (regions-short s) e))
    ] in
    let go : (o : Option Partition) → slice_get s.partitions a ≡ o → option_map_or (λ p. p.sfn) o false ≡ true → IsU32 (option_map_or (λ r. r.base) (option_and_then (λ p. slice_get s.regions p.ram) o) 0) = elim [
      | None ↦ λ e own. zero-fits
      | Some p ↦ λ e own. region p (slice_get s.regions p.ram) refl (room-for-messages s a p e own)
    ] in
    go (slice_get s.partitions a) refl h

-- ---- its services

function-lines : (functions : List SfnFunction) (service : ℕ) → FunctionsFit functions → LinesFit (lines_for functions service)
function-lines [] service h = tt
function-lines (f ∷ fs) service h =
    elim (f.service == service) as (λ (b : Bool). LinesFit (option_map_or (λ g. g.instructions) (if b then Some f else find (λ g. g.service == service) fs) [])) [ true ↦ h.0 | false ↦ function-lines fs service h.1 ]

listed : {X : Type 0} (P : X → Type 0) (o : Option X) (xs : List X) → ((x : X) → o ≡ Some x → P x) → All P xs → All P (option_to_list o ++ xs)
listed P None xs h all = all
listed P (Some x) xs h all = All-cons P x xs (h x refl) all

services-fit : (s : System) (a : ℕ) (functions : List SfnFunction) (bit n : ℕ) → bit + n ≤ 32 → FunctionsFit functions → All ServiceFits (sfn_services_from s a functions bit n)
unfolding sfn_services_from
services-fit s a functions bit zero few h = All-nil ServiceFits
services-fit s a functions bit (suc n) few h =
    let signal : 2 ^ bit < 2 ^ 32 = pow_below bit 32 (omega arith) in
    let own : (o : Option ℕ) (v : SfnService) → option_map (λ service. record { signal = 2 ^ bit; lines = lines_for functions service }) o ≡ Some v → ServiceFits v = elim [
      | None ↦ λ v e. cc
      | Some service ↦ λ v e. (let is : record { signal = 2 ^ bit; lines = lines_for functions service } ≡ v = cc in subst ServiceFits is (signal, function-lines functions service h))
    ] in
    listed ServiceFits (sfn_service_at s a functions bit) (sfn_services_from s a functions (bit + 1) n) (own (service_of_signal s a (2 ^ bit))) (services-fit s a functions (bit + 1) n (omega arith) h)

pub partition-fits : (s : System) (a : ℕ) (functions : List SfnFunction) → is_sfn s a ≡ true → FunctionsFit functions → PartitionFits (sfn_partition s a functions)
unfolding sfn_partition
partition-fits s a functions own h = record { base = sfn-base s a own; services = services-fit s a functions 4 28 (omega arith) h }
