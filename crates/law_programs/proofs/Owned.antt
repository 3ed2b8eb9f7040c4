-- An SFN partition has a service, and room for a message where its RAM begins.
use Rattle.std.proofs.Common.{ℕ, zero, suc, ◌+◌, ◌<◌, ◌≤◌, ◌≡◌, ◌==◌, ◌^◌, List, [], ◌∷◌, length, refl, ap, ap₂, sym, ◌∙◌, arith, Bool, true, false, eq-eqb, inl, inr}
use Rattle.std.specs.Prelude.{Option, Some, None, if◌then◌else◌, not, ◌&&◌, ◌||◌, nat_lt, nat_le, option_and_then, slice_get}
use Rattle.std.specs.List.{list_all, list_any, enumerate_from, position_from}
use Rattle.std.specs.Option.{option_map_or}
use Rattle.std.proofs.lemmas.Bool.{and_parts, and_from, or_cases, or_left, or_right}
use Rattle.std.proofs.lemmas.Bool.Decides.{nat_tests}
use Rattle.std.proofs.lemmas.Iterator.Adapters.{position_from-zero}
use Rattle.std.proofs.lemmas.Option.{slice_get_within}
use Rattle.law_lists.proofs.Tests.{list_all-at, list_any-at}
use Rattle.ffm_model.specs.declared.system.Partition.{Partition}
use Rattle.ffm_model.specs.declared.system.Region.{Region}
use Rattle.ffm_model.specs.declared.system.Service.{Service}
use Rattle.ffm_model.specs.declared.system.System.{System}
use Rattle.ffm_model.specs.Actors.{is_partition}
use Rattle.ffm_model.specs.Memory.{domain_of, is_ram_of, lies_in, valid_buffer}
use Rattle.ffm_model.specs.PartitionRam.{ram_base}
use Rattle.ffm_model.specs.ServiceCalls.{message_size, service_of_signal}
use Rattle.ffm_model.specs.WellFormed.{functions_fit, is_ram_in, is_signal_bit, ram_size, signal_fits}
use Rattle.ffm_model.proofs.WellFormedLemmas.{models_hold, partitions_hold, service_signals_hold}
use Rattle.sfn_calls.specs.Partitions.{is_sfn}
use Rattle.law_programs.proofs.Bits.{signal-bit}
use Rattle.law_counting.proofs.Owners.{is-partition, own-ram}

-- ---- lists

numbered-at : {X : Type 0} (p : ℕ × X → Bool) (xs : List X) (n i k : ℕ) (x : X) → k ≡ n + i → list_all p (enumerate_from n xs) ≡ true → slice_get xs i ≡ Some x → p (k, x) ≡ true
numbered-at p [] n i k x at h e = absurd (cc)
numbered-at p (y ∷ ys) n zero k x at h e =
    let same : x ≡ y = cc in
    let here : k ≡ n = omega arith in
    ap₂ (λ (j : ℕ) z. p (j, z)) here same ∙ (and_parts (p (n, y)) (list_all p (enumerate_from (n + 1) ys)) h).0
numbered-at p (y ∷ ys) n (suc i) k x at h e = numbered-at p ys (n + 1) i k x (omega arith) (and_parts (p (n, y)) (list_all p (enumerate_from (n + 1) ys)) h).1 e

position-by : {X : Type 0} (p : X → Bool) (xs : List X) (n : ℕ) (b : Bool) → (b || list_any p xs) ≡ true → (list_any p xs ≡ true → (i : ℕ) × (position_from p (n + 1) xs ≡ Some i)) → (i : ℕ) × ((if b then Some n else position_from p (n + 1) xs) ≡ Some i)
position-by p xs n true h go = (n, refl)
position-by p xs n false h go = go h

position-some : {X : Type 0} (p : X → Bool) (xs : List X) (n : ℕ) → list_any p xs ≡ true → (i : ℕ) × (position_from p n xs ≡ Some i)
position-some p [] n h = absurd (cc)
position-some p (x ∷ xs) n h = position-by p xs n (p x) h (position-some p xs (n + 1))

-- ---- the partition

-- some service of a partition
pub record Serves (s : System) (a : ℕ) : Type 0 where
  pub bit : ℕ
  pub service : ℕ
  pub from : 4 ≤ bit
  pub to : bit < 32
  pub found : service_of_signal s a (2 ^ bit) ≡ Some service

-- what an SFN partition has
pub record IsSfnOwner (s : System) (a : ℕ) : Type 0 where
  pub exists : a < length s.partitions
  pub serves : Serves s a
  pub room : valid_buffer s a (ram_base s a) message_size ≡ true

-- ---- its service

-- the service of the partition whose signal is a bit
abbrev pub is_that : ℕ → ℕ → Service → Bool
is_that a k v = (v.owner == a) && (v.signal == 2 ^ k)

record ServesAmong (a : ℕ) (vs : List Service) : Type 0 where
  bit : ℕ
  from : 4 ≤ bit
  to : bit < 32
  one : list_any (is_that a bit) vs ≡ true

serving-here : (n a : ℕ) (v : Service) (vs : List Service) → signal_fits n v.owner v.signal ≡ true → (v.owner == a) ≡ true → ServesAmong a (v ∷ vs)
serving-here n a v vs fits own =
    let it = signal-bit v.signal (and_parts (nat_lt v.owner n) (is_signal_bit v.signal) fits).1 in
    record {
      bit = it.bit;
      from = it.from;
      to = it.to;
      one = or_left (is_that a it.bit v) (list_any (is_that a it.bit) vs) (and_from (v.owner == a) (v.signal == 2 ^ it.bit) own (eq-eqb v.signal (2 ^ it.bit) (sym it.is)));
    }

serving-later : (a : ℕ) (v : Service) (vs : List Service) → ServesAmong a vs → ServesAmong a (v ∷ vs)
serving-later a v vs it = record { bit = it.bit; from = it.from; to = it.to; one = or_right (is_that a it.bit v) (list_any (is_that a it.bit) vs) it.one }

serving : (n a : ℕ) (vs : List Service) → list_all (λ v. signal_fits n v.owner v.signal) vs ≡ true → list_any (λ v. v.owner == a) vs ≡ true → ServesAmong a vs
serving n a [] fits some = absurd (cc)
serving n a (v ∷ vs) fits some =
    let parts = and_parts (signal_fits n v.owner v.signal) (list_all (λ v. signal_fits n v.owner v.signal) vs) fits in
    elim (or_cases (v.owner == a) (list_any (λ v. v.owner == a) vs) some) [
      | inl own ↦ serving-here n a v vs parts.0 own
      | inr later ↦ serving-later a v vs (serving n a vs parts.1 later)
    ]

serves-of : (s : System) (a : ℕ) → list_any (λ v. v.owner == a) s.services ≡ true → Serves s a
serves-of s a some =
    let it = serving (length s.partitions) a s.services (service_signals_hold s) some in
    let at = position-some (is_that a it.bit) s.services 0 it.one in
    record { bit = it.bit; service = at.0; from = it.from; to = it.to; found = position_from-zero (is_that a it.bit) s.services ∙ at.1 }

-- ---- its RAM

within-by : (base : ℕ) (r : Region) → base ≡ r.base → nat_le message_size r.size ≡ true → lies_in base message_size r ≡ true
within-by base r at large =
    let low : nat_le r.base base ≡ true = grind (arith, nat_tests) in
    let high : nat_le (base + message_size) (r.base + r.size) ≡ true = grind (arith, nat_tests) in
    and_from (nat_le r.base base) (nat_le (base + message_size) (r.base + r.size)) low high

room-by : (s : System) (a : ℕ) (p : Partition) (o : Option Region) → a < length s.partitions → slice_get s.partitions a ≡ Some p → slice_get s.regions p.ram ≡ o → option_map_or (λ r. is_ram_in p.domain r.class) o false ≡ true
    → nat_le message_size (option_map_or (λ r. r.size) o 0) ≡ true → valid_buffer s a (ram_base s a) message_size ≡ true
room-by s a p None inside at there own large = absurd (cc)
room-by s a p (Some r) inside at there own large =
    let base : ram_base s a ≡ r.base =
    ap (λ (o : Option Partition). option_map_or (λ r. r.base) (option_and_then (λ p. slice_get s.regions p.ram) o) 0) at ∙ ap (λ (o : Option Region). option_map_or (λ r. r.base) o 0) there in
    let domain : p.domain ≡ domain_of s a = sym (ap (λ (o : Option Partition). option_map_or (λ q. q.domain) o 0) at) in
    let mine : is_ram_of s a r.class ≡ true = own-ram s a p.domain r.class (ap is_partition (is-partition s a inside)) domain own in
    list_any-at (λ r. is_ram_of s a r.class && lies_in (ram_base s a) message_size r) s.regions p.ram r there
    (and_from (is_ram_of s a r.class) (lies_in (ram_base s a) message_size r) mine (within-by (ram_base s a) r base large))

-- ---- all of it

fitting : (x y : Bool) → (not x || y) ≡ true → x ≡ true → y ≡ true
fitting true y h e = h
fitting false y h e = absurd (cc)

owner-by : (s : System) (a : ℕ) (o : Option Partition) → slice_get s.partitions a ≡ o → option_map_or (λ p. p.sfn) o false ≡ true → IsSfnOwner s a
owner-by s a None at sfn = absurd (cc)
owner-by s a (Some p) at sfn =
    let all = and_parts (list_all (functions_fit s.services s.regions) (enumerate_from 0 s.partitions)) (list_all (λ p. nat_le p.heap (ram_size s.regions p)) s.partitions) (models_hold s) in
    let fit = numbered-at (functions_fit s.services s.regions) s.partitions 0 a a p (omega arith) all.0 at in
    let both = fitting p.sfn (list_any (λ v. v.owner == a) s.services && nat_le message_size (ram_size s.regions p)) fit sfn in
    let parts = and_parts (list_any (λ v. v.owner == a) s.services) (nat_le message_size (ram_size s.regions p)) both in
    let rams = (and_parts _ _ (and_parts _ _ (partitions_hold s)).0).0 in
    let inside : a < length s.partitions = slice_get_within s.partitions a p at in
    let own : option_map_or (λ r. is_ram_in p.domain r.class) (slice_get s.regions p.ram) false ≡ true = list_all-at (λ q. option_map_or (λ r. is_ram_in q.domain r.class) (slice_get s.regions q.ram) false) s.partitions a p rams at in
    record {
      exists = inside;
      serves = serves-of s a parts.0;
      room = room-by s a p (slice_get s.regions p.ram) inside at refl own parts.1;
    }

pub sfn-owner : (s : System) (a : ℕ) → is_sfn s a ≡ true → IsSfnOwner s a
sfn-owner s a sfn = owner-by s a (slice_get s.partitions a) refl sfn
