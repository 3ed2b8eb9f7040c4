-- The services of an SFN partition: that it has few, that psa_wait may wait for their signals, and which of them is the lowest.
use Rattle.std.proofs.Common.{ℕ, zero, suc, ◌+◌, ◌-◌, ◌<◌, ◌≤◌, ◌≡◌, ◌==◌, ◌^◌, List, ◌++◌, length, refl, ap, sym, ◌∙◌, arith, Bool, true, false, length-append}
use Rattle.std.specs.Prelude.{Option, Some, None, if◌then◌else◌, not, find, map, fold, bit_and, bit_or}
use Rattle.std.specs.Int.{bit_at}
use Rattle.std.specs.List.{AllByRecursion}
use Rattle.std.specs.Option.{option_map, option_to_list}
use Rattle.std.proofs.lemmas.Nat.Bits.{bit_at-pow_same}
use Rattle.ffm_model.specs.declared.script.SfnFunction.{SfnFunction}
use Rattle.ffm_model.specs.declared.system.System.{System}
use Rattle.ffm_model.specs.Functions.{SfnService, asserts, lowest, signals_in}
use Rattle.ffm_model.specs.PartitionRam.{ram_base}
use Rattle.ffm_model.specs.ServiceCalls.{service_of_signal}
use Rattle.ffm_model.specs.SfnRuns.{lines_for, sfn_partition, sfn_service_at, sfn_services_from}
use Rattle.ffm_model.specs.SfnScripts.{IsFunction}
use Rattle.ffm_model.specs.Signals.{assigned_to, has_signal_of}
use Rattle.sfn_calls.specs.Answers.{IsSfnPartition}
use Rattle.law_programs.proofs.Bits.{or-right, union-keeps}
use Rattle.law_programs.proofs.Owned.{IsSfnOwner}
use Rattle.law_programs.proofs.Signals.{assigned-meets}

-- ---- their signals

abbrev signals_with : ℕ → List SfnService → ℕ
signals_with x vs = fold bit_or x (map (λ v. v.signal) vs)

skip-one : (o : Option SfnService) (vs : List SfnService) (x k : ℕ) → ((y : ℕ) → bit_at (signals_with y vs) k ≡ 1) → bit_at (signals_with x (option_to_list o ++ vs)) k ≡ 1
skip-one None vs x k h = h x
skip-one (Some v) vs x k h = h (bit_or x v.signal)

-- the signal of each service is among them
signals-have : (s : System) (a : ℕ) (fs : List SfnFunction) (service n b i x : ℕ) → i < n → service_of_signal s a (2 ^ (b + i)) ≡ Some service → bit_at (signals_with x (sfn_services_from s a fs b n)) (b + i) ≡ 1
unfolding sfn_services_from
signals-have s a fs service zero b i x low found = absurd (omega arith)
signals-have s a fs service (suc n) b zero x low found =
    let rest : List SfnService = sfn_services_from s a fs (b + 1) n in
    let at : service_of_signal s a (2 ^ b) ≡ Some service = ap (λ (k : ℕ). service_of_signal s a (2 ^ k)) (omega arith) ∙ found in
    ap (λ (o : Option ℕ). bit_at (signals_with x (option_to_list (option_map (λ i. record { signal = 2 ^ b; lines = lines_for fs i }) o) ++ rest)) (b + 0)) at
    ∙ union-keeps (b + 0) (map (λ (v : SfnService). v.signal) rest) (bit_or x (2 ^ b)) (or-right x (2 ^ b) (b + 0) (ap (bit_at (2 ^ b)) (omega arith) ∙ bit_at-pow_same b))
signals-have s a fs service (suc n) b (suc i) x low found =
    let rest : List SfnService = sfn_services_from s a fs (b + 1) n in
    let next : b + 1 + i ≡ b + suc i = omega arith in
    skip-one (sfn_service_at s a fs b) rest x (b + suc i)
    (λ y. ap (bit_at (signals_with y rest)) (sym next) ∙ signals-have s a fs service n (b + 1) i y (omega arith) (ap (λ (k : ℕ). service_of_signal s a (2 ^ k)) next ∙ found))

-- psa_wait for the signals of all services is no PROGRAMMER ERROR
pub wait-meets : (s : System) (a : ℕ) (fs : List SfnFunction) → IsSfnOwner s a → has_signal_of (assigned_to s a) (signals_in (sfn_partition s a fs).services) ≡ true
unfolding sfn_partition signals_in
wait-meets s a fs owner =
    let own = owner.serves in
    let bit : ℕ = own.bit in
    let low : 4 ≤ bit = own.from in
    let high : bit < 32 = own.to in
    let at : 4 + (bit - 4) ≡ bit = omega arith in
    let mask : ℕ = signals_with 0 (sfn_services_from s a fs 4 28) in
    assigned-meets s a bit own.service mask own.found
    (ap (bit_at mask) (sym at) ∙ signals-have s a fs own.service 28 4 (bit - 4) 0 (omega arith) (ap (λ (k : ℕ). service_of_signal s a (2 ^ k)) at ∙ own.found))

-- ---- the lowest of them

-- a service of the partition whose signal is asserted
pub record Lowest (s : System) (a n : ℕ) (v : SfnService) : Type 0 where
  pub bit : ℕ
  pub service : ℕ
  pub from : 4 ≤ bit
  pub signal : v.signal ≡ 2 ^ bit
  pub found : service_of_signal s a (2 ^ bit) ≡ Some service
  pub on : (bit_and n v.signal == 0) ≡ false

first-of : (n : ℕ) (u v : SfnService) (rest : Option SfnService) (b : Bool) (A : Type 0) → (bit_and n u.signal == 0) ≡ b → (if not b then Some u else rest) ≡ Some v → ((bit_and n u.signal == 0) ≡ false → u ≡ v → A) → (rest ≡ Some v → A) → A
first-of n u v rest true A is h hit miss = miss h
first-of n u v rest false A is h hit miss = hit is (let same : u ≡ v = cc in same)

lowest-by : (s : System) (a : ℕ) (fs : List SfnFunction) (n : ℕ) (v : SfnService) (b : ℕ) (o : Option ℕ) (vs : List SfnService) → service_of_signal s a (2 ^ b) ≡ o → 4 ≤ b
    → find (asserts n) (option_to_list (option_map (λ i. record { signal = 2 ^ b; lines = lines_for fs i }) o) ++ vs) ≡ Some v → (find (asserts n) vs ≡ Some v → Lowest s a n v) → Lowest s a n v
lowest-by s a fs n v b None vs is low found go = go found
lowest-by s a fs n v b (Some i) vs is low found go =
    first-of n (record { signal = 2 ^ b; lines = lines_for fs i }) v (find (asserts n) vs) (bit_and n (2 ^ b) == 0) (Lowest s a n v) refl found
    (λ on same. record { bit = b; service = i; from = low; signal = ap (λ (x : SfnService). x.signal) (sym same); found = is; on = ap (λ (x : SfnService). bit_and n x.signal == 0) (sym same) ∙ on }) go

lowest-at : (s : System) (a : ℕ) (fs : List SfnFunction) (n : ℕ) (v : SfnService) (count b : ℕ) → 4 ≤ b → find (asserts n) (sfn_services_from s a fs b count) ≡ Some v → Lowest s a n v
unfolding sfn_services_from
lowest-at s a fs n v zero b low found = cc
lowest-at s a fs n v (suc count) b low found = lowest-by s a fs n v b (service_of_signal s a (2 ^ b)) (sfn_services_from s a fs (b + 1) count) refl low found (λ h. lowest-at s a fs n v count (b + 1) (omega arith) h)

pub lowest-is : (s : System) (a : ℕ) (fs : List SfnFunction) (n : ℕ) (v : SfnService) → lowest (sfn_partition s a fs).services n ≡ Some v → Lowest s a n v
unfolding sfn_partition lowest
lowest-is s a fs n v found = lowest-at s a fs n v 28 4 (omega arith) found

-- ---- the partition

count-by : (o : Option SfnService) → length (option_to_list o) ≤ 1
count-by None = omega arith
count-by (Some v) = omega arith

services-few : (s : System) (a : ℕ) (fs : List SfnFunction) (n b : ℕ) → length (sfn_services_from s a fs b n) ≤ n
unfolding sfn_services_from
services-few s a fs zero b = omega arith
services-few s a fs (suc n) b = omega (arith, length-append (option_to_list (sfn_service_at s a fs b)) (sfn_services_from s a fs (b + 1) n), count-by (sfn_service_at s a fs b), services-few s a fs n (b + 1))

pub partition-fits : (s : System) (a : ℕ) (fs : List SfnFunction) → AllByRecursion (λ v. IsFunction v.lines) (sfn_partition s a fs).services → IsSfnPartition (sfn_partition s a fs)
unfolding sfn_partition
partition-fits s a fs fit = record { few = services-few s a fs 28 4; functions = fit }

pub base-is : (s : System) (a : ℕ) (fs : List SfnFunction) → (sfn_partition s a fs).base ≡ ram_base s a
unfolding sfn_partition
base-is s a fs = refl
