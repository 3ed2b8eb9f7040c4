-- Which actors are partitions of the SFN model, and which may have several scripts.
use Rattle.std.proofs.Common.{ℕ, zero, suc, ◌≡◌, ◌<◌, ◌≤◌, ◌+◌, ◌*◌, Bool, true, false, List, [], ◌∷◌, ⊎_elim, length, ap, refl, arith}
use Rattle.std.specs.Prelude.{All, slice_get, nat_lt, if◌then◌else◌}
use Rattle.std.specs.Option.{option_map_or}
use Rattle.std.proofs.lemmas.Bool.{cases_lt, lt-ltb}
use Rattle.std.proofs.lemmas.List.{get_or_default}
use Rattle.std.proofs.lemmas.List.Sums.{sum_by-le}
use Rattle.ffm_model.specs.declared.system.ActorKind.{ActorKind}
use Rattle.ffm_model.specs.declared.system.ActorKind.TheVariants.{Partition, Client, Device}
use Rattle.ffm_model.specs.declared.system.Partition as system
use Rattle.ffm_model.specs.declared.scenario.Scenario.{Scenario}
use Rattle.ffm_model.specs.declared.system.System.{System}
use Rattle.ffm_model.specs.Actors.{actor_count, is_client, kind_of}
use Rattle.ffm_model.specs.Scenarios.{IsScenarioOf, most_scripts}
use Rattle.sfn_calls.specs.Partitions.{is_sfn}

none_past : (xs : List system.Partition) (a : ℕ) → length xs ≤ a → option_map_or (λ p. p.sfn) (slice_get xs a) false ≡ false
none_past [] a all = refl
none_past (x ∷ xs) zero all = absurd (omega arith)
none_past (x ∷ xs) (suc a) all = none_past xs a (omega arith)

-- an actor after the partitions is none
pub not_sfn : (s : System) (a : ℕ) → length s.partitions ≤ a → is_sfn s a ≡ false
not_sfn s a all = none_past s.partitions a all

few_scripts : (s : System) (a : ℕ) → most_scripts s a ≤ 8
few_scripts s a = elim (is_client (kind_of s a)) as (λ b. (if b then 8 else 1) ≤ 8) [ true ↦ omega arith | false ↦ omega arith ]

-- a scenario has at most eight scripts for each actor
pub few_in_order : (s : System) (c : Scenario) → IsScenarioOf s c → length c.order ≤ actor_count s * 8
few_in_order s c h =
    let each : All (λ own. length own ≤ 8) c.lines = λ i d lt.
    let low : i < actor_count s = omega (arith, lt, h.lines) in
    omega (arith, ap (λ (own : List (List (List ℕ))). length own) (get_or_default c.lines i d [] lt), (h.scripts i low).1, few_scripts s i) in
    omega (arith, h.few, sum_by-le (λ (own : List (List (List ℕ))). length own) 8 c.lines each, h.lines)

abbrev pub most_of : ActorKind → ℕ
most_of k = if is_client k then 8 else 1

few-by : (k : ActorKind) (b : Bool) → b ≡ true → most_of (if b then Partition else k) ≡ 1
few-by k true e = refl
few-by k false e = cc

-- a partition has one
pub one-script : (s : System) (a : ℕ) → a < length s.partitions → most_scripts s a ≡ 1
one-script s a lt = few-by (if nat_lt a (length s.partitions + length s.clients) then Client else Device) (nat_lt a (length s.partitions)) (lt-ltb a (length s.partitions) lt)

-- who may have several isn't one of the SFN model
pub several : (s : System) (a : ℕ) → 1 < most_scripts s a → is_sfn s a ≡ false
several s a more =
    ⊎_elim (λ (lt : a < length s.partitions). let one : most_scripts s a ≡ 1 = one-script s a lt in absurd (omega arith)) (λ (past : length s.partitions ≤ a). not_sfn s a past) (cases_lt a (length s.partitions))
