-- Each connection has a budget, so its service is there.
use Rattle.std.proofs.Common.{ℕ, ◌≡◌, ◌<◌, ◌≤◌, ◌+◌, ◌==◌, Bool, true, false, cond, not, ◌&&◌, List, [], ◌∷◌, length, get_or, arith, refl}
use Rattle.std.specs.Prelude.{Option, Some, None, find, slice_get, All, nat_lt}
use Rattle.std.specs.List.{list_all}
use Rattle.std.specs.Option.{option_map, option_map_or, unwrap_or}
use Rattle.std.proofs.lemmas.Option.{slice_get_within}
use Rattle.std.proofs.lemmas.Bool.{eqb-true, and_parts}
use Rattle.law_lists.proofs.Counts.{bit}
use Rattle.ffm_model.specs.declared.system.System.{System}
use Rattle.ffm_model.specs.declared.system.Service.{Service}
use Rattle.ffm_model.specs.declared.system.Budget.{Budget}
use Rattle.ffm_model.specs.declared.objects.OpenConnection.{OpenConnection}
use Rattle.ffm_model.proofs.WellFormedLemmas.{is_between_actors, budgets_between_actors}
use Rattle.ffm_model.specs.State.{SpmState, in_use}
use Rattle.law_counting.specs.Objects.{allowed}
use Rattle.law_counting.proofs.Pairs.{member-counts}

found-service : (services : List Service) (v owner : ℕ) → option_map_or (λ (x : Service). not (x.owner == owner)) (slice_get services v) false ≡ true → v < length services
found-service services v owner e =
    let go : (o : Option Service) → slice_get services v ≡ o → option_map_or (λ (x : Service). not (x.owner == owner)) o false ≡ true → v < length services =
    elim [ None ↦ λ f g. cc | Some x ↦ λ f g. slice_get_within services v x f ] in
    go (slice_get services v) refl e

budget-service : (s : System) (a v : ℕ) (bs : List Budget) → list_all (is_between_actors s) bs ≡ true
    → 1 ≤ unwrap_or (option_map (λ b. b.count) (find (λ b. (b.client.0 == a) && (b.service == v)) bs)) 0 → v < length s.services
budget-service s a v [] fit some = absurd (omega arith)
budget-service s a v (b ∷ bs) fit some =
    let parts = and_parts (is_between_actors s b) (list_all (is_between_actors s) bs) fit in
    let go : (t : Bool) → ((b.client.0 == a) && (b.service == v)) ≡ t
    → 1 ≤ unwrap_or (option_map (λ (x : Budget). x.count) (cond t (Some b) (find (λ x. (x.client.0 == a) && (x.service == v)) bs))) 0 → v < length s.services =
    elim [
      | true ↦ λ e k.
          let same : b.service ≡ v = eqb-true b.service v (and_parts (b.client.0 == a) (b.service == v) e).1 in
          omega (arith, found-service s.services b.service b.client.0 (and_parts (nat_lt b.client.0 (length s.partitions + length s.clients)) _ parts.0).1)
      | false ↦ λ e k. budget-service s a v bs parts.1 k
    ] in
    go ((b.client.0 == a) && (b.service == v)) refl some

-- where each actor has no more connections to a service than its budget
pub services-known : (s : System) (b : SpmState) → ((a v : ℕ) → in_use b a v ≤ allowed s a v) → All (λ c. c.service < length s.services) b.connections
services-known s b within = λ k d lt.
    let c : OpenConnection = get_or b.connections k d in
    let own : bit ((c.client.0 == c.client.0) && (c.service == c.service)) ≡ 1 = itself c.client.0 c.service in
    budget-service s c.client.0 c.service s.budgets (budgets_between_actors s)
    (omega (arith, own, member-counts (λ x. (x.client.0 == c.client.0) && (x.service == c.service)) b.connections k d lt, within c.client.0 c.service)) where
      itself : (a v : ℕ) → bit ((a == a) && (v == v)) ≡ 1
      itself a v = grind arith
