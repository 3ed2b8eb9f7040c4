-- The service of a connection, and one that takes a version, is among the system's.
use Rattle.std.proofs.Common.{ℕ, ◌≡◌, ◌<◌, ◌≤◌, ◌+◌, ◌==◌, Bool, true, false, not, ◌&&◌, length, arith, ◌∙◌, ap, refl}
use Rattle.std.specs.Prelude.{find, Option, Some, None, nat_lt, slice_get}
use Rattle.std.specs.Option.{option_map, option_map_or, unwrap_or}
use Rattle.std.proofs.lemmas.List.{length-map}
use Rattle.std.proofs.lemmas.Option.{slice_get_within}
use Rattle.std.proofs.lemmas.Bool.{and_parts, eqb-true}
use Rattle.law_lists.proofs.Counts.{bit, count-found}
use Rattle.law_lists.proofs.Tests.{find-list_all, find-passes}
use Rattle.ffm_model.specs.declared.system.Budget.{Budget}
use Rattle.ffm_model.specs.declared.system.Service.{Service}
use Rattle.ffm_model.specs.declared.system.System.{System}
use Rattle.ffm_model.specs.declared.objects.OpenConnection.{OpenConnection}
use Rattle.ffm_model.specs.Actors.{is_stateless, version_fits}
use Rattle.ffm_model.specs.ClientCalls.{takes_version}
use Rattle.ffm_model.specs.State.{SpmState, in_use}
use Rattle.ffm_model.proofs.WellFormedLemmas.{is_between_actors, budgets_between_actors}
use Rattle.law_counting.specs.Objects.{ObjectsFit, allowed}
use Rattle.spm_tables.specs.TablesView.{TablesView, MadeFor, Shape, service_signal}

there : (s : System) (b : Budget) → is_between_actors s b ≡ true → b.service < length s.services
there s b e =
    let parts = and_parts (nat_lt b.client.0 (length s.partitions + length s.clients)) _ e in
    let go : (o : Option Service) → slice_get s.services b.service ≡ o → option_map_or (λ v. not (v.owner == b.client.0)) o false ≡ true → b.service < length s.services =
    elim [ None ↦ λ f g. cc | Some v ↦ λ f g. slice_get_within s.services b.service v f ] in
    go (slice_get s.services b.service) refl parts.1

allowed-service : (s : System) (a v : ℕ) → 1 ≤ allowed s a v → v < length s.services
allowed-service s a v some =
    let test : Budget → Bool = λ b. (b.client.0 == a) && (b.service == v) in
    let go : (o : Option Budget) → find test s.budgets ≡ o → 1 ≤ unwrap_or (option_map (λ b. b.count) o) 0 → v < length s.services =
    elim [
      | None ↦ λ f g. absurd (omega arith)
      | Some b ↦ λ f g.
          let same : b.service ≡ v = eqb-true b.service v (and_parts (b.client.0 == a) (b.service == v) (find-passes test s.budgets b f)).1 in
          omega (arith, there s b (find-list_all test (is_between_actors s) s.budgets b f (budgets_between_actors s)))
    ] in
    go (find test s.budgets) refl some

-- that of a connection
pub connection-service : (s : System) (b : SpmState) (q : OpenConnection → Bool) (c : OpenConnection) → ObjectsFit s b → find q b.connections ≡ Some c → c.service < length s.services
connection-service s b q c fit f =
    let between : OpenConnection → Bool = λ d. (d.client.0 == c.client.0) && (d.service == c.service) in
    let itself : bit (between c) ≡ 1 = ap bit (own c.client.0 c.service) in
    let counted : bit (between c) ≤ in_use b c.client.0 c.service = count-found q between b.connections c f in
    allowed-service s c.client.0 c.service (omega (arith, fit.budgets c.client.0 c.service)) where
      own : (k m : ℕ) → ((k == k) && (m == m)) ≡ true
      own k m = grind arith

-- one that takes a version
pub taking-service : (s : System) (i asked : ℕ) → takes_version s i asked ≡ true → i < length s.services
taking-service s i asked takes =
    let go : (o : Option Service) → slice_get s.services i ≡ o → option_map_or (λ v. version_fits v.policy v.version asked) o false ≡ true → i < length s.services =
    elim [ None ↦ λ f g. cc | Some v ↦ λ f g. slice_get_within s.services i v f ] in
    go (slice_get s.services i) refl takes

-- tables have as many services as the system that they were made for
pub made-services : (d : TablesView) (s : System) → MadeFor d s → length d.services ≡ length s.services
made-services d s made = ap (λ (x : Shape). length x.services) made ∙ length-map s.services service_signal

-- a stateless one
pub stateless-service : (s : System) (i : ℕ) → is_stateless s i ≡ true → i < length s.services
stateless-service s i stateless =
    let go : (o : Option Service) → slice_get s.services i ≡ o → option_map_or (λ v. not (v.stateless == 0)) o false ≡ true → i < length s.services =
    elim [ None ↦ λ f g. cc | Some v ↦ λ f g. slice_get_within s.services i v f ] in
    go (slice_get s.services i) refl stateless
