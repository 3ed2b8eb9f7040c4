-- A call that is Blocked and waits for an answer names a service of the system, and so has an arrow.
use Rattle.std.proofs.Common.{ℕ, ◌≡◌, ◌≤◌, ◌+◌, ◌==◌, Bool, true, false, ◌&&◌, length, arith, ◌∙◌, ap, refl, subst}
use Rattle.std.specs.Prelude.{ℤ, Option, Some, None, find, if◌then◌else◌, nat_lt, not, position, slice_get}
use Rattle.std.specs.List.{list_all}
use Rattle.std.specs.Option.{option_map, option_map_or, unwrap_or}
use Rattle.std.proofs.lemmas.Bool.{and_from, and_parts, eqb-true}
use Rattle.law_lists.proofs.Counts.{bit, count-found}
use Rattle.law_lists.proofs.Tests.{find-list_all, find-passes}
use Rattle.ffm_model.specs.declared.system.Budget.{Budget}
use Rattle.ffm_model.specs.declared.system.Service.{Service}
use Rattle.ffm_model.specs.declared.system.System.{System}
use Rattle.ffm_model.specs.declared.machine.Call.{Call}
use Rattle.ffm_model.specs.declared.machine.Call.TheVariants as call
use Rattle.ffm_model.specs.declared.machine.Handle.{Handle}
use Rattle.ffm_model.specs.declared.objects.OpenConnection.{OpenConnection}
use Rattle.ffm_model.specs.Actors.{owner_of, stateless_at, stateless_index}
use Rattle.ffm_model.specs.State.{SpmState, connection_held, has_handle, in_use}
use Rattle.ffm_model.proofs.WellFormedLemmas.{budgets_hold}
use Rattle.law_counting.proofs.Balance.{Balanced}
use Rattle.law_counting.proofs.Parts.{is_itself}
use Rattle.view_diagram.specs.Pairs.{Asks}
use Rattle.law_counting.proofs.Events.{position-passes}
use Rattle.law_counting.proofs.Owners.{held-client}

-- the service at a place has an owner
abbrev pub Owned : System → ℕ → Type 0
Owned s service = (p : ℕ) × (owner_of s service ≡ Some p)

owned-by : (s : System) (service : ℕ) (q : Service → Bool) (o : Option Service) → slice_get s.services service ≡ o → option_map_or q o false ≡ true → Owned s service
owned-by s service q None at e = cc
owned-by s service q (Some v) at e = (v.owner, ap (option_map (λ (x : Service). x.owner)) at)

position-owned : (s : System) (q : Service → Bool) (service : ℕ) → position q s.services ≡ Some service → Owned s service
position-owned s q service e = owned-by s service q (slice_get s.services service) refl (position-passes q s.services service e)

index-owned : (s : System) (index service : ℕ) (x : Bool) → (if x then None else position (λ (v : Service). v.stateless == index) s.services) ≡ Some service → Owned s service
index-owned s index service true e = cc
index-owned s index service false e = position-owned s (λ (v : Service). v.stateless == index) service e

budget-owned : (s : System) (a service : ℕ) (o : Option Budget) → find (λ (b : Budget). (b.client.0 == a) && (b.service == service)) s.budgets ≡ o → 1 ≤ unwrap_or (option_map (λ (b : Budget). b.count) o) 0 → Owned s service
budget-owned s a service None at some = absurd (omega (arith, some))
budget-owned s a service (Some b) at some =
    let n : ℕ = length s.partitions + length s.clients in
    let fits : Budget → Bool = λ (x : Budget). nat_lt x.client.0 n && option_map_or (λ (v : Service). not (v.owner == x.client.0)) (slice_get s.services x.service) false in
    let same : b.service ≡ service = eqb-true b.service service (and_parts (b.client.0 == a) (b.service == service) (find-passes (λ (x : Budget). (x.client.0 == a) && (x.service == service)) s.budgets b at)).1 in
    let all : list_all fits s.budgets ≡ true = (and_parts _ _ (and_parts _ _ (budgets_hold s)).0).0 in
    let passes : option_map_or (λ (v : Service). not (v.owner == b.client.0)) (slice_get s.services b.service) false ≡ true = (and_parts _ _ (find-list_all _ fits s.budgets b at all)).1 in
    subst (Owned s) same (owned-by s b.service (λ (v : Service). not (v.owner == b.client.0)) (slice_get s.services b.service) refl passes)

connection-owned : (s : System) (limit : Handle → ℕ) (b : SpmState) (a : ℕ) (h : Handle) (c : OpenConnection) → Balanced s limit b → connection_held b a h ≡ Some c → Owned s c.service
connection-owned s limit b a h c balanced held =
    let counted : OpenConnection → Bool = λ (x : OpenConnection). (x.client.0 == a) && (x.service == c.service) in
    let passes : counted c ≡ true = and_from (c.client.0 == a) (c.service == c.service) (ap (λ (x : ℕ). x == a) (held-client b a h c held) ∙ is_itself a) (is_itself c.service) in
    let used : 1 ≤ in_use b a c.service = omega (arith, count-found (λ (x : OpenConnection). (x.client.0 == a) && has_handle x.handle h) counted b.connections c held, ap bit passes) in
    budget-owned s a c.service _ refl (omega (arith, used, balanced.within a c.service))

held-owned : (s : System) (limit : Handle → ℕ) (b : SpmState) (a : ℕ) (h : Handle) (service : ℕ) (o : Option OpenConnection) → Balanced s limit b → connection_held b a h ≡ o → option_map (λ (c : OpenConnection). c.service) o ≡ Some service → Owned s service
held-owned s limit b a h service None balanced held e = cc
held-owned s limit b a h service (Some c) balanced held e = let same : c.service ≡ service = cc in subst (Owned s) same (connection-owned s limit b a h c balanced held)

handle-owned : (s : System) (limit : Handle → ℕ) (b : SpmState) (a : ℕ) (h : Handle) (service : ℕ) (i : Option ℕ) → Balanced s limit b → option_map_or (stateless_at s) i (option_map (λ (c : OpenConnection). c.service) (connection_held b a h)) ≡ Some service → Owned s service
handle-owned s limit b a h service None balanced e = held-owned s limit b a h service (connection_held b a h) balanced refl e
handle-owned s limit b a h service (Some index) balanced e = index-owned s index service (index == 0) e

pub asks-owned : (s : System) (limit : Handle → ℕ) (b : SpmState) (a : ℕ) (d : Call) (service : ℕ) (kind : ℤ) → Balanced s limit b → Asks s b a d service kind → Owned s service
asks-owned s limit b a (call.Connect sid version) service kind balanced asks = position-owned s (λ (v : Service). v.sid.0 == sid.0) service asks.0
asks-owned s limit b a (call.Invoke h k iv il ov ol) service kind balanced asks = handle-owned s limit b a h service (stateless_index h) balanced asks.0
asks-owned s limit b a (call.Close h) service kind balanced asks = held-owned s limit b a h service (connection_held b a h) balanced refl asks.0
asks-owned s limit b a d service kind balanced asks = absurd asks
