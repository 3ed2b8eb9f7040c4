-- A partition, its services and its RAM, and whose a connection is.
use Rattle.std.proofs.Common.{ℕ, ◌+◌, ◌<◌, ◌≡◌, ◌==◌, Bool, true, false, length, ap, sym, ◌∙◌, arith}
use Rattle.std.specs.Prelude.{Option, Some, None, if◌then◌else◌, ◌&&◌, nat_lt, slice_get}
use Rattle.std.specs.Option.{option_map_or}
use Rattle.std.proofs.lemmas.Bool.{and_from, and_parts, eqb-true}
use Rattle.std.proofs.lemmas.Bool.Decides.{nat_tests}
use Rattle.ffm_model.specs.declared.system.ActorKind.TheVariants as kind
use Rattle.ffm_model.specs.declared.system.Class.{Class}
use Rattle.ffm_model.specs.declared.system.Class.TheVariants.{Ram}
use Rattle.ffm_model.specs.declared.system.Service.{Service}
use Rattle.ffm_model.specs.declared.system.System.{System}
use Rattle.ffm_model.specs.Actors.{is_partition, is_service_of, kind_of}
use Rattle.ffm_model.specs.Memory.{domain_of, is_ram_of}
use Rattle.ffm_model.specs.ServiceCalls.{service_of_signal}
use Rattle.ffm_model.specs.WellFormed.{is_ram_in}
use Rattle.law_counting.proofs.Events.{position-passes}
use Rattle.law_lists.proofs.Tests.{find-passes}
use Rattle.ffm_model.specs.declared.machine.Handle.{Handle}
use Rattle.ffm_model.specs.declared.objects.OpenConnection.{OpenConnection}
use Rattle.ffm_model.specs.State.{SpmState, connection_held, has_handle}

pub is-partition : (s : System) (a : ℕ) → a < length s.partitions → kind_of s a ≡ kind.Partition
is-partition s a inside =
    let yes : nat_lt a (length s.partitions) ≡ true = grind (arith, nat_tests) in
    ap (λ (b : Bool). if b then kind.Partition else (if nat_lt a (length s.partitions + length s.clients) then kind.Client else kind.Device)) yes

pub service-owned : (s : System) (a signal v : ℕ) → service_of_signal s a signal ≡ Some v → is_service_of s a v ≡ true
service-owned s a signal v found =
    let go : (o : Option Service) → option_map_or (λ v. (v.owner == a) && (v.signal == signal)) o false ≡ true → option_map_or (λ v. v.owner == a) o false ≡ true =
    elim [ None ↦ λ e. e | Some w ↦ λ e. (and_parts _ _ e).0 ] in
    go (slice_get s.services v) (position-passes _ s.services v found)

-- a service has one owner
pub owners-same : (o : Option Service) (x a : ℕ) → option_map_or (λ v. v.owner == x) o false ≡ true → option_map_or (λ v. v.owner == a) o false ≡ true → x ≡ a
owners-same None x a h g = cc
owners-same (Some v) x a h g = sym (eqb-true v.owner x h) ∙ eqb-true v.owner a g

pub own-ram : (s : System) (a domain : ℕ) (c : Class) → is_partition (kind_of s a) ≡ true → domain ≡ domain_of s a → is_ram_in domain c ≡ true → is_ram_of s a c ≡ true
own-ram s a domain (Ram d) partition own h = and_from (is_partition (kind_of s a)) (d == domain_of s a) partition (ap (λ (k : ℕ). d == k) (sym own) ∙ h)
own-ram s a domain _ partition own h = absurd (cc)

-- who holds a connection is its client
pub held-client : (b : SpmState) (a : ℕ) (h : Handle) (c : OpenConnection) → connection_held b a h ≡ Some c → c.client.0 ≡ a
held-client b a h c e = eqb-true c.client.0 a (and_parts _ _ (find-passes (λ (x : OpenConnection). (x.client.0 == a) && has_handle x.handle h) b.connections c e)).0
