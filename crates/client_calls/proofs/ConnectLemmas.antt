-- psa_connect, where it issues a connection.
use Rattle.std.proofs.Common.{ℕ, ◌≡◌, ◌≤◌, ◌+◌, ◌==◌, true, false, length, arith, ◌∙◌, ap, refl}
use Rattle.std.specs.Prelude.{Option, Some}
use Rattle.std.specs.Option.{unwrap_or}
use Rattle.ffm_model.specs.declared.machine.Outcome.TheVariants.{Blocked as Blocks}
use Rattle.ffm_model.specs.declared.machine.Sid.{Sid}
use Rattle.ffm_model.specs.declared.objects.ActorPhase.TheVariants.{Running}
use Rattle.ffm_model.specs.declared.system.System.{System}
use Rattle.ffm_model.specs.Actors.{budget_of, is_stateless, service_at}
use Rattle.ffm_model.specs.State.{SpmState, in_use, phase_of}
use Rattle.ffm_model.specs.ClientCalls.{connect_issued, is_service_panicked, move, psa_connect, takes_version}
use Rattle.ffm_model.specs.Names.{capacity, message_capacity}
use Rattle.law_counting.specs.Objects.{ObjectsFit, allowed}
use Rattle.law_counting.proofs.Rooms.{connect-room}

-- the budget isn't used up
below-budget : (s : System) (b : SpmState) (a v n : ℕ) → budget_of s a v ≡ Some n → (in_use b a v ≡ n → ⊥) → (in_use b a v == allowed s a v) ≡ false
below-budget s b a v n budget free = ap (λ (o : Option ℕ). in_use b a v == unwrap_or o 0) budget ∙ differ (in_use b a v) n free where
  differ : (k m : ℕ) → (k ≡ m → ⊥) → (k == m) ≡ false
  differ k m apart = grind arith

pub connect-rooms : (s : System) (b : SpmState) (a v n : ℕ) → ObjectsFit s b → phase_of b a ≡ Running → budget_of s a v ≡ Some n → (in_use b a v ≡ n → ⊥)
    → (length b.connections + 1 ≤ capacity s) × (length b.messages + 1 ≤ message_capacity s)
connect-rooms s b a v n fit running budget free = connect-room s b a v fit running (below-budget s b a v n budget free)

pub connect-issues : (s : System) (b : SpmState) (a asked v n : ℕ) (sid : Sid) → service_at s sid ≡ Some v → budget_of s a v ≡ Some n → is_stateless s v ≡ false → takes_version s v asked ≡ true → is_service_panicked s b v ≡ false
    → (in_use b a v ≡ n → ⊥) → psa_connect s b a sid asked ≡ Some (move Blocks (connect_issued b a v))
connect-issues s b a asked v n sid place budget connected takes alive free =
    let below : (in_use b a v == allowed s a v) ≡ false = below-budget s b a v n budget free in
    rw (place, connected, takes, alive, below, budget) refl
