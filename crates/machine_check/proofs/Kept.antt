-- The machine stays the system's where its messages stay fitting.
use Rattle.std.proofs.Common.{ℕ, List}
use Rattle.std.specs.Prelude.{Result, Ok, Err, IfOk}
use Rattle.ffm_model.specs.declared.system.System.{System}
use Rattle.machine_calls.specs.declared.machine.Machine.{Machine}
use Rattle.machine_calls.specs.declared.machine.Objects.{Objects}
use Rattle.machine_calls.specs.Machine.{MessagesFit, IsMachineOf}

pub kept_with : (s : System) (m : Machine) (o : Objects) → IsMachineOf s m → ((regions : List (ℕ × ℕ)) → MessagesFit regions m.objects → MessagesFit regions o) → IsMachineOf s (record m { objects = o })
kept_with s m o k fits = record { regions = k.regions; messages = fits _ k.messages }

-- whatever the answer
pub if_ok : {R E : Type 0} (r : Result R E) (P : Type 0) → P → IfOk r (λ x. P)
if_ok (Ok x) P p = p
if_ok (Err e) P p = tt

pub kept_after : {R E : Type 0} (r : Result R E) (s : System) (m : Machine) (o : Objects) → IsMachineOf s m → ((regions : List (ℕ × ℕ)) → MessagesFit regions m.objects → MessagesFit regions o)
    → IfOk r (λ x. IsMachineOf s (record m { objects = o }))
kept_after r s m o k fits = if_ok r (IsMachineOf s (record m { objects = o })) (kept_with s m o k fits)
