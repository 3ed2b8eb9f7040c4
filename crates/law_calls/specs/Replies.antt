-- What a reply leaves to the manager: the panic that it owes is an effect of its own.
-- Source: FF-M 1.0, `psa/service.h`, psa_reply with PSA_ERROR_PROGRAMMER_ERROR; that the caller panics in the same event is this profile's.
use Rattle.std.specs.Prelude.{ℕ, ℤ, Some, None, Option, if◌then◌else◌}
use Rattle.std.specs.Option.{option_map}
use Rattle.ffm_model.specs.declared.machine.Handle.{Handle}
use Rattle.ffm_model.specs.declared.system.System.{System}
use Rattle.ffm_model.specs.ServiceCalls.{owes_panic, replied, reply_to}
use Rattle.ffm_model.specs.State.{SpmState}

-- what a reply leaves before any panic, and the partition that then has to panic
pub record Answered : Type 0 where
  pub spm : SpmState
  pub owing : Option ℕ

abbrev pub reply_on : System → SpmState → ℕ → Handle → ℤ → Option Answered
reply_on s b a h status =
    option_map (λ m. record { spm = replied s b h status m; owing = if owes_panic s m status then Some m.client.0 else None }) (reply_to s b a h status)
