-- What the panic of a partition leaves of a connection, and the message that then closes it.
-- Source: FF-M 1.0, PROGRAMMER ERROR of a partition; `psa/service.h`, psa_panic.
use Rattle.std.specs.Prelude.{ℕ, ◌≡◌, Bool, true, false, Option, Some, None, option_and_then}
use Rattle.ffm_model.specs.declared.system.System.{System}
use Rattle.ffm_model.specs.declared.objects.OpenConnection.{OpenConnection}
use Rattle.ffm_model.specs.declared.objects.PendingMessage.{PendingMessage}
use Rattle.ffm_model.specs.Panic.{without_service, without_client, disconnection}

-- its services are gone, and then it is gone as a client
abbrev pub left_of : System → ℕ → OpenConnection → Option OpenConnection
left_of s p c = option_and_then (without_client p) (without_service s p c)

abbrev pub disconnection_left : System → ℕ → OpenConnection → Option PendingMessage
disconnection_left s p c = option_and_then (disconnection p) (without_service s p c)

-- an item stays exactly where something is left of it, and then as that
abbrev pub Leaves : Option OpenConnection → Bool → OpenConnection → Type 0
Leaves (Some kept) stays new = (stays ≡ true) × (new ≡ kept)
Leaves None stays new = stays ≡ false
