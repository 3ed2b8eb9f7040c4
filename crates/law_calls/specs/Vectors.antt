-- What holds of the vectors of a state's messages.
-- Source: FF-M 1.0, `psa/client.h`, psa_invec, psa_outvec and PSA_MAX_IOVEC; `psa/service.h`, psa_msg_t.
use Rattle.std.specs.Prelude.{◌≡◌, length, All}
use Rattle.ffm_model.specs.declared.system.System.{System}
use Rattle.ffm_model.specs.declared.objects.Vectors.{Vectors}
use Rattle.ffm_model.specs.State.{SpmState}
use Rattle.ffm_model.specs.Ranges.{ranges_of}
use Rattle.machine_rules.specs.Vectors.{AreWithin}

-- four input and four output vectors, of which those that aren't given have length 0
pub record AreFour (vectors : Vectors) : Type 0 where
  pub inputs : length vectors.input ≡ 4
  pub outputs : length vectors.output ≡ 4

-- each message has four and four
abbrev pub HaveFour : SpmState → Type 0
HaveFour b = All (λ p. AreFour p.vectors) b.messages

-- each message's vectors meet the condition on vectors in the system's regions
abbrev pub LieWithin : System → SpmState → Type 0
LieWithin s b = All (λ p. AreWithin (ranges_of s.regions) p.vectors) b.messages
