-- The signals that a message asserts, and the signals that a mask has of a partition.
-- Source: FF-M 1.0, signals.
use Rattle.std.specs.Prelude.{ℕ, ◌==◌, ◌&&◌, Bool, if◌then◌else◌, List, is_none, slice_get}
use Rattle.std.specs.Option.{option_map_or}
use Rattle.ffm_model.specs.declared.system.Service.{Service}
use Rattle.ffm_model.specs.declared.objects.PendingMessage.{PendingMessage}
use Rattle.ffm_model.specs.Signals.{has_signal_of}

-- a message asserts the signal of its service while it waits for psa_get; another partition's is 0
abbrev pub asserted_by : List Service → ℕ → PendingMessage → ℕ
asserted_by services p m =
    if is_none m.handle
    then option_map_or (λ v. if v.owner == p then v.signal else 0) (slice_get services m.service) 0
    else 0

-- a signal is the partition's, and one of the mask
abbrev pub is_met : ℕ → ℕ → ℕ → ℕ → Bool
is_met owner signal p mask = (owner == p) && has_signal_of signal mask
