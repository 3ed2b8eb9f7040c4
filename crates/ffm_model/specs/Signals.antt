-- The signals of a partition, and which actors can go on.
-- Source: FF-M 1.0, signals; `psa/service.h`, psa_wait and PSA_DOORBELL.
use Rattle.std.specs.Prelude.{ℕ, ◌==◌, Bool, true, false, not, ◌&&◌, if◌then◌else◌, List, Some, None, map, filter, fold, bit_or, bit_and, get_or}
use Rattle.std.specs.List.{list_any, filter_map, enumerate_from}
use Rattle.ffm_model.specs.declared.constants.TheConstants.{PSA_DOORBELL}
use Rattle.ffm_model.specs.declared.system.System.{System}
use Rattle.ffm_model.specs.declared.objects.ActorPhase.{ActorPhase}
use Rattle.ffm_model.specs.declared.objects.ActorPhase.TheVariants.{Running, Blocked, Waiting, Ready, Connected, Panicked}
use Rattle.ffm_model.specs.State.{SpmState, is_undelivered, phase_of, flags_at}

abbrev pub union_of : List ℕ → ℕ
union_of words = fold bit_or 0 words

-- a service's signal is asserted exactly while a message waits for psa_get
abbrev pub has_undelivered : SpmState → ℕ → Bool
has_undelivered b service = list_any (is_undelivered service) b.messages

abbrev pub service_signals : System → SpmState → ℕ → List ℕ
service_signals s b p = filter_map (λ e. if (e.1.owner == p) && has_undelivered b e.0 then Some e.1.signal else None) (enumerate_from 0 s.services)

abbrev pub doorbell_signal : SpmState → ℕ → ℕ
doorbell_signal b p = if get_or b.doorbells p false then PSA_DOORBELL else 0

abbrev pub source_signals : System → SpmState → ℕ → List ℕ
source_signals s b p = filter_map (λ e. if (e.1.owner == p) && (flags_at b e.0).asserted then Some e.1.signal else None) (enumerate_from 0 s.sources)

-- the asserted signals of a partition
abbrev pub signals_of : System → SpmState → ℕ → ℕ
signals_of s b p = bit_or (union_of (service_signals s b p)) (bit_or (doorbell_signal b p) (union_of (source_signals s b p)))

-- the signals that a partition has at all
abbrev pub assigned_to : System → ℕ → ℕ
assigned_to s p = bit_or PSA_DOORBELL (bit_or (union_of (map (λ v. v.signal) (filter (λ v. v.owner == p) s.services))) (union_of (map (λ v. v.signal) (filter (λ v. v.owner == p) s.sources))))

abbrev pub has_signal_of : ℕ → ℕ → Bool
has_signal_of word mask = not (bit_and word mask == 0)

abbrev pub can_go_on : ActorPhase → ℕ → Bool
can_go_on Running signals = true
can_go_on (Ready o) signals = true
can_go_on (Connected c) signals = true
can_go_on (Waiting mask) signals = has_signal_of signals mask
can_go_on _ signals = false

-- an actor is enabled where it runs, its answer is there, or a signal came that it waits for
abbrev pub enabled : System → SpmState → ℕ → Bool
enabled s b a = can_go_on (phase_of b a) (signals_of s b a)

-- the actor's next event is the return of a call
abbrev pub may_resume : ActorPhase → Bool
may_resume (Ready o) = true
may_resume (Connected c) = true
may_resume (Waiting mask) = true
may_resume _ = false

abbrev pub is_blocked : ActorPhase → Bool
is_blocked Blocked = true
is_blocked _ = false

abbrev pub is_panicked : ActorPhase → Bool
is_panicked Panicked = true
is_panicked _ = false
