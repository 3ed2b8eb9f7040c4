-- The calls on doorbells and interrupts, and the interrupts that the device raises: what each answers and leaves, or nothing where the call is a PROGRAMMER ERROR.
-- Source: FF-M 1.0, `psa/service.h`, psa_notify, psa_clear and psa_eoi; FF-M 1.1, psa_irq_enable, psa_irq_disable, psa_reset_signal and first-level handlers, in this project's profile.
use Rattle.std.specs.Prelude.{ℕ, ℤ, pos, negsuc, ◌-◌, ◌==◌, int_le, nat_lt, nat_le, Bool, true, false, not, ◌&&◌, ◌||◌, if◌then◌else◌, length, Some, None, Option, position, get_or, slice_get, slice_set}
use Rattle.std.specs.Option.{option_map, option_map_or}
use Rattle.ffm_model.specs.declared.machine.Outcome.TheVariants.{Number, Done}
use Rattle.ffm_model.specs.declared.objects.SourceFlags.{SourceFlags}
use Rattle.ffm_model.specs.declared.system.System.{System}
use Rattle.ffm_model.specs.Binding.{◌>>=◌}
use Rattle.ffm_model.specs.ClientCalls.{Move, move}
use Rattle.ffm_model.specs.State.{SpmState, flags_at}

-- ---- psa_notify() and psa_clear()

-- the place of the partition with an ID
abbrev pub place_of_id : ℤ → ℕ
place_of_id (pos n) = n - 1
place_of_id (negsuc n) = 0

abbrev pub with_doorbell : SpmState → ℕ → Bool → SpmState
with_doorbell b p set = record b { doorbells = slice_set b.doorbells p set }

-- a PROGRAMMER ERROR where no partition has the ID
abbrev pub psa_notify : System → SpmState → ℤ → Option Move
psa_notify s b id = if int_le (pos 1) id && int_le id (pos (length s.partitions)) then Some (move Done (with_doorbell b (place_of_id id) true)) else None

-- a PROGRAMMER ERROR where the doorbell isn't asserted
abbrev pub psa_clear : SpmState → ℕ → Option Move
psa_clear b a = if get_or b.doorbells a false then Some (move Done (with_doorbell b a false)) else None

-- ---- psa_eoi(), and the interrupts that it ends

-- the interrupt source of the partition that has the signal
abbrev pub source_of_signal : System → ℕ → ℕ → Option ℕ
source_of_signal s a signal = position (λ v. (v.owner == a) && (v.signal == signal)) s.sources

-- its handling: a first-level handler (FLIH) takes each interrupt at once, a second-level one (SLIH) one after the other
abbrev pub has_flih : System → ℕ → Bool
has_flih s i = option_map_or (λ x. x.flih) (slice_get s.sources i) false

-- an enabled source that is pending asserts its signal: with SLIH as soon as that is clear, with FLIH in any case
abbrev pub forwarded : Bool → SourceFlags → SourceFlags
forwarded flih f = if f.enabled && (f.pending && (flih || not f.asserted)) then record f { pending = false; asserted = true } else f

abbrev pub with_flags : SpmState → ℕ → SourceFlags → SpmState
with_flags b i f = record b { sources = slice_set b.sources i f }

-- the flags of a source are set, and then its interrupts forwarded
abbrev pub with_forwarded : System → SpmState → ℕ → SourceFlags → SpmState
with_forwarded s b i f = with_flags b i (forwarded (has_flih s i) f)

-- a PROGRAMMER ERROR where it isn't the asserted signal of one of the partition's sources with SLIH
abbrev pub psa_eoi : System → SpmState → ℕ → ℕ → Option Move
psa_eoi s b a signal = do
  i ← source_of_signal s a signal
  if (flags_at b i).asserted && not (has_flih s i) then Some (move Done (with_forwarded s b i (record (flags_at b i) { asserted = false }))) else None

-- ---- psa_reset_signal(), for a source with FLIH

abbrev pub psa_reset_signal : System → SpmState → ℕ → ℕ → Option Move
psa_reset_signal s b a signal = do
  i ← source_of_signal s a signal
  if (flags_at b i).asserted && has_flih s i then Some (move Done (with_flags b i (record (flags_at b i) { asserted = false }))) else None

-- ---- psa_irq_enable() and psa_irq_disable()

-- what came while it was disabled is forwarded, but not for a source without first-level handler while its signal is asserted
abbrev pub psa_irq_enable : System → SpmState → ℕ → ℕ → Option Move
psa_irq_enable s b a signal = option_map (λ i. move Done (with_forwarded s b i (record (flags_at b i) { enabled = true }))) (source_of_signal s a signal)

-- an asserted signal stays; it answers whether the source was enabled
abbrev pub psa_irq_disable : System → SpmState → ℕ → ℕ → Option Move
psa_irq_disable s b a signal =
    option_map (λ i. move (Number (if (flags_at b i).enabled then 1 else 0)) (with_flags b i (record (flags_at b i) { enabled = false }))) (source_of_signal s a signal)

-- ---- interrupts, which the simulator adds to the two headers

-- an interrupt of the source
abbrev pub interrupted : System → SpmState → ℕ → SpmState
interrupted s b source = with_forwarded s b source (record (flags_at b source) { pending = true })

-- an interrupt of a source with SLIH
abbrev pub raise : System → SpmState → ℕ → Option Move
raise s b source = if nat_lt source (length s.sources) && not (has_flih s source) then Some (move Done (interrupted s b source)) else None

-- an interrupt of a source with FLIH, whose handler answers 1 where the partition is to be told
abbrev pub fire : System → SpmState → ℕ → ℕ → Option Move
fire s b source result =
    if nat_lt source (length s.sources) && (has_flih s source && nat_le result 1)
    then Some (move Done (if result == 1 then interrupted s b source else b))
    else None
