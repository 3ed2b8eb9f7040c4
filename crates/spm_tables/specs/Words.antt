-- The asserted signals of each partition, a word for each, kept beside what asserts them.
-- Source: FF-M 1.0, signals; `psa/service.h`, PSA_DOORBELL.
use Rattle.std.specs.Prelude.{◌≡◌, ℕ, ◌<◌, Bool, false, if◌then◌else◌, List, length, Option, Some, None, map, get_or, replicate, slice_get, slice_set, bit_or}
use Rattle.std.specs.Option.{option_map}
use Rattle.ffm_model.specs.declared.constants.TheConstants.{PSA_DOORBELL}
use Rattle.ffm_model.specs.declared.objects.SourceFlags.{SourceFlags}
use Rattle.ffm_model.specs.declared.system.System.{System}
use Rattle.ffm_model.specs.declared.system.Source.{Source}
use Rattle.ffm_model.specs.State.{no_flags}
use Rattle.ffm_model.specs.Signals.{union_of}
use Rattle.spm_tables.specs.declared.signals.OwnedSignal.{OwnedSignal}
use Rattle.spm_tables.specs.TablesView.{asserted, service_signal, source_signal}
use Rattle.spm_tables.specs.Queues.{QueuesView, has_waiting}

-- what asserts signals
pub record InputsView : Type 0 where
  -- whose the signal of each service is, and which
  pub services : List OwnedSignal
  -- and those of the interrupt sources
  pub sources : List OwnedSignal
  -- whether a message waits for each service
  pub waiting : List Bool
  pub doorbells : List Bool
  pub flags : List SourceFlags

-- the flags of an interrupt source at the start
abbrev pub first_flags : Source → SourceFlags
first_flags x = record { enabled = x.enabled; pending = false; asserted = false }

-- at the start of a system nothing does
abbrev pub opening_inputs : System → InputsView
opening_inputs s = record {
  services = map service_signal s.services;
  sources = map source_signal s.sources;
  waiting = replicate (length s.services) false;
  doorbells = replicate (length s.partitions) false;
  flags = map first_flags s.sources;
}

-- a partition's signals: of its services for which a message waits, of its doorbell if that rang, and of its asserted sources
abbrev pub word_of : InputsView → ℕ → ℕ
word_of s partition =
    bit_or (union_of (asserted (λ v. get_or s.waiting v false) s.services partition))
    (bit_or (if get_or s.doorbells partition false then PSA_DOORBELL else 0)
    (union_of (asserted (λ i. (get_or s.flags i no_flags).asserted) s.sources partition)))

-- the partition that has the signal of that place
abbrev pub owner_at : List OwnedSignal → ℕ → Option ℕ
owner_at xs place = option_map (λ x. x.owner) (slice_get xs place)

-- what a board keeps of its words: each partition has one, with its asserted signals
pub record KeepsWords (inputs : InputsView) (words : List ℕ) : Type 0 where
  pub counted : length words ≡ length inputs.doorbells
  pub right : (p : ℕ) → p < length words → get_or words p 0 ≡ word_of inputs p

-- the word of the partition, if one is meant, is made anew
abbrev pub with_word : Option ℕ → (ℕ → ℕ) → List ℕ → List ℕ
with_word None word words = words
with_word (Some p) word words = slice_set words p (word p)

-- what a board tells of the queues: for which services a message waits
pub record ShowsQueues (inputs : InputsView) (queues : QueuesView) : Type 0 where
  pub owned : length inputs.services ≡ queues.services
  pub told : length inputs.waiting ≡ queues.services
  pub right : (v : ℕ) → get_or inputs.waiting v false ≡ has_waiting queues.messages v
