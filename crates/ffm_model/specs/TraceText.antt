-- The text of a trace: one line for each entry, as `ACTOR CALL -> OUTCOME`, and a last line for the verdict. Words are separated by one space, and each line ends with a line feed.
-- Source: this simulator's trace format. The calls and the message are those of FF-M 1.0 (`psa/client.h`, `psa/service.h`), with their arguments in the order of the headers.
use Rattle.std.specs.Prelude.{◌≡◌, ℕ, zero, suc, ℤ, ◌+◌, ◌-◌, ◌/◌, ◌%◌, ◌^◌, ◌<◌, nat_lt, true, false, if◌then◌else◌, List, [], ◌∷◌, ◌++◌, length, slice_index, map, codes, FitsSigned}
use Rattle.std.specs.Int.{w32}
use Rattle.std.specs.Fmt.{decimal, signed_decimal}
use Rattle.std.specs.List.{flat_map, AllByRecursion}
use Rattle.ffm_model.specs.declared.machine.Call.{Call}
use Rattle.ffm_model.specs.declared.machine.Call.TheVariants as call
use Rattle.ffm_model.specs.declared.machine.Message.{Message}
use Rattle.ffm_model.specs.declared.machine.Outcome.{Outcome}
use Rattle.ffm_model.specs.declared.machine.Outcome.TheVariants as outcome
use Rattle.ffm_model.specs.declared.machine.Entry.{Entry}
use Rattle.ffm_model.specs.declared.machine.Verdict.{Verdict}
use Rattle.ffm_model.specs.declared.machine.Verdict.TheVariants.{Quiet, Stalled, Full}
use Rattle.ffm_model.specs.Counts.{ActorCounts}

-- the bytes of a word
abbrev pub Word : Type 0
Word = List ℕ

-- `0` to `9`, and then `a` to `f`
abbrev pub hexadecimal_digit : ℕ → ℕ
hexadecimal_digit d = if nat_lt d 10 then 48 + d else 97 + (d - 10)

-- so many digits of a number in base 16, the last ones
unfoldable pub hexadecimal_digits : ℕ → ℕ → List ℕ
hexadecimal_digits zero n = []
hexadecimal_digits (suc count) n = hexadecimal_digits count (n / 16) ++ hexadecimal_digit (n % 16) ∷ []

-- `0x` and eight digits in base 16
unfoldable pub hexadecimal_word : ℕ → Word
hexadecimal_word n = codes "0x" ++ hexadecimal_digits 8 n

-- a number of a line, and how it is written: in base 16, or in decimal without leading zeros
pub data Field : Type 0 where
  hexadecimal : ℕ → Field
  unsigned : ℕ → Field
  signed : ℤ → Field

abbrev pub field_word : Field → Word
field_word (hexadecimal n) = hexadecimal_word n
field_word (unsigned n) = decimal n
field_word (signed z) = signed_decimal z

-- names, and then numbers
pub record Phrase : Type 0 where
  pub names : List Word
  pub fields : List Field

abbrev pub phrase : List Word → List Field → Phrase
phrase names fields = record { names = names; fields = fields }

-- one name, and then numbers
abbrev pub named : Word → List Field → Phrase
named name fields = phrase (name ∷ []) fields

abbrev pub call_phrase : Call → Phrase
call_phrase call.FrameworkVersion = named (codes "framework_version") []
call_phrase (call.Version sid) = named (codes "version") (hexadecimal sid.0 ∷ [])
call_phrase (call.Connect sid version) = named (codes "connect") (hexadecimal sid.0 ∷ unsigned version ∷ [])
call_phrase (call.Invoke handle kind in_vec in_len out_vec out_len) =
    named (codes "call") (signed handle.0 ∷ signed kind ∷ hexadecimal in_vec ∷ unsigned in_len ∷ hexadecimal out_vec ∷ unsigned out_len ∷ [])
call_phrase (call.Close handle) = named (codes "close") (signed handle.0 ∷ [])
call_phrase (call.Wait mask timeout) = named (codes "wait") (hexadecimal mask ∷ hexadecimal timeout ∷ [])
call_phrase (call.Get signal msg) = named (codes "get") (hexadecimal signal ∷ hexadecimal msg ∷ [])
call_phrase (call.SetRhandle handle rhandle) = named (codes "set_rhandle") (signed handle.0 ∷ hexadecimal rhandle ∷ [])
call_phrase (call.Read handle index buffer len) = named (codes "read") (signed handle.0 ∷ unsigned index ∷ hexadecimal buffer ∷ unsigned len ∷ [])
call_phrase (call.Skip handle index len) = named (codes "skip") (signed handle.0 ∷ unsigned index ∷ unsigned len ∷ [])
call_phrase (call.Write handle index buffer len) = named (codes "write") (signed handle.0 ∷ unsigned index ∷ hexadecimal buffer ∷ unsigned len ∷ [])
call_phrase (call.Reply handle status) = named (codes "reply") (signed handle.0 ∷ signed status.0 ∷ [])
call_phrase (call.Notify partition) = named (codes "notify") (signed partition ∷ [])
call_phrase call.Clear = named (codes "clear") []
call_phrase (call.Eoi signal) = named (codes "eoi") (hexadecimal signal ∷ [])
call_phrase (call.IrqEnable signal) = named (codes "irq_enable") (hexadecimal signal ∷ [])
call_phrase (call.IrqDisable signal) = named (codes "irq_disable") (hexadecimal signal ∷ [])
call_phrase (call.ResetSignal signal) = named (codes "reset_signal") (hexadecimal signal ∷ [])
call_phrase call.Panic = named (codes "panic") []
call_phrase (call.Load address size) = named (codes "load") (hexadecimal address ∷ unsigned size ∷ [])
call_phrase (call.Store address size value) = named (codes "store") (hexadecimal address ∷ unsigned size ∷ hexadecimal value ∷ [])
call_phrase (call.Raise source) = named (codes "raise") (unsigned source ∷ [])
call_phrase (call.Fire source result) = named (codes "fire") (unsigned source ∷ unsigned result ∷ [])
call_phrase (call.Stop false) = phrase (codes "stop" ∷ codes "end" ∷ []) []
call_phrase (call.Stop true) = phrase (codes "stop" ∷ codes "spent" ∷ []) []
call_phrase call.Resume = named (codes "resume") []

-- the sizes of a message's four vectors
abbrev pub size_fields : List ℕ → List Field
size_fields sizes = map unsigned sizes

-- what stands before a message's sizes
abbrev pub message_front : Message → List Field
message_front m = signed m.kind ∷ signed m.handle.0 ∷ signed m.client_id ∷ hexadecimal m.rhandle ∷ []

unfoldable pub message_phrase : Message → Phrase
message_phrase m = named (codes "message") (message_front m ++ (size_fields m.in_size ++ size_fields m.out_size))

abbrev pub outcome_phrase : Outcome → Phrase
outcome_phrase (outcome.Value z) = named (codes "value") (signed z ∷ [])
outcome_phrase (outcome.Number n) = named (codes "number") (unsigned n ∷ [])
outcome_phrase (outcome.Signals n) = named (codes "signals") (hexadecimal n ∷ [])
outcome_phrase (outcome.Got m) = message_phrase m
outcome_phrase outcome.Blocked = named (codes "blocked") []
outcome_phrase outcome.Done = named (codes "done") []
outcome_phrase outcome.Panicked = named (codes "panicked") []

-- a word after a space
abbrev pub spaced : Word → List ℕ
spaced word = 32 ∷ word

abbrev pub spaced_field : Field → List ℕ
spaced_field field = spaced (field_word field)

abbrev pub spaced_phrase : Phrase → List ℕ
spaced_phrase p = flat_map spaced p.names ++ flat_map spaced_field p.fields

-- actors are numbered from 0: partitions, then non-secure clients, then the device
abbrev pub IsActorOf : ActorCounts → ℕ → Type 0
IsActorOf counts actor = actor < counts.partitions + counts.clients + (if counts.device then 1 else 0)

-- `p` and the partition ID, `n` and the client's number from 1, or `dev`
unfoldable pub actor_word : ActorCounts → ℕ → Word
actor_word counts actor =
    if nat_lt actor counts.partitions
    then codes "p" ++ decimal (actor + 1)
    else (if nat_lt actor (counts.partitions + counts.clients) then codes "n" ++ decimal (actor - counts.partitions + 1) else codes "dev")

-- a line without its line feed
unfoldable pub entry_text : ActorCounts → Entry → List ℕ
entry_text counts e =
    actor_word counts e.actor.0 ++ (spaced_phrase (call_phrase e.call) ++ (codes " ->" ++ spaced_phrase (outcome_phrase e.outcome)))

abbrev pub verdict_word : Verdict → Word
verdict_word Quiet = codes "quiet"
verdict_word Stalled = codes "stalled"
verdict_word Full = codes "full"

-- the last line without its line feed: the verdict, and how many entries there are
unfoldable pub verdict_text : Verdict → ℕ → List ℕ
verdict_text verdict count = verdict_word verdict ++ spaced (decimal count)

-- a text and its line feed
abbrev pub line : List ℕ → List ℕ
line text = text ++ 10 ∷ []

abbrev pub trace_text : ActorCounts → List Entry → Verdict → List ℕ
trace_text counts entries verdict = flat_map (λ e. line (entry_text counts e)) entries ++ line (verdict_text verdict (length entries))

-- a value of a u32
abbrev pub IsU32 : ℕ → Type 0
IsU32 n = n < 2 ^ 32

-- a value of an i32
abbrev pub IsI32 : ℤ → Type 0
IsI32 z = FitsSigned w32 z

abbrev pub FieldFits : Field → Type 0
FieldFits (hexadecimal n) = IsU32 n
FieldFits (unsigned n) = IsU32 n
FieldFits (signed z) = IsI32 z

abbrev pub CallFits : Call → Type 0
CallFits c = AllByRecursion FieldFits (call_phrase c).fields

abbrev pub AreFourSizes : List ℕ → Type 0
AreFourSizes sizes = (length sizes ≡ 4) × IsU32 (slice_index sizes 0) × IsU32 (slice_index sizes 1) × IsU32 (slice_index sizes 2) × IsU32 (slice_index sizes 3)

abbrev pub MessageFits : Message → Type 0
MessageFits m = AllByRecursion FieldFits (message_front m) × AreFourSizes m.in_size × AreFourSizes m.out_size

abbrev pub OutcomeFits : Outcome → Type 0
OutcomeFits (outcome.Value z) = IsI32 z
OutcomeFits (outcome.Number n) = IsU32 n
OutcomeFits (outcome.Signals n) = IsU32 n
OutcomeFits (outcome.Got m) = MessageFits m
OutcomeFits outcome.Blocked = Unit {0}
OutcomeFits outcome.Done = Unit {0}
OutcomeFits outcome.Panicked = Unit {0}

-- each number is a value of its field's type, and the actor is one of the system's: only such an entry has a text
pub record EntryFits (counts : ActorCounts) (e : Entry) : Type 0 where
  pub actor : IsActorOf counts e.actor.0
  pub call : CallFits e.call
  pub outcome : OutcomeFits e.outcome
