-- What becomes of the vectors that a partition's script maps, in each run of the machine.
-- Source: FF-M 1.1, mapped vectors (MM-IOVEC); in this simulator a mapped vector's bytes stand in a window of the partition's own RAM.
use Rattle.std.specs.Prelude.{ℕ, ◌≡◌, ◌+◌, ◌*◌, ◌<◌, ◌≤◌, true, false, List, [], ◌∷◌, ◌++◌, length, Option, Some, slice_get}
use Rattle.ffm_model.specs.declared.system.System.{System}
use Rattle.ffm_model.specs.declared.machine.Handle.{Handle}
use Rattle.ffm_model.specs.declared.machine.Status.{Status}
use Rattle.ffm_model.specs.declared.machine.Entry.{Entry}
use Rattle.ffm_model.specs.declared.machine.Outcome.{Outcome}
use Rattle.ffm_model.specs.declared.machine.Call.TheVariants as call
use Rattle.ffm_model.specs.declared.machine.Outcome.TheVariants as outcome
use Rattle.ffm_model.specs.declared.objects.PendingMessage.{PendingMessage}
use Rattle.ffm_model.specs.declared.script.Operand.{Operand}
use Rattle.ffm_model.specs.declared.script.MapName.TheVariants.{MapIn, UnmapOut}
use Rattle.ffm_model.specs.declared.script.Instruction.{Instruction}
use Rattle.ffm_model.specs.declared.script.Instruction.TheVariants as line
use Rattle.ffm_model.specs.Memory.{ByteMap, bytes_at, low_bytes}
use Rattle.ffm_model.specs.State.{State, message_held}
use Rattle.ffm_model.specs.ServiceCalls.{input_at, output_at}
use Rattle.ffm_model.specs.Step.{Run, after, step}
use Rattle.ffm_model.specs.Plans.{PlanRun, engine_after}
use Rattle.ffm_model.specs.Records.{entries_of, outcomes_of}
use Rattle.ffm_model.specs.Held.{HeldMessage, VectorState, held, holder_of, input_window, is_mapped, is_or_was_mapped, output_window, vector_at}
use Rattle.ffm_model.specs.HeldPlans.{Holding, holding_none, held_arrived, held_engine, held_plan}

-- the last event of a run, by a partition whose entries are a run of its script's plan
pub record IsEvent (s : System) (m : ByteMap) (a : ℕ) (script : List Instruction) (es : List Entry) (e : Entry) (old new : State) : Type 0 where
  pub partition : a < length s.partitions
  pub own : e.actor.0 ≡ a
  -- the state before the event and the one after it
  pub before : after s m es ≡ Some old
  pub behind : step s old e ≡ Some new
  pub run : PlanRun (held_plan (holder_of s a) script) (entries_of a (es ++ e ∷ []))

-- in each run, each event of such a partition is one, since each beginning of a run is a run
abbrev pub EachIsEvent : Type 0
EachIsEvent = (s : System) (m : ByteMap) (a : ℕ) (script : List Instruction) (es : List Entry) (e : Entry) (later : List Entry) → a < length s.partitions → e.actor.0 ≡ a → Run s m (es ++ e ∷ later)
    → PlanRun (held_plan (holder_of s a) script) (entries_of a (es ++ e ∷ later)) → (old : State) × (new : State) × IsEvent s m a script es e old new

-- where the script stands after the entries when it makes its next call, and the line there
abbrev pub standing_at : System → ℕ → List Instruction → List Entry → Holding
standing_at s a script es = held_arrived (holder_of s a) script (engine_after (held_engine (holder_of s a) script) holding_none (outcomes_of (entries_of a es)))

abbrev pub line_at : System → ℕ → List Instruction → List Entry → Option Instruction
line_at s a script es = slice_get script (standing_at s a script es).at.place

-- the psa_read of map_in: it answers the vector's size, and then the window holds the bytes that the client's vector held
pub record IsCopiedIn (s : System) (a : ℕ) (h : Handle) (index buffer : ℕ) (o : Outcome) (old new : State) : Type 0 where
  pub message : PendingMessage
  pub held : message_held s old.spm a h ≡ Some message
  pub window : buffer ≡ input_window (holder_of s a) index
  pub answered : o ≡ outcome.Number (input_at message index).len
  pub copied : bytes_at new.memory buffer (input_at message index).len ≡ bytes_at old.memory (input_at message index).base (input_at message index).len

-- the psa_write of unmap_out: it is Done, and then the first len bytes of the client's vector are those that the window held
pub record IsCopiedOut (s : System) (a : ℕ) (h : Handle) (index buffer len : ℕ) (o : Outcome) (old new : State) : Type 0 where
  pub message : PendingMessage
  pub held : message_held s old.spm a h ≡ Some message
  pub window : buffer ≡ output_window (holder_of s a) index
  pub fits : len ≤ (output_at message index).len
  pub answered : o ≡ outcome.Done
  pub copied : bytes_at new.memory (output_at message index).base len ≡ bytes_at old.memory buffer len

-- after the entries, an unmap_out of the handle's output vector has copied len bytes
pub record WasUnmapped (s : System) (a : ℕ) (script : List Instruction) (es : List Entry) (h : Handle) (index len : ℕ) : Type 0 where
  pub earlier : List Entry
  pub entry : Entry
  pub later : List Entry
  pub operands : List Operand
  pub buffer : ℕ
  pub place : es ≡ earlier ++ entry ∷ later
  pub own : entry.actor.0 ≡ a
  pub is_line : line_at s a script earlier ≡ Some (line.Map UnmapOut operands)
  pub is_write : entry.call ≡ call.Write h index buffer len

-- where the client's psa_outvec of an output vector has its length
abbrev pub length_word : PendingMessage → ℕ → ℕ
length_word m index = m.vectors.out_vec + 8 * index + 4

-- right after the psa_reply the client's length word of an output vector in the state u has len, its lowest byte first
pub record IsLengthTold (s : System) (a : ℕ) (script : List Instruction) (es : List Entry) (h : Handle) (index : ℕ) (u : VectorState) (old new : State) : Type 0 where
  pub message : PendingMessage
  pub held : message_held s old.spm a h ≡ Some message
  pub len : ℕ
  pub word : bytes_at new.memory (length_word message index) 4 ≡ low_bytes 4 len
  -- 0 where the vector is still mapped
  pub still : is_mapped u ≡ true → len ≡ 0
  -- else what its unmap_out has copied
  pub unmapped : is_mapped u ≡ false → WasUnmapped s a script es h index len
  -- and no other unmap_out of it has copied anything else
  pub only : (n : ℕ) → WasUnmapped s a script es h index n → n ≡ len

-- in each run, wherever a map_in makes its psa_read
abbrev pub InputsAreCopied : Type 0
InputsAreCopied = (s : System) (m : ByteMap) (a : ℕ) (script : List Instruction) (es : List Entry) (e : Entry) (old new : State) (operands : List Operand) (h : Handle) (index buffer len : ℕ)
    → IsEvent s m a script es e old new → line_at s a script es ≡ Some (line.Map MapIn operands) → e.call ≡ call.Read h index buffer len → IsCopiedIn s a h index buffer e.outcome old new

-- in each run, wherever an unmap_out makes its psa_write
abbrev pub OutputsAreCopied : Type 0
OutputsAreCopied = (s : System) (m : ByteMap) (a : ℕ) (script : List Instruction) (es : List Entry) (e : Entry) (old new : State) (operands : List Operand) (h : Handle) (index buffer len : ℕ)
    → IsEvent s m a script es e old new → line_at s a script es ≡ Some (line.Map UnmapOut operands) → e.call ≡ call.Write h index buffer len → IsCopiedOut s a h index buffer len e.outcome old new

-- in each run, wherever a message is answered, for each of its output vectors that was mapped
abbrev pub LengthsAreTold : Type 0
LengthsAreTold = (s : System) (m : ByteMap) (a : ℕ) (script : List Instruction) (es : List Entry) (e : Entry) (old new : State) (h : Handle) (status : Status) (x : HeldMessage) (index : ℕ)
    → IsEvent s m a script es e old new → e.call ≡ call.Reply h status → e.outcome ≡ outcome.Done → held (standing_at s a script es).table h ≡ Some x → is_or_was_mapped (vector_at x.output index).state ≡ true
    → IsLengthTold s a script es h index (vector_at x.output index).state old new

-- ---- at each event of a run

-- an event of the partition among the entries: the entries before it, the state before it, and the one after it
pub record IsOwnEvent (s : System) (m : ByteMap) (a : ℕ) (es earlier : List Entry) (e : Entry) (old new : State) : Type 0 where
  pub later : List Entry
  pub split : es ≡ earlier ++ e ∷ later
  pub own : e.actor.0 ≡ a
  pub before : after s m earlier ≡ Some old
  pub behind : step s old e ≡ Some new

-- what the entries keep, from that memory on, of the vectors that the partition's script maps
pub record KeepsWindows (s : System) (m : ByteMap) (a : ℕ) (script : List Instruction) (es : List Entry) : Type 0 where
  -- wherever a map_in makes its psa_read
  pub inputs : (earlier : List Entry) (e : Entry) (old new : State) (operands : List Operand) (h : Handle) (index buffer len : ℕ) → IsOwnEvent s m a es earlier e old new
      → line_at s a script earlier ≡ Some (line.Map MapIn operands) → e.call ≡ call.Read h index buffer len → IsCopiedIn s a h index buffer e.outcome old new
  -- wherever an unmap_out makes its psa_write
  pub outputs : (earlier : List Entry) (e : Entry) (old new : State) (operands : List Operand) (h : Handle) (index buffer len : ℕ) → IsOwnEvent s m a es earlier e old new
      → line_at s a script earlier ≡ Some (line.Map UnmapOut operands) → e.call ≡ call.Write h index buffer len → IsCopiedOut s a h index buffer len e.outcome old new
  -- wherever a message is answered, for each of its output vectors that was mapped
  pub lengths : (earlier : List Entry) (e : Entry) (old new : State) (h : Handle) (status : Status) (x : HeldMessage) (index : ℕ) → IsOwnEvent s m a es earlier e old new
      → e.call ≡ call.Reply h status → e.outcome ≡ outcome.Done → held (standing_at s a script earlier).table h ≡ Some x → is_or_was_mapped (vector_at x.output index).state ≡ true
      → IsLengthTold s a script earlier h index (vector_at x.output index).state old new

-- of each partition whose entries are a run of its script's plan
abbrev pub RunsKeepWindows : Type 0
RunsKeepWindows = (s : System) (m : ByteMap) (a : ℕ) (script : List Instruction) (es : List Entry) → a < length s.partitions → PlanRun (held_plan (holder_of s a) script) (entries_of a es) → KeepsWindows s m a script es
