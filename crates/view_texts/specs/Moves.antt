-- The bytes that a trace moves between clients and services.
-- Source: FF-M 1.0: psa_read and psa_skip return how many bytes they moved, psa_write moves as many as it is asked to.
use Rattle.std.specs.Prelude.{ℕ, ◌+◌, ◌-◌, ◌^◌, ◌==◌, ◌&&◌, Bool, List, [], ◌∷◌, ◌++◌, get_or, min, slice_get, slice_set, take, zero, suc, Option, None, Some, option_and_then}
use Rattle.std.specs.List.{position}
use Rattle.std.specs.Option.{option_map_or}
use Rattle.ffm_model.specs.declared.machine.Call.{Call}
use Rattle.ffm_model.specs.declared.machine.Call.TheVariants as call
use Rattle.ffm_model.specs.declared.machine.Entry.{Entry}
use Rattle.ffm_model.specs.declared.machine.Handle.{Handle}
use Rattle.ffm_model.specs.declared.machine.Outcome.{Outcome}
use Rattle.ffm_model.specs.declared.machine.Outcome.TheVariants as outcome
use Rattle.ffm_model.specs.declared.objects.PendingMessage.{PendingMessage}
use Rattle.ffm_model.specs.declared.system.System.{System}
use Rattle.ffm_model.specs.Memory.{ByteMap}
use Rattle.ffm_model.specs.State.{SpmState, message_held}
use Rattle.ffm_model.specs.Step.{after}
use Rattle.view_texts.specs.declared.counts.Moved.{Moved}

-- ---- by one call

-- the handle of the message whose bytes a call moves
abbrev pub handle_in : Call → Option Handle
handle_in (call.Read h index buffer len) = Some h
handle_in (call.Skip h index len) = Some h
handle_in (call.Write h index buffer len) = Some h
handle_in _ = None

abbrev pub row : PendingMessage → ℕ → ℕ → ℕ → Moved
row m read skipped written =
    record { client = m.client.0; service = m.service; read = read; skipped = skipped; written = written }

-- the bytes of a message that a call moves with this outcome
abbrev pub bytes_moved : PendingMessage → Call → Outcome → Option Moved
bytes_moved m (call.Read h index buffer len) (outcome.Number n) = Some (row m n 0 0)
bytes_moved m (call.Skip h index len) (outcome.Number n) = Some (row m 0 n 0)
bytes_moved m (call.Write h index buffer len) outcome.Done = Some (row m 0 0 len)
bytes_moved _ _ _ = None

abbrev pub moved_of : Entry → PendingMessage → Option Moved
moved_of e m = bytes_moved m e.call e.outcome

abbrev pub moved_by : System → SpmState → Entry → Handle → Option Moved
moved_by s b e h = option_and_then (moved_of e) (message_held s b e.actor.0 h)

-- the bytes that an entry moves, which is a step after this state
abbrev pub move_of : System → SpmState → Entry → Option Moved
move_of s b e = option_and_then (moved_by s b e) (handle_in e.call)

-- ---- by all calls

-- a sum, as far as a u64 goes
abbrev pub sum_within : ℕ → ℕ → ℕ
sum_within a b = min (a + b) (2 ^ 64 - 1)

-- a row with another one's bytes
abbrev pub together : Moved → Moved → Moved
together row more = record row {
  read = sum_within row.read more.read;
  skipped = sum_within row.skipped more.skipped;
  written = sum_within row.written more.written;
}

abbrev pub is_same_way : Moved → Moved → Bool
is_same_way more row = (row.client == more.client) && (row.service == more.service)

abbrev pub add_at : List Moved → Moved → ℕ → List Moved
add_at rows more place = slice_set rows place (together (get_or rows place more) more)

-- more bytes, in the row of their client and service, or in a new one
unfoldable pub with_row : List Moved → Moved → List Moved
with_row rows more = option_map_or (add_at rows more) (position (is_same_way more) rows) (rows ++ more ∷ [])

abbrev pub with_move : List Moved → Option Moved → List Moved
with_move rows None = rows
with_move rows (Some more) = with_row rows more

-- what the entry at place k, counted from 0, moves
abbrev pub move_at : System → ByteMap → List Entry → ℕ → Option Moved
move_at s m es k =
    option_and_then (λ st. option_and_then (move_of s st.spm) (slice_get es k)) (after s m (take k es))

-- what the first so many entries move
unfoldable pub moved_in : System → ByteMap → List Entry → ℕ → List Moved
moved_in s m es zero = []
moved_in s m es (suc k) = with_move (moved_in s m es k) (move_at s m es k)
