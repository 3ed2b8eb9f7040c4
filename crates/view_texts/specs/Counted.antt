-- What is counted of a trace: its entries, by actor and call, the bytes moved, the longest waits, and the most
-- connections and messages at a time.
-- Source: this simulator's; `after` of the model.
use Rattle.std.specs.Prelude.{ℕ, ◌≡◌, ◌+◌, ◌*◌, ◌-◌, ◌^◌, ◌<◌, ◌≤◌, ◌==◌, ◌&&◌, Bool, List, count_by, length, get_or, min, slice_set, take, IfSome, IsSome, IsSomeAnd}
use Rattle.ffm_model.specs.declared.system.System.{System}
use Rattle.ffm_model.specs.declared.machine.Entry.{Entry}
use Rattle.ffm_model.specs.Actors.{actor_count}
use Rattle.ffm_model.specs.Memory.{ByteMap}
use Rattle.ffm_model.specs.State.{SpmState}
use Rattle.ffm_model.specs.Step.{after}
use Rattle.machine_check.specs.Reaching.{IsLast}
use Rattle.view_texts.specs.declared.counts.TraceCounts.{TraceCounts}
use Rattle.view_texts.specs.declared.calls.TheConstants.{CALL_COUNT}
use Rattle.view_texts.specs.Calls.{place_of}
use Rattle.view_texts.specs.Moves.{moved_in}
use Rattle.view_texts.specs.Waited.{longest_in}

-- ---- entries by actor and call

abbrev pub is_of : ℕ → Entry → Bool
is_of a e = e.actor.0 == a

-- the entry is the actor's, and makes the call whose name stands at a place
abbrev pub is_call_of : ℕ → ℕ → Entry → Bool
is_call_of a call e = (e.actor.0 == a) && (place_of e.call == call)

-- a number of a table with a row of calls for each actor
abbrev pub count_at : List ℕ → ℕ → ℕ → ℕ
count_at calls a call = get_or calls (a * CALL_COUNT + call) 0

-- one more at a place, as far as a u32 goes
abbrev pub one_more : List ℕ → ℕ → List ℕ
one_more counts place = slice_set counts place (min (get_or counts place 0 + 1) (2 ^ 32 - 1))

-- ---- connections and messages at a time

abbrev pub connection_count : SpmState → ℕ
connection_count b = length b.connections

abbrev pub message_count : SpmState → ℕ
message_count b = length b.messages

-- n is the most that one of the states has, from the opening up to the one after so many entries
pub record IsMost (size : SpmState → ℕ) (s : System) (m : ByteMap) (es : List Entry) (count n : ℕ) : Type 0 where
  pub none_more : (k : ℕ) → k ≤ count → IfSome (after s m (take k es)) (λ st. size st.spm ≤ n)
  pub reached : (k : ℕ) × (k ≤ count) × IsSomeAnd (after s m (take k es)) (λ st. size st.spm ≡ n)

-- what is counted of the first so many entries: how many each actor has, how often it made each call,
-- and the most connections and messages at a time
pub record AreCounts
    (s : System) (m : ByteMap) (es : List Entry) (count : ℕ) (entries calls : List ℕ) (connections messages : ℕ) : Type 0 where
  pub entries_len : length entries ≡ actor_count s
  pub calls_len : length calls ≡ actor_count s * CALL_COUNT
  pub by_actor : (a : ℕ) → a < actor_count s → get_or entries a 0 ≡ count_by (is_of a) (take count es)
  pub by_call : (a call : ℕ) → a < actor_count s → call < CALL_COUNT
      → count_at calls a call ≡ count_by (is_call_of a call) (take count es)
  pub of_connections : IsMost connection_count s m es count connections
  pub of_messages : IsMost message_count s m es count messages

-- what is counted is of the entries before the first one that is no step or exceeds the limit
pub record IsTallied (s : System) (m : ByteMap) (limit : ℕ) (es : List Entry) (t : TraceCounts) : Type 0 where
  pub total : t.total ≡ length es
  pub few : t.count ≤ length es
  pub within : t.count ≤ limit
  pub run : IsSome (after s m (take t.count es))
  pub last : IsLast s m limit es t.count
  pub counts : AreCounts s m es t.count t.entries.items t.calls.items t.most_connections t.most_messages
  pub moved : t.moved.items ≡ moved_in s m es t.count

-- and so are the longest waits, of which those may be that aren't over
pub record IsCounted (s : System) (m : ByteMap) (limit : ℕ) (es : List Entry) (t : TraceCounts) : Type 0 where
  pub tallied : IsTallied s m limit es t
  pub longest : t.longest.items ≡ longest_in s es t.count
