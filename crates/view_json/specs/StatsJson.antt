-- The counts of a trace as a value of JSON.
-- Source: this simulator's; each fact is one of the text of the counts.
use Rattle.std.specs.Prelude.{ℕ, ◌==◌, if◌then◌else◌, List, [], ◌∷◌, codes, get_or, map, slice_get, Option, None, Some}
use Rattle.std.specs.List.{filter_map, range_with_len}
use Rattle.std.specs.Option.{option_map_or}
use Rattle.serde_json.specs.Data.{Data, boolean, number, string, unsigned}
use Rattle.ffm_model.specs.declared.system.System.{System}
use Rattle.ffm_model.specs.Names.{capacity}
use Rattle.view_texts.specs.Calls.{name_at}
use Rattle.view_texts.specs.Counted.{count_at}
use Rattle.view_texts.specs.CountsText.{actors, most_messages_declared}
use Rattle.view_texts.specs.Names.{actor_name, service_name}
use Rattle.view_texts.specs.declared.calls.TheConstants.{CALL_COUNT}
use Rattle.view_texts.specs.declared.counts.Moved.{Moved}
use Rattle.view_texts.specs.declared.counts.TraceCounts.{TraceCounts}
use Rattle.view_texts.specs.declared.counts.Wait.{Wait}
use Rattle.view_json.specs.Values.{actor_json, array_of, id_json, object_of}

-- ---- entries by actor and call

unfoldable pub call_json : ℕ → ℕ → Data
call_json call count = object_of ((codes "call", string (name_at call)) ∷ (codes "count", number (unsigned count)) ∷ [])

-- a call of an actor; one that it never made is left out
abbrev pub made_call : List ℕ → ℕ → ℕ → Option Data
made_call calls a call = if count_at calls a call == 0 then None else Some (call_json call (count_at calls a call))

abbrev pub calls_json : List ℕ → ℕ → List Data
calls_json calls a = filter_map (made_call calls a) (range_with_len 0 CALL_COUNT)

unfoldable pub entries_json : System → TraceCounts → ℕ → Data
entries_json s t a =
    object_of ((codes "name", string (actor_name s a)) ∷ (codes "id", id_json s a)
    ∷ (codes "entries", number (unsigned (get_or t.entries.items a 0)))
    ∷ (codes "calls", array_of (calls_json t.calls.items a)) ∷ [])

-- ---- bytes moved

unfoldable pub moved_json : System → Moved → Data
moved_json s m =
    object_of ((codes "client", actor_json s m.client) ∷ (codes "service", string (service_name s m.service))
    ∷ (codes "read", number (unsigned m.read)) ∷ (codes "skipped", number (unsigned m.skipped)) ∷ (codes "written", number (unsigned m.written)) ∷ [])

-- ---- waits

-- the longest wait of an actor, in entries, and the place and the call of the entry that began it
unfoldable pub wait_json : System → ℕ → Wait → Data
wait_json s a w =
    object_of ((codes "actor", actor_json s a) ∷ (codes "entries", number (unsigned w.entries)) ∷ (codes "call", string (name_at w.call))
    ∷ (codes "place", number (unsigned w.from)) ∷ (codes "is_over", boolean w.is_over) ∷ [])

-- none where the actor never waited
abbrev pub some_wait : System → ℕ → Wait → Option Data
some_wait s a w = if w.from == 0 then None else Some (wait_json s a w)

abbrev pub wait_of : System → List Wait → ℕ → Option Data
wait_of s waits a = option_map_or (some_wait s a) (slice_get waits a) None

abbrev pub waits_json : System → List Wait → List Data
waits_json s waits = filter_map (wait_of s waits) (actors s)

-- ---- the counts

-- the most at a time, and as many as are declared
unfoldable pub most_json : ℕ → ℕ → Data
most_json most declared = object_of ((codes "most", number (unsigned most)) ∷ (codes "declared", number (unsigned declared)) ∷ [])

unfoldable pub stats_json : System → TraceCounts → Data
stats_json s t =
    object_of ((codes "legal_entries", number (unsigned t.count)) ∷ (codes "entries", number (unsigned t.total))
    ∷ (codes "actors", array_of (map (entries_json s t) (actors s)))
    ∷ (codes "moved", array_of (map (moved_json s) t.moved.items))
    ∷ (codes "longest_waits", array_of (waits_json s t.longest.items))
    ∷ (codes "connections", most_json t.most_connections (capacity s))
    ∷ (codes "messages", most_json t.most_messages (most_messages_declared s)) ∷ [])
