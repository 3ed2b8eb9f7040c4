-- A state as a value of JSON.
-- Source: this simulator's; each fact is one of the text of a state, in its words.
use Rattle.std.specs.Prelude.{ℕ, ◌==◌, nat_lt, int_le, if◌then◌else◌, Bool, true, false, List, [], ◌∷◌, ◌++◌, codes, filter, get_or, length, map, Option, None, Some}
use Rattle.std.specs.Fmt.{decimal}
use Rattle.std.specs.List.{enumerate_from, filter_map}
use Rattle.serde_json.specs.Data.{Data, boolean, null, number, string, unsigned}
use Rattle.serde_json.specs.Find.{of_integer}
use Rattle.ffm_model.specs.declared.constants.TheConstants.{PSA_IPC_CALL}
use Rattle.ffm_model.specs.declared.machine.Handle.{Handle}
use Rattle.ffm_model.specs.declared.objects.ActorPhase.{ActorPhase}
use Rattle.ffm_model.specs.declared.objects.ActorPhase.TheVariants.{Running, Blocked, Waiting, Ready, Connected, Ended, Panicked}
use Rattle.ffm_model.specs.declared.objects.OpenConnection.{OpenConnection}
use Rattle.ffm_model.specs.declared.objects.PendingMessage.{PendingMessage}
use Rattle.ffm_model.specs.declared.objects.Span.{Span}
use Rattle.ffm_model.specs.declared.system.Source.{Source}
use Rattle.ffm_model.specs.declared.system.System.{System}
use Rattle.ffm_model.specs.Actors.{owner_of}
use Rattle.ffm_model.specs.Signals.{signals_of}
use Rattle.ffm_model.specs.State.{SpmState, flags_at, phase_of}
use Rattle.ffm_model.specs.TraceText.{Word}
use Rattle.machine_calls.specs.Machine.{spm_of_objects}
use Rattle.view_places.specs.declared.behind.StateAfter.{StateAfter}
use Rattle.view_places.specs.StateText.{connection_word, phase_text, rung, signals_from, stopped_text}
use Rattle.view_places.specs.Waits.{actors, circle_of, is_stalled, message_awaited, signals_in, waits_for}
use Rattle.view_scripts.specs.declared.rows.ScriptRow.{ScriptRow}
use Rattle.view_texts.specs.Names.{actor_name, call_of_kind, service_name}
use Rattle.view_json.specs.ScriptsJson.{scripts_json}
use Rattle.view_json.specs.Values.{actor_json, actors_json, array_of, handle_json, id_json, object_of, place_json, signals_text, text_of}

-- ---- actors

abbrev pub phase_word : ActorPhase → Word
phase_word Running = codes "running"
phase_word Blocked = codes "blocked"
phase_word (Waiting mask) = codes "waiting"
phase_word (Ready o) = codes "ready"
phase_word (Connected serial) = codes "connected"
phase_word Ended = codes "ended"
phase_word Panicked = codes "panicked"

-- the signals that an actor waits for
abbrev pub mask_json : ActorPhase → Data
mask_json (Waiting mask) = signals_text mask
mask_json _ = null

-- the asserted signals of a partition
abbrev pub asserted_json : System → SpmState → ℕ → Data
asserted_json s b a = if nat_lt a (length s.partitions) then signals_text (signals_of s b a) else null

unfoldable pub standing_json : System → SpmState → List ℕ → ℕ → Data
standing_json s b last a =
    object_of ((codes "name", string (actor_name s a)) ∷ (codes "id", id_json s a)
    ∷ (codes "last_entry", place_json (get_or last a 0))
    ∷ (codes "phase", string (phase_word (phase_of b a)))
    ∷ (codes "doing", text_of (phase_text s b a))
    ∷ (codes "mask", mask_json (phase_of b a))
    ∷ (codes "asserted", asserted_json s b a) ∷ [])

-- ---- connections and messages

unfoldable pub connection_json : System → OpenConnection → Data
connection_json s c =
    object_of ((codes "client", actor_json s c.client.0) ∷ (codes "service", string (service_name s c.service))
    ∷ (codes "phase", string (connection_word c.phase))
    ∷ (codes "handle", handle_json c.handle) ∷ (codes "rhandle", number (unsigned c.rhandle)) ∷ [])

-- the partition that holds a message, where it was taken
abbrev pub holder_json : System → Option Handle → Option ℕ → Data
holder_json s (Some h) (Some p) = actor_json s p
holder_json s _ _ = null

-- how many bytes of a vector were moved, of how many; one that isn't given is left out
unfoldable pub span_json : Word → ℕ × Span → Data
span_json name e =
    object_of ((codes "vector", string (name ++ decimal e.0)) ∷ (codes "moved", number (unsigned e.1.moved)) ∷ (codes "size", number (unsigned e.1.len)) ∷ [])

abbrev pub given_span : Word → ℕ × Span → Option Data
given_span name e = if e.1.len == 0 then None else Some (span_json name e)

abbrev pub spans_json : Word → List Span → List Data
spans_json name spans = filter_map (given_span name) (enumerate_from 0 spans)

abbrev pub is_request : PendingMessage → Bool
is_request m = int_le PSA_IPC_CALL m.kind

abbrev pub type_json : PendingMessage → Data
type_json m = if is_request m then number (of_integer m.kind) else null

abbrev pub vectors_json : PendingMessage → List Data
vectors_json m = if is_request m then spans_json (codes "in") m.vectors.input ++ spans_json (codes "out") m.vectors.output else []

unfoldable pub message_json : System → PendingMessage → Data
message_json s m =
    object_of ((codes "client", actor_json s m.client.0) ∷ (codes "service", string (service_name s m.service))
    ∷ (codes "call", string (call_of_kind m.kind))
    ∷ (codes "held_by", holder_json s m.handle (owner_of s m.service)) ∷ (codes "handle", handle_json m.handle)
    ∷ (codes "type", type_json m) ∷ (codes "vectors", array_of (vectors_json m)) ∷ [])

-- ---- interrupts

unfoldable pub source_json : System → SpmState → ℕ × Source → Data
source_json s b e =
    object_of ((codes "signal", string e.1.signal_name) ∷ (codes "partition", actor_json s e.1.owner)
    ∷ (codes "enabled", boolean (flags_at b e.0).enabled)
    ∷ (codes "pending", boolean (flags_at b e.0).pending)
    ∷ (codes "asserted", boolean (flags_at b e.0).asserted) ∷ [])

-- ---- a stall

abbrev pub reason_by : System → SpmState → ℕ → ActorPhase → List ℕ
reason_by s b a (Waiting mask) = codes "waits for " ++ signals_from s b a (signals_in s a mask)
reason_by s b a Blocked = stopped_text s b (message_awaited b a)
reason_by s b a _ = []

-- what an actor waits for
unfoldable pub reason_text : System → SpmState → ℕ → List ℕ
reason_text s b a = reason_by s b a (phase_of b a)

abbrev pub is_stopped_phase : ActorPhase → Bool
is_stopped_phase (Waiting mask) = true
is_stopped_phase Blocked = true
is_stopped_phase _ = false

-- the actor waits
abbrev pub is_stopped : SpmState → ℕ → Bool
is_stopped b a = is_stopped_phase (phase_of b a)

-- the actors that one waits for
abbrev pub awaited : System → SpmState → ℕ → List ℕ
awaited s b a = filter (waits_for s b a) (actors s)

unfoldable pub wait_json : System → SpmState → ℕ → Data
wait_json s b a =
    object_of ((codes "actor", actor_json s a) ∷ (codes "for", actors_json s (awaited s b a)) ∷ (codes "reason", text_of (reason_text s b a)) ∷ [])

-- who waits for whom, where the run is stalled
abbrev pub waits_json : System → SpmState → Data
waits_json s b = array_of (if is_stalled s b then map (wait_json s b) (filter (is_stopped b) (actors s)) else [])

abbrev pub circle_json : System → Option (List ℕ) → Data
circle_json s (Some circle) = actors_json s circle
circle_json s None = null

-- the first circle of those that wait for each other, where the run is stalled
abbrev pub stall_circle : System → SpmState → Option (List ℕ)
stall_circle s b = if is_stalled s b then circle_of s b else None

-- ---- the state after so many entries of so many, with the place of each actor's last entry, and where the scripts stand

-- the members of a state, in this order
unfoldable pub members_json : ℕ → ℕ → Data → Data → Data → Data → Data → Bool → Data → Data → Data → Data
members_json place entries actors connections messages doorbells interrupts stalled waits circle scripts =
    object_of ((codes "place", number (unsigned place)) ∷ (codes "entries", number (unsigned entries))
    ∷ (codes "actors", actors) ∷ (codes "connections", connections) ∷ (codes "messages", messages)
    ∷ (codes "doorbells", doorbells) ∷ (codes "interrupts", interrupts)
    ∷ (codes "stalled", boolean stalled) ∷ (codes "waits", waits) ∷ (codes "circle", circle)
    ∷ (codes "scripts", scripts) ∷ [])

unfoldable pub state_json : System → ℕ → ℕ → List ℕ → SpmState → Option (List ScriptRow) → Data
state_json s count total last b scripts =
    members_json count total
    (array_of (map (standing_json s b last) (actors s)))
    (array_of (map (connection_json s) b.connections))
    (array_of (map (message_json s) b.messages))
    (actors_json s (rung s b.doorbells))
    (array_of (map (source_json s b) (enumerate_from 0 s.sources)))
    (is_stalled s b)
    (waits_json s b)
    (circle_json s (stall_circle s b))
    (scripts_json s scripts)

abbrev pub json_of_state : System → StateAfter → Option (List ScriptRow) → Data
json_of_state s b scripts = state_json s b.checker.count b.total b.last.items (spm_of_objects b.checker.machine.objects) scripts
