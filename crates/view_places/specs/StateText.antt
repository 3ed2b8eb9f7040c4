-- The text of a state, line by line.
-- Source: this simulator's; the state is that of the machine.
use Rattle.std.specs.Prelude.{ℕ, ◌==◌, int_le, Bool, true, false, if◌then◌else◌, List, [], ◌∷◌, ◌++◌, length, map, filter, get_or, bit_and, slice_get, codes, Option, Some, None}
use Rattle.std.specs.Fmt.{decimal, signed_decimal}
use Rattle.std.specs.List.{enumerate_from, flat_map, range_with_len}
use Rattle.std.specs.Option.{option_map_or}
use Rattle.ffm_model.specs.declared.constants.TheConstants.{PSA_IPC_CALL}
use Rattle.ffm_model.specs.declared.machine.Handle.{Handle}
use Rattle.ffm_model.specs.declared.objects.ActorPhase.{ActorPhase}
use Rattle.ffm_model.specs.declared.objects.ActorPhase.TheVariants.{Running, Blocked, Waiting, Ready, Connected, Ended, Panicked}
use Rattle.ffm_model.specs.declared.objects.ConnPhase.{ConnPhase}
use Rattle.ffm_model.specs.declared.objects.ConnPhase.TheVariants as connection
use Rattle.ffm_model.specs.declared.objects.OpenConnection.{OpenConnection}
use Rattle.ffm_model.specs.declared.objects.PendingMessage.{PendingMessage}
use Rattle.ffm_model.specs.declared.objects.SourceFlags.{SourceFlags}
use Rattle.ffm_model.specs.declared.objects.Span.{Span}
use Rattle.ffm_model.specs.declared.system.Source.{Source}
use Rattle.ffm_model.specs.declared.system.System.{System}
use Rattle.ffm_model.specs.Actors.{owner_of}
use Rattle.ffm_model.specs.Signals.{signals_of}
use Rattle.ffm_model.specs.State.{SpmState, connection_by_serial, flags_at, phase_of}
use Rattle.ffm_model.specs.TraceText.{Word, hexadecimal_word}
use Rattle.machine_calls.specs.Machine.{spm_of_objects}
use Rattle.view_places.specs.declared.behind.StateAfter.{StateAfter}
use Rattle.view_places.specs.declared.waits.Signal.{Signal}
use Rattle.view_places.specs.declared.waits.Signal.TheVariants as signal
use Rattle.view_places.specs.Waits.{actors, circle_of, could_give, is_stalled, message_awaited, signals_in}
use Rattle.view_texts.specs.Columns.{joined, left, listed, right, widest}
use Rattle.view_texts.specs.Names.{actor_column, actor_name, actor_width, call_of_kind, name_width, service_name, service_text}
use Rattle.view_texts.specs.Outcomes.{outcome_text}

-- ---- what an actor does

-- a signal's name: its service's, its interrupt's, or DOORBELL
unfoldable pub signal_name : System → Signal → Word
signal_name s (signal.Service place) = service_name s place
signal_name s (signal.Source place) = option_map_or (λ x. x.signal_name) (slice_get s.sources place) []
signal_name s signal.Doorbell = codes "DOORBELL"

-- the names of a partition's signals in a mask
unfoldable pub signals_text : System → ℕ → ℕ → List ℕ
signals_text s p mask = listed (codes "no signal") (map (signal_name s) (signals_in s p mask))

-- the call by which a message was made, and its service
unfoldable pub call_text : System → PendingMessage → List ℕ
call_text s m = joined (call_of_kind m.kind ∷ codes " at " ∷ service_text s m.service ∷ [])

abbrev pub blocked_text : System → Option PendingMessage → List ℕ
blocked_text s (Some m) = codes "blocked in " ++ call_text s m
blocked_text s None = codes "blocked"

-- which of the signals came, where one did
unfoldable pub came_text : System → ℕ → ℕ → List ℕ
came_text s p came = codes "; asserted: " ++ signals_text s p came

unfoldable pub asserted_text : System → ℕ → ℕ → List ℕ
asserted_text s p came = if came == 0 then [] else came_text s p came

unfoldable pub waiting_text : System → SpmState → ℕ → ℕ → List ℕ
waiting_text s b p mask = codes "waits for " ++ (signals_text s p mask ++ asserted_text s p (bit_and (signals_of s b p) mask))

unfoldable pub accepted_text : System → OpenConnection → List ℕ
accepted_text s c = codes "connected to " ++ (service_text s c.service ++ codes ", returns with a handle")

abbrev pub connected_text : System → Option OpenConnection → List ℕ
connected_text s (Some c) = accepted_text s c
connected_text s None = codes "connected"

-- what an actor does
abbrev pub doing_text : System → SpmState → ℕ → ActorPhase → List ℕ
doing_text s b a Running = codes "runs"
doing_text s b a Blocked = blocked_text s (message_awaited b a)
doing_text s b a (Waiting mask) = waiting_text s b a mask
doing_text s b a (Ready o) = codes "returns with " ++ outcome_text o
doing_text s b a (Connected serial) = connected_text s (connection_by_serial b serial)
doing_text s b a Ended = codes "has ended"
doing_text s b a Panicked = codes "has panicked"

unfoldable pub phase_text : System → SpmState → ℕ → List ℕ
phase_text s b a = doing_text s b a (phase_of b a)

-- ---- the lines of a state

-- `state after entry K of N`, or `state at the opening, of N`
unfoldable pub state_line : ℕ → ℕ → List ℕ
state_line count total =
    joined (if count == 0
    then codes "state at the opening, of " ∷ decimal total ∷ codes "\n" ∷ []
    else codes "state after entry " ∷ decimal count ∷ codes " of " ∷ decimal total ∷ codes "\n" ∷ [])

-- the place of an actor's last entry, in a column; a bar where it has none
abbrev pub last_column : ℕ → List ℕ
last_column place = if place == 0 then codes "     -" else right 6 place

unfoldable pub actor_line : System → SpmState → List ℕ → ℕ → List ℕ
actor_line s b last a =
    codes "  " ++ (actor_column s (actor_width s) a ++ (last_column (get_or last a 0) ++ (codes "  " ++ (phase_text s b a ++ codes "\n"))))

unfoldable pub actor_lines : System → SpmState → List ℕ → List ℕ
actor_lines s b last = codes "actors, each with the place of its last entry\n" ++ flat_map (actor_line s b last) (actors s)

-- a client's name and a service's
unfoldable pub way_text : System → ℕ → ℕ → List ℕ
way_text s client service =
    left (name_width s) (actor_name s client) ++ (codes " -> " ++ left (name_width s) (service_name s service))

abbrev pub connection_word : ConnPhase → Word
connection_word connection.Opening = codes "opening"
connection_word connection.Idle = codes "idle"
connection_word connection.Busy = codes "busy"
connection_word connection.Error = codes "error"
connection_word connection.Closing = codes "closing"
connection_word connection.Dead = codes "dead"

abbrev pub handle_text : Option Handle → List ℕ
handle_text (Some h) = joined (codes "  handle " ∷ signed_decimal h.0 ∷ [])
handle_text None = codes "  no handle yet"

-- the reverse handle, where it isn't null
abbrev pub rhandle_text : ℕ → List ℕ
rhandle_text rhandle = if rhandle == 0 then [] else joined (codes "  rhandle " ∷ hexadecimal_word rhandle ∷ [])

unfoldable pub connection_line : System → OpenConnection → List ℕ
connection_line s c =
    codes "  " ++ (way_text s c.client.0 c.service
    ++ (codes "  " ++ (left 7 (connection_word c.phase) ++ (handle_text c.handle ++ (rhandle_text c.rhandle ++ codes "\n")))))

unfoldable pub some_connections : System → List OpenConnection → List ℕ
some_connections s cs = codes "connections\n" ++ flat_map (connection_line s) cs

unfoldable pub connection_lines : System → List OpenConnection → List ℕ
connection_lines s cs = if length cs == 0 then codes "no connection\n" else some_connections s cs

-- who holds a message, or that it is still to be taken
abbrev pub holder_text : System → Option Handle → Option ℕ → List ℕ
holder_text s (Some h) (Some p) = joined (codes "held by " ∷ actor_name s p ∷ codes " as " ∷ signed_decimal h.0 ∷ [])
holder_text s _ _ = codes "queued"

-- how many bytes of a vector were moved, of how many
abbrev pub span_text : Word → ℕ × Span → List ℕ
span_text name e =
    if e.1.len == 0 then [] else joined (codes "  " ∷ name ∷ decimal e.0 ∷ codes " " ∷ decimal e.1.moved ∷ codes "/" ∷ decimal e.1.len ∷ [])

abbrev pub spans_text : Word → List Span → List ℕ
spans_text name spans = flat_map (span_text name) (enumerate_from 0 spans)

-- a request's type and vectors
abbrev pub request_text : PendingMessage → List ℕ
request_text m =
    if int_le PSA_IPC_CALL m.kind
    then joined (codes "  type " ∷ signed_decimal m.kind ∷ []) ++ (spans_text (codes "in") m.vectors.input ++ spans_text (codes "out") m.vectors.output)
    else []

unfoldable pub message_line : System → PendingMessage → List ℕ
message_line s m =
    codes "  " ++ (way_text s m.client.0 m.service
    ++ (codes "  " ++ (left 12 (call_of_kind m.kind) ++ (holder_text s m.handle (owner_of s m.service) ++ (request_text m ++ codes "\n")))))

unfoldable pub some_messages : System → List PendingMessage → List ℕ
some_messages s ms = codes "messages, oldest first, with the bytes moved of each vector\n" ++ flat_map (message_line s) ms

unfoldable pub message_lines : System → List PendingMessage → List ℕ
message_lines s ms = if length ms == 0 then codes "no message\n" else some_messages s ms

-- the partitions whose doorbell is asserted
abbrev pub rung : System → List Bool → List ℕ
rung s doorbells = filter (λ p. get_or doorbells p false) (range_with_len 0 (length s.partitions))

unfoldable pub some_rung : System → List ℕ → List ℕ
some_rung s ps = codes "doorbells asserted: " ++ (listed [] (map (actor_name s) ps) ++ codes "\n")

unfoldable pub rung_line : System → List ℕ → List ℕ
rung_line s ps = if length ps == 0 then codes "no doorbell asserted\n" else some_rung s ps

-- a word where a flag is set
abbrev pub flag_word : Bool → Word → List Word
flag_word true word = word ∷ []
flag_word false word = []

abbrev pub enabling_word : Bool → Word
enabling_word true = codes "enabled"
enabling_word false = codes "disabled"

abbrev pub flags_text : SourceFlags → List ℕ
flags_text f = listed [] (enabling_word f.enabled ∷ (flag_word f.pending (codes "pending") ++ flag_word f.asserted (codes "asserted")))

-- an interrupt's name and its partition's
abbrev pub source_words : System → Source → List ℕ
source_words s x = joined (x.signal_name ∷ codes " of " ∷ actor_name s x.owner ∷ [])

unfoldable pub source_line : System → ℕ → Source → SourceFlags → List ℕ
source_line s width x flags =
    codes "  " ++ (left width (source_words s x) ++ (codes "  " ++ (flags_text flags ++ codes "\n")))

abbrev pub source_at : System → SpmState → ℕ → ℕ × Source → List ℕ
source_at s b width e = source_line s width e.1 (flags_at b e.0)

unfoldable pub some_sources : System → SpmState → List Source → List ℕ
some_sources s b xs = codes "interrupts\n" ++ flat_map (source_at s b (widest 0 (map (source_words s) xs))) (enumerate_from 0 xs)

unfoldable pub source_lines : System → SpmState → List Source → List ℕ
source_lines s b xs = if length xs == 0 then [] else some_sources s b xs

-- ---- the lines of a stall

-- the actors that could give a partition's signal
abbrev pub givers : System → SpmState → ℕ → Signal → List ℕ
givers s b p x = filter (could_give s b p x) (actors s)

abbrev pub givers_text : System → SpmState → ℕ → Signal → List ℕ
givers_text s b p x = listed (codes "nobody") (map (actor_name s) (givers s b p x))

-- a disabled source is told as such
abbrev pub disabled_text : SpmState → Signal → List ℕ
disabled_text b (signal.Source place) = if (flags_at b place).enabled then [] else codes " while it is disabled"
disabled_text b _ = []

-- a signal, and who could give it
unfoldable pub signal_from : System → SpmState → ℕ → Signal → List ℕ
signal_from s b p x = signal_name s x ++ (codes " from " ++ (givers_text s b p x ++ disabled_text b x))

abbrev pub other_signal : System → SpmState → ℕ → Signal → List ℕ
other_signal s b p x = codes ", or " ++ signal_from s b p x

abbrev pub signals_from : System → SpmState → ℕ → List Signal → List ℕ
signals_from s b p [] = codes "no signal"
signals_from s b p (x ∷ xs) = signal_from s b p x ++ flat_map (other_signal s b p) xs

-- what keeps a partition from answering
abbrev pub hindrance : ActorPhase → Word
hindrance Blocked = codes "is blocked itself"
hindrance (Waiting mask) = codes "waits itself"
hindrance Ended = codes "has ended"
hindrance Panicked = codes "has panicked"
hindrance _ = codes "can go on"

abbrev pub holding_text : Option Handle → List ℕ
holding_text (Some h) = joined (codes " holds message " ∷ signed_decimal h.0 ∷ [])
holding_text None = codes " has to take the message"

-- the partition that has to answer, and what keeps it from that
abbrev pub answerer_text : System → SpmState → Option Handle → Option ℕ → List ℕ
answerer_text s b handle None = []
answerer_text s b handle (Some p) =
    codes "; " ++ (actor_name s p ++ (holding_text handle ++ (codes " and " ++ hindrance (phase_of b p))))

abbrev pub stopped_text : System → SpmState → Option PendingMessage → List ℕ
stopped_text s b (Some m) = codes "blocked in " ++ (call_text s m ++ answerer_text s b m.handle (owner_of s m.service))
stopped_text s b None = codes "blocked"

-- an actor's name, in a column
unfoldable pub name_column : System → ℕ → List ℕ
name_column s a = codes "  " ++ left (actor_width s) (actor_name s a)

unfoldable pub waiting_line : System → SpmState → ℕ → ℕ → List ℕ
waiting_line s b a mask = name_column s a ++ (codes "  waits for " ++ (signals_from s b a (signals_in s a mask) ++ codes "\n"))

unfoldable pub blocked_line : System → SpmState → ℕ → List ℕ
blocked_line s b a = name_column s a ++ (codes "  " ++ (stopped_text s b (message_awaited b a) ++ codes "\n"))

abbrev pub stalled_by : System → SpmState → ℕ → ActorPhase → List ℕ
stalled_by s b a (Waiting mask) = waiting_line s b a mask
stalled_by s b a Blocked = blocked_line s b a
stalled_by s b a _ = []

-- what an actor waits for
unfoldable pub stall_line : System → SpmState → ℕ → List ℕ
stall_line s b a = stalled_by s b a (phase_of b a)

abbrev pub next_in_circle : System → ℕ → List ℕ
next_in_circle s a = codes " -> " ++ actor_name s a

-- the actors of a circle, each waiting for the next, and the first again; or that there is no circle
abbrev pub circle_line : System → Option (List ℕ) → List ℕ
circle_line s (Some (a ∷ others)) =
    codes "circle: " ++ (actor_name s a ++ (flat_map (next_in_circle s) others ++ (next_in_circle s a ++ codes "\n")))
circle_line s _ = codes "no circle: they wait for actors that are gone or for signals that nobody gives\n"

-- who waits for whom, and the first circle of them; nothing where the run isn't stalled
unfoldable pub stalled_text : System → SpmState → List ℕ
stalled_text s b = codes "stalled: no actor can go on\n" ++ (flat_map (stall_line s b) (actors s) ++ circle_line s (circle_of s b))

unfoldable pub stall_text : System → SpmState → List ℕ
stall_text s b = if is_stalled s b then stalled_text s b else []

-- ---- the text

-- the state after so many entries of so many, with the place of each actor's last entry
unfoldable pub state_text : System → ℕ → ℕ → List ℕ → SpmState → List ℕ
state_text s count total last b =
    state_line count total
    ++ (actor_lines s b last
    ++ (connection_lines s b.connections
    ++ (message_lines s b.messages
    ++ (rung_line s (rung s b.doorbells)
    ++ (source_lines s b s.sources
    ++ stall_text s b)))))

-- the text of a state
abbrev pub text_of_state : System → StateAfter → List ℕ
text_of_state s b = state_text s b.checker.count b.total b.last.items (spm_of_objects b.checker.machine.objects)
