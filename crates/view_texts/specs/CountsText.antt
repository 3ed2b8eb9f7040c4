-- The text of a trace's counts, line by line.
-- Source: this simulator's.
use Rattle.std.specs.Prelude.{ℕ, ◌+◌, ◌==◌, max, Bool, true, false, ◌&&◌, if◌then◌else◌, List, [], ◌∷◌, ◌++◌, filter, length, slice_get, get_or, codes}
use Rattle.std.specs.Fmt.{decimal}
use Rattle.std.specs.List.{flat_map, list_any, range_with_len}
use Rattle.std.specs.Option.{option_map_or}
use Rattle.ffm_model.specs.declared.system.System.{System}
use Rattle.ffm_model.specs.Actors.{actor_count, is_stateless}
use Rattle.ffm_model.specs.Names.{capacity}
use Rattle.ffm_model.specs.TraceText.{Word}
use Rattle.view_texts.specs.Counted.{count_at}
use Rattle.view_texts.specs.declared.counts.Moved.{Moved}
use Rattle.view_texts.specs.declared.counts.TraceCounts.{TraceCounts}
use Rattle.view_texts.specs.declared.counts.Wait.{Wait}
use Rattle.view_texts.specs.declared.calls.TheConstants.{CALL_COUNT}
use Rattle.view_texts.specs.Calls.{name_at}
use Rattle.view_texts.specs.Columns.{joined, left, right}
use Rattle.view_texts.specs.Names.{actor_column, actor_name, actor_width, name_width, service_name}

-- the actors, by their numbers
abbrev pub actors : System → List ℕ
actors s = range_with_len 0 (actor_count s)

-- ---- entries by actor and call

unfoldable pub some_calls : System → ℕ → ℕ → List ℕ
some_calls s call count = codes "      " ++ (left (max (actor_width s) 21) (name_at call) ++ (right 7 count ++ codes "\n"))

-- a call, and how often it was made; nothing where it wasn't
unfoldable pub call_line : System → ℕ → ℕ → List ℕ
call_line s call count = if count == 0 then [] else some_calls s call count

-- a call of an actor
abbrev pub call_line_at : System → List ℕ → ℕ → ℕ → List ℕ
call_line_at s calls a call = call_line s call (count_at calls a call)

-- the calls of an actor
abbrev pub call_lines : System → List ℕ → ℕ → List ℕ
call_lines s calls a = flat_map (call_line_at s calls a) (range_with_len 0 CALL_COUNT)

-- an actor, and how many entries it has
unfoldable pub actor_line : System → ℕ → ℕ → List ℕ
actor_line s a count = codes "  " ++ (actor_column s (actor_width s) a ++ (right 7 count ++ codes "\n"))

unfoldable pub actor_lines : System → TraceCounts → ℕ → List ℕ
actor_lines s t a = actor_line s a (get_or t.entries.items a 0) ++ call_lines s t.calls.items a

unfoldable pub calls_text : System → TraceCounts → List ℕ
calls_text s t = codes "entries by actor and call\n" ++ flat_map (actor_lines s t) (actors s)

-- ---- bytes moved

unfoldable pub way_text : System → ℕ → ℕ → List ℕ
way_text s client service =
    codes "  " ++ (left (name_width s) (actor_name s client) ++ (codes " -> " ++ left (name_width s) (service_name s service)))

unfoldable pub bytes_text : Moved → List ℕ
bytes_text m = codes "  read " ++ (decimal m.read ++ (codes "  skipped " ++ (decimal m.skipped ++ (codes "  written " ++ (decimal m.written ++ codes "\n")))))

unfoldable pub moved_line : System → Moved → List ℕ
moved_line s m = way_text s m.client m.service ++ bytes_text m

unfoldable pub some_moved : System → List Moved → List ℕ
some_moved s ms = codes "bytes moved by client and service\n" ++ flat_map (moved_line s) ms

unfoldable pub moved_text : System → List Moved → List ℕ
moved_text s ms = if length ms == 0 then codes "no bytes moved\n" else some_moved s ms

-- ---- waits

abbrev pub over_words : Bool → Word
over_words true = codes "\n"
over_words false = codes ", not over\n"

-- where a wait began, and whether it is over
unfoldable pub wait_words : Wait → List ℕ
wait_words w = joined (codes "  " ∷ name_at w.call ∷ codes " at entry " ∷ decimal w.from ∷ over_words w.is_over ∷ [])

unfoldable pub some_wait : System → ℕ → Wait → List ℕ
some_wait s a w = codes "  " ++ (actor_column s (actor_width s) a ++ (right 7 w.entries ++ wait_words w))

-- a wait; nothing where its actor never waited
unfoldable pub wait_line : System → ℕ → Wait → List ℕ
wait_line s a w = if w.from == 0 then [] else some_wait s a w

-- the wait of an actor
abbrev pub wait_at : System → List Wait → ℕ → List ℕ
wait_at s waits a = option_map_or (wait_line s a) (slice_get waits a) []

unfoldable pub waits_text : System → List Wait → List ℕ
waits_text s waits = codes "longest wait of each actor, in entries\n" ++ flat_map (wait_at s waits) (actors s)

-- ---- connections and messages at a time

-- an actor may call a stateless service
abbrev pub uses_stateless : System → ℕ → Bool
uses_stateless s a = list_any (λ g. (g.client.0 == a) && is_stateless s g.service) s.budgets

-- how many messages there may be at a time: one for each connection, and a request by a stateless
-- handle for each actor that may call such a service
abbrev pub most_messages_declared : System → ℕ
most_messages_declared s = capacity s + length (filter (uses_stateless s) (actors s))

-- a number of so many
unfoldable pub of_text : ℕ → ℕ → List ℕ
of_text n total = decimal n ++ (codes " of " ++ (decimal total ++ codes "\n"))

unfoldable pub most_text : System → TraceCounts → List ℕ
most_text s t =
    codes "most at a time, of those declared\n  connections "
    ++ (of_text t.most_connections (capacity s) ++ (codes "  messages    " ++ of_text t.most_messages (most_messages_declared s)))

-- ---- the text

-- how many entries are legal, of how many
unfoldable pub legal_line : ℕ → ℕ → List ℕ
legal_line count total = joined (decimal count ∷ codes " legal entries of " ∷ decimal total ∷ codes "\n" ∷ [])

-- the text of a trace's counts
unfoldable pub counts_text : System → TraceCounts → List ℕ
counts_text s t =
    legal_line t.count t.total
    ++ (calls_text s t ++ (moved_text s t.moved.items ++ (waits_text s t.longest.items ++ most_text s t)))
