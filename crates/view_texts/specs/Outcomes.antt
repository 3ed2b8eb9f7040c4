-- Entries and outcomes as a trace has them.
-- Source: this simulator's trace format.
use Rattle.std.specs.Prelude.{ℕ, nat_lt, List, [], ◌∷◌, ◌++◌, codes, drop, if◌then◌else◌}
use Rattle.std.specs.List.{flat_map}
use Rattle.ffm_model.specs.declared.machine.Entry.{Entry}
use Rattle.ffm_model.specs.declared.machine.Message.{Message}
use Rattle.ffm_model.specs.declared.machine.Outcome.{Outcome}
use Rattle.ffm_model.specs.declared.system.System.{System}
use Rattle.ffm_model.specs.Actors.{actor_count, counts_of}
use Rattle.ffm_model.specs.TraceText.{entry_text, line, message_front, outcome_phrase, spaced, spaced_field, spaced_phrase}

-- the line of an entry, where the system has its actor
unfoldable pub entry_line : System → Entry → List ℕ
entry_line s e = if nat_lt e.actor.0 (actor_count s) then line (entry_text (counts_of s) e) else 10 ∷ []

-- a message without its sizes
abbrev pub message_words : Message → List ℕ
message_words m = drop 1 (spaced (codes "message") ++ flat_map spaced_field (message_front m))

-- what stands behind the arrow and its space
unfoldable pub outcome_text : Outcome → List ℕ
outcome_text o = drop 1 (spaced_phrase (outcome_phrase o))
