-- A scenario file as a table, over the system that it is for: one line for each attribute, in the order in which they are
-- read. The first refusal counts. Unknown attributes pass unread.
-- Source: this simulator's scenario file.
use Rattle.std.specs.Prelude.{◌≡◌, ◌<◌, ◌≤◌, IsTrue, ℕ, ◌+◌, ◌*◌, List, [], ◌∷◌, ◌++◌, length, map, filter, count_by, position, get_or, nat_lt, Bool, ◌&&◌, ◌==◌, Option, Some, None, is_some, IfSome, option_and_then, Result, Ok, codes, if◌then◌else◌}
use Rattle.std.specs.Char.{digit_value, is_digit}
use Rattle.std.specs.List.{list_any, range_with_len, sum_by, AllByRecursion}
use Rattle.std.specs.Option.{option_map}
use Rattle.std.specs.Str.{bytes_eq}
use Rattle.serde_json.specs.Data.{Data}
use Rattle.serde_json.specs.Find.{as_str, as_object}
use Rattle.ffm_model.specs.declared.codes.TheConstants.{JSON, WRONG_TYPE, BAD_VALUE, UNKNOWN_ACTOR}
use Rattle.ffm_model.specs.declared.key.Key.TheVariants as key
use Rattle.ffm_model.specs.declared.machine.ActorId.{ActorId}
use Rattle.ffm_model.specs.declared.script_item.ScriptItem.{ScriptItem}
use Rattle.ffm_model.specs.declared.place.PartRefusal.{PartRefusal}
use Rattle.ffm_model.specs.declared.place.PathStep.TheVariants as step
use Rattle.ffm_model.specs.declared.place.Refusal.{Refusal}
use Rattle.ffm_model.specs.declared.place.Root.TheVariants as root
use Rattle.ffm_model.specs.declared.scenario.Bytes.{Bytes}
use Rattle.ffm_model.specs.declared.scenario.RaiseItem.{RaiseItem}
use Rattle.ffm_model.specs.declared.scenario.Scenario.{Scenario}
use Rattle.ffm_model.specs.declared.system.Region.{Region}
use Rattle.ffm_model.specs.declared.system.Source.{Source}
use Rattle.ffm_model.specs.declared.system.System.{System}
use Rattle.ffm_model.specs.Actors.{actor_count, kind_of, is_client}
use Rattle.ffm_model.specs.Manifests.{source_of}
use Rattle.ffm_model.specs.Memory.{lies_in}
use Rattle.ffm_model.specs.SignalCalls.{has_flih}
use Rattle.ffm_model.specs.Attributes.{◌>>=◌, refuse, or_refuse, within, placed, required, optional, list_of, list_after, list_up_to, whole_between, text_as, name_of, number_of, object_of}
use Rattle.ffm_model.specs.Trees.{tree_of}

-- ---- actors

abbrev pub device_names : List Source → List (List ℕ)
device_names [] = []
device_names (x ∷ xs) = codes "device" ∷ []

-- the names of the actors, in actor order
unfoldable pub actor_names : System → List (List ℕ)
actor_names s = map (λ p. p.name) s.partitions ++ (s.clients ++ device_names s.sources)

-- the actor with a name
abbrev pub actor_named : System → List ℕ → Option ActorId
actor_named s text = option_map (λ place. record { 0 = place }) (position (bytes_eq text) (actor_names s))

-- ---- scripts

unfoldable pub line_of : Data → Result (List ℕ) PartRefusal
line_of d = or_refuse WRONG_TYPE (as_str d)

-- a non-secure client may have a script for each of eight threads, any other actor one
abbrev pub most_scripts : System → ℕ → ℕ
most_scripts s a = if is_client (kind_of s a) then 8 else 1

-- the actor has fewer scripts among these than it may have
abbrev pub may_have_another : System → List ScriptItem → ActorId → Bool
may_have_another s scripts actor = nat_lt (count_by (λ script. script.actor.0 == actor.0) scripts) (most_scripts s actor.0)

-- an actor, by its name, that may have another script
unfoldable pub new_actor_of : System → List ScriptItem → Data → Result ActorId PartRefusal
new_actor_of s scripts d = do
  name ← name_of d
  actor ← or_refuse UNKNOWN_ACTOR (actor_named s name)
  if may_have_another s scripts actor then Ok actor else refuse BAD_VALUE

unfoldable pub script_of : System → List ScriptItem → Data → Result ScriptItem PartRefusal
script_of s scripts d = do
  object ← object_of d
  actor ← required (new_actor_of s scripts) key.Actor d
  lines ← required (list_up_to 4096 line_of) key.Lines d
  Ok (record { actor = actor; lines = lines })

-- the lines of the scripts that the file gives an actor, in the file's order
abbrev pub lines_for : List ScriptItem → ℕ → List (List (List ℕ))
lines_for scripts a = map (λ script. script.lines) (filter (λ script. script.actor.0 == a) scripts)

-- an actor that the file gives no script has an empty one
abbrev pub or_empty_script : List (List (List ℕ)) → List (List (List ℕ))
or_empty_script [] = [] ∷ []
or_empty_script (script ∷ scripts) = script ∷ scripts

-- the scripts of each actor, by actor
abbrev pub lines_by_actor : ℕ → List ScriptItem → List (List (List (List ℕ)))
lines_by_actor count scripts = map (λ a. or_empty_script (lines_for scripts a)) (range_with_len 0 count)

-- ---- turns and interrupts

-- an actor, by its name or as `device`
unfoldable pub turn_of : System → Data → Result ActorId PartRefusal
turn_of s d = do
  text ← or_refuse WRONG_TYPE (as_str d)
  or_refuse UNKNOWN_ACTOR (actor_named s text)

-- the place of the source with a name
abbrev pub source_named : System → List ℕ → Option ℕ
source_named s text = position (λ x. bytes_eq text x.name) s.sources

-- a source, by its name
unfoldable pub raised_source_of : System → Data → Result ℕ PartRefusal
raised_source_of s d = do
  name ← source_of d
  or_refuse UNKNOWN_ACTOR (source_named s name)

-- an interrupt by its source alone; a first-level handler then answers 1
unfoldable pub plain_raise_of : System → Data → Result RaiseItem PartRefusal
plain_raise_of s d = do
  source ← raised_source_of s d
  Ok (record { source = source; result = if has_flih s source then Some 1 else None })

-- an interrupt with the answer of its first-level handler, which the source has to have
unfoldable pub answered_raise_of : System → Data → Result RaiseItem PartRefusal
answered_raise_of s d = do
  source ← required (raised_source_of s) key.Source d
  answer ← required (whole_between 0 1) key.RaiseResult d
  if has_flih s source then Ok (record { source = source; result = Some answer }) else within (step.Key key.RaiseResult) (refuse BAD_VALUE)

-- an interrupt
abbrev pub raise_of : System → Data → Result RaiseItem PartRefusal
raise_of s d = if is_some (as_object d) then answered_raise_of s d else plain_raise_of s d

-- ---- the memory at the beginning

abbrev pub hex_byte : ℕ → ℕ → Option ℕ
hex_byte high low = if is_digit high 16 && is_digit low 16 then Some (digit_value high * 16 + digit_value low) else None

-- the bytes that an even number of hexadecimal digits of either case spell
unfoldable pub hex_bytes : List ℕ → Option (List ℕ)
hex_bytes [] = Some []
hex_bytes (high ∷ []) = None
hex_bytes (high ∷ low ∷ digits) = option_and_then (λ byte. option_map (λ bytes. byte ∷ bytes) (hex_bytes digits)) (hex_byte high low)

-- the range lies whole in one region, or the address is refused
unfoldable pub bytes_of : List Region → Data → Result Bytes PartRefusal
bytes_of regions d = do
  object ← object_of d
  address ← required number_of key.Address d
  content ← required (text_as hex_bytes) key.Bytes d
  if list_any (lies_in address (length content)) regions then Ok (record { address = address; content = content }) else within (step.Key key.Address) (refuse BAD_VALUE)

-- ---- the file

-- a source of the system, and an answer, 0 or 1, exactly where it has a first-level handler
pub record IsRaise (s : System) (x : RaiseItem) : Type 0 where
  pub source : x.source < length s.sources
  pub handled : is_some x.result ≡ has_flih s x.source
  pub answer : IfSome x.result (λ answer. answer ≤ 1)

-- an actor's scripts: one at least, and no more than it may have
abbrev pub AreScriptsOf : System → ℕ → List (List (List ℕ)) → Type 0
AreScriptsOf s a scripts = (0 < length scripts) × (length scripts ≤ most_scripts s a)

-- what a scenario keeps, for its system: the limits, few enough scripts for each actor and few enough lines for each script, none for others, no more in the file than all actors have, sources of the system, memory in regions, and the resets
pub record IsScenarioOf (s : System) (c : Scenario) : Type 0 where
  pub limit : 0 < c.limit
  pub limit_end : c.limit ≤ 262144
  pub lines : length c.lines ≡ actor_count s
  pub short : AllByRecursion (AllByRecursion (λ lines. length lines ≤ 4096)) c.lines
  pub scripts : (a : ℕ) → a < actor_count s → AreScriptsOf s a (get_or c.lines a [])
  pub order : AllByRecursion (λ actor. actor.0 < actor_count s) c.order
  -- an actor that the file gives none has an empty one
  pub few : length c.order ≤ sum_by (λ own. length own) c.lines
  pub schedule : AllByRecursion (λ actor. actor.0 < actor_count s) c.schedule
  pub raises : AllByRecursion (IsRaise s) c.raises
  pub memory : AllByRecursion (λ bytes. IsTrue (list_any (lies_in bytes.address (length bytes.content)) s.regions)) c.memory
  pub restarts : c.restarts ≤ 15

abbrev pub scenario_with : System → ℕ → List ScriptItem → List ActorId → List RaiseItem → List Bytes → ℕ → Scenario
scenario_with s limit scripts schedule raises memory restarts = record {
  limit = limit;
  lines = lines_by_actor (actor_count s) scripts;
  order = map (λ script. script.actor) scripts;
  schedule = schedule;
  raises = raises;
  memory = memory;
  restarts = restarts;
}

-- a scenario file's tree
unfoldable pub scenario_of : System → Data → Result Scenario PartRefusal
scenario_of s d = do
  object ← object_of d
  limit ← optional (whole_between 1 262144) 4096 key.EventLimit d
  scripts ← optional (list_after (script_of s)) [] key.Scripts d
  schedule ← optional (list_of (turn_of s)) [] key.Schedule d
  raises ← optional (list_of (raise_of s)) [] key.Interrupts d
  memory ← optional (list_of (bytes_of s.regions)) [] key.Memory d
  restarts ← optional (whole_between 0 15) 0 key.Restarts d
  Ok (scenario_with s limit scripts schedule raises memory restarts)

abbrev pub scenario_from : System → Option Data → Result Scenario PartRefusal
scenario_from s None = refuse JSON
scenario_from s (Some d) = scenario_of s d

-- a scenario file's bytes
unfoldable pub scenario_in : System → List ℕ → Result Scenario Refusal
scenario_in s bytes = placed root.Scenario [] (scenario_from s (tree_of bytes))
