-- What each actor of a system runs, by the scripts of a scenario: its script, or where it is a partition of the SFN model the functions of its services.
-- Source: FF-M 1.1, the two models of a Secure Partition (IPC and SFN); scripts, and that a non-secure client may have several, are this simulator's.
use Rattle.std.specs.Prelude.{ℕ, ◌≡◌, ◌+◌, ◌<◌, ◌≤◌, ◌==◌, ◌⊎◌, true, false, if◌then◌else◌, List, [], ◌∷◌, ◌++◌, length, map, count_by, get_or, slice_get, slice_set, replicate, Option, Some, None, Result, Ok, Err}
use Rattle.std.specs.List.{AllByRecursion, enumerate_from, flat_map}
use Rattle.ffm_model.specs.declared.machine.ActorId.{ActorId}
use Rattle.ffm_model.specs.declared.scenario.RaiseItem.{RaiseItem}
use Rattle.ffm_model.specs.declared.scenario.Scenario.{Scenario}
use Rattle.ffm_model.specs.declared.script.Instruction.{Instruction}
use Rattle.ffm_model.specs.declared.script.SfnFunction.{SfnFunction}
use Rattle.ffm_model.specs.declared.system.Source.{Source}
use Rattle.ffm_model.specs.declared.system.System.{System}
use Rattle.ffm_model.specs.Actors.{kind_of}
use Rattle.ffm_model.specs.Reading.{Stop}
use Rattle.ffm_model.specs.Scenarios.{most_scripts}
use Rattle.ffm_model.specs.SfnRuns.{sfn_partition}
use Rattle.ffm_model.specs.SfnScripts.{IsSfnScript}
use Rattle.script_asm.specs.Device.{device_script}
use Rattle.script_asm.specs.Lines.{assembled, lines_of, script_read}
use Rattle.sfn_calls.specs.Loop.{expanded}
use Rattle.sfn_calls.specs.Partitions.{is_sfn}
use Rattle.sfn_calls.specs.FunctionLines.{functions_of, functions_read, limited}
use Rattle.actor_programs.specs.declared.program.Program.{Program}
use Rattle.actor_programs.specs.declared.program.Program.TheVariants.{Plain, Functions}

-- a script, as the list of its parts
abbrev pub Parts : Type 0
Parts = List (List Instruction)

-- `x ← r` in a `do` goes on with the value of an Ok, and ends at a refusal
infixl 10 ◌>>=◌
abbrev pub ◌>>=◌ : {A B : Type 0} → Result A Stop → (A → Result B Stop) → Result B Stop
(Ok x) >>= f = f x
(Err e) >>= f = Err e

-- ---- one script

abbrev pub as_script : Result Parts Stop → Result Program Stop
as_script (Ok parts) = Ok (Plain parts)
as_script (Err e) = Err e

abbrev pub as_functions : Result (List SfnFunction) Stop → Result Program Stop
as_functions (Ok functions) = Ok (Functions functions)
as_functions (Err e) = Err e

-- the program that lines make of an actor, or the refusal of their first wrong line in the script with this number
abbrev pub program_read : System → ℕ → ℕ → List (List ℕ) → Result Program Stop
program_read s number a lines = if is_sfn s a then as_functions (functions_read s a number lines) else as_script (script_read (kind_of s a) number lines)

-- the program that one script makes: one part, or functions where the actor is a partition of the SFN model
abbrev pub IsOfOneScript : System → ℕ → Program → Type 0
IsOfOneScript s a (Plain parts) = (is_sfn s a ≡ false) × (length parts ≡ 1)
IsOfOneScript s a (Functions functions) = (is_sfn s a ≡ true) × IsSfnScript functions

-- a script of one part
abbrev pub IsOnePart : Program → Type 0
IsOnePart (Plain parts) = length parts ≡ 1
IsOnePart (Functions functions) = ⊥

-- ---- one actor

-- functions are those of a partition of the SFN model; a script of any other actor has as many parts as the actor may have scripts, at most
abbrev pub IsProgramOf : System → ℕ → Program → Type 0
IsProgramOf s a (Plain parts) = (is_sfn s a ≡ false) × (0 < length parts) × (length parts ≤ most_scripts s a)
IsProgramOf s a (Functions functions) = (is_sfn s a ≡ true) × IsSfnScript functions

-- without a script in the scenario: a script without a line, or no function
abbrev pub empty_program : System → ℕ → Program
empty_program s a = if is_sfn s a then Functions [] else Plain ([] ∷ [])

abbrev pub parts_of : Program → Parts
parts_of (Plain parts) = parts
parts_of (Functions functions) = []

-- the programs of an actor's scripts as one: the parts of all scripts, in order
abbrev pub joined : System → ℕ → List Program → Program
joined s a [] = empty_program s a
joined s a (p ∷ []) = p
joined s a (p ∷ q ∷ ps) = Plain (flat_map parts_of (p ∷ (q ∷ ps)))

-- the script by which a program runs
abbrev pub script_of : System → ℕ → Program → Parts
script_of s a (Plain parts) = parts
script_of s a (Functions functions) = expanded (sfn_partition s a functions) ∷ []

-- ---- all actors

pub record ArePrograms (s : System) (programs : List Program) : Type 0 where
  pub each : (a : ℕ) → a < length programs → IsProgramOf s a (get_or programs a (Plain []))

-- by actor, the programs of those of its scripts that are assembled
abbrev pub Made : Type 0
Made = List (List Program)

-- each is that of one script, and no actor has more of them than it may have scripts
pub record AreMade (s : System) (made : Made) : Type 0 where
  pub each : (a : ℕ) → a < length made → AllByRecursion (IsOfOneScript s a) (get_or made a [])
  pub few : (a : ℕ) → a < length made → length (get_or made a []) ≤ most_scripts s a

-- the device, where there is one, makes the interrupts in order
abbrev pub device_made : List Source → List RaiseItem → Made
device_made [] raises = []
device_made (x ∷ xs) raises = (Plain (device_script raises) ∷ []) ∷ []

-- before the first script of the file: none but the device's
unfoldable pub first_made : System → Scenario → Made
first_made s c = replicate (length s.partitions + length s.clients) [] ++ device_made s.sources c.raises

-- the first of an actor's scripts that isn't assembled yet
abbrev pub next_lines : Scenario → ActorId → Made → Option (List (List ℕ))
next_lines c actor made = slice_get (get_or c.lines actor.0 []) (length (get_or made actor.0 []))

-- one program more of an actor
abbrev pub with_program : Made → ActorId → Program → Made
with_program made actor p = slice_set made actor.0 (get_or made actor.0 [] ++ p ∷ [])

-- these lines assembled too, as the script of an actor that has this number in the file
abbrev pub made_with : System → ℕ → ActorId → Made → Option (List (List ℕ)) → Result Made Stop
made_with s number actor made None = Ok made
made_with s number actor made (Some lines) = do
  p ← program_read s number actor.0 lines
  Ok (with_program made actor p)

-- the file's scripts from that number on, of these actors; the first script of an actor in the file has the first of its lines, and so on
unfoldable pub made_from : System → Scenario → ℕ → List ActorId → Made → Result Made Stop
made_from s c number [] made = Ok made
made_from s c number (actor ∷ actors) made = do
  more ← made_with s number actor made (next_lines c actor made)
  made_from s c (number + 1) actors more

abbrev pub all_joined : System → Made → List Program
all_joined s made = map (λ own. joined s own.0 own.1) (enumerate_from 0 made)

-- the program of each actor, or the refusal of the first wrong line in the file's order of scripts
unfoldable pub programs_of : System → Scenario → Result (List Program) Stop
programs_of s c = do
  made ← made_from s c 0 c.order (first_made s c)
  Ok (all_joined s made)

-- ---- the scripts behind the programs

-- how often the file's order of scripts names an actor
abbrev pub times_named : Scenario → ℕ → ℕ
times_named c a = count_by (λ b. b.0 == a) c.order

-- an actor is named once for each of its scripts, or never where its only script is the empty one that stands for none
abbrev pub IsListed : Scenario → ℕ → Type 0
IsListed c a = (times_named c a ≡ length (get_or c.lines a [])) ⊎ ((times_named c a ≡ 0) × (get_or c.lines a [] ≡ [] ∷ []))

-- a program is that of an actor's scripts: a part for each of them, in order, or the functions of the only one
abbrev pub IsOfScripts : System → ℕ → List (List (List ℕ)) → Program → Type 0
IsOfScripts s a scripts (Plain parts) = map (assembled (kind_of s a)) scripts ≡ map Ok parts
IsOfScripts s a scripts (Functions functions) = map (λ texts. limited (length texts) (functions_of s a (lines_of texts))) scripts ≡ Ok functions ∷ []

-- each partition and client that is listed has the program of its scripts
pub record AreOfScripts (s : System) (c : Scenario) (programs : List Program) : Type 0 where
  pub each : (a : ℕ) → a < length s.partitions + length s.clients → IsListed c a → IsOfScripts s a (get_or c.lines a []) (get_or programs a (Plain []))

-- ---- how programs run

-- scripts by which programs run, one for each
pub record AreScriptsOf (s : System) (programs : List Program) (scripts : List Parts) : Type 0 where
  pub long : length scripts ≡ length programs
  pub each : (a : ℕ) → a < length programs → get_or scripts a [] ≡ script_of s a (get_or programs a (Plain []))
