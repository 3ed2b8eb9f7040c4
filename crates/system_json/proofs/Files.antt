-- From a file's bytes to what its tree says.
use Rattle.std.proofs.Common.{◌≡◌, ℕ, ◌<◌, List, [], ◌∷◌, map, Some, Result, Ok, Err, refl, subst}
use Rattle.std.specs.Prelude.{IfOk}
use Rattle.std.specs.List.{AllByRecursion}
use Rattle.serde_json.specs.Data.{Data}
use Rattle.ffm_model.specs.declared.machine.ActorId.{ActorId}
use Rattle.ffm_model.specs.declared.script_item.ScriptItem.{ScriptItem}
use Rattle.ffm_model.specs.declared.place.PartRefusal.{PartRefusal}
use Rattle.ffm_model.specs.declared.place.PathStep.{PathStep}
use Rattle.ffm_model.specs.declared.place.ReadError.{ReadError}
use Rattle.ffm_model.specs.declared.place.ReadError.TheVariants as read_error
use Rattle.ffm_model.specs.declared.place.Refusal.{Refusal}
use Rattle.ffm_model.specs.declared.place.Root.{Root}
use Rattle.ffm_model.specs.declared.place.Root.TheVariants as root
use Rattle.ffm_model.specs.declared.scenario.Scenario.{Scenario}
use Rattle.ffm_model.specs.declared.system.System.{System}
use Rattle.ffm_model.specs.Attributes.{placed}
use Rattle.ffm_model.specs.Trees.{tree_of}
use Rattle.ffm_model.specs.Reading.{Reads}
use Rattle.ffm_model.specs.Scenarios.{scenario_of, scenario_in}
use Rattle.ffm_model.specs.Systems.{stopped}
use Rattle.manifest_json.specs.declared.error.PartError.{PartError}
use Rattle.manifest_json.specs.declared.error.PartError.TheVariants as part_error
use Rattle.manifest_json.specs.Gives.{Gives, GivesRead}
use Rattle.manifest_json.specs.Trees.{FailsTree}

-- a value that was placed is the value that was read
same_placed : {A : Type 0} (root : Root) (front : List PathStep) (read : Result A PartError) (x : A) → ((r : Result A PartRefusal) → Gives read r → GivesRead (Ok x) (placed root front r)) → read ≡ Ok x
same_placed {A} root front (Ok y) x given =
    let same : Ok y ≡ Ok x = given (Ok y) refl in
    cc
same_placed root front (Err part_error.Memory) x given = absurd (let clash = given (Err (record { code = 0; steps = [] })) tt in cc)
same_placed root front (Err (part_error.Refused r)) x given = absurd (let clash = given (Err r) refl in cc)

-- and so it keeps its range
pub kept_placed : {A : Type 0} (P : A → Type 0) (root : Root) (front : List PathStep) (read : Result A PartError) (result : Result A ReadError) → ((r : Result A PartRefusal) → Gives read r → GivesRead result (placed root front r)) → IfOk read P → IfOk result P
kept_placed {A} P root front read (Ok x) given kept =
    let Q : Result A PartError → Type 0 = λ r. IfOk r P in
    subst Q (same_placed root front read x given) kept
kept_placed P root front read (Err e) given kept = tt

pub no_scenario : (s : System) (bytes : List ℕ) (e : ReadError) → FailsTree (record { root = root.Scenario; steps = [] }) e (tree_of bytes) → Reads (λ (c : Scenario). c) (Err e) (stopped (scenario_in s bytes))
unfolding scenario_in
no_scenario s bytes read_error.Memory failed = tt
no_scenario s bytes (read_error.Refused r) failed = rw (failed.0, failed.1) refl

pub scenario_at : (s : System) (bytes : List ℕ) (d : Data) → tree_of bytes ≡ Some d → scenario_in s bytes ≡ placed root.Scenario [] (scenario_of s d)
unfolding scenario_in
scenario_at s bytes d is = rw is refl

-- the same, as a step that asks for no file
pub reads_given : {A : Type 0} (result : Result A ReadError) (r : Result A Refusal) → GivesRead result r → Reads (λ x. x) result (stopped r)
reads_given (Ok x) r given = rw given refl
reads_given (Err read_error.Memory) r given = tt
reads_given (Err (read_error.Refused f)) r given = rw given refl

-- the actors of scripts are actors of the system
pub all_actors : (n : ℕ) (scripts : List ScriptItem) → AllByRecursion (λ script. script.actor.0 < n) scripts → AllByRecursion (λ (actor : ActorId). actor.0 < n) (map (λ script. script.actor) scripts)
all_actors n [] all = tt
all_actors n (script ∷ scripts) all = (all.0, all_actors n scripts all.1)
