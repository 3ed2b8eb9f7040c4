-- The line that says why a file is refused, and where.
-- Source: this simulator's.
use Rattle.std.specs.Prelude.{ℕ, ◌==◌, List, [], ◌∷◌, ◌++◌, codes, if◌then◌else◌}
use Rattle.std.specs.List.{flat_map}
use Rattle.std.specs.Fmt.{decimal}
use Rattle.ffm_model.specs.declared.codes.TheConstants.{JSON, MISSING_ATTRIBUTE, WRONG_TYPE, BAD_VALUE, DUPLICATE_PARTITION, DUPLICATE_SERVICE, DUPLICATE_SID, UNKNOWN_DEPENDENCY, SELF_DEPENDENCY, DEPENDENCY_CYCLE, TOO_MANY_SIGNALS, REGION_UNKNOWN, REGION_OVERLAP, TOO_MANY_PARTITIONS, TOO_MANY_CONNECTIONS, BUDGET_WITHOUT_PERMISSION, DUPLICATE_IRQ_SOURCE, MEMORY_TOO_LARGE, SCRIPT_SYNTAX, UNKNOWN_ACTOR, DUPLICATE_STATELESS_INDEX, TOO_MANY_STATELESS, FILE_TOO_LONG, TRACE_SYNTAX}
use Rattle.ffm_model.specs.declared.place.Refusal.{Refusal}
use Rattle.ffm_model.specs.declared.place.PathStep.{PathStep}
use Rattle.ffm_model.specs.declared.place.PathStep.TheVariants as step
use Rattle.ffm_model.specs.declared.place.Root.{Root}
use Rattle.ffm_model.specs.declared.place.Root.TheVariants as root
use Rattle.ffm_model.specs.Keys.{key_text}

-- a code and its name
abbrev pub NamedCode : Type 0
NamedCode = ℕ × List ℕ

unfoldable pub code_names : List NamedCode
code_names =
    (JSON, codes "Json") ∷ (MISSING_ATTRIBUTE, codes "MissingAttribute") ∷ (WRONG_TYPE, codes "WrongType") ∷ (BAD_VALUE, codes "BadValue")
    ∷ (DUPLICATE_PARTITION, codes "DuplicatePartition") ∷ (DUPLICATE_SERVICE, codes "DuplicateService") ∷ (DUPLICATE_SID, codes "DuplicateSid")
    ∷ (UNKNOWN_DEPENDENCY, codes "UnknownDependency") ∷ (SELF_DEPENDENCY, codes "SelfDependency") ∷ (DEPENDENCY_CYCLE, codes "DependencyCycle")
    ∷ (TOO_MANY_SIGNALS, codes "TooManySignals") ∷ (REGION_UNKNOWN, codes "RegionUnknown") ∷ (REGION_OVERLAP, codes "RegionOverlap")
    ∷ (TOO_MANY_PARTITIONS, codes "TooManyPartitions") ∷ (TOO_MANY_CONNECTIONS, codes "TooManyConnections")
    ∷ (BUDGET_WITHOUT_PERMISSION, codes "BudgetWithoutPermission") ∷ (DUPLICATE_IRQ_SOURCE, codes "DuplicateIrqSource")
    ∷ (MEMORY_TOO_LARGE, codes "MemoryTooLarge") ∷ (SCRIPT_SYNTAX, codes "ScriptSyntax") ∷ (UNKNOWN_ACTOR, codes "UnknownActor")
    ∷ (DUPLICATE_STATELESS_INDEX, codes "DuplicateStatelessIndex") ∷ (TOO_MANY_STATELESS, codes "TooManyStateless")
    ∷ (FILE_TOO_LONG, codes "FileTooLong") ∷ (TRACE_SYNTAX, codes "TraceSyntax") ∷ []

-- the name of a code in a table
abbrev pub name_in : List NamedCode → ℕ → List ℕ
name_in [] code = []
name_in (c ∷ cs) code = if c.0 == code then c.1 else name_in cs code

unfoldable pub code_name : ℕ → List ℕ
code_name code = name_in code_names code

abbrev pub root_text : Root → List ℕ
root_text root.System = codes "system"
root_text root.Scenario = codes "scenario"
root_text root.Trace = codes "trace"

-- an attribute's name or an item's number after a slash
abbrev pub step_text : PathStep → List ℕ
step_text (step.Key key) = 47 ∷ key_text key
step_text (step.Index i) = 47 ∷ decimal i

-- a path after a space, where it isn't empty
abbrev pub path_text : List PathStep → List ℕ
path_text [] = []
path_text (s ∷ steps) = 32 ∷ flat_map step_text (s ∷ steps)

abbrev pub id_text : ℕ → List ℕ
id_text id = 32 ∷ decimal id

-- the IDs of a dependency circle
abbrev pub cycle_text : ℕ → List ℕ → List ℕ
cycle_text code ids = if code == DEPENDENCY_CYCLE then codes " cycle" ++ flat_map id_text ids else []

-- `refused CODE NAME ROOT PATH`
unfoldable pub refusal_line : Refusal → List ℕ
refusal_line r =
    codes "refused " ++ (decimal r.code ++ (32 ∷ (code_name r.code ++ (32 ∷ (root_text r.place.root ++ (path_text r.place.steps ++ (cycle_text r.code r.cycle ++ 10 ∷ [])))))))

-- the refusal of a trace's line, counted from 1
abbrev pub wrong_line : ℕ → Refusal
wrong_line place = record { code = TRACE_SYNTAX; place = record { root = root.Trace; steps = step.Index place ∷ [] }; cycle = [] }
