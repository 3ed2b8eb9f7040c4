-- A run of a scenario's programs over a system.
-- Source: this simulator's. A trace is due where the machine, the programs and the turns allow it.
use Rattle.std.specs.Prelude.{◌≡◌, ℕ, ◌<◌, ◌≤◌, Bool, true, false, List, [], length, get_or, Some}
use Rattle.ffm_model.specs.declared.machine.Entry.{Entry}
use Rattle.ffm_model.specs.declared.machine.Verdict.{Verdict}
use Rattle.ffm_model.specs.declared.scenario.Scenario.{Scenario}
use Rattle.ffm_model.specs.declared.system.System.{System}
use Rattle.ffm_model.specs.Actors.{actor_count}
use Rattle.ffm_model.specs.Memory.{ByteMap}
use Rattle.ffm_model.specs.Names.{names}
use Rattle.ffm_model.specs.Plans.{PlanRun}
use Rattle.ffm_model.specs.Records.{entries_of}
use Rattle.ffm_model.specs.Schedule.{Scheduled}
use Rattle.ffm_model.specs.ScriptRuns.{only_part}
use Rattle.ffm_model.specs.SfnRuns.{SfnRun, sfn_partition}
use Rattle.ffm_model.specs.Step.{Run}
use Rattle.ffm_model.specs.Verdicts.{verdict_of}
use Rattle.actor_programs.specs.declared.program.Program.{Program}
use Rattle.actor_programs.specs.declared.program.Program.TheVariants.{Plain, Functions}
use Rattle.partition_sim.specs.ActorPlans.{plan_of_role, role_at}
use Rattle.law_calls.specs.Promises.{KeepsHeadline}
use Rattle.law_programs.specs.Windows.{KeepsWindows}

-- an actor's entries are a run of its program: the calls of the plan that its script gives, or rounds of its functions
abbrev pub ProgramRun : System → ℕ → Program → List Entry → Type 0
ProgramRun s a (Plain parts) es = PlanRun (plan_of_role (role_at s a) parts) es
ProgramRun s a (Functions functions) es = SfnRun (sfn_partition s a functions) es

-- what the entries keep of the vectors that a partition's program maps; functions map none
abbrev pub KeepsMapped : System → ByteMap → ℕ → Program → List Entry → Type 0
KeepsMapped s m a (Plain parts) es = KeepsWindows s m a (only_part parts) es
KeepsMapped s m a (Functions functions) es = Unit {0}

-- a trace that a scenario's run of a system may have, with threads or without, where it begins with the memory m
pub record RanBy (s : System) (m : ByteMap) (c : Scenario) (programs : List Program) (threads : Bool) (es : List Entry) (v : Verdict) : Type 0 where
  -- the entries are a run of the FF-M machine from that memory, within the limit
  pub is_run : Run s m es
  pub within : length es ≤ c.limit
  -- no call lacks a connection or message object, CONNECTION_BUSY comes only where the client's declared connections to the service
  -- are in use, and every byte read or changed lies within its actor's reach
  pub kept : KeepsHeadline s m es
  -- it ended, and so
  pub verdict : verdict_of s m c.limit es ≡ Some v
  -- each actor's entries are, each once and in order, the calls of its program, with the machine's answers
  pub programmed : (a : ℕ) → a < actor_count s → ProgramRun s a (get_or programs a (Plain [])) (entries_of a es)
  -- of each partition's mapped vectors: after the psa_read of a map_in the window has the client's bytes, after the psa_write of an unmap_out the client's
  -- vector has the window's, and after the psa_reply the client's length word has as many as were unmapped
  pub mapped : (a : ℕ) → a < length s.partitions → KeepsMapped s m a (get_or programs a (Plain [])) es
  -- each handle is the name of its connection or message
  pub named : names s m es ≡ true
  -- without threads, the entries were made in the turns of the schedule
  pub scheduled : threads ≡ false → Scheduled s m c.schedule es
