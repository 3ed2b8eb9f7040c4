-- A client that connects to a service, with the programs of both, and three of their runs.
-- Source: this simulator's.
use Rattle.std.specs.Prelude.{ℕ, pos, false, List, [], ◌∷◌, map}
use Rattle.ffm_model.specs.declared.constants.TheConstants.{PSA_BLOCK, PSA_IPC_CONNECT}
use Rattle.ffm_model.specs.declared.machine.Call.TheVariants.{Connect, Wait, Get, Reply, Resume, Stop}
use Rattle.ffm_model.specs.declared.machine.Entry.{Entry}
use Rattle.ffm_model.specs.declared.machine.Outcome.TheVariants.{Value, Signals, Got, Blocked, Done}
use Rattle.ffm_model.specs.declared.scenario.Scenario.{Scenario}
use Rattle.ffm_model.specs.declared.script.CallName.TheVariants as name
use Rattle.ffm_model.specs.Signed.{minus}
use Rattle.actor_programs.specs.declared.program.Program.{Program}
use Rattle.actor_programs.specs.declared.program.Program.TheVariants.{Plain}
use Rattle.actor_programs.specs.Programs.{parts_of}
use Rattle.law_examples.specs.ScriptLines.{call, number, register}
use Rattle.law_examples.specs.Systems.{client, vault}
use Rattle.law_examples.specs.Writing.{entry, handle, message, sid, status}
use Rattle.law_scenarios.specs.ByScripts.{Scripts}
use Rattle.law_scenarios.specs.Interleavings.{schedule_of}

-- the partition waits for a message, and answers it with 0
abbrev vault_program : Program
vault_program =
    Plain ((call name.Wait (number 0x10 ∷ number PSA_BLOCK ∷ [])
    ∷ call name.Get (number 0x10 ∷ number 0x30000000 ∷ [])
    ∷ call name.Reply (register 2 ∷ number 0 ∷ [])
    ∷ []) ∷ [])

-- the client connects
abbrev client_program : Program
client_program = Plain ((call name.Connect (number 0x40 ∷ number 1 ∷ []) ∷ []) ∷ [])

abbrev pub programs : List Program
programs = vault_program ∷ client_program ∷ []

-- the scripts of both
abbrev pub scripts : Scripts
scripts = map parts_of programs

-- the end of a run, where the message has this number for a handle
abbrev answered : ℕ → List Entry
answered n =
    entry vault (Get 0x10 0x30000000) (Got (message PSA_IPC_CONNECT n (minus 1) 0 [] []))
    ∷ entry vault (Reply (handle n) (status (pos 0))) Done
    ∷ entry client Resume (Value (pos 1024))
    ∷ entry client (Stop false) Done
    ∷ entry vault (Stop false) Done
    ∷ []

-- the client calls first
abbrev pub client_first : List Entry
client_first = entry client (Connect (sid 0x40) 1) Blocked ∷ entry vault (Wait 0x10 PSA_BLOCK) Blocked ∷ entry vault Resume (Signals 0x10) ∷ answered 1536

-- the same, but for a handle that is fresh and no name
abbrev pub other_handle : List Entry
other_handle = entry client (Connect (sid 0x40) 1) Blocked ∷ entry vault (Wait 0x10 PSA_BLOCK) Blocked ∷ entry vault Resume (Signals 0x10) ∷ answered 2000

-- the partition calls first
abbrev pub vault_first : List Entry
vault_first = entry vault (Wait 0x10 PSA_BLOCK) Blocked ∷ entry client (Connect (sid 0x40) 1) Blocked ∷ entry vault Resume (Signals 0x10) ∷ answered 1536

-- a scenario with a turn for each entry
abbrev pub scenario_with_turns : List Entry → Scenario
scenario_with_turns es = record { limit = 4096; lines = []; order = []; schedule = schedule_of es; raises = []; memory = []; restarts = 0 }
