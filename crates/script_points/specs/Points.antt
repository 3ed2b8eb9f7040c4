-- Where the contexts of a client stand, and what each of them calls next.
-- Source: this simulator's.
use Rattle.std.specs.Prelude.{ℕ, ◌≡◌, ◌<◌, Bool, false, List, length, get_or}
use Rattle.ffm_model.specs.declared.machine.Call.{Call}
use Rattle.ffm_model.specs.declared.machine.Call.TheVariants as call
use Rattle.ffm_model.specs.declared.script.Instruction.{Instruction}
use Rattle.ffm_model.specs.Contexts.{Contexts, script_of}
use Rattle.ffm_model.specs.Plans.{is_stop}
use Rattle.ffm_model.specs.ScriptRuns.{Point, arrived, call_at, start}

-- a script, as the list of its parts
abbrev pub Parts : Type 0
Parts = List (List Instruction)

-- a point for each context, one of which has the turn
pub record AreContexts (parts : Parts) (x : Contexts) : Type 0 where
  pub points_are : length x.points ≡ length parts
  pub within : x.turn < length parts

-- stands for a call that isn't there
abbrev pub no_call : Call
no_call = call.Resume

-- the next call of each context
abbrev pub AreCalls : Parts → List Point → List Call → Type 0
AreCalls scripts points calls =
    (k : ℕ) → k < length scripts
    → get_or calls k no_call ≡ call_at (script_of scripts k) (arrived (script_of scripts k) (get_or points k start))

-- which of so many contexts have ended: their next call is Stop
abbrev pub AreEnded : ℕ → List Call → List Bool → Type 0
AreEnded count calls ended = (k : ℕ) → k < count → get_or ended k false ≡ is_stop (get_or calls k no_call)
