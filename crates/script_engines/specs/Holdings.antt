-- Where the script of a partition stands, with the messages that it holds.
-- Source: this simulator's script language; FF-M 1.1, mapped vectors (MM-IOVEC).
use Rattle.std.specs.Prelude.{ℕ, List, slice_set}
use Rattle.ffm_model.specs.declared.machine.Call.{Call}
use Rattle.ffm_model.specs.declared.machine.Call.TheVariants as call
use Rattle.ffm_model.specs.Held.{HeldMessage}
use Rattle.ffm_model.specs.HeldPlans.{Holding}
use Rattle.ffm_model.specs.ScriptRuns.{point}

abbrev pub holding : List ℕ → ℕ → List HeldMessage → Holding
holding registers place table = record { at = point registers place; table = table }

-- after psa_read for map_in, r0 is the window that it filled
abbrev pub with_window : Call → List ℕ → List ℕ
with_window (call.Read h index buffer len) registers = slice_set registers 0 buffer
with_window _ registers = registers
