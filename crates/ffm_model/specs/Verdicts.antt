-- How a run ended, and how a trace is judged.
-- Source: this simulator's.
use Rattle.std.specs.Prelude.{ℕ, ◌+◌, ◌==◌, nat_le, Bool, true, false, if◌then◌else◌, List, [], ◌∷◌, length, Some, None, Option, option_and_then}
use Rattle.std.specs.Option.{option_map_or}
use Rattle.std.specs.List.{list_any, range_with_len}
use Rattle.ffm_model.specs.declared.system.System.{System}
use Rattle.ffm_model.specs.declared.machine.Entry.{Entry}
use Rattle.ffm_model.specs.declared.machine.Verdict.{Verdict}
use Rattle.ffm_model.specs.declared.machine.Verdict.TheVariants.{Quiet, Stalled, Full}
use Rattle.ffm_model.specs.Actors.{actor_count}
use Rattle.ffm_model.specs.Memory.{ByteMap}
use Rattle.ffm_model.specs.State.{SpmState, State, opening, phase_of}
use Rattle.ffm_model.specs.Signals.{enabled, is_blocked}
use Rattle.ffm_model.specs.Step.{step, after}

abbrev pub all_actors : System → List ℕ
all_actors s = range_with_len 0 (actor_count s)

abbrev pub some_enabled : System → SpmState → Bool
some_enabled s b = list_any (enabled s b) (all_actors s)

abbrev pub some_blocked : System → SpmState → Bool
some_blocked s b = list_any (λ a. is_blocked (phase_of b a)) (all_actors s)

-- Full where some actor can go on and the entries number the limit; Stalled where none can and some waits for an answer; Quiet where none does
abbrev pub verdict_at : System → ℕ → ℕ → SpmState → Option Verdict
verdict_at s limit count b =
    if some_enabled s b
    then (if count == limit then Some Full else None)
    else (if some_blocked s b then Some Stalled else Some Quiet)

-- the verdict of a run, or nothing where it isn't ended or the entries are no run
abbrev pub verdict_of : System → ByteMap → ℕ → List Entry → Option Verdict
verdict_of s m limit es = option_and_then (λ st. verdict_at s limit (length es) st.spm) (after s m es)

-- a trace is legal, or illegal at a place, counted from 1
pub data Judgement : Type 0 where
  Legal : Judgement
  IllegalAt : ℕ → Judgement

abbrev pub verdict_eq : Verdict → Verdict → Bool
verdict_eq Quiet Quiet = true
verdict_eq Stalled Stalled = true
verdict_eq Full Full = true
verdict_eq _ _ = false

-- the judgement of the entries after n others that led to a state; the first entry that is no step or exceeds the limit counts, and after all entries the verdict
abbrev pub judged_from : System → ℕ → Verdict → ℕ → List Entry → State → Judgement
judged_from s limit v n [] st = if option_map_or (verdict_eq v) (verdict_at s limit n st.spm) false then Legal else IllegalAt (n + 1)
judged_from s limit v n (e ∷ es) st =
    if nat_le limit n
    then IllegalAt (n + 1)
    else option_map_or (λ new. judged_from s limit v (n + 1) es new) (step s st e) (IllegalAt (n + 1))

abbrev pub judged : System → ByteMap → ℕ → List Entry → Verdict → Judgement
judged s m limit es v = judged_from s limit v 0 es (opening s m)
