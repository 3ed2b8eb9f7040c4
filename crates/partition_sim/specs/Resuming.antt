-- What a run needs of the plan of an actor.
-- Source: this simulator's; a call that was blocked returns before the actor calls again.
use Rattle.std.specs.Prelude.{◌≡◌, ◌↔◌, true, List}
use Rattle.ffm_model.specs.declared.machine.Call.TheVariants as call
use Rattle.ffm_model.specs.declared.machine.Outcome.{Outcome}
use Rattle.ffm_model.specs.Plans.{Plan}
use Rattle.ffm_model.specs.Records.{ends_blocked}

-- the next call is the return of an earlier one exactly where the last outcome is Blocked
abbrev pub ResumesAfterBlocked : Plan → Type 0
ResumesAfterBlocked plan = (outcomes : List Outcome) → (plan outcomes ≡ call.Resume) ↔ (ends_blocked outcomes ≡ true)
