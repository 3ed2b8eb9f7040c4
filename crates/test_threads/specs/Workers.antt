-- Workers for passes, before they are driven.
-- Source: this simulator's.
use Rattle.std.specs.Prelude.{◌≡◌, false, List, [], map}
use Rattle.partition_sim.specs.declared.workers.Worker.{Worker}
use Rattle.partition_sim.specs.Standing.{Follows, role_of}
use Rattle.spm_lock.specs.Passes.{PassView}

abbrev pub passes_in : List (Worker PassView) → List PassView
passes_in ws = map (λ w. w.pass) ws

-- it made no event, and its runner has seen no outcome
pub record IsUnstarted (w : Worker PassView) : Type 0 where
  pub follows : Follows (role_of w.runner) w.script [] w.runner
  pub unfinished : w.done ≡ false
  pub first : w.number ≡ 1
