-- Crews of workers that threads drive, and what comes back of them. A crew has one worker.
-- Source: this simulator's.
use Rattle.std.specs.Prelude.{◌≡◌, ℕ, ◌+◌, Bool, true, false, List, [], ◌∷◌, ◌++◌, length, map}
use Rattle.std.specs.List.{All, AllByRecursion}
use Rattle.ffm_model.specs.Plans.{PlanRun}
use Rattle.ffm_model.specs.declared.system.System.{System}
use Rattle.partition_sim.specs.declared.workers.Worker.{Worker}
use Rattle.partition_sim.specs.ActorPlans.{Role, plan_of_role, role_at}
use Rattle.partition_sim.specs.Standing.{Follows, role_of}
use Rattle.partition_sim.specs.Workers.{IsFresh, IsFinished, actors_of, roles_of, scripts_of}
use Rattle.spm_lock.specs.Passes.{SharedView, PassView, IsOwn, IsDone, record_of}
use Rattle.scenario_runs.specs.declared.threads.Progress.{Progress}
use Rattle.scenario_runs.specs.declared.threads.Progress.TheVariants as progress
use Rattle.scenario_runs.specs.declared.threads.Seat.{Seat}
use Rattle.scenario_runs.specs.declared.threads.Start.{Start}
use Rattle.actor_programs.specs.Programs.{Parts}

abbrev pub Crew : Type 0
Crew = List (Worker PassView)

abbrev pub actors_in : Crew → List ℕ
actors_in crew = actors_of (λ p. p.actor) crew

abbrev pub AllFresh : SharedView → Crew → Type 0
AllFresh s crew = All (IsFresh IsOwn record_of s) crew

abbrev pub AllFinished : SharedView → Crew → Type 0
AllFinished s crew = All (IsFinished IsOwn record_of IsDone s) crew

-- one worker that has made no event
abbrev pub IsNewCrew : SharedView → Crew → Type 0
IsNewCrew s crew = (length crew ≡ 1) × AllFresh s crew

abbrev pub AreNewCrews : SharedView → List Crew → Type 0
AreNewCrews s crews = AllByRecursion (IsNewCrew s) crews

-- passes that were answered nothing
abbrev pub AreUnused : SharedView → List PassView → Type 0
AreUnused s passes = AllByRecursion (λ p. IsOwn s p × (record_of p ≡ [])) passes

-- its runner has seen no outcome of its script
abbrev pub IsStart : Start → Type 0
IsStart x = Follows (role_of x.runner) x.script [] x.runner

-- what each actor from a on begins with, in order: its script, with a runner of its role
abbrev pub StartsFrom : System → ℕ → List Parts → List Start → Type 0
StartsFrom s a [] [] = Unit {0}
StartsFrom s a (script ∷ scripts) (x ∷ xs) = (x.script ≡ script) × (role_of x.runner ≡ role_at s a) × IsStart x × StartsFrom s (a + 1) scripts xs
StartsFrom s a _ _ = ⊥

-- a new crew for each pass and start, in order
abbrev pub CrewedBy : SharedView → List PassView → List Start → List Crew → Type 0
CrewedBy s [] [] [] = Unit {0}
CrewedBy s (p ∷ ps) (x ∷ xs) (crew ∷ crews) =
    (actors_in crew ≡ p.actor ∷ []) × (scripts_of crew ≡ x.script ∷ []) × (roles_of crew ≡ role_of x.runner ∷ []) × IsNewCrew s crew × CrewedBy s ps xs crews
CrewedBy s _ _ _ = ⊥

-- the workers are of the same actors, scripts and roles, in order
pub record SameWorkers (before after : Crew) : Type 0 where
  pub actors : actors_in after ≡ actors_in before
  pub scripts : scripts_of after ≡ scripts_of before
  pub roles : roles_of after ≡ roles_of before

-- what a thread gives back of a crew: driven until each worker is finished, or as it was handed in
pub record IsTrip (s : SharedView) (before : Crew) (drove : Bool) (after : Crew) : Type 0 where
  pub same : SameWorkers before after
  pub finished : drove ≡ true → AllFinished s after
  pub kept : drove ≡ false → after ≡ before

-- the pass of the crew's actor, which makes no further event, and was answered a run of the plan that its role has with its script
pub record IsDoneBy (s : SharedView) (crew : Crew) (p : PassView) : Type 0 where
  pub own : IsOwn s p
  pub actor_is : actors_in crew ≡ p.actor ∷ []
  pub script : Parts
  pub script_is : scripts_of crew ≡ script ∷ []
  pub role : Role
  pub role_is : roles_of crew ≡ role ∷ []
  pub runs : PlanRun (plan_of_role role script) (record_of p)
  pub done : IsDone p

-- such a pass for each crew, in order
abbrev pub AreDoneBy : SharedView → List Crew → List PassView → Type 0
AreDoneBy s [] [] = Unit {0}
AreDoneBy s (crew ∷ crews) (p ∷ ps) = IsDoneBy s crew p × AreDoneBy s crews ps
AreDoneBy s _ _ = ⊥

-- what is known of a crew: it was new, and a thread drives it, it was driven, or it waits
abbrev pub IsAt : SharedView → Crew → Progress → Type 0
IsAt s crew (progress.Started handle) = (handle.promise.shared.value ≡ s) × (handle.promise.crew.value ≡ crew)
IsAt s crew (progress.Driven pass) = IsDoneBy s crew pass
IsAt s crew progress.Waiting = Unit {0}

abbrev pub IsSeat : SharedView → Seat → Type 0
IsSeat s seat = IsNewCrew s seat.crew.value × IsAt s seat.crew.value seat.progress

abbrev pub AreSeats : SharedView → List Seat → Type 0
AreSeats s seats = AllByRecursion (IsSeat s) seats

abbrev pub crews_in : List Seat → List Crew
crews_in seats = map (λ x. x.crew.value) seats

abbrev pub left_of : Crew → Progress → Crew
left_of crew progress.Waiting = crew
left_of crew _ = []

-- the workers that wait, in order
abbrev pub waiting : List Seat → Crew
waiting [] = []
waiting (x ∷ xs) = left_of x.crew.value x.progress ++ waiting xs
