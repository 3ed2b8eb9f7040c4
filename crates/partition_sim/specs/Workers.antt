-- Workers over a shared manager, before, between and after their tries.
-- Source: this simulator's.
use Rattle.std.specs.Prelude.{ℕ, ◌+◌, ◌-◌, ◌^◌, ◌≡◌, true, false, List, [], length, map, min}
use Rattle.ffm_model.specs.declared.machine.Entry.{Entry}
use Rattle.ffm_model.specs.declared.script.Instruction.{Instruction}
use Rattle.ffm_model.specs.Plans.{PlanRun}
use Rattle.ffm_model.specs.Records.{outcomes_of}
use Rattle.partition_sim.specs.declared.workers.Worker.{Worker}
use Rattle.partition_sim.specs.ActorPlans.{Role, plan_of_role}
use Rattle.partition_sim.specs.Standing.{Follows, role_of}

abbrev pub scripts_of : {P : Type 0} → List (Worker P) → List (List (List Instruction))
scripts_of ws = map (λ w. w.script) ws

abbrev pub roles_of : {P : Type 0} → List (Worker P) → List Role
roles_of ws = map (λ w. role_of w.runner) ws

abbrev pub actors_of : {P : Type 0} → (P → ℕ) → List (Worker P) → List ℕ
actors_of actor_of ws = map (λ w. actor_of w.pass) ws

module _ {S P : Type 0} (own : S → P → Type 0) (record_of : P → List Entry) where
  -- its pass is the object's own and was answered no entry, and its runner has seen no outcome
  pub record IsFresh (api : S) (w : Worker P) : Type 0 where
    pub own_is : own api w.pass
    pub empty : record_of w.pass ≡ []
    pub follows : Follows (role_of w.runner) w.script [] w.runner
    pub unfinished : w.done ≡ false
    pub first : w.number ≡ 1

module _ {S P : Type 0} (own : S → P → Type 0) (record_of : P → List Entry) (is_done : P → Type 0) where
  -- between two tries: the record is a run so far of the plan that the runner's role has with the script, and the runner has seen its outcomes
  pub record IsGood (api : S) (w : Worker P) : Type 0 where
    pub own_is : own api w.pass
    pub runs : PlanRun (plan_of_role (role_of w.runner) w.script) (record_of w.pass)
    pub follows : Follows (role_of w.runner) w.script (outcomes_of (record_of w.pass)) w.runner
    pub ends : w.done ≡ true → is_done w.pass
    pub numbered : w.number ≡ min (length (record_of w.pass) + 1) (2 ^ 32 - 1)

  -- it is done: its actor makes no further event, and its record is a run of the plan that its runner's role has with its script
  pub record IsFinished (api : S) (w : Worker P) : Type 0 where
    pub own_is : own api w.pass
    pub runs : PlanRun (plan_of_role (role_of w.runner) w.script) (record_of w.pass)
    pub pass_done : is_done w.pass
    pub done : w.done ≡ true
