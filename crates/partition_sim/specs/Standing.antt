-- When a runner is in step with the script of its actor.
-- Source: this simulator's.
use Rattle.std.specs.Prelude.{ℕ, ◌≡◌, List, length}
use Rattle.ffm_model.specs.declared.machine.Outcome.{Outcome}
use Rattle.ffm_model.specs.declared.script.Instruction.{Instruction}
use Rattle.ffm_model.specs.ScriptRuns.{only_part}
use Rattle.partition_sim.specs.declared.runner.Runner.{Runner}
use Rattle.partition_sim.specs.declared.runner.Runner.TheVariants.{Client, Partition}
use Rattle.partition_sim.specs.ActorPlans.{Role}
use Rattle.partition_sim.specs.ActorPlans.Role.{holds, takes_turns}
use Rattle.partition_sim.specs.Clients.{AskedAll, FollowsAll}
use Rattle.partition_sim.specs.Partitions.{AskedHeld, FollowsHeld}

-- what the actor of a runner is to its script
abbrev pub role_of : Runner → Role
role_of (Client r) = takes_turns
role_of (Partition r) = holds r.holder

-- how many parts a runner's script has: one for each context
abbrev pub contexts_of : Runner → ℕ
contexts_of (Client r) = r.desk.count
contexts_of (Partition r) = 1

-- the runner of an actor of this role has seen these outcomes of its calls, and runs to the next one
abbrev pub Follows : Role → List (List Instruction) → List Outcome → Runner → Type 0
Follows takes_turns parts outcomes (Client r) = FollowsAll parts outcomes r
Follows (holds p) parts outcomes (Partition r) = (length parts ≡ 1) × FollowsHeld p (only_part parts) outcomes r
Follows _ parts outcomes r = ⊥

-- it has seen them, and stands at the next call
abbrev pub Asked : Role → List (List Instruction) → List Outcome → Runner → Type 0
Asked takes_turns parts outcomes (Client r) = AskedAll parts outcomes r
Asked (holds p) parts outcomes (Partition r) = (length parts ≡ 1) × AskedHeld p (only_part parts) outcomes r
Asked _ parts outcomes r = ⊥
