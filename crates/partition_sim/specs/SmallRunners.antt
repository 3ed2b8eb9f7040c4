-- The runner of a scheduled run, read as a runner.
-- Source: this simulator's.
use Rattle.partition_sim.specs.declared.runner.Runner.{Runner}
use Rattle.partition_sim.specs.declared.runner.Runner.TheVariants as kind
use Rattle.partition_sim.specs.declared.turn_runner.SmallRunner.{SmallRunner}
use Rattle.partition_sim.specs.declared.turn_runner.SmallRunner.TheVariants.{Client, Partition}

abbrev pub runner_of : SmallRunner → Runner
runner_of (Client r) = kind.Client r
runner_of (Partition b) = kind.Partition b.value
