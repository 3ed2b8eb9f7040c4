use Rattle.law_scenarios.proofs.Files.{scenario_is_in_range, system_is_in_range}
use Rattle.law_scenarios.proofs.ranges.files_are_in_range.Goals as goal

pub returns-clause-system : goal.returns-clause-system
returns-clause-system c = system_is_in_range

pub returns-clause-scenario : goal.returns-clause-scenario
returns-clause-scenario c = scenario_is_in_range
