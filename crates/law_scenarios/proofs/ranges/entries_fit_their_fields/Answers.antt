use Rattle.law_scenarios.proofs.Every.{have_fitting_entries, have_fitting_runs}
use Rattle.law_scenarios.proofs.ranges.entries_fit_their_fields.Goals as goal

pub returns-clause-run : goal.returns-clause-run
returns-clause-run c = have_fitting_entries

pub returns-clause-runs : goal.returns-clause-runs
returns-clause-runs c = have_fitting_runs
