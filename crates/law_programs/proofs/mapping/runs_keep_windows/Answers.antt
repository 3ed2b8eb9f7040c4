use Rattle.law_programs.proofs.Events.{runs-keep-windows}
use Rattle.law_programs.proofs.mapping.runs_keep_windows.Goals as goal

pub returns : goal.returns
returns c = runs-keep-windows
