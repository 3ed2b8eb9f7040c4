use Rattle.std.proofs.Common.{◌≡◌, map, take}
use Rattle.spm_tables.specs.TablesView.{source_signal}
use Rattle.spm_tables.proofs.signals.source_signals.Given as goal

abbrev pub invariant-loop-source : goal.invariant-loop-source
invariant-loop-source l = l.signals.items ≡ map source_signal (take l.source-index l.sources)
