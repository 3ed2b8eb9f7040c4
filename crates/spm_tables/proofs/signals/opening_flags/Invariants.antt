use Rattle.std.proofs.Common.{◌≡◌, map, take}
use Rattle.spm_tables.specs.Words.{first_flags}
use Rattle.spm_tables.proofs.signals.opening_flags.Given as goal

abbrev pub invariant-loop-source : goal.invariant-loop-source
invariant-loop-source l = l.flags.items ≡ map first_flags (take l.source-index l.sources)
