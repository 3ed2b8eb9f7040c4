use Rattle.std.proofs.Common.{◌≡◌}
use Rattle.std.specs.Prelude.{fold, bit_or}
use Rattle.ffm_model.specs.Signals.{union_of}
use Rattle.machine_rules.specs.Signals.{sources_asserted, sources_from}
use Rattle.machine_rules.proofs.asserted.source_word.Given as goal

-- the word so far with the signals that are left is all
abbrev pub invariant-loop-place : goal.invariant-loop-place
invariant-loop-place l = fold bit_or l.word (sources_from l.sources l.flags l.partition l.place) ≡ union_of (sources_asserted l.sources l.flags l.partition)
