use Rattle.std.proofs.Common.{◌≡◌}
use Rattle.std.specs.Prelude.{fold, bit_or, get_or}
use Rattle.ffm_model.specs.State.{no_flags}
use Rattle.ffm_model.specs.Signals.{union_of}
use Rattle.spm_tables.specs.TablesView.{asserted}
use Rattle.spm_tables.proofs.SignalLemmas.{from_place}
use Rattle.spm_tables.proofs.signals.source_word.Given as goal

abbrev pub invariant-loop-place : goal.invariant-loop-place
invariant-loop-place l =
    fold bit_or l.word (from_place (λ i. (get_or l.flags i no_flags).asserted) l.sources l.partition l.place)
    ≡ union_of (asserted (λ i. (get_or l.flags i no_flags).asserted) l.sources l.partition)
