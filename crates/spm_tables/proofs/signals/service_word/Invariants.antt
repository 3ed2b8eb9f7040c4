use Rattle.std.proofs.Common.{◌≡◌}
use Rattle.std.specs.Prelude.{fold, bit_or, get_or, false}
use Rattle.ffm_model.specs.Signals.{union_of}
use Rattle.spm_tables.specs.TablesView.{asserted}
use Rattle.spm_tables.proofs.SignalLemmas.{from_place}
use Rattle.spm_tables.proofs.signals.service_word.Given as goal

abbrev pub invariant-loop-place : goal.invariant-loop-place
invariant-loop-place l =
    fold bit_or l.word (from_place (λ v. get_or l.waiting v false) l.services l.partition l.place)
    ≡ union_of (asserted (λ v. get_or l.waiting v false) l.services l.partition)
