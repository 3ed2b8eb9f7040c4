-- Runs in which a partition and a client load from the RAM of another partition.
-- Source: FF-M 1.0, isolation levels; the numbers are this simulator's.
use Rattle.std.specs.Prelude.{◌∷◌, false, List, []}
use Rattle.ffm_model.specs.declared.constants.TheConstants.{PSA_ERROR_PROGRAMMER_ERROR}
use Rattle.ffm_model.specs.declared.machine.Call.TheVariants.{Load, Stop}
use Rattle.ffm_model.specs.declared.machine.Entry.{Entry}
use Rattle.ffm_model.specs.declared.machine.Outcome.TheVariants.{Value, Number, Done, Panicked}
use Rattle.law_examples.specs.Writing.{entry}
use Rattle.law_examples.specs.Systems.{vault, spy, outsider}

-- The two partitions are isolated from each other.
abbrev pub spy_panicked : List Entry
spy_panicked =
    entry vault (Stop false) Done
    ∷ entry spy (Load 0x30000000 4) Panicked
    ∷ entry outsider (Load 0x30000000 4) (Value PSA_ERROR_PROGRAMMER_ERROR)
    ∷ entry outsider (Stop false) Done
    ∷ []

-- The two partitions share a domain.
abbrev pub spy_answered : List Entry
spy_answered =
    entry vault (Stop false) Done
    ∷ entry spy (Load 0x30000000 4) (Number 0)
    ∷ entry outsider (Load 0x30000000 4) (Value PSA_ERROR_PROGRAMMER_ERROR)
    ∷ entry spy (Stop false) Done
    ∷ entry outsider (Stop false) Done
    ∷ []
