-- Runs about the control of interrupts.
-- Source: FF-M 1.1 Extensions, psa_irq_enable, psa_irq_disable and psa_reset_signal; the numbers are this simulator's.
use Rattle.std.specs.Prelude.{◌∷◌, false, List, []}
use Rattle.ffm_model.specs.declared.constants.TheConstants.{PSA_POLL}
use Rattle.ffm_model.specs.declared.machine.Call.TheVariants.{Wait, Eoi, IrqEnable, IrqDisable, ResetSignal, Raise, Fire, Stop}
use Rattle.ffm_model.specs.declared.machine.Entry.{Entry}
use Rattle.ffm_model.specs.declared.machine.Outcome.TheVariants.{Number, Signals, Done, Panicked}
use Rattle.law_examples.specs.Writing.{entry}
use Rattle.law_examples.specs.Systems.{ticker, device}

-- An interrupt that comes while its source is disabled waits until it is enabled. A signal with a second-level handler isn't reset.
abbrev pub interrupt_while_disabled : List Entry
interrupt_while_disabled =
    entry ticker (IrqDisable 0x10) (Number 1)
    ∷ entry device (Raise 0) Done
    ∷ entry ticker (IrqDisable 0x10) (Number 0)
    ∷ entry device (Stop false) Done
    ∷ entry ticker (Wait 0x10 PSA_POLL) (Signals 0)
    ∷ entry ticker (IrqEnable 0x10) Done
    ∷ entry ticker (Wait 0x10 PSA_POLL) (Signals 0x10)
    ∷ entry ticker (ResetSignal 0x10) Panicked
    ∷ []

-- A first-level handler answers with each interrupt whether the partition is told. Its signal is reset, and not ended.
abbrev pub handled_at_first_level : List Entry
handled_at_first_level =
    entry ticker (IrqEnable 0x10) Done
    ∷ entry device (Fire 0 1) Done
    ∷ entry ticker (Wait 0x10 PSA_POLL) (Signals 0x10)
    ∷ entry device (Fire 0 0) Done
    ∷ entry ticker (ResetSignal 0x10) Done
    ∷ entry device (Stop false) Done
    ∷ entry ticker (Wait 0x10 PSA_POLL) (Signals 0)
    ∷ entry ticker (Eoi 0x10) Panicked
    ∷ []

-- Two such interrupts are one signal.
abbrev pub fired_twice : List Entry
fired_twice =
    entry ticker (IrqEnable 0x10) Done
    ∷ entry device (Fire 0 1) Done
    ∷ entry device (Fire 0 1) Done
    ∷ entry device (Stop false) Done
    ∷ entry ticker (ResetSignal 0x10) Done
    ∷ entry ticker (Wait 0x10 PSA_POLL) (Signals 0)
    ∷ entry ticker (Stop false) Done
    ∷ []
