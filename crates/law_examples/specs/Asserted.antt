-- Runs about doorbells, the signals of services, and interrupts.
-- Source: FF-M 1.0, psa_wait, psa_notify, psa_clear and psa_eoi; the numbers are this simulator's.
use Rattle.std.specs.Prelude.{◌∷◌, pos, false, List, []}
use Rattle.ffm_model.specs.declared.constants.TheConstants.{PSA_DOORBELL, PSA_IPC_CONNECT, PSA_POLL}
use Rattle.ffm_model.specs.declared.machine.Call.TheVariants.{Connect, Wait, Get, Notify, Clear, Eoi, Raise, Stop}
use Rattle.ffm_model.specs.declared.machine.Entry.{Entry}
use Rattle.ffm_model.specs.declared.machine.Outcome.TheVariants.{Signals, Got, Blocked, Done, Panicked}
use Rattle.ffm_model.specs.Signed.{minus}
use Rattle.law_examples.specs.Writing.{entry, message, sid}
use Rattle.law_examples.specs.Systems.{vault, client, other_client, ticker, device}

-- A doorbell that is rung twice is cleared once. To clear it again is a PROGRAMMER ERROR.
abbrev pub doorbell_rung_twice : List Entry
doorbell_rung_twice =
    entry vault (Notify (pos 1)) Done
    ∷ entry client (Stop false) Done
    ∷ entry vault (Notify (pos 1)) Done
    ∷ entry vault (Wait PSA_DOORBELL PSA_POLL) (Signals PSA_DOORBELL)
    ∷ entry vault Clear Done
    ∷ entry vault (Wait PSA_DOORBELL PSA_POLL) (Signals 0)
    ∷ entry vault Clear Panicked
    ∷ []

-- Two clients connect to one service; the partition gets the first message, and the signal stays for the second.
abbrev pub two_messages : List Entry
two_messages =
    entry client (Connect (sid 0x40) 1) Blocked
    ∷ entry other_client (Connect (sid 0x40) 1) Blocked
    ∷ entry vault (Wait 0x10 PSA_POLL) (Signals 0x10)
    ∷ entry vault (Get 0x10 0x30000000) (Got (message PSA_IPC_CONNECT 1536 (minus 1) 0 [] []))
    ∷ entry vault (Wait 0x10 PSA_POLL) (Signals 0x10)
    ∷ entry vault (Stop false) Done
    ∷ []

-- An interrupt that is raised while its signal is asserted asserts it again at psa_eoi.
abbrev pub interrupt_raised_twice : List Entry
interrupt_raised_twice =
    entry device (Raise 0) Done
    ∷ entry device (Raise 0) Done
    ∷ entry ticker (Wait 0x10 PSA_POLL) (Signals 0x10)
    ∷ entry device (Stop false) Done
    ∷ entry ticker (Eoi 0x10) Done
    ∷ entry ticker (Wait 0x10 PSA_POLL) (Signals 0x10)
    ∷ entry ticker (Eoi 0x10) Done
    ∷ entry ticker (Wait 0x10 PSA_POLL) (Signals 0)
    ∷ entry ticker (Stop false) Done
    ∷ []
