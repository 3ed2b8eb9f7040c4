-- Runs in which a partition panics that has a service, or that is the client of another.
-- Source: FF-M 1.0, PROGRAMMER ERROR of a partition; the numbers are this simulator's.
use Rattle.std.specs.Prelude.{◌∷◌, pos, false, List, []}
use Rattle.ffm_model.specs.declared.constants.TheConstants.{PSA_BLOCK, PSA_ERROR_COMMUNICATION_FAILURE, PSA_ERROR_CONNECTION_REFUSED, PSA_ERROR_PROGRAMMER_ERROR, PSA_IPC_CALL, PSA_IPC_CONNECT, PSA_IPC_DISCONNECT, PSA_SUCCESS, PSA_WAIT_ANY}
use Rattle.ffm_model.specs.declared.machine.Call.TheVariants.{Connect, Invoke, Close, Wait, Get, SetRhandle, Reply, Panic, Stop, Resume}
use Rattle.ffm_model.specs.declared.machine.Entry.{Entry}
use Rattle.ffm_model.specs.declared.machine.Outcome.TheVariants.{Value, Signals, Got, Blocked, Done, Panicked}
use Rattle.ffm_model.specs.Signed.{minus}
use Rattle.law_examples.specs.Writing.{entry, handle, message, sid, status}
use Rattle.law_examples.specs.Systems.{vault, client, other_client, server, dependent, bystander}

-- The partition of a service panics: a client that waits for its connection is refused, and one that has a connection learns at its next request that it is lost.
abbrev pub service_lost : List Entry
service_lost =
    entry vault (Wait PSA_WAIT_ANY PSA_BLOCK) Blocked
    ∷ entry client (Connect (sid 0x40) 1) Blocked
    ∷ entry vault Resume (Signals 0x10)
    ∷ entry vault (Get 0x10 0x30000000) (Got (message PSA_IPC_CONNECT 1536 (minus 1) 0 [] []))
    ∷ entry vault (Reply (handle 1536) (status PSA_SUCCESS)) Done
    ∷ entry client Resume (Value (pos 1024))
    ∷ entry other_client (Connect (sid 0x40) 1) Blocked
    ∷ entry vault Panic Panicked
    ∷ entry other_client Resume (Value PSA_ERROR_CONNECTION_REFUSED)
    ∷ entry client (Invoke (handle 1024) PSA_IPC_CALL 0 0 0 0) (Value PSA_ERROR_COMMUNICATION_FAILURE)
    ∷ entry other_client (Stop false) Done
    ∷ entry client (Close (handle 1024)) Done
    ∷ entry client (Stop false) Done
    ∷ []

-- The partition of a service panics while a client waits for its connection to be closed.
abbrev pub service_lost_at_the_close : List Entry
service_lost_at_the_close =
    entry vault (Wait PSA_WAIT_ANY PSA_BLOCK) Blocked
    ∷ entry client (Connect (sid 0x40) 1) Blocked
    ∷ entry vault Resume (Signals 0x10)
    ∷ entry vault (Get 0x10 0x30000000) (Got (message PSA_IPC_CONNECT 1536 (minus 1) 0 [] []))
    ∷ entry vault (Reply (handle 1536) (status PSA_SUCCESS)) Done
    ∷ entry client Resume (Value (pos 1024))
    ∷ entry client (Close (handle 1024)) Blocked
    ∷ entry vault Panic Panicked
    ∷ entry client Resume Done
    ∷ entry client (Connect (sid 0x40) 1) (Value PSA_ERROR_CONNECTION_REFUSED)
    ∷ entry client (Stop false) Done
    ∷ []

-- The dependent partition opens three connections and calls on the last; the answer PSA_ERROR_PROGRAMMER_ERROR panics it.
-- The service is told of three disconnections, and the connection of the client beside it stays.
abbrev pub programmer_error_answered : List Entry
programmer_error_answered =
    entry server (Wait PSA_WAIT_ANY PSA_BLOCK) Blocked
    ∷ entry dependent (Connect (sid 0x40) 1) Blocked
    ∷ entry bystander (Connect (sid 0x40) 1) Blocked
    ∷ entry server Resume (Signals 0x10)
    ∷ entry server (Get 0x10 0x30000000) (Got (message PSA_IPC_CONNECT 1536 (pos 2) 0 [] []))
    ∷ entry server (Reply (handle 1536) (status PSA_SUCCESS)) Done
    ∷ entry dependent Resume (Value (pos 1024))
    ∷ entry server (Wait PSA_WAIT_ANY PSA_BLOCK) Blocked
    ∷ entry dependent (Connect (sid 0x40) 1) Blocked
    ∷ entry server Resume (Signals 0x10)
    ∷ entry server (Get 0x10 0x30000000) (Got (message PSA_IPC_CONNECT 1537 (minus 1) 0 [] []))
    ∷ entry server (Reply (handle 1537) (status PSA_SUCCESS)) Done
    ∷ entry bystander Resume (Value (pos 1025))
    ∷ entry server (Wait PSA_WAIT_ANY PSA_BLOCK) Blocked
    ∷ entry bystander (Stop false) Done
    ∷ entry server Resume (Signals 0x10)
    ∷ entry server (Get 0x10 0x30000000) (Got (message PSA_IPC_CONNECT 2560 (pos 2) 0 [] []))
    ∷ entry server (Reply (handle 2560) (status PSA_SUCCESS)) Done
    ∷ entry dependent Resume (Value (pos 1026))
    ∷ entry server (Wait PSA_WAIT_ANY PSA_BLOCK) Blocked
    ∷ entry dependent (Connect (sid 0x40) 1) Blocked
    ∷ entry server Resume (Signals 0x10)
    ∷ entry server (Get 0x10 0x30000000) (Got (message PSA_IPC_CONNECT 3584 (pos 2) 0 [] []))
    ∷ entry server (Reply (handle 3584) (status PSA_SUCCESS)) Done
    ∷ entry dependent Resume (Value (pos 1027))
    ∷ entry server (Wait PSA_WAIT_ANY PSA_BLOCK) Blocked
    ∷ entry dependent (Invoke (handle 1027) PSA_IPC_CALL 0 0 0 0) Blocked
    ∷ entry server Resume (Signals 0x10)
    ∷ entry server (Get 0x10 0x30000000) (Got (message PSA_IPC_CALL 4608 (pos 2) 0 [] []))
    ∷ entry server (Reply (handle 4608) (status PSA_ERROR_PROGRAMMER_ERROR)) Done
    ∷ entry server (Wait PSA_WAIT_ANY PSA_BLOCK) Blocked
    ∷ entry server Resume (Signals 0x10)
    ∷ entry server (Get 0x10 0x30000000) (Got (message PSA_IPC_DISCONNECT 5632 (pos 2) 0 [] []))
    ∷ entry server (Reply (handle 5632) (status PSA_SUCCESS)) Done
    ∷ entry server (Wait PSA_WAIT_ANY PSA_BLOCK) Blocked
    ∷ entry server Resume (Signals 0x10)
    ∷ entry server (Get 0x10 0x30000000) (Got (message PSA_IPC_DISCONNECT 2561 (pos 2) 0 [] []))
    ∷ entry server (Reply (handle 2561) (status PSA_SUCCESS)) Done
    ∷ entry server (Wait PSA_WAIT_ANY PSA_BLOCK) Blocked
    ∷ entry server Resume (Signals 0x10)
    ∷ entry server (Get 0x10 0x30000000) (Got (message PSA_IPC_DISCONNECT 1538 (pos 2) 0 [] []))
    ∷ entry server (Reply (handle 1538) (status PSA_SUCCESS)) Done
    ∷ entry server (Wait PSA_WAIT_ANY PSA_BLOCK) Blocked
    ∷ []

-- The dependent partition opens two connections and panics; their disconnections come in the order of opening.
abbrev pub disconnections : List Entry
disconnections =
    entry bystander (Stop false) Done
    ∷ entry server (Wait PSA_WAIT_ANY PSA_BLOCK) Blocked
    ∷ entry dependent (Connect (sid 0x40) 1) Blocked
    ∷ entry server Resume (Signals 0x10)
    ∷ entry server (Get 0x10 0x30000000) (Got (message PSA_IPC_CONNECT 1536 (pos 2) 0 [] []))
    ∷ entry server (SetRhandle (handle 1536) 0xa) Done
    ∷ entry server (Reply (handle 1536) (status PSA_SUCCESS)) Done
    ∷ entry dependent Resume (Value (pos 1024))
    ∷ entry server (Wait PSA_WAIT_ANY PSA_BLOCK) Blocked
    ∷ entry dependent (Connect (sid 0x40) 1) Blocked
    ∷ entry server Resume (Signals 0x10)
    ∷ entry server (Get 0x10 0x30000000) (Got (message PSA_IPC_CONNECT 2560 (pos 2) 0 [] []))
    ∷ entry server (SetRhandle (handle 2560) 0xb) Done
    ∷ entry server (Reply (handle 2560) (status PSA_SUCCESS)) Done
    ∷ entry dependent Resume (Value (pos 1025))
    ∷ entry server (Wait PSA_WAIT_ANY PSA_BLOCK) Blocked
    ∷ entry dependent Panic Panicked
    ∷ entry server Resume (Signals 0x10)
    ∷ entry server (Get 0x10 0x30000000) (Got (message PSA_IPC_DISCONNECT 3584 (pos 2) 0xa [] []))
    ∷ entry server (Get 0x10 0x30000000) (Got (message PSA_IPC_DISCONNECT 1537 (pos 2) 0xb [] []))
    ∷ entry server (Stop false) Done
    ∷ []
