-- Runs about budgets, handles and versions of connections.
-- Source: FF-M 1.0, psa_connect, psa_call and psa_close; the numbers are this simulator's.
use Rattle.std.specs.Prelude.{◌∷◌, pos, false, List, []}
use Rattle.ffm_model.specs.declared.constants.TheConstants.{PSA_BLOCK, PSA_ERROR_CONNECTION_BUSY, PSA_ERROR_CONNECTION_REFUSED, PSA_ERROR_PROGRAMMER_ERROR, PSA_IPC_CALL, PSA_IPC_CONNECT, PSA_IPC_DISCONNECT, PSA_SUCCESS, PSA_WAIT_ANY}
use Rattle.ffm_model.specs.declared.machine.Call.TheVariants.{FrameworkVersion, Version, Connect, Invoke, Close, Wait, Get, Reply, Stop, Resume}
use Rattle.ffm_model.specs.declared.machine.Entry.{Entry}
use Rattle.ffm_model.specs.declared.machine.Outcome.TheVariants.{Value, Number, Signals, Got, Blocked, Done, Panicked}
use Rattle.ffm_model.specs.Signed.{minus}
use Rattle.law_examples.specs.Writing.{entry, handle, message, sid, status}
use Rattle.law_examples.specs.Systems.{vault, client, other_client, server, dependent}

-- A client with a budget of two connections opens both, is refused a third, closes the first and opens another.
abbrev pub two_connections : List Entry
two_connections =
    entry vault (Wait PSA_WAIT_ANY PSA_BLOCK) Blocked
    ∷ entry client (Connect (sid 0x40) 1) Blocked
    ∷ entry vault Resume (Signals 0x10)
    ∷ entry vault (Get 0x10 0x30000000) (Got (message PSA_IPC_CONNECT 1536 (minus 1) 0 [] []))
    ∷ entry vault (Reply (handle 1536) (status PSA_SUCCESS)) Done
    ∷ entry client Resume (Value (pos 1024))
    ∷ entry vault (Wait PSA_WAIT_ANY PSA_BLOCK) Blocked
    ∷ entry client (Connect (sid 0x40) 1) Blocked
    ∷ entry vault Resume (Signals 0x10)
    ∷ entry vault (Get 0x10 0x30000000) (Got (message PSA_IPC_CONNECT 2560 (minus 1) 0 [] []))
    ∷ entry vault (Reply (handle 2560) (status PSA_SUCCESS)) Done
    ∷ entry client Resume (Value (pos 1025))
    ∷ entry vault (Wait PSA_WAIT_ANY PSA_BLOCK) Blocked
    ∷ entry client (Connect (sid 0x40) 1) (Value PSA_ERROR_CONNECTION_BUSY)
    ∷ entry client (Close (handle 1024)) Blocked
    ∷ entry vault Resume (Signals 0x10)
    ∷ entry vault (Get 0x10 0x30000000) (Got (message PSA_IPC_DISCONNECT 3584 (minus 1) 0 [] []))
    ∷ entry vault (Reply (handle 3584) (status PSA_SUCCESS)) Done
    ∷ entry client Resume Done
    ∷ entry vault (Wait PSA_WAIT_ANY PSA_BLOCK) Blocked
    ∷ entry client (Connect (sid 0x40) 1) Blocked
    ∷ entry vault Resume (Signals 0x10)
    ∷ entry vault (Get 0x10 0x30000000) (Got (message PSA_IPC_CONNECT 4608 (minus 1) 0 [] []))
    ∷ entry vault (Reply (handle 4608) (status PSA_SUCCESS)) Done
    ∷ entry client Resume (Value (pos 2048))
    ∷ entry vault (Wait PSA_WAIT_ANY PSA_BLOCK) Blocked
    ∷ entry client (Stop false) Done
    ∷ []

-- The same client calls on the handle that it closed, before it opens another connection.
abbrev pub closed_handle : List Entry
closed_handle =
    entry vault (Wait PSA_WAIT_ANY PSA_BLOCK) Blocked
    ∷ entry client (Connect (sid 0x40) 1) Blocked
    ∷ entry vault Resume (Signals 0x10)
    ∷ entry vault (Get 0x10 0x30000000) (Got (message PSA_IPC_CONNECT 1536 (minus 1) 0 [] []))
    ∷ entry vault (Reply (handle 1536) (status PSA_SUCCESS)) Done
    ∷ entry client Resume (Value (pos 1024))
    ∷ entry vault (Wait PSA_WAIT_ANY PSA_BLOCK) Blocked
    ∷ entry client (Connect (sid 0x40) 1) Blocked
    ∷ entry vault Resume (Signals 0x10)
    ∷ entry vault (Get 0x10 0x30000000) (Got (message PSA_IPC_CONNECT 2560 (minus 1) 0 [] []))
    ∷ entry vault (Reply (handle 2560) (status PSA_SUCCESS)) Done
    ∷ entry client Resume (Value (pos 1025))
    ∷ entry vault (Wait PSA_WAIT_ANY PSA_BLOCK) Blocked
    ∷ entry client (Connect (sid 0x40) 1) (Value PSA_ERROR_CONNECTION_BUSY)
    ∷ entry client (Close (handle 1024)) Blocked
    ∷ entry vault Resume (Signals 0x10)
    ∷ entry vault (Get 0x10 0x30000000) (Got (message PSA_IPC_DISCONNECT 3584 (minus 1) 0 [] []))
    ∷ entry vault (Reply (handle 3584) (status PSA_SUCCESS)) Done
    ∷ entry client Resume Done
    ∷ entry vault (Wait PSA_WAIT_ANY PSA_BLOCK) Blocked
    ∷ entry client (Invoke (handle 1024) PSA_IPC_CALL 0 0 0 0) (Value PSA_ERROR_PROGRAMMER_ERROR)
    ∷ entry client (Connect (sid 0x40) 1) Blocked
    ∷ entry vault Resume (Signals 0x10)
    ∷ entry vault (Get 0x10 0x30000000) (Got (message PSA_IPC_CONNECT 4608 (minus 1) 0 [] []))
    ∷ entry vault (Reply (handle 4608) (status PSA_SUCCESS)) Done
    ∷ entry client Resume (Value (pos 2048))
    ∷ entry vault (Wait PSA_WAIT_ANY PSA_BLOCK) Blocked
    ∷ entry client (Stop false) Done
    ∷ []

-- A partition calls on the handle that it closed, and panics.
abbrev pub closed_handle_of_a_partition : List Entry
closed_handle_of_a_partition =
    entry server (Wait PSA_WAIT_ANY PSA_BLOCK) Blocked
    ∷ entry dependent (Connect (sid 0x40) 1) Blocked
    ∷ entry server Resume (Signals 0x10)
    ∷ entry server (Get 0x10 0x30000000) (Got (message PSA_IPC_CONNECT 1536 (pos 2) 0 [] []))
    ∷ entry server (Reply (handle 1536) (status PSA_SUCCESS)) Done
    ∷ entry dependent Resume (Value (pos 1024))
    ∷ entry server (Wait PSA_WAIT_ANY PSA_BLOCK) Blocked
    ∷ entry dependent (Close (handle 1024)) Blocked
    ∷ entry server Resume (Signals 0x10)
    ∷ entry server (Get 0x10 0x30000000) (Got (message PSA_IPC_DISCONNECT 2560 (pos 2) 0 [] []))
    ∷ entry server (Reply (handle 2560) (status PSA_SUCCESS)) Done
    ∷ entry dependent Resume Done
    ∷ entry server (Wait PSA_WAIT_ANY PSA_BLOCK) Blocked
    ∷ entry dependent (Invoke (handle 1024) PSA_IPC_CALL 0 0 0 0) Panicked
    ∷ []

-- A client tries to call on, and then to close, the connection of another.
abbrev pub handle_of_another_client : List Entry
handle_of_another_client =
    entry vault (Wait PSA_WAIT_ANY PSA_BLOCK) Blocked
    ∷ entry client (Connect (sid 0x40) 1) Blocked
    ∷ entry vault Resume (Signals 0x10)
    ∷ entry vault (Get 0x10 0x30000000) (Got (message PSA_IPC_CONNECT 1536 (minus 1) 0 [] []))
    ∷ entry vault (Reply (handle 1536) (status PSA_SUCCESS)) Done
    ∷ entry client Resume (Value (pos 1024))
    ∷ entry other_client (Invoke (handle 1024) PSA_IPC_CALL 0 0 0 0) (Value PSA_ERROR_PROGRAMMER_ERROR)
    ∷ entry other_client (Close (handle 1024)) Done
    ∷ entry other_client (Stop false) Done
    ∷ entry client (Stop false) Done
    ∷ entry vault (Wait PSA_WAIT_ANY PSA_BLOCK) Blocked
    ∷ []

-- The service answers psa_connect with PSA_ERROR_CONNECTION_BUSY. The client, whose budget is one connection, tries again and is let in.
abbrev pub turned_away : List Entry
turned_away =
    entry vault (Wait PSA_WAIT_ANY PSA_BLOCK) Blocked
    ∷ entry client (Connect (sid 0x40) 1) Blocked
    ∷ entry vault Resume (Signals 0x10)
    ∷ entry vault (Get 0x10 0x30000000) (Got (message PSA_IPC_CONNECT 1536 (minus 1) 0 [] []))
    ∷ entry vault (Reply (handle 1536) (status PSA_ERROR_CONNECTION_BUSY)) Done
    ∷ entry client Resume (Value PSA_ERROR_CONNECTION_BUSY)
    ∷ entry vault (Wait PSA_WAIT_ANY PSA_BLOCK) Blocked
    ∷ entry client (Connect (sid 0x40) 1) Blocked
    ∷ entry vault Resume (Signals 0x10)
    ∷ entry vault (Get 0x10 0x30000000) (Got (message PSA_IPC_CONNECT 2560 (minus 1) 0 [] []))
    ∷ entry vault (Reply (handle 2560) (status PSA_SUCCESS)) Done
    ∷ entry client Resume (Value (pos 2048))
    ∷ entry vault (Stop false) Done
    ∷ entry client (Stop false) Done
    ∷ []

-- A client asks for the version of the framework, and of a service, of none, and of one for partitions alone.
abbrev pub versions_told : List Entry
versions_told =
    entry client FrameworkVersion (Number 257)
    ∷ entry client (Version (sid 0x40)) (Number 1)
    ∷ entry client (Version (sid 0x99)) (Number 0)
    ∷ entry client (Version (sid 0x41)) (Number 0)
    ∷ entry vault (Stop false) Done
    ∷ entry client (Stop false) Done
    ∷ []

-- A STRICT service of version 2 is asked for version 1; a RELAXED one for version 3, and then for version 1. Nobody answers.
abbrev pub versions_asked : List Entry
versions_asked =
    entry vault (Stop false) Done
    ∷ entry client (Connect (sid 0x50) 1) (Value PSA_ERROR_CONNECTION_REFUSED)
    ∷ entry client (Connect (sid 0x51) 3) (Value PSA_ERROR_CONNECTION_REFUSED)
    ∷ entry client (Connect (sid 0x51) 1) Blocked
    ∷ []
