-- Runs about stateless services, which are called by a handle that no event gives.
-- Source: FF-M 1.1 Extensions, stateless RoT Services; the values of the handles are this profile's.
use Rattle.std.specs.Prelude.{ℕ, ◌∷◌, ◌++◌, pos, false, List, []}
use Rattle.ffm_model.specs.declared.constants.TheConstants.{PSA_BLOCK, PSA_ERROR_COMMUNICATION_FAILURE, PSA_ERROR_CONNECTION_REFUSED, PSA_ERROR_PROGRAMMER_ERROR, PSA_WAIT_ANY}
use Rattle.ffm_model.specs.declared.machine.Call.{Call}
use Rattle.ffm_model.specs.declared.machine.Call.TheVariants.{Connect, Invoke, Close, Wait, Get, SetRhandle, Reply, Resume, Stop}
use Rattle.ffm_model.specs.declared.machine.Entry.{Entry}
use Rattle.ffm_model.specs.declared.machine.Outcome.TheVariants.{Value, Signals, Got, Blocked, Done, Panicked}
use Rattle.ffm_model.specs.Signed.{minus}
use Rattle.law_examples.specs.Writing.{entry, handle, message, sid, status}
use Rattle.law_examples.specs.Systems.{vault, client, server, dependent}

-- a request without vectors by the stateless handle with an index
abbrev pub call_by : ℕ → Call
call_by h = Invoke (handle h) (pos 0) 0 0 0 0

abbrev first_request : List Entry
first_request =
    entry vault (Wait PSA_WAIT_ANY PSA_BLOCK) Blocked
    ∷ entry client (call_by 0x40000001) Blocked
    ∷ entry vault Resume (Signals 0x10)
    ∷ entry vault (Get 0x10 0x30000000) (Got (message (pos 0) 1536 (minus 1) 0 [] []))
    ∷ []

-- A stateless service answers; its handle can't be closed, and nobody connects to it.
abbrev pub called_without_connection : List Entry
called_without_connection =
    first_request
    ++ entry vault (Reply (handle 1536) (status (pos 5))) Done
    ∷ entry client Resume (Value (pos 5))
    ∷ entry vault (Stop false) Done
    ∷ entry client (Close (handle 0x40000001)) Done
    ∷ entry client (Connect (sid 0x50) 1) (Value PSA_ERROR_CONNECTION_REFUSED)
    ∷ entry client (Stop false) Done
    ∷ []

-- A message without a connection takes no rhandle, and the caller of a panicked service is told.
abbrev pub panicked_without_connection : List Entry
panicked_without_connection =
    first_request
    ++ entry vault (SetRhandle (handle 1536) 1) Panicked
    ∷ entry client Resume (Value PSA_ERROR_COMMUNICATION_FAILURE)
    ∷ entry client (call_by 0x40000001) (Value PSA_ERROR_COMMUNICATION_FAILURE)
    ∷ entry client (Stop false) Done
    ∷ []

-- A partition whose request is answered with PROGRAMMER ERROR panics, connection or not.
abbrev pub caller_panics : List Entry
caller_panics =
    entry dependent (call_by 0x40000020) Blocked
    ∷ entry server (Get 0x10 0x30000000) (Got (message (pos 0) 1536 (pos 2) 0 [] []))
    ∷ entry server (Reply (handle 1536) (status PSA_ERROR_PROGRAMMER_ERROR)) Done
    ∷ entry server (Stop false) Done
    ∷ []

-- No service has that index.
abbrev pub no_such_index : Entry
no_such_index = entry client (call_by 0x40000002) (Value PSA_ERROR_PROGRAMMER_ERROR)
