-- Runs of requests, from psa_connect to psa_close.
-- Source: the order of calls is that of FF-M 1.0, IPC model; the numbers are this simulator's.
use Rattle.std.specs.Prelude.{ℕ, ◌∷◌, pos, false, List, [], codes}
use Rattle.ffm_model.specs.declared.constants.TheConstants.{PSA_BLOCK, PSA_ERROR_COMMUNICATION_FAILURE, PSA_ERROR_CONNECTION_REFUSED, PSA_ERROR_PROGRAMMER_ERROR, PSA_IPC_CALL, PSA_IPC_CONNECT, PSA_IPC_DISCONNECT, PSA_SUCCESS, PSA_WAIT_ANY}
use Rattle.ffm_model.specs.declared.machine.Call.TheVariants.{Connect, Invoke, Close, Wait, Get, SetRhandle, Read, Skip, Write, Reply, Load, Store, Stop, Resume}
use Rattle.ffm_model.specs.declared.machine.Entry.{Entry}
use Rattle.ffm_model.specs.declared.machine.Outcome.TheVariants.{Value, Number, Signals, Got, Blocked, Done, Panicked}
use Rattle.ffm_model.specs.Memory.{ByteMap, words_stored, write_bytes}
use Rattle.ffm_model.specs.Signed.{minus}
use Rattle.law_examples.specs.Writing.{entry, handle, message, sid, status}
use Rattle.law_examples.specs.Systems.{vault, client, other_client}

-- the descriptors of an input vector of five bytes and an output vector of eight, and the input
abbrev pub request_memory : ByteMap
request_memory = write_bytes (words_stored (λ x. 0) 0x20000000 (0x20000020 ∷ 5 ∷ 0x20000030 ∷ 8 ∷ [])) 0x20000020 (codes "hello")

-- the descriptor of one vector
abbrev pub one_descriptor : ℕ → ℕ → ByteMap
one_descriptor base len = words_stored (λ x. 0) 0x20000000 (base ∷ len ∷ [])

-- The service reads the request in three pieces, writes four bytes and answers 7. The client finds the length written.
abbrev pub one_request : List Entry
one_request =
    entry vault (Wait PSA_WAIT_ANY PSA_BLOCK) Blocked
    ∷ entry client (Connect (sid 0x40) 1) Blocked
    ∷ entry vault Resume (Signals 0x10)
    ∷ entry vault (Get 0x10 0x30000000) (Got (message PSA_IPC_CONNECT 1536 (minus 1) 0 [] []))
    ∷ entry vault (Reply (handle 1536) (status PSA_SUCCESS)) Done
    ∷ entry client Resume (Value (pos 1024))
    ∷ entry vault (Wait PSA_WAIT_ANY PSA_BLOCK) Blocked
    ∷ entry client (Invoke (handle 1024) PSA_IPC_CALL 0x20000000 1 0x20000008 1) Blocked
    ∷ entry vault Resume (Signals 0x10)
    ∷ entry vault (Get 0x10 0x30000000) (Got (message PSA_IPC_CALL 2560 (minus 1) 0 (5 ∷ []) (8 ∷ [])))
    ∷ entry vault (Read (handle 2560) 0 0x30000100 3) (Number 3)
    ∷ entry vault (Read (handle 2560) 0 0x30000100 3) (Number 2)
    ∷ entry vault (Read (handle 2560) 0 0x30000100 3) (Number 0)
    ∷ entry vault (Write (handle 2560) 0 0x30000100 4) Done
    ∷ entry vault (Reply (handle 2560) (status (pos 7))) Done
    ∷ entry client Resume (Value (pos 7))
    ∷ entry vault (Wait PSA_WAIT_ANY PSA_BLOCK) Blocked
    ∷ entry client (Close (handle 1024)) Blocked
    ∷ entry vault Resume (Signals 0x10)
    ∷ entry vault (Get 0x10 0x30000000) (Got (message PSA_IPC_DISCONNECT 3584 (minus 1) 0 [] []))
    ∷ entry vault (Reply (handle 3584) (status PSA_SUCCESS)) Done
    ∷ entry client Resume Done
    ∷ entry vault (Wait PSA_WAIT_ANY PSA_BLOCK) Blocked
    ∷ entry client (Load 0x2000000c 4) (Number 4)
    ∷ entry client (Stop false) Done
    ∷ []

-- The service sets an rhandle as it accepts the connection; each later message of the connection carries it.
abbrev pub rhandle_set : List Entry
rhandle_set =
    entry vault (Wait PSA_WAIT_ANY PSA_BLOCK) Blocked
    ∷ entry client (Connect (sid 0x40) 1) Blocked
    ∷ entry vault Resume (Signals 0x10)
    ∷ entry vault (Get 0x10 0x30000000) (Got (message PSA_IPC_CONNECT 1536 (minus 1) 0 [] []))
    ∷ entry vault (SetRhandle (handle 1536) 0xabcd) Done
    ∷ entry vault (Reply (handle 1536) (status PSA_SUCCESS)) Done
    ∷ entry client Resume (Value (pos 1024))
    ∷ entry vault (Wait PSA_WAIT_ANY PSA_BLOCK) Blocked
    ∷ entry client (Invoke (handle 1024) PSA_IPC_CALL 0x20000000 1 0x20000008 1) Blocked
    ∷ entry vault Resume (Signals 0x10)
    ∷ entry vault (Get 0x10 0x30000000) (Got (message PSA_IPC_CALL 2560 (minus 1) 0xabcd (5 ∷ []) (8 ∷ [])))
    ∷ entry vault (Read (handle 2560) 0 0x30000100 3) (Number 3)
    ∷ entry vault (Read (handle 2560) 0 0x30000100 3) (Number 2)
    ∷ entry vault (Read (handle 2560) 0 0x30000100 3) (Number 0)
    ∷ entry vault (Write (handle 2560) 0 0x30000100 4) Done
    ∷ entry vault (Reply (handle 2560) (status (pos 7))) Done
    ∷ entry client Resume (Value (pos 7))
    ∷ entry vault (Wait PSA_WAIT_ANY PSA_BLOCK) Blocked
    ∷ entry client (Close (handle 1024)) Blocked
    ∷ entry vault Resume (Signals 0x10)
    ∷ entry vault (Get 0x10 0x30000000) (Got (message PSA_IPC_DISCONNECT 3584 (minus 1) 0xabcd [] []))
    ∷ entry vault (SetRhandle (handle 3584) 0xabcd) Done
    ∷ entry vault (Reply (handle 3584) (status PSA_SUCCESS)) Done
    ∷ entry client Resume Done
    ∷ entry vault (Wait PSA_WAIT_ANY PSA_BLOCK) Blocked
    ∷ entry client (Load 0x2000000c 4) (Number 4)
    ∷ entry client (Stop false) Done
    ∷ []

-- The service fills the output vector of eight bytes, and then writes one byte more: its partition panics.
-- The request fails, and the connection is dead until its client closes it.
abbrev pub write_past_the_end : List Entry
write_past_the_end =
    entry vault (Wait PSA_WAIT_ANY PSA_BLOCK) Blocked
    ∷ entry client (Connect (sid 0x40) 1) Blocked
    ∷ entry vault Resume (Signals 0x10)
    ∷ entry vault (Get 0x10 0x30000000) (Got (message PSA_IPC_CONNECT 1536 (minus 1) 0 [] []))
    ∷ entry vault (Reply (handle 1536) (status PSA_SUCCESS)) Done
    ∷ entry client Resume (Value (pos 1024))
    ∷ entry vault (Wait PSA_WAIT_ANY PSA_BLOCK) Blocked
    ∷ entry client (Invoke (handle 1024) PSA_IPC_CALL 0x20000000 1 0x20000008 1) Blocked
    ∷ entry vault Resume (Signals 0x10)
    ∷ entry vault (Get 0x10 0x30000000) (Got (message PSA_IPC_CALL 2560 (minus 1) 0 (5 ∷ []) (8 ∷ [])))
    ∷ entry vault (Write (handle 2560) 0 0x30000100 8) Done
    ∷ entry vault (Write (handle 2560) 0 0x30000100 1) Panicked
    ∷ entry client Resume (Value PSA_ERROR_COMMUNICATION_FAILURE)
    ∷ entry client (Invoke (handle 1024) PSA_IPC_CALL 0 0 0 0) (Value PSA_ERROR_COMMUNICATION_FAILURE)
    ∷ entry client (Close (handle 1024)) Done
    ∷ entry client (Connect (sid 0x40) 1) (Value PSA_ERROR_CONNECTION_REFUSED)
    ∷ entry client (Stop false) Done
    ∷ []

-- The service reads the first byte of "hello", skips three, reads the last, and writes the two one by one.
abbrev pub moved_in_pieces : List Entry
moved_in_pieces =
    entry vault (Wait PSA_WAIT_ANY PSA_BLOCK) Blocked
    ∷ entry client (Connect (sid 0x40) 1) Blocked
    ∷ entry vault Resume (Signals 0x10)
    ∷ entry vault (Get 0x10 0x30000000) (Got (message PSA_IPC_CONNECT 1536 (minus 1) 0 [] []))
    ∷ entry vault (Reply (handle 1536) (status PSA_SUCCESS)) Done
    ∷ entry client Resume (Value (pos 1024))
    ∷ entry vault (Wait PSA_WAIT_ANY PSA_BLOCK) Blocked
    ∷ entry client (Invoke (handle 1024) PSA_IPC_CALL 0x20000000 1 0x20000008 1) Blocked
    ∷ entry vault Resume (Signals 0x10)
    ∷ entry vault (Get 0x10 0x30000000) (Got (message PSA_IPC_CALL 2560 (minus 1) 0 (5 ∷ []) (8 ∷ [])))
    ∷ entry vault (Read (handle 2560) 0 0x30000100 1) (Number 1)
    ∷ entry vault (Skip (handle 2560) 0 3) (Number 3)
    ∷ entry vault (Read (handle 2560) 0 0x30000101 4) (Number 1)
    ∷ entry vault (Load 0x30000100 2) (Number 28520)
    ∷ entry vault (Write (handle 2560) 0 0x30000100 1) Done
    ∷ entry vault (Write (handle 2560) 0 0x30000101 1) Done
    ∷ entry vault (Reply (handle 2560) (status PSA_SUCCESS)) Done
    ∷ entry client Resume (Value (pos 0))
    ∷ entry vault (Stop false) Done
    ∷ entry client (Load 0x20000030 2) (Number 28520)
    ∷ entry client (Load 0x2000000c 4) (Number 2)
    ∷ entry client (Stop false) Done
    ∷ []

-- The service answers a request with PSA_ERROR_PROGRAMMER_ERROR. The client is told, may send no further request on the connection, and closes it.
abbrev pub request_failed : List Entry
request_failed =
    entry vault (Wait PSA_WAIT_ANY PSA_BLOCK) Blocked
    ∷ entry client (Connect (sid 0x40) 1) Blocked
    ∷ entry vault Resume (Signals 0x10)
    ∷ entry vault (Get 0x10 0x30000000) (Got (message PSA_IPC_CONNECT 1536 (minus 1) 0 [] []))
    ∷ entry vault (Reply (handle 1536) (status PSA_SUCCESS)) Done
    ∷ entry client Resume (Value (pos 1024))
    ∷ entry vault (Wait PSA_WAIT_ANY PSA_BLOCK) Blocked
    ∷ entry client (Invoke (handle 1024) PSA_IPC_CALL 0 0 0 0) Blocked
    ∷ entry vault Resume (Signals 0x10)
    ∷ entry vault (Get 0x10 0x30000000) (Got (message PSA_IPC_CALL 2560 (minus 1) 0 [] []))
    ∷ entry vault (Reply (handle 2560) (status PSA_ERROR_PROGRAMMER_ERROR)) Done
    ∷ entry client Resume (Value PSA_ERROR_PROGRAMMER_ERROR)
    ∷ entry vault (Wait PSA_WAIT_ANY PSA_BLOCK) Blocked
    ∷ entry client (Invoke (handle 1024) PSA_IPC_CALL 0 0 0 0) (Value PSA_ERROR_PROGRAMMER_ERROR)
    ∷ entry client (Close (handle 1024)) Blocked
    ∷ entry vault Resume (Signals 0x10)
    ∷ entry vault (Get 0x10 0x30000000) (Got (message PSA_IPC_DISCONNECT 3584 (minus 1) 0 [] []))
    ∷ entry vault (Reply (handle 3584) (status PSA_SUCCESS)) Done
    ∷ entry client Resume Done
    ∷ entry vault (Wait PSA_WAIT_ANY PSA_BLOCK) Blocked
    ∷ entry client (Stop false) Done
    ∷ []

-- Another client changes the descriptor of the output vector while the request is on its way; the bytes go where the descriptor pointed at psa_call.
abbrev pub descriptor_changed : List Entry
descriptor_changed =
    entry vault (Wait PSA_WAIT_ANY PSA_BLOCK) Blocked
    ∷ entry client (Connect (sid 0x40) 1) Blocked
    ∷ entry vault Resume (Signals 0x10)
    ∷ entry vault (Get 0x10 0x30000000) (Got (message PSA_IPC_CONNECT 1536 (minus 1) 0 [] []))
    ∷ entry vault (Reply (handle 1536) (status PSA_SUCCESS)) Done
    ∷ entry client Resume (Value (pos 1024))
    ∷ entry vault (Wait PSA_WAIT_ANY PSA_BLOCK) Blocked
    ∷ entry client (Invoke (handle 1024) PSA_IPC_CALL 0x20000000 0 0x20000008 1) Blocked
    ∷ entry vault Resume (Signals 0x10)
    ∷ entry vault (Get 0x10 0x30000000) (Got (message PSA_IPC_CALL 2560 (minus 1) 0 [] (8 ∷ [])))
    ∷ entry other_client (Store 0x20000008 4 0x20000040) Done
    ∷ entry vault (Write (handle 2560) 0 0x30000004 4) Done
    ∷ entry vault (Reply (handle 2560) (status PSA_SUCCESS)) Done
    ∷ entry client Resume (Value (pos 0))
    ∷ entry other_client (Stop false) Done
    ∷ entry vault (Stop false) Done
    ∷ entry client (Load 0x2000000c 4) (Number 4)
    ∷ entry client (Load 0x20000030 4) (Number 2560)
    ∷ entry client (Stop false) Done
    ∷ []
