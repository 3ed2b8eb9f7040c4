-- What the words of a line say: the actor, the call and the outcome, each read word by word, in the one spelling that is printed.
-- Source: this simulator's trace format.
use Rattle.std.specs.Prelude.{ℕ, ℤ, ◌+◌, ◌-◌, ◌==◌, Bool, true, false, ◌&&◌, List, [], ◌∷◌, length, codes, get_or, nat_le, if◌then◌else◌, Option, None, Some}
use Rattle.std.specs.Int.{w32, cast_unsigned}
use Rattle.std.specs.Option.{option_map}
use Rattle.std.specs.Str.{bytes_eq}
use Rattle.ffm_model.specs.Counts.{ActorCounts}
use Rattle.ffm_model.specs.declared.machine.Entry.{Entry}
use Rattle.ffm_model.specs.declared.machine.Call.{Call}
use Rattle.ffm_model.specs.declared.machine.Call.TheVariants as call
use Rattle.ffm_model.specs.declared.machine.Outcome.{Outcome}
use Rattle.ffm_model.specs.declared.machine.Outcome.TheVariants as outcome
use Rattle.ffm_model.specs.declared.signatures.OperandKind.{OperandKind}
use Rattle.ffm_model.specs.declared.signatures.OperandKind.TheVariants.{Hexadecimal, Unsigned, Signed}
use Rattle.ffm_model.specs.Binding.{◌>>=◌}
use Rattle.ffm_model.specs.ScriptRuns.{call_of}
use Rattle.ffm_model.specs.Signatures.{Signature, signatures, signature_in}
use Rattle.ffm_model.specs.TraceText.{Word}
use Rattle.trace_print.specs.Numbers.{unsigned_of, signed_of, hexadecimal_of}
use Rattle.trace_print.specs.View.{parts}

-- the first word, and the words after it
abbrev pub word_at : List Word → Option (Word × List Word)
word_at [] = None
word_at (w ∷ ws) = Some (w, ws)

-- what the first word says, and the words after it
abbrev pub first_by : {A : Type 0} → (Word → Option A) → List Word → Option (A × List Word)
first_by f [] = None
first_by f (w ∷ ws) = f w >>= λ x. Some (x, ws)

abbrev pub unsigned_at : List Word → Option (ℕ × List Word)
unsigned_at ws = first_by unsigned_of ws

abbrev pub hexadecimal_at : List Word → Option (ℕ × List Word)
hexadecimal_at ws = first_by hexadecimal_of ws

abbrev pub signed_at : List Word → Option (ℤ × List Word)
signed_at ws = first_by signed_of ws

-- the bits of the operand that a word is
abbrev pub operand_of : OperandKind → Word → Option ℕ
operand_of Hexadecimal w = hexadecimal_of w
operand_of Unsigned w = unsigned_of w
operand_of Signed w = option_map (cast_unsigned w32) (signed_of w)

-- an operand of each kind, one after the other
unfoldable pub operands_at : List OperandKind → List Word → Option (List ℕ × List Word)
operands_at [] ws = Some ([], ws)
operands_at (k ∷ ks) ws = do
  n ← first_by (operand_of k) ws
  ns ← operands_at ks n.1
  Some (n.0 ∷ ns.0, ns.1)

-- the call of a signature, whose operands the words spell
unfoldable pub call_by : Signature → List Word → Option (Call × List Word)
call_by s ws = do
  operands ← operands_at s.kinds ws
  Some (call_of s.name (λ i. get_or operands.0 i 0), operands.1)

abbrev pub spent_of : Word → Option Bool
spent_of w = if bytes_eq w (codes "end") then Some false else (if bytes_eq w (codes "spent") then Some true else None)

unfoldable pub stop_at : List Word → Option (Call × List Word)
stop_at ws = do
  spent ← first_by spent_of ws
  Some (call.Stop spent.0, spent.1)

-- a stop, or the return of a call that waited
unfoldable pub event_named : Word → List Word → Option (Call × List Word)
event_named name ws =
    if bytes_eq name (codes "stop") then stop_at ws
    else (if bytes_eq name (codes "resume") then Some (call.Resume, ws) else None)

-- the call of the signature, where there is one, or else an event that has none
abbrev pub call_with : Option Signature → Word → List Word → Option (Call × List Word)
call_with (Some s) name ws = call_by s ws
call_with None name ws = event_named name ws

abbrev pub call_at : List Word → Option (Call × List Word)
call_at [] = None
call_at (name ∷ ws) = call_with (signature_in signatures name) name ws

-- four numbers, as the sizes of a message
unfoldable pub sizes_at : List Word → Option (List ℕ × List Word)
sizes_at ws = do
  a ← unsigned_at ws
  b ← unsigned_at a.1
  c ← unsigned_at b.1
  d ← unsigned_at c.1
  Some (a.0 ∷ b.0 ∷ c.0 ∷ d.0 ∷ [], d.1)

unfoldable pub message_at : List Word → Option (Outcome × List Word)
message_at ws = do
  kind ← signed_at ws
  handle ← signed_at kind.1
  client_id ← signed_at handle.1
  rhandle ← hexadecimal_at client_id.1
  in_size ← sizes_at rhandle.1
  out_size ← sizes_at in_size.1
  Some (outcome.Got (record { kind = kind.0; handle = record { 0 = handle.0 }; client_id = client_id.0; rhandle = rhandle.0; in_size = in_size.0; out_size = out_size.0 }), out_size.1)

unfoldable pub value_at : List Word → Option (Outcome × List Word)
value_at ws = do
  n ← signed_at ws
  Some (outcome.Value n.0, n.1)

unfoldable pub number_at : List Word → Option (Outcome × List Word)
number_at ws = do
  n ← unsigned_at ws
  Some (outcome.Number n.0, n.1)

unfoldable pub signals_at : List Word → Option (Outcome × List Word)
signals_at ws = do
  n ← hexadecimal_at ws
  Some (outcome.Signals n.0, n.1)

unfoldable pub outcome_named : Word → List Word → Option (Outcome × List Word)
outcome_named name ws =
    if bytes_eq name (codes "value") then value_at ws
    else (if bytes_eq name (codes "number") then number_at ws
    else (if bytes_eq name (codes "signals") then signals_at ws
    else (if bytes_eq name (codes "message") then message_at ws
    else (if bytes_eq name (codes "blocked") then Some (outcome.Blocked, ws)
    else (if bytes_eq name (codes "done") then Some (outcome.Done, ws)
    else (if bytes_eq name (codes "panicked") then Some (outcome.Panicked, ws)
    else None))))))

abbrev pub outcome_at : List Word → Option (Outcome × List Word)
outcome_at [] = None
outcome_at (name ∷ ws) = outcome_named name ws

-- the place of an actor among so many, whose number is one more
abbrev pub place_of : ℕ → Word → Option ℕ
place_of count digits = unsigned_of digits >>= λ k. if nat_le 1 k && nat_le k count then Some (k - 1) else None

-- after `p` a partition, after `n` a client, and `dev` is the device
unfoldable pub actor_of : ActorCounts → Word → Option ℕ
actor_of counts [] = None
actor_of counts (b ∷ digits) =
    if b == 112 then place_of counts.partitions digits
    else (if b == 110 then (place_of counts.clients digits >>= λ k. Some (counts.partitions + k))
    else (if counts.device && bytes_eq (b ∷ digits) (codes "dev") then Some (counts.partitions + counts.clients) else None))

-- the words after `->`
abbrev pub after_arrow : List Word → Option (List Word)
after_arrow [] = None
after_arrow (w ∷ ws) = if bytes_eq w (codes "->") then Some ws else None

-- no word is left after the outcome
unfoldable pub entry_at : ActorCounts → List Word → Option Entry
entry_at counts ws = do
  actor ← first_by (actor_of counts) ws
  call ← call_at actor.1
  answer ← after_arrow call.1
  outcome ← outcome_at answer
  if length outcome.1 == 0 then Some (record { actor = record { 0 = actor.0 }; call = call.0; outcome = outcome.0 }) else None

-- the entry whose text it is
unfoldable pub entry_of : ActorCounts → List ℕ → Option Entry
entry_of counts text = entry_at counts (parts 32 text)
