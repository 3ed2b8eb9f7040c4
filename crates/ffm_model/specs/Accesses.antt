-- Loads and stores of an actor, which the simulator adds to the two headers.
-- Source: FF-M 1.0, which memory a partition may access. The calls are this profile's. Nothing where it is a PROGRAMMER ERROR.
use Rattle.std.specs.Prelude.{ℕ, ◌==◌, Bool, ◌&&◌, ◌||◌, if◌then◌else◌, Some, None, Option}
use Rattle.ffm_model.specs.declared.system.System.{System}
use Rattle.ffm_model.specs.declared.machine.Outcome.TheVariants.{Number, Done}
use Rattle.ffm_model.specs.Memory.{load_number, store_number, may_read, may_write}
use Rattle.ffm_model.specs.State.{State}
use Rattle.ffm_model.specs.ClientCalls.{Effect, effect}

abbrev pub is_access_size : ℕ → Bool
is_access_size n = (n == 1) || ((n == 2) || (n == 4))

-- little-endian
abbrev pub load : System → State → ℕ → ℕ → ℕ → Option Effect
load s st a address size = if is_access_size size && may_read s a address size then Some (effect (Number (load_number st.memory address size)) st) else None

-- the low bytes of the value
abbrev pub store : System → State → ℕ → ℕ → ℕ → ℕ → Option Effect
store s st a address size value = if is_access_size size && may_write s a address size then Some (effect Done (record st { memory = store_number st.memory address size value })) else None
