-- A worked state: one client opens a connection, and then another, in a system that declares two.
-- Source: this simulator's; RAM of partitions lies from 0x30000000 on, non-secure RAM from 0x20000000 on.
use Rattle.std.specs.Prelude.{ℕ, pos, ◌≡◌, true, false, List, [], ◌∷◌, ◌++◌, Option, refl, codes, replicate, map}
use Rattle.std.specs.Option.{option_map}
use Rattle.ffm_model.specs.declared.constants.TheConstants.{PSA_IPC_CONNECT, PSA_SUCCESS}
use Rattle.ffm_model.specs.declared.system.System.{System}
use Rattle.ffm_model.specs.declared.system.Partition.{Partition}
use Rattle.ffm_model.specs.declared.system.Service.{Service}
use Rattle.ffm_model.specs.declared.system.Region.{Region}
use Rattle.ffm_model.specs.declared.system.Budget.{Budget}
use Rattle.ffm_model.specs.declared.system.Policy.TheVariants.{Strict}
use Rattle.ffm_model.specs.declared.system.RotType.TheVariants.{ApplicationRot}
use Rattle.ffm_model.specs.declared.system.Priority.TheVariants.{Normal}
use Rattle.ffm_model.specs.declared.system.Class.TheVariants.{Ram, NonSecure}
use Rattle.ffm_model.specs.declared.machine.Entry.{Entry}
use Rattle.ffm_model.specs.declared.machine.Call.{Call}
use Rattle.ffm_model.specs.declared.machine.Call.TheVariants.{Connect, Get, Reply, Resume}
use Rattle.ffm_model.specs.declared.machine.Outcome.{Outcome}
use Rattle.ffm_model.specs.declared.machine.Outcome.TheVariants.{Value, Got, Blocked, Done}
use Rattle.ffm_model.specs.declared.objects.OpenConnection.{OpenConnection}
use Rattle.ffm_model.specs.declared.objects.ConnPhase.TheVariants.{Idle}
use Rattle.ffm_model.specs.declared.objects.ActorPhase.TheVariants as phase
use Rattle.ffm_model.specs.Memory.{ByteMap}
use Rattle.ffm_model.specs.State.{SpmState, opening_spm, with_phase}
use Rattle.ffm_model.specs.Step.{after}
use Rattle.ffm_model.specs.ClientCalls.{connect_issued}
use Rattle.ffm_model.specs.WellFormed.{is_well_formed}

abbrev vault_partitions : List Partition
vault_partitions = record { name = codes "VAULT"; rot = ApplicationRot; priority = Normal; domain = 1; ram = 0; sfn = false; heap = 0 } ∷ []

abbrev vault_services : List Service
vault_services = record { name = codes "VAULT"; sid = record { 0 = 0x40 }; owner = 0; nonsecure = true; version = 1; policy = Strict; signal = 0x10; stateless = 0; mm = false } ∷ []

abbrev vault_regions : List Region
vault_regions = record { base = 0x30000000; size = 0x400; class = Ram 1 } ∷ record { base = 0x20000000; size = 0x10000; class = NonSecure } ∷ []

abbrev two_connections : List Budget
two_connections = record { client = record { 0 = 1 }; service = 0; count = 2 } ∷ []

pub vault_fits : is_well_formed 3 vault_partitions vault_services [] vault_regions (codes "NS" ∷ []) two_connections ≡ true
unfolding is_well_formed
vault_fits = refl

-- a partition with a service, and a client that may have two connections to it
abbrev pub vault_system : System
vault_system = record {
  level = 3;
  partitions = vault_partitions;
  services = vault_services;
  sources = [];
  regions = vault_regions;
  clients = codes "NS" ∷ [];
  budgets = two_connections;
  counted = refl;
  well_formed = vault_fits;
}

abbrev pub vault : ℕ
vault = 0

abbrev pub client : ℕ
client = 1

-- memory with nothing in it
abbrev pub zeros : ByteMap
zeros = λ x. 0

abbrev entry : ℕ → Call → Outcome → Entry
entry a c o = record { actor = record { 0 = a }; call = c; outcome = o }

-- the client's first connection is accepted, and it asks for the second
abbrev pub second_connection : List Entry
second_connection =
    entry client (Connect (record { 0 = 0x40 }) 1) Blocked
    ∷ entry vault (Get 0x10 0x30000000) (Got (record { kind = PSA_IPC_CONNECT; handle = record { 0 = pos 1536 }; client_id = PSA_IPC_CONNECT; rhandle = 0; in_size = replicate 4 0; out_size = replicate 4 0 }))
    ∷ entry vault (Reply (record { 0 = pos 1536 }) (record { 0 = PSA_SUCCESS })) Done
    ∷ entry client Resume (Value (pos 1024))
    ∷ entry client (Connect (record { 0 = 0x40 }) 1) Blocked
    ∷ []

-- what is asked of the state after the run
abbrev pub behind : {X : Type 0} → (SpmState → X) → Option X
behind f = option_map (λ st. f st.spm) (after vault_system zeros second_connection)

-- ---- states of this system that no run has

-- the client waits, and nothing is there that could answer it
abbrev pub waits_for_nothing : SpmState
waits_for_nothing = with_phase (opening_spm vault_system) client phase.Blocked

-- a connection that its service answered, whose message is still there
abbrev pub message_left_over : SpmState
message_left_over =
    let asked = connect_issued (opening_spm vault_system) client 0 in
    record asked { connections = map (λ (c : OpenConnection). record c { phase = Idle }) asked.connections }

-- two connections with one serial number
abbrev pub one_number_twice : SpmState
one_number_twice =
    let asked = connect_issued (opening_spm vault_system) client 0 in
    record asked { connections = asked.connections ++ asked.connections }

-- a connection of the partition, which may not use its own service
abbrev pub beyond_the_budget : SpmState
beyond_the_budget = connect_issued (opening_spm vault_system) vault 0
