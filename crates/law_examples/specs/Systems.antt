-- The systems of the examples: few partitions with one or two services, and at most two clients.
-- Source: this simulator's; RAM of partitions lies from 0x30000000 on, non-secure RAM from 0x20000000 on.
use Rattle.std.specs.Prelude.{ℕ, ◌≡◌, true, false, List, [], ◌∷◌, refl, codes}
use Rattle.ffm_model.specs.declared.system.System.{System}
use Rattle.ffm_model.specs.declared.system.Partition.{Partition}
use Rattle.ffm_model.specs.declared.system.Service.{Service}
use Rattle.ffm_model.specs.declared.system.Source.{Source}
use Rattle.ffm_model.specs.declared.system.Region.{Region}
use Rattle.ffm_model.specs.declared.system.Budget.{Budget}
use Rattle.ffm_model.specs.declared.system.Policy.{Policy}
use Rattle.ffm_model.specs.declared.system.Policy.TheVariants.{Strict, Relaxed}
use Rattle.ffm_model.specs.declared.system.RotType.{RotType}
use Rattle.ffm_model.specs.declared.system.RotType.TheVariants.{ApplicationRot, PsaRot}
use Rattle.ffm_model.specs.declared.system.Priority.TheVariants.{Normal}
use Rattle.ffm_model.specs.declared.system.Class.TheVariants.{Ram, NonSecure, Mmio}
use Rattle.ffm_model.specs.WellFormed.{is_well_formed}

abbrev partition : List ℕ → RotType → ℕ → ℕ → Partition
partition name rot domain ram = record { name = name; rot = rot; priority = Normal; domain = domain; ram = ram; sfn = false; heap = 0 }

-- a service of the first partition for non-secure clients
abbrev service : List ℕ → ℕ → ℕ → Policy → ℕ → Service
service name sid version policy signal = record { name = name; sid = record { 0 = sid }; owner = 0; nonsecure = true; version = version; policy = policy; signal = signal; stateless = 0; mm = false }

abbrev ram : ℕ → ℕ → ℕ → Region
ram base size domain = record { base = base; size = size; class = Ram domain }

abbrev nonsecure_ram : Region
nonsecure_ram = record { base = 0x20000000; size = 0x10000; class = NonSecure }

-- how many connections an actor may have to a service
abbrev connections : ℕ → ℕ → ℕ → Budget
connections actor service count = record { client = record { 0 = actor }; service = service; count = count }

-- ---- one partition with a service for a client, and with one for partitions alone

abbrev pub vault : ℕ
vault = 0

abbrev pub client : ℕ
client = 1

abbrev pub other_client : ℕ
other_client = 2

abbrev vault_partitions : List Partition
vault_partitions = partition (codes "VAULT") ApplicationRot 1 0 ∷ []

abbrev admin_service : Service
admin_service = record (service (codes "ADMIN") 0x41 2 Strict 0x20) { nonsecure = false }

abbrev vault_services : List Service
vault_services = service (codes "VAULT") 0x40 1 Strict 0x10 ∷ admin_service ∷ []

abbrev vault_regions : List Region
vault_regions = ram 0x30000000 0x400 1 ∷ nonsecure_ram ∷ []

pub vault_fits : is_well_formed 3 vault_partitions vault_services [] vault_regions (codes "NS" ∷ []) (connections 1 0 1 ∷ []) ≡ true
unfolding is_well_formed
vault_fits = refl

-- the client may have one connection
abbrev pub vault_system : System
vault_system = record {
  level = 3;
  partitions = vault_partitions;
  services = vault_services;
  sources = [];
  regions = vault_regions;
  clients = codes "NS" ∷ [];
  budgets = connections 1 0 1 ∷ [];
  counted = refl;
  well_formed = vault_fits;
}

pub two_connections_fit : is_well_formed 3 vault_partitions vault_services [] vault_regions (codes "NS" ∷ []) (connections 1 0 2 ∷ []) ≡ true
unfolding is_well_formed
two_connections_fit = refl

-- the client may have two connections
abbrev pub two_connections_system : System
two_connections_system = record vault_system { budgets = connections 1 0 2 ∷ []; well_formed = two_connections_fit }

pub two_clients_fit : is_well_formed 3 vault_partitions vault_services [] vault_regions (codes "NS" ∷ codes "NS2" ∷ []) (connections 1 0 1 ∷ connections 2 0 1 ∷ []) ≡ true
unfolding is_well_formed
two_clients_fit = refl

-- each of two clients may have one connection
abbrev pub two_clients_system : System
two_clients_system = record vault_system {
  clients = codes "NS" ∷ codes "NS2" ∷ [];
  budgets = connections 1 0 1 ∷ connections 2 0 1 ∷ [];
  well_formed = two_clients_fit;
}

-- ---- the same partition with a service of each version policy

abbrev policy_services : List Service
policy_services = service (codes "A") 0x50 2 Strict 0x10 ∷ service (codes "B") 0x51 2 Relaxed 0x20 ∷ []

pub policies_fit : is_well_formed 3 vault_partitions policy_services [] vault_regions (codes "NS" ∷ []) (connections 1 0 1 ∷ connections 1 1 1 ∷ []) ≡ true
unfolding is_well_formed
policies_fit = refl

abbrev pub policies_system : System
policies_system = record vault_system {
  services = policy_services;
  budgets = connections 1 0 1 ∷ connections 1 1 1 ∷ [];
  counted = refl;
  well_formed = policies_fit;
}

-- ---- a partition that depends on the service of another, and a client beside it

abbrev pub server : ℕ
server = 0

abbrev pub dependent : ℕ
dependent = 1

abbrev pub bystander : ℕ
bystander = 2

abbrev dependent_partitions : List Partition
dependent_partitions = partition (codes "SRV") ApplicationRot 1 0 ∷ partition (codes "CLI") ApplicationRot 2 1 ∷ []

abbrev dependent_services : List Service
dependent_services = service (codes "S") 0x40 1 Strict 0x10 ∷ []

abbrev dependent_regions : List Region
dependent_regions = ram 0x30000000 0x400 1 ∷ ram 0x30000400 0x400 2 ∷ nonsecure_ram ∷ []

pub dependent_fits : is_well_formed 3 dependent_partitions dependent_services [] dependent_regions [] (connections 1 0 1 ∷ []) ≡ true
unfolding is_well_formed
dependent_fits = refl

-- there is no client
abbrev pub dependent_system : System
dependent_system = record {
  level = 3;
  partitions = dependent_partitions;
  services = dependent_services;
  sources = [];
  regions = dependent_regions;
  clients = [];
  budgets = connections 1 0 1 ∷ [];
  counted = refl;
  well_formed = dependent_fits;
}

pub dependent_and_client_fit : is_well_formed 3 dependent_partitions dependent_services [] dependent_regions (codes "NS" ∷ []) (connections 1 0 3 ∷ connections 2 0 1 ∷ []) ≡ true
unfolding is_well_formed
dependent_and_client_fit = refl

-- the partition may have three connections, and a client one
abbrev pub dependent_and_client_system : System
dependent_and_client_system = record dependent_system {
  clients = codes "NS" ∷ [];
  budgets = connections 1 0 3 ∷ connections 2 0 1 ∷ [];
  well_formed = dependent_and_client_fit;
}

-- ---- a partition with an interrupt source alone

abbrev pub ticker : ℕ
ticker = 0

abbrev pub device : ℕ
device = 1

abbrev ticker_partitions : List Partition
ticker_partitions = partition (codes "TICK") ApplicationRot 1 0 ∷ []

abbrev ticker_sources : List Source
ticker_sources = record { name = codes "17"; signal_name = codes "TICK_SIGNAL"; owner = 0; signal = 0x10; flih = false; enabled = true } ∷ []

pub ticker_fits : is_well_formed 3 ticker_partitions [] ticker_sources vault_regions [] [] ≡ true
unfolding is_well_formed
ticker_fits = refl

abbrev pub ticker_system : System
ticker_system = record {
  level = 3;
  partitions = ticker_partitions;
  services = [];
  sources = ticker_sources;
  regions = vault_regions;
  clients = [];
  budgets = [];
  counted = refl;
  well_formed = ticker_fits;
}

-- its source has a first-level handler, and starts disabled
abbrev timer_sources : List Source
timer_sources = record { name = codes "5"; signal_name = codes "TIMER_SIGNAL"; owner = 0; signal = 0x10; flih = true; enabled = false } ∷ []

pub timer_fits : is_well_formed 3 ticker_partitions [] timer_sources vault_regions [] [] ≡ true
unfolding is_well_formed
timer_fits = refl

abbrev pub timer_system : System
timer_system = record ticker_system { sources = timer_sources; well_formed = timer_fits }

-- ---- a partition with a stateless service, and a client that may use it

abbrev clock_partitions : List Partition
clock_partitions = partition (codes "CLOCK") PsaRot 1 0 ∷ []

abbrev clock_services : List Service
clock_services = record (service (codes "CLOCK") 0x50 1 Strict 0x10) { stateless = 1 } ∷ []

pub clock_fits : is_well_formed 3 clock_partitions clock_services [] vault_regions (codes "NS" ∷ []) (connections 1 0 0 ∷ []) ≡ true
unfolding is_well_formed
clock_fits = refl

-- a budget above 0 for a stateless service isn't well formed
pub clock_budget_misfits : is_well_formed 3 clock_partitions clock_services [] vault_regions (codes "NS" ∷ []) (connections 1 0 1 ∷ []) ≡ false
unfolding is_well_formed
clock_budget_misfits = refl

abbrev pub clock_system : System
clock_system = record vault_system { partitions = clock_partitions; services = clock_services; budgets = connections 1 0 0 ∷ []; counted = refl; well_formed = clock_fits }

-- ---- two partitions, of which the second may use the first one's stateless service

abbrev called_services : List Service
called_services = record (service (codes "S") 0x40 1 Strict 0x10) { stateless = 32 } ∷ []

pub called_fits : is_well_formed 3 dependent_partitions called_services [] dependent_regions [] (connections 1 0 0 ∷ []) ≡ true
unfolding is_well_formed
called_fits = refl

abbrev pub called_system : System
called_system = record dependent_system { services = called_services; budgets = connections 1 0 0 ∷ []; counted = refl; well_formed = called_fits }

-- ---- a second partition beside the first one, of a type and in a domain, and a client

abbrev pub spy : ℕ
spy = 1

abbrev pub outsider : ℕ
outsider = 2

abbrev spied_partitions : ℕ → RotType → ℕ → List Partition
spied_partitions vault_domain spy_type spy_domain = partition (codes "VAULT") ApplicationRot vault_domain 0 ∷ partition (codes "SPY") spy_type spy_domain 1 ∷ []

abbrev spied_regions : ℕ → ℕ → List Region
spied_regions vault_domain spy_domain = ram 0x30000000 0x400 vault_domain ∷ ram 0x30000400 0x100 spy_domain ∷ nonsecure_ram ∷ []

abbrev spied_fits : ℕ → ℕ → RotType → ℕ → Type 0
spied_fits level vault_domain spy_type spy_domain =
    is_well_formed level (spied_partitions vault_domain spy_type spy_domain) vault_services [] (spied_regions vault_domain spy_domain) (codes "NS" ∷ []) (connections 2 0 1 ∷ []) ≡ true

abbrev spied_system : (level vault_domain : ℕ) (spy_type : RotType) (spy_domain : ℕ) → spied_fits level vault_domain spy_type spy_domain → System
spied_system level vault_domain spy_type spy_domain fits = record {
  level = level;
  partitions = spied_partitions vault_domain spy_type spy_domain;
  services = vault_services;
  sources = [];
  regions = spied_regions vault_domain spy_domain;
  clients = codes "NS" ∷ [];
  budgets = connections 2 0 1 ∷ [];
  counted = refl;
  well_formed = fits;
}

pub level_1_fits : spied_fits 1 1 ApplicationRot 1
unfolding is_well_formed
level_1_fits = refl

-- at level 1 all partitions share a domain
abbrev pub level_1_system : System
level_1_system = spied_system 1 1 ApplicationRot 1 level_1_fits

pub level_1_types_fits : spied_fits 1 1 PsaRot 1
unfolding is_well_formed
level_1_types_fits = refl

-- at level 1 with types that differ
abbrev pub level_1_types_system : System
level_1_types_system = spied_system 1 1 PsaRot 1 level_1_types_fits

pub level_2_fits : spied_fits 2 2 ApplicationRot 2
unfolding is_well_formed
level_2_fits = refl

-- at level 2 with equal types
abbrev pub level_2_system : System
level_2_system = spied_system 2 2 ApplicationRot 2 level_2_fits

pub level_2_types_fits : spied_fits 2 2 PsaRot 1
unfolding is_well_formed
level_2_types_fits = refl

-- at level 2 with types that differ
abbrev pub level_2_types_system : System
level_2_types_system = spied_system 2 2 PsaRot 1 level_2_types_fits

pub level_3_fits : spied_fits 3 1 ApplicationRot 2
unfolding is_well_formed
level_3_fits = refl

-- at level 3 each partition has a domain of its own
abbrev pub level_3_system : System
level_3_system = spied_system 3 1 ApplicationRot 2 level_3_fits

pub level_3_types_fits : spied_fits 3 1 PsaRot 2
unfolding is_well_formed
level_3_types_fits = refl

-- at level 3 with types that differ
abbrev pub level_3_types_system : System
level_3_types_system = spied_system 3 1 PsaRot 2 level_3_types_fits

-- ---- a partition whose service is a function, and a client

abbrev adder_partitions : List Partition
adder_partitions = record (partition (codes "ADDER") ApplicationRot 1 0) { sfn = true } ∷ []

abbrev adder_services : List Service
adder_services = record (service (codes "ADDER") 0x60 1 Strict 0x10) { stateless = 1 } ∷ []

pub adder_fits : is_well_formed 3 adder_partitions adder_services [] vault_regions (codes "NS" ∷ []) (connections 1 0 0 ∷ []) ≡ true
unfolding is_well_formed
adder_fits = refl

-- clients call the service without a connection
abbrev pub adder_system : System
adder_system = record vault_system { partitions = adder_partitions; services = adder_services; budgets = connections 1 0 0 ∷ []; counted = refl; well_formed = adder_fits }

abbrev connected_services : List Service
connected_services = service (codes "ADDER") 0x60 1 Strict 0x10 ∷ []

pub connected_fits : is_well_formed 3 adder_partitions connected_services [] vault_regions (codes "NS" ∷ []) (connections 1 0 1 ∷ []) ≡ true
unfolding is_well_formed
connected_fits = refl

-- clients connect to the service
abbrev pub connected_system : System
connected_system = record adder_system { services = connected_services; budgets = connections 1 0 1 ∷ []; counted = refl; well_formed = connected_fits }

-- ---- a partition whose service may map vectors, with windows of 16 bytes, and a client

abbrev mapper_partitions : List Partition
mapper_partitions = record (partition (codes "MAPPER") ApplicationRot 1 0) { heap = 0x80 } ∷ []

abbrev mapper_services : List Service
mapper_services = record (service (codes "MAPPER") 0x60 1 Strict 0x10) { stateless = 1; mm = true } ∷ []

abbrev mapper_regions : List Region
mapper_regions = ram 0x30000000 0x480 1 ∷ nonsecure_ram ∷ []

pub mapper_fits : is_well_formed 3 mapper_partitions mapper_services [] mapper_regions (codes "NS" ∷ []) (connections 1 0 0 ∷ []) ≡ true
unfolding is_well_formed
mapper_fits = refl

abbrev pub mapper_system : System
mapper_system = record vault_system {
  partitions = mapper_partitions;
  services = mapper_services;
  regions = mapper_regions;
  budgets = connections 1 0 0 ∷ [];
  counted = refl;
  well_formed = mapper_fits;
}

-- ---- a partition with an MMIO region alone

abbrev pub log : ℕ
log = 0

abbrev log_partitions : List Partition
log_partitions = partition (codes "LOG") ApplicationRot 1 0 ∷ []

abbrev flash : Region
flash = record { base = 0x40000000; size = 0x100; class = Mmio 0 true }

abbrev log_regions : List Region
log_regions = ram 0x30000000 0x400 1 ∷ nonsecure_ram ∷ flash ∷ []

pub log_fits : is_well_formed 3 log_partitions [] [] log_regions [] [] ≡ true
unfolding is_well_formed
log_fits = refl

abbrev pub log_system : System
log_system = record {
  level = 3;
  partitions = log_partitions;
  services = [];
  sources = [];
  regions = log_regions;
  clients = [];
  budgets = [];
  counted = refl;
  well_formed = log_fits;
}
