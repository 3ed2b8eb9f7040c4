-- A worked system: two partitions that share a domain, and memory with nothing in it.
-- Source: this simulator's; RAM of partitions lies from 0x30000000 on, non-secure RAM from 0x20000000 on.
use Rattle.std.specs.Prelude.{ℕ, ◌≡◌, true, false, List, [], ◌∷◌, Option, refl, codes}
use Rattle.ffm_model.specs.declared.system.System.{System}
use Rattle.ffm_model.specs.declared.system.Partition.{Partition}
use Rattle.ffm_model.specs.declared.system.Region.{Region}
use Rattle.ffm_model.specs.declared.system.RotType.TheVariants.{ApplicationRot}
use Rattle.ffm_model.specs.declared.system.Priority.TheVariants.{Normal}
use Rattle.ffm_model.specs.declared.system.Class.TheVariants.{Ram, NonSecure}
use Rattle.ffm_model.specs.declared.machine.Entry.{Entry}
use Rattle.ffm_model.specs.declared.machine.Call.TheVariants.{Load, Store}
use Rattle.ffm_model.specs.declared.machine.Outcome.TheVariants.{Number, Done}
use Rattle.ffm_model.specs.State.{opening}
use Rattle.ffm_model.specs.WellFormed.{is_well_formed}
use Rattle.machine_check.specs.declared.auditing.Change.{Change}
use Rattle.machine_check.specs.Auditing.{AreChanges}

abbrev partition : List ℕ → ℕ → Partition
partition name ram = record { name = name; rot = ApplicationRot; priority = Normal; domain = 1; ram = ram; sfn = false; heap = 0 }

abbrev neighbours : List Partition
neighbours = partition (codes "FIRST") 0 ∷ partition (codes "SECOND") 1 ∷ []

abbrev neighbour_regions : List Region
neighbour_regions =
    record { base = 0x30000000; size = 32; class = Ram 1 }
    ∷ record { base = 0x30000020; size = 32; class = Ram 1 }
    ∷ record { base = 0x20000000; size = 32; class = NonSecure }
    ∷ []

pub neighbours_fit : is_well_formed 1 neighbours [] [] neighbour_regions [] [] ≡ true
unfolding is_well_formed
neighbours_fit = refl

-- at level 1 each partition may store into the RAM of the other
abbrev pub neighbour_system : System
neighbour_system = record {
  level = 1;
  partitions = neighbours;
  services = [];
  sources = [];
  regions = neighbour_regions;
  clients = [];
  budgets = [];
  counted = refl;
  well_formed = neighbours_fit;
}

-- the first partition stores one byte
abbrev pub stores : ℕ → ℕ → Entry
stores address value = record { actor = record { 0 = 0 }; call = Store address 1 value; outcome = Done }

-- it loads one byte, which is 0
abbrev pub loads : ℕ → Entry
loads address = record { actor = record { 0 = 0 }; call = Load address 1; outcome = Number 0 }

-- the change of the first entry
abbrev pub first_change : ℕ → ℕ → Option ℕ → Change
first_change lowest count outside = record { place = 1; lowest = lowest; count = count; outside = outside }

-- these are the changes of these entries, where all bytes are 0 before them
abbrev pub ChangeZeros : List Entry → List Change → Type 0
ChangeZeros es changes = AreChanges neighbour_system 1 (opening neighbour_system (λ x. 0)) es changes
