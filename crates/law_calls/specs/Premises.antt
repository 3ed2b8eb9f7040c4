-- What a call of an actor rests on, and what calls keep of it: each asks its own part, and the manager knows all of it of its tables and its image after each event of a run.
-- Source: this manager's; that handles have generations up to 0xfffff is this profile's, and FF-M 1.0 leaves open how many objects a manager can make.
use Rattle.std.specs.Prelude.{◌≡◌, ℕ, ◌+◌, ◌≤◌, List, All}
use Rattle.ffm_model.specs.declared.scenario.Bytes.{Bytes}
use Rattle.ffm_model.specs.declared.system.System.{System}
use Rattle.law_counting.specs.Objects.{ObjectsFit}
use Rattle.law_counting.specs.Takes.{last_generation}
use Rattle.ffm_model.specs.Ranges.{ranges_of}
use Rattle.memory_image.specs.Pieces.{regions_of}
use Rattle.machine_rules.specs.Vectors.{AreWithin}
use Rattle.spm_tables.specs.TablesView.{MadeFor, TablesView, spm_of}

-- what a call that touches no memory rests on
pub record Premises (s : System) (d : TablesView) : Type 0 where
  -- the tables were made for the system
  pub made : MadeFor d s
  -- their connections and messages fit it
  pub fits : ObjectsFit s (spm_of d)

-- an image has the regions of the system
abbrev pub HasRegions : System → List Bytes → Type 0
HasRegions s bytes = regions_of bytes ≡ ranges_of s.regions

-- the vectors of each message lie in the regions of an image
abbrev pub VectorsLie : TablesView → List Bytes → Type 0
VectorsLie d bytes = All (λ m. AreWithin (regions_of bytes) m.vectors) (spm_of d).messages

-- what a call that also reads or writes the image rests on
pub record PremisesWithImage (s : System) (d : TablesView) (bytes : List Bytes) : Type 0 where
  pub tables : Premises s d
  pub regions : HasRegions s bytes

-- what a call that moves bytes of a message's vectors rests on
pub record TransferPremises (s : System) (d : TablesView) (bytes : List Bytes) : Type 0 where
  pub made : MadeFor d s
  pub regions : HasRegions s bytes
  pub vectors : VectorsLie d bytes

-- what all calls rest on together
pub record PremisesWithMemory (s : System) (d : TablesView) (bytes : List Bytes) : Type 0 where
  pub tables : Premises s d
  pub regions : HasRegions s bytes
  pub vectors : VectorsLie d bytes

-- ---- what calls keep of it

-- connections and messages that fit a system still do
abbrev pub KeepsFit : TablesView → TablesView → Type 0
KeepsFit old new = (s : System) → ObjectsFit s (spm_of old) → ObjectsFit s (spm_of new)

-- vectors of messages that lie in ranges still do, whichever the ranges are
abbrev pub KeepsVectors : TablesView → TablesView → Type 0
KeepsVectors old new = (ranges : List (ℕ × ℕ)) → All (λ m. AreWithin ranges m.vectors) (spm_of old).messages → All (λ m. AreWithin ranges m.vectors) (spm_of new).messages

-- ---- calls that make connections or messages

-- the most connections, and the most messages, that one call makes with the panic that it owes
abbrev pub most_taken : ℕ
most_taken = 256

-- of objects of which so many were made, so many more can be made: each may need a generation of its own, and those end at the last one that a handle shows
abbrev pub AreLeft : ℕ → Type 0
AreLeft takes = takes + most_taken ≤ last_generation

pub record LeavesTakes (d : TablesView) : Type 0 where
  pub connections : AreLeft d.connections.takes
  pub messages : AreLeft d.messages.takes
