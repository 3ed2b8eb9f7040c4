-- What each call rests on is there again after a call that kept the shape and the regions.
use Rattle.std.proofs.Common.{◌≡◌, ◌∙◌, List, refl, subst, sym}
use Rattle.std.specs.Prelude.{All}
use Rattle.ffm_model.specs.declared.scenario.Bytes.{Bytes}
use Rattle.ffm_model.specs.declared.system.System.{System}
use Rattle.law_counting.specs.Objects.{ObjectsFit}
use Rattle.memory_image.specs.Pieces.{regions_of}
use Rattle.machine_rules.specs.Vectors.{AreWithin}
use Rattle.law_calls.specs.Premises.{PremisesWithMemory, VectorsLie}
use Rattle.spm_tables.specs.TablesView.{TablesView, shape_of, spm_of}

-- after a call
pub premises-after : (s : System) (d new : TablesView) (bytes after : List Bytes) → PremisesWithMemory s d bytes → shape_of new ≡ shape_of d → ObjectsFit s (spm_of new) → regions_of after ≡ regions_of bytes → VectorsLie new bytes
    → PremisesWithMemory s new after
premises-after s d new bytes after p shape fits regions lie = record {
  tables = record { made = shape ∙ p.tables.made; fits = fits };
  regions = regions ∙ p.regions;
  vectors = subst (λ rs. All (λ m. AreWithin rs m.vectors) (spm_of new).messages) (sym regions) lie;
}

-- after a return, which leaves the messages and the memory
pub premises-returned : (s : System) (d new : TablesView) (bytes : List Bytes) → PremisesWithMemory s d bytes → shape_of new ≡ shape_of d → ObjectsFit s (spm_of new) → (spm_of new).messages ≡ (spm_of d).messages → PremisesWithMemory s new bytes
premises-returned s d new bytes p shape fits queue =
    premises-after s d new bytes bytes p shape fits refl (subst (All (λ m. AreWithin (regions_of bytes) m.vectors)) (sym queue) p.vectors)
