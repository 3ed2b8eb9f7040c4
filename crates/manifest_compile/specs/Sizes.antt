-- Regions that are not too large, or the place of the first one that is.
-- Source: of this repository; the rule on sizes is the model's.
use Rattle.std.specs.Prelude.{◌≡◌, ℕ, Bool, List, [], ◌∷◌, Option, Some, None, Result, Ok, Err, if◌then◌else◌}
use Rattle.ffm_model.specs.declared.codes.TheConstants.{MEMORY_TOO_LARGE}
use Rattle.ffm_model.specs.declared.key.Key.TheVariants as key
use Rattle.ffm_model.specs.declared.place.PathStep.{PathStep}
use Rattle.ffm_model.specs.declared.place.PathStep.TheVariants as step
use Rattle.ffm_model.specs.declared.system.Region.{Region}
use Rattle.ffm_model.specs.Layout.{regions_laid_out}
use Rattle.ffm_model.specs.PartsItems.{PartsRecord}
use Rattle.ffm_model.specs.Repeats.{first}
use Rattle.ffm_model.specs.Rules.{refusal, at_attribute, at_item, memory_too_large}

-- the regions, where none is too large, or else the place of the first one
abbrev pub HasSizes : PartsRecord → Result (List Region) (List PathStep) → Type 0
HasSizes p (Ok regions) = (regions ≡ regions_laid_out p) × (memory_too_large p ≡ [])
HasSizes p (Err steps) = first (memory_too_large p) ≡ Some (refusal MEMORY_TOO_LARGE steps)

-- the place of a manifest's MMIO item, of a manifest's RAM, of all regions together, or of non-secure RAM
abbrev pub large_steps : Option ℕ → Option ℕ → Bool → List PathStep
large_steps (Some k) (Some i) total = at_item key.MmioRegions k i
large_steps (Some k) None total = at_attribute k key.StackSize
large_steps None item total = step.Key (if total then key.Manifests else key.NonSecureRam) ∷ []
