-- What follows where nothing is too large.
use Rattle.std.proofs.Common.{ℕ, ◌≡◌, ◌≤◌, List, [], map, arith, false}
use Rattle.std.specs.Prelude.{nat_lt, sum_by}
use Rattle.std.proofs.lemmas.Bool.Decides.{nat_tests}
use Rattle.law_lists.proofs.Lists.{append_nil}
use Rattle.ffm_model.specs.declared.constants.TheConstants.{MAX_REGION_BYTES, MAX_IMAGE_BYTES}
use Rattle.ffm_model.specs.PartsItems.{PartsRecord}
use Rattle.ffm_model.specs.Repeats.{only_if}
use Rattle.ffm_model.specs.Layout.{mmio_of, regions_laid_out, ram_needed, rounded, is_large, large_from, too_large, non_secure_ram, all_regions}
use Rattle.region_map.specs.declared.place.Placed.{Placed}
use Rattle.region_map.specs.Placements.{located_of}
use Rattle.region_map.proofs.SizeLemmas.{sum_regions}
use Rattle.ffm_model.proofs.RuleLemmas.{only_if_nil, rounded_up}

at_most : (a b : ℕ) → nat_lt b a ≡ false → a ≤ b
at_most a b h = grind (arith, nat_tests)

-- the RAM of all partitions fits the image
pub ram_fits : (p : PartsRecord) (xs : List Placed) → map located_of xs ≡ mmio_of p → too_large p ≡ [] → sum_by ram_needed p.manifests ≤ 16777216
ram_fits p xs placed fits =
    let ends = append_nil (only_if (is_large (rounded p.non_secure_ram)) non_secure_ram) _ (append_nil (large_from p.regions 0 p.manifests) _ fits).1 in
    let all = at_most _ MAX_IMAGE_BYTES (only_if_nil (nat_lt MAX_IMAGE_BYTES (sum_by (λ r. r.size) (regions_laid_out p))) all_regions ends.1) in
    omega (arith, all, sum_regions p xs placed)

pub non_secure_fits : (p : PartsRecord) → too_large p ≡ [] → p.non_secure_ram ≤ 1048576
non_secure_fits p fits =
    let ends = append_nil (only_if (is_large (rounded p.non_secure_ram)) non_secure_ram) _ (append_nil (large_from p.regions 0 p.manifests) _ fits).1 in
    let small = at_most _ MAX_REGION_BYTES (only_if_nil (is_large (rounded p.non_secure_ram)) non_secure_ram ends.0) in
    omega (arith, small, rounded_up p.non_secure_ram)
