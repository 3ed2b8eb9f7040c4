use Rattle.std.proofs.Common.{◌≡◌, ◌∙◌, ◌+◌, ◌++◌, ◌∷◌, [], List, ℕ, length, take, ap, sym, get_or}
use Rattle.std.proofs.lemmas.List.{take_all, take_more}
use Rattle.ffm_model.proofs.BytesLemmas.{bytes-length}
use Rattle.ffm_model.specs.declared.system.Class.TheVariants.{Ram}
use Rattle.ffm_model.specs.declared.system.Region.{Region}
use Rattle.ffm_model.specs.Memory.{ByteMap, write_bytes}
use Rattle.ffm_model.specs.Restarts.{memory_after}
use Rattle.ffm_model.specs.Ranges.{ranges_of}
use Rattle.memory_image.specs.Pieces.{byte_at, regions_of}
use Rattle.spm_core.specs.Manager.{state_of}
use Rattle.scenario_runs.proofs.Resets.{memory_left, mmio_more, other_more, region_inside, reset_in}
use Rattle.scenario_runs.proofs.opening.reset.Goals as goal
use Rattle.scenario_runs.proofs.opening.reset.Goals.{then-is_mmio, else-is_mmio}

abbrev no_region : Region
no_region = record { base = 0; size = 0; class = Ram 0 }

pub bytes-requires : goal.bytes-requires
bytes-requires c =
    let items = c.as_slice-region-items.result.now in
    let same : regions_of c.image-last.result.now ≡ ranges_of items = c.image-last.ensures.regions ∙ ap ranges_of (sym (c.as_slice-region-items.ensures ∙ ap (λ s. s.regions) c.system.ensures)) in
    rw same (region_inside items c.loop-region.region-index no_region c.loop-region-test.true)

pub store_bytes-requires : goal.store_bytes-requires
store_bytes-requires c =
    let items = c.as_slice-region-items.result.now in
    let r : Region = get_or items c.loop-region.region-index no_region in
    let same : regions_of c.loop-region.image ≡ ranges_of items = c.loop-region.invariant.regions ∙ ap ranges_of (sym (c.as_slice-region-items.ensures ∙ ap (λ s. s.regions) c.system.ensures)) in
    let long : length c.bytes.result.now ≡ r.size = ap length c.bytes.ensures ∙ bytes-length (byte_at c.image-last.result.now) r.base r.size in
    rw (same, long) (region_inside items c.loop-region.region-index no_region c.loop-region-test.true)

pub loop-region-preserved : goal.loop-region-preserved
loop-region-preserved c =
    let items = c.as_slice-region-items.result.now in
    let i : ℕ = c.loop-region.region-index in
    let r : Region = get_or items i no_region in
    let first : ByteMap = byte_at c.args.first.now in
    let last : ByteMap = byte_at c.image-last.result.now in
    let more : reset_in (take i items ++ r ∷ []) first last ≡ reset_in (take (i + 1) items) first last = ap (λ (rs : List Region). reset_in rs first last) (sym (take_more items i no_region c.loop-region-test.true)) in
    elim c.if-is_mmio.branch [
      | then-is_mmio w ↦ record {
        bytes =
            ap byte_at w.image-is ∙ w.store_bytes.ensures.stored ∙ ap (λ (m : ByteMap). write_bytes m r.base w.bytes.result.now) c.loop-region.invariant.bytes
            ∙ ap (λ (b : List ℕ). write_bytes (reset_in (take i items) first last) r.base b) w.bytes.ensures
            ∙ mmio_more (take i items) r first last (sym w.if-is_mmio.ensures) ∙ more;
        regions = ap regions_of w.image-is ∙ w.store_bytes.ensures.regions ∙ c.loop-region.invariant.regions;
      }
      | else-is_mmio w ↦ record {
        bytes = ap byte_at w.image-is ∙ c.loop-region.invariant.bytes ∙ other_more (take i items) r first last (sym w.if-is_mmio.ensures) ∙ more;
        regions = ap regions_of w.image-is ∙ c.loop-region.invariant.regions;
      }
    ]

pub returns-clause-bytes : goal.returns-clause-bytes
returns-clause-bytes c =
    let items = c.as_slice-region-items.result.now in
    let all : take c.loop-region.region-index items ≡ items = take_all c.loop-region.region-index items c.loop-region-test.false in
    let s = c.args.ended.now.opening.system in
    let left : byte_at c.image-last.result.now ≡ memory_after s (byte_at c.args.ended.now.opening.memory) c.args.ended.now.history = memory_left (state_of c.args.ended.now) _ _ c.image-last.ensures.memory in
    c.loop-region.invariant.bytes
    ∙ ap (λ (rs : List Region). reset_in rs (byte_at c.args.first.now) (byte_at c.image-last.result.now)) (all ∙ c.as_slice-region-items.ensures ∙ ap (λ x. x.regions) c.system.ensures)
    ∙ ap (λ (m : ByteMap). reset_in s.regions (byte_at c.args.first.now) m) left
