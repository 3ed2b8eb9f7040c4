use Rattle.std.proofs.Common.{◌∙◌, ◌≡◌, ap}
use Rattle.std.specs.Prelude.{map}
use Rattle.memory_image.specs.Pieces.{regions_of, zero_piece}
use Rattle.memory_image.proofs.Opened.{regions_of-zero, byte_at-opening, opening_inside}
use Rattle.memory_image.proofs.image.Image.new.Goals as goal

pub loop-bytes-init : goal.loop-bytes-init
loop-bytes-init c =
    let zeros : c.in_ok-image.image ≡ map zero_piece c.args.regions.now = rw c.as_slice.ensures at c.in_ok-image.ensures in
    record { stored = byte_at-opening _ c.args.regions.now zeros; regions = ap regions_of zeros ∙ regions_of-zero c.args.regions.now }

pub store_bytes-requires : goal.store_bytes-requires
store_bytes-requires c =
    rw (c.as_slice-in-loop-bytes.ensures, c.loop-bytes.invariant.regions)
    (opening_inside c.args.regions.now c.args.opening.now c.as_slice-bytes-items.result.now c.loop-bytes.bytes-index c.bytes-item.result
    c.loop-bytes-test.true c.as_slice-bytes-items.ensures c.requires.opening c.bytes-item.is)
