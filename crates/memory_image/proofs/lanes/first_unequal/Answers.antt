use Rattle.std.proofs.Common.{sym, ◌∙◌, rules}
use Rattle.memory_image.specs.Unequal.{are_unequal}
use Rattle.memory_image.proofs.Blocks.{found_after, none_after}
use Rattle.memory_image.proofs.lanes.first_unequal.Goals as goal

pub overflow_add-result : goal.overflow_add-result
overflow_add-result c =
    let skipped = c.equal_blocks-start.ensures in
    let place = found_after are_unequal c.args.a.now c.args.b.now c.equal_blocks-start.result c.in-Some.found skipped.within c.requires skipped.passed (sym c.in-Some.is ∙ c.first_by_one.ensures) in
    let bound = place.0 in
    search rules

pub returns-in-Some : goal.returns-in-Some
returns-in-Some c =
    let skipped = c.equal_blocks-start.ensures in
    (found_after are_unequal c.args.a.now c.args.b.now c.equal_blocks-start.result c.in-Some.found skipped.within c.requires skipped.passed (sym c.in-Some.is ∙ c.first_by_one.ensures)).1

pub returns-in-None : goal.returns-in-None
returns-in-None c =
    let skipped = c.equal_blocks-start.ensures in
    none_after are_unequal c.args.a.now c.args.b.now c.equal_blocks-start.result skipped.within c.requires skipped.passed (sym c.in-None.is ∙ c.first_by_one.ensures)
