use Rattle.test_threads.proofs.Workers.{all_fresh, all_back}
use Rattle.test_threads.proofs.driven.drive_to_the_end.Goals as goal

pub drive-requires : goal.drive-requires
drive-requires g c =
    let w = c.in_ok-workers in
    all_fresh c.args.shared.now c.args.passes w.workers c.requires.passes c.requires.fresh w.ensures.passes w.ensures.unstarted

pub returns : goal.returns
returns g c =
    let w = c.in_ok-workers in
    let d = c.drive in
    all_back c.args.shared.now c.args.passes c.in_ok-passes_of.field-0 w.workers d.new.workers c.requires.passes w.ensures.passes d.ensures.actors d.ensures.finished c.in_ok-passes_of.ensures
