use Rattle.std.proofs.Common.{◌<◌, ◌∙◌, arith, ap, sym}
use Rattle.std.specs.Prelude.{Some, position}
use Rattle.ffm_model.specs.Memory.{lies_in}
use Rattle.ffm_model.specs.Ranges.{range_in, AreIndexed, IsOnlyPlace, ranges_of}
use Rattle.ffm_model.proofs.RangeLemmas.{found_place, lacked_place, missing_place, lies_tells}
use Rattle.ffm_model.proofs.regions.Regions.place_with.Goals as goal

pub returns-then-holds : goal.returns-then-holds
returns-then-holds c =
    let some : 0 < c.args.len = omega arith in
    let kept : AreIndexed c.self.inside.list c.in-Some.starts.items = rw c.in-Some.is at c.self.invariant in
    let only : IsOnlyPlace (ranges_of c.self.inside.list) c.args.address (Some c.in-Some-last_up_to.place) = c.in-Some-last_up_to.ensures _ (rw c.as_slice.ensures.value kept.index) kept.apart in
    sym (found_place range_in (lies_in c.args.address c.args.len) c.args.address c.args.len some (lies_tells _ _ some) c.self.inside.list c.in-Some-last_up_to.place _ only (rw c.as_slice-regions.ensures at (sym c.holds.ensures ∙ c.if-holds.true)))
    ∙ ap (position (lies_in c.args.address c.args.len)) c.self.view_is

pub returns-else-holds : goal.returns-else-holds
returns-else-holds c =
    let some : 0 < c.args.len = omega arith in
    let kept : AreIndexed c.self.inside.list c.in-Some.starts.items = rw c.in-Some.is at c.self.invariant in
    let only : IsOnlyPlace (ranges_of c.self.inside.list) c.args.address (Some c.in-Some-last_up_to.place) = c.in-Some-last_up_to.ensures _ (rw c.as_slice.ensures.value kept.index) kept.apart in
    sym (lacked_place range_in (lies_in c.args.address c.args.len) c.args.address c.args.len some (lies_tells _ _ some) c.self.inside.list c.in-Some-last_up_to.place _ only (rw c.as_slice-regions.ensures at (sym c.holds.ensures ∙ c.if-holds.false)))
    ∙ ap (position (lies_in c.args.address c.args.len)) c.self.view_is

pub returns-in-None : goal.returns-in-None
returns-in-None c =
    let some : 0 < c.args.len = omega arith in
    let kept : AreIndexed c.self.inside.list c.in-Some.starts.items = rw c.in-Some.is at c.self.invariant in
    sym (missing_place range_in (lies_in c.args.address c.args.len) c.args.address c.args.len some (lies_tells _ _ some) c.self.inside.list (c.in-None.ensures _ (rw c.as_slice.ensures.value kept.index) kept.apart))
    ∙ ap (position (lies_in c.args.address c.args.len)) c.self.view_is
