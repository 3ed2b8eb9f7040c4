use Rattle.std.proofs.Common.{◌<◌, rules, sym, length, ◌∙◌}
use Rattle.std.specs.Prelude.{Some}
use Rattle.memory_image.specs.Pieces.{regions_of}
use Rattle.ffm_model.specs.Ranges.{IsOnlyPlace}
use Rattle.memory_image.proofs.Indexed.{found_there, piece_below, lacked_piece, had_piece, no_piece_has}
use Rattle.memory_image.proofs.index.piece_with.Goals as goal

pub returns-in-None-clause-exact : goal.returns-in-None-clause-exact
returns-in-None-clause-exact c some = no_piece_has c.args.pieces.now c.args.address c.args.len some (c.in-None.ensures _ c.requires.index c.requires.apart)

pub bounds-pieces-place : goal.bounds-pieces-place
bounds-pieces-place c =
    let only : IsOnlyPlace (regions_of c.args.pieces.now) c.args.address (Some c.in-Some.place) = c.in-Some.ensures _ c.requires.index c.requires.apart in
    piece_below c.args.pieces.now c.in-Some.place only.below

pub offset_bounds-pieces-place : goal.offset_bounds-pieces-place
offset_bounds-pieces-place c =
    let only : IsOnlyPlace (regions_of c.args.pieces.now) c.args.address (Some c.in-Some.place) = c.in-Some.ensures _ c.requires.index c.requires.apart in
    let below : c.in-Some.place < length c.args.pieces.now = piece_below c.args.pieces.now c.in-Some.place only.below in
    search rules

pub returns-then-has_range-clause-found : goal.returns-then-has_range-clause-found
returns-then-has_range-clause-found c =
    let only : IsOnlyPlace (regions_of c.args.pieces.now) c.args.address (Some c.in-Some.place) = c.in-Some.ensures _ c.requires.index c.requires.apart in
    let below : c.in-Some.place < length c.args.pieces.now = piece_below c.args.pieces.now c.in-Some.place only.below in
    found_there _ _ _ _ c.index-pieces-place.result below c.index-pieces-place.is (sym c.has_range.ensures ∙ c.if-has_range.true)

pub returns-then-has_range-clause-exact : goal.returns-then-has_range-clause-exact
returns-then-has_range-clause-exact c some =
    had_piece _ _ _ _ c.index-pieces-place.result (c.in-Some.ensures _ c.requires.index c.requires.apart) c.index-pieces-place.is (sym c.has_range.ensures ∙ c.if-has_range.true)

pub returns-else-has_range-clause-exact : goal.returns-else-has_range-clause-exact
returns-else-has_range-clause-exact c some =
    lacked_piece _ _ _ _ c.index-pieces-place.result some (c.in-Some.ensures _ c.requires.index c.requires.apart) c.index-pieces-place.is (sym c.has_range.ensures ∙ c.if-has_range.false)
