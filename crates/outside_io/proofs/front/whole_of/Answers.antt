use Rattle.std.proofs.Common.{ℕ, ◌<◌, ◌≤◌, arith, ap, refl, ◌∙◌, length, Vec, Global, Err, IsErrOf, take}
use Rattle.outside_io.specs.declared.files.FileError.TheVariants.{TooLong}
use Rattle.std.proofs.lemmas.Result.{err_from_is_err_and}
use Rattle.outside_io.proofs.Fronts.{all_taken, front_same, is_longer, none_taken, not_long, of_any, some_left, taken_then}
use Rattle.outside_io.proofs.front.whole_of.Goals as goal

pub returns-in_err-count-clause-content : goal.returns-in_err-count-clause-content
returns-in_err-count-clause-content g c =
    let p = err_from_is_err_and c.from_residual-in_err-count.result c.from_residual-in_err-count.ensures.1 in
    rw p.1 (of_any _ _ (λ left. tt))

pub returns-in_err-count-clause-too_long : goal.returns-in_err-count-clause-too_long
returns-in_err-count-clause-too_long g c =
    let p = err_from_is_err_and c.from_residual-in_err-count.result c.from_residual-in_err-count.ensures.1 in
    rw (p.1, p.2) (not_long (IsErrOf {T = Vec ℕ Global} (Err c.in_err-count.field-0.0) TooLong) _ _ (λ long. c.in_err-count.ensures.no_limit cc))

pub returns-then-count-eq0-clause-content : goal.returns-then-count-eq0-clause-content
returns-then-count-eq0-clause-content g c =
    all_taken _ _ _ c.loop-from.bytes.items _ c.in_ok-count.count c.if-count-eq0.true c.loop-from.invariant.taken c.in_ok-count.ensures.bytes (c.in_ok-count.ensures.end c.if-count-eq0.true (omega arith))

pub returns-then-count-eq0-clause-too_long : goal.returns-then-count-eq0-clause-too_long
returns-then-count-eq0-clause-too_long g c = not_long _ _ _ (λ is. absurd cc)

pub returns-in_err-extend_from_slice-clause-content : goal.returns-in_err-extend_from_slice-clause-content
returns-in_err-extend_from_slice-clause-content g c =
    let p = err_from_is_err_and c.from_residual-in_err-extend_from_slice.result c.from_residual-in_err-extend_from_slice.ensures.1 in
    rw p.1 (of_any _ _ (λ left. tt))

pub returns-in_err-extend_from_slice-clause-too_long : goal.returns-in_err-extend_from_slice-clause-too_long
returns-in_err-extend_from_slice-clause-too_long g c =
    let p = err_from_is_err_and c.from_residual-in_err-extend_from_slice.result c.from_residual-in_err-extend_from_slice.ensures.1 in
    rw (p.1, p.2) (not_long _ _ _ (λ is. absurd cc))

pub returns-clause-content : goal.returns-clause-content
returns-clause-content g c = of_any _ _ (λ left. tt)

pub returns-clause-too_long : goal.returns-clause-too_long
returns-clause-too_long g c = is_longer _ _ _ c.loop-from.bytes.items c.args.limit c.loop-from.invariant.taken (omega arith)

pub loop-from-init : goal.loop-from-init
loop-from-init g c = record { taken = rw c.new-bytes.ensures.items (none_taken _); no_fault = refl; room = omega (arith, c.in_ok-piece.ensures) }

pub loop-from-preserved : goal.loop-from-preserved
loop-from-preserved g c =
    let some : 0 < length c.read.new.piece = omega (arith, c.in_ok-count.ensures.within, c.if-count-eq0.false) in
    let room : 0 < c.loop-from.piece.len = omega (arith, c.loop-from.invariant.room, c.loop-from.piece.ok.0) in
    let within : c.in_ok-count.count ≤ c.loop-from.piece.len = omega (arith, c.in_ok-count.ensures.within, c.read.auto.piece, c.loop-from.piece.ok.0) in
    let piece = ap (take c.in_ok-count.count) c.deref.ensures.value ∙ front_same c.in_ok-count.count c.loop-from.piece.len c.read.new.piece _ c.in_ok-count.ensures.within within in
    record {
      taken = rw (c.in_ok-extend_from_slice.ensures.items, piece) (taken_then _ _ _ _ _ c.loop-from.invariant.taken c.in_ok-count.ensures.bytes);
      no_fault = c.in_ok-count.ensures.counts ∙ c.loop-from.invariant.no_fault;
      room = some_left c.loop-from.piece.len c.read.new.piece _ room some;
    }
