use Rattle.std.proofs.Common.{ℕ, ◌+◌, ◌<◌, ◌≤◌, length, arith, ap, sym, ◌∙◌}
use Rattle.std.proofs.lemmas.List.{take_all}
use Rattle.ffm_top.specs.Makes.{bytes_moved}
use Rattle.ffm_top.proofs.Makes.{moved_more}
use Rattle.ffm_top.proofs.make.bytes_moved.Goals as goal

pub loop-place-preserved : goal.loop-place-preserved
loop-place-preserved c =
    let lt : c.loop-place.place < length c.args.spm.now.history = omega arith in
    record {
      sum = rw c.from-moved.ensures (ap (λ (k : ℕ). k + c.moved_at.result) c.loop-place.invariant.sum ∙ sym (moved_more c.args.spm.now.history c.loop-place.place c.moved_at.result lt c.moved_at.ensures));
      small = omega arith;
    }

pub returns : goal.returns
returns c =
    let all : length c.args.spm.now.history ≤ c.loop-place.place = omega arith in
    c.loop-place.invariant.sum ∙ ap bytes_moved (take_all c.loop-place.place c.args.spm.now.history all)
