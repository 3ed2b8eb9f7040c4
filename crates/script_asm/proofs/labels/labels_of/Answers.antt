use Rattle.std.proofs.Common.{refl}
use Rattle.script_asm.proofs.LabelLemmas.{labels-start, labels-next}
use Rattle.script_asm.proofs.labels.labels_of.Goals as goal

pub loop-i-init : goal.loop-i-init
loop-i-init c = labels-start _ _ c.new-labels.ensures.empty

pub loop-i-preserved : goal.loop-i-preserved
loop-i-preserved c =
    labels-next _ _ c.args.lines.now c.loop-i.i c.loop-i.place _ c.index-lines-i.result (record { line = c.loop-i.i; place = c.loop-i.place })
    c.loop-i-test.true c.index-lines-i.is refl refl c.width-place.ensures c.in_ok-keep_line.ensures c.loop-i.invariant
