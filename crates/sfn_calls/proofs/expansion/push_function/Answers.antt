use Rattle.std.proofs.Common.{◌+◌}
use Rattle.sfn_calls.specs.Loop.{place_in}
use Rattle.sfn_calls.proofs.CodeLemmas.{lines-more, lines-done}
use Rattle.sfn_calls.proofs.expansion.push_function.Goals as goal

pub loop-line-preserved : goal.loop-line-preserved
loop-line-preserved c =
    lines-more (λ t. c.args.from + place_in c.args.lines.now t) c.args.lines.now c.loop-line.line-index _ c.args.code.now.items c.loop-line.code.items _ c.loop-line-test.true c.loop-line.invariant c.in_ok-push_line.ensures

pub returns : goal.returns
returns c =
    lines-done c.push_reply.result (λ t. c.args.from + place_in c.args.lines.now t) c.args.lines.now c.loop-line.line-index c.args.code.now.items c.loop-line.code.items c.push_reply.new.code.items c.loop-line-test.false c.loop-line.invariant c.push_reply.ensures
