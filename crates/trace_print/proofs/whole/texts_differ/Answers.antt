use Rattle.std.proofs.Common.{rules}
use Rattle.trace_print.proofs.Entries.{FewActors}
use Rattle.trace_print.proofs.Traces.{same_trace}
use Rattle.trace_print.proofs.whole.texts_differ.Goals as goal

pub returns : goal.returns
returns c =
    let few : FewActors c.args.counts = search rules in
    same_trace c.args.counts few
