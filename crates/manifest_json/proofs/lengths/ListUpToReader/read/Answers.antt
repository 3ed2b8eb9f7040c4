use Rattle.std.proofs.Common.{arith}
use Rattle.serde_json.specs.View.{view}
use Rattle.manifest_json.proofs.ShortLists.{list_short, list_long, kept_short}
use Rattle.manifest_json.proofs.lengths.ListUpToReader.read.Goals as goal

pub returns-then-self-len-clause-given : goal.returns-then-self-len-clause-given
returns-then-self-len-clause-given g c =
    rw c.refused-then-self-len.ensures (list_long c.args.self.now.most (g.R.Reader.gives c.args.self.now.reader.0) (view c.args.tree.now) c.in-Some.items.now.items c.in-Some.ensures (omega (arith, c.len.ensures)))

pub returns-clause-given : goal.returns-clause-given
returns-clause-given g c =
    rw (list_short c.args.self.now.most (g.R.Reader.gives c.args.self.now.reader.0) (view c.args.tree.now) c.in-Some.items.now.items c.in-Some.ensures (omega (arith, c.len.ensures))) c.read.ensures.given

pub returns-clause-kept : goal.returns-clause-kept
returns-clause-kept g c =
    kept_short _ c.args.self.now.most (g.R.Reader.gives c.args.self.now.reader.0) (view c.args.tree.now) c.in-Some.items.now.items c.read.result c.in-Some.ensures (omega (arith, c.len.ensures)) c.read.ensures.kept c.read.ensures.given
