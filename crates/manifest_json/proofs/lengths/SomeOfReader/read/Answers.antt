use Rattle.std.proofs.Common.{◌<◌, length, arith}
use Rattle.std.proofs.lemmas.Bool.Decides.{nat_tests}
use Rattle.serde_json.specs.View.{view}
use Rattle.manifest_json.proofs.ShortLists.{list_some, kept_some}
use Rattle.manifest_json.proofs.lengths.SomeOfReader.read.Goals as goal

pub returns-clause-given : goal.returns-clause-given
returns-clause-given g c =
    let some : 0 < length c.in-Some.items.now.items = grind (arith, nat_tests, c.is_empty.ensures) in
    rw (list_some (g.R.Reader.gives c.args.self.now.0.0) (view c.args.tree.now) c.in-Some.items.now.items c.in-Some.ensures some) c.read.ensures.given

pub returns-clause-kept : goal.returns-clause-kept
returns-clause-kept g c =
    let some : 0 < length c.in-Some.items.now.items = grind (arith, nat_tests, c.is_empty.ensures) in
    kept_some _ (g.R.Reader.gives c.args.self.now.0.0) (view c.args.tree.now) c.in-Some.items.now.items c.read.result c.in-Some.ensures some c.read.ensures.kept c.read.ensures.given
