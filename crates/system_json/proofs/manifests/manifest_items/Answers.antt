use Rattle.std.proofs.Common.{arith, sym}
use Rattle.serde_json.specs.View.{view}
use Rattle.system_json.proofs.ManifestSteps.{items_at, too_many}
use Rattle.system_json.proofs.manifests.manifest_items.Goals as goal

pub returns-then-len-gt-MAX_MANIFESTS-clause-given :
    goal.returns-then-len-gt-MAX_MANIFESTS-clause-given
returns-then-len-gt-MAX_MANIFESTS-clause-given c =
    let there = rw c.text.ensures at c.in-Some.ensures in
    too_many (view c.args.tree.now) (view c.in-Some.list.now) c.in-Some-as_array.items.now.items c.refused_in_system-then-len-gt-MAX_MANIFESTS.result (sym there) c.in-Some-as_array.ensures (omega (arith, c.len.ensures)) c.refused_in_system-then-len-gt-MAX_MANIFESTS.ensures

pub returns-clause-given : goal.returns-clause-given
returns-clause-given c =
    let there = rw c.text.ensures at c.in-Some.ensures in
    rw c.deref.ensures.value (items_at (view c.args.tree.now) (view c.in-Some.list.now) c.in-Some-as_array.items.now.items (sym there) c.in-Some-as_array.ensures (omega (arith, c.len.ensures)))
