use Rattle.std.proofs.Common.{codes}
use Rattle.std.proofs.lemmas.Result.{on_ok_weaker}
use Rattle.view_places.specs.StateText.{some_rung}
use Rattle.view_texts.specs.Names.{actor_name}
use Rattle.std.proofs.Common.{[], map}
use Rattle.view_texts.specs.Columns.{listed}
use Rattle.view_places.proofs.Appended.{step}
use Rattle.view_places.proofs.state.put_some_rung.Goals as goal

pub returns : goal.returns
unfolding some_rung
returns c =
    let s = c.args.system.now in
    on_ok_weaker c.append-2.result
    (λ e.
    let r1 = step c.append.new.text.items c.put_actor_names.new.text.items _ (listed [] (map (actor_name s) c.args.partitions.now)) _ c.in_ok-put_actor_names.ensures e in
    step c.args.text.now.items c.append.new.text.items _ (codes "doorbells asserted: ") _ c.in_ok-append.ensures r1)
    c.append-2.ensures
