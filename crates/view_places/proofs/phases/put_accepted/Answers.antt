use Rattle.std.proofs.Common.{codes}
use Rattle.std.proofs.lemmas.Result.{on_ok_weaker}
use Rattle.view_places.specs.StateText.{accepted_text}
use Rattle.view_texts.specs.Names.{service_text}
use Rattle.view_places.proofs.Appended.{step}
use Rattle.view_places.proofs.phases.put_accepted.Goals as goal

pub returns : goal.returns
unfolding accepted_text
returns c =
    let s = c.args.system.now in
    on_ok_weaker c.append-2.result
    (λ e.
    let r1 = step c.append.new.text.items c.put_service.new.text.items _ (service_text s c.args.connection.now.service) _ c.in_ok-put_service.ensures e in
    step c.args.text.now.items c.append.new.text.items _ (codes "connected to ") _ c.in_ok-append.ensures r1)
    c.append-2.ensures
