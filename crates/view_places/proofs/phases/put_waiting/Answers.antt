use Rattle.std.proofs.Common.{codes}
use Rattle.std.proofs.lemmas.Result.{on_ok_weaker}
use Rattle.view_places.specs.StateText.{signals_text, waiting_text}
use Rattle.view_places.proofs.Appended.{step}
use Rattle.view_places.proofs.phases.put_waiting.Goals as goal

pub returns : goal.returns
unfolding waiting_text
returns c =
    let s = c.args.system.now in
    on_ok_weaker c.put_asserted_in.result
    (λ e.
    let r1 = step c.append.new.text.items c.put_signals.new.text.items _ (signals_text s c.args.partition c.args.mask) _ c.in_ok-put_signals.ensures e in
    step c.args.text.now.items c.append.new.text.items _ (codes "waits for ") _ c.in_ok-append.ensures r1)
    c.put_asserted_in.ensures
