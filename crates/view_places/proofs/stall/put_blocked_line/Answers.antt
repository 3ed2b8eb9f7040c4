use Rattle.std.proofs.Common.{codes}
use Rattle.std.proofs.lemmas.Result.{on_ok_weaker}
use Rattle.machine_calls.specs.Machine.{spm_of_objects}
use Rattle.view_places.specs.StateText.{blocked_line, name_column, stopped_text}
use Rattle.view_places.specs.Waits.{message_awaited}
use Rattle.view_places.proofs.Appended.{step}
use Rattle.view_places.proofs.stall.put_blocked_line.Goals as goal

pub returns : goal.returns
unfolding blocked_line
returns c =
    let s = c.args.system.now in
    let b = spm_of_objects c.args.objects.now in
    on_ok_weaker c.append-2.result
    (λ e.
    let r2 = step c.append.new.text.items c.put_stop.new.text.items _ (stopped_text s b (message_awaited b c.args.actor)) _ c.in_ok-put_stop.ensures e in
    let r1 = step c.put_name.new.text.items c.append.new.text.items _ (codes "  ") _ c.in_ok-append.ensures r2 in
    step c.args.text.now.items c.put_name.new.text.items _ (name_column s c.args.actor) _ c.in_ok-put_name.ensures r1)
    c.append-2.ensures
