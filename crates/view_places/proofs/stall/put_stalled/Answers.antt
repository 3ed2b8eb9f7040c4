use Rattle.std.proofs.Common.{codes}
use Rattle.std.proofs.lemmas.Result.{on_ok_weaker}
use Rattle.machine_calls.specs.Machine.{spm_of_objects}
use Rattle.std.specs.List.{flat_map}
use Rattle.view_places.specs.StateText.{stall_line, stalled_text}
use Rattle.view_places.specs.Waits.{actors}
use Rattle.view_places.proofs.Appended.{step}
use Rattle.view_places.proofs.stall.put_stalled.Goals as goal

pub returns : goal.returns
unfolding stalled_text
returns c =
    let s = c.args.system.now in
    let b = spm_of_objects c.args.objects.now in
    on_ok_weaker c.put_first_circle.result
    (λ e.
    let r1 = step c.append.new.text.items c.put_stall_lines.new.text.items _ (flat_map (stall_line s b) (actors s)) _ c.in_ok-put_stall_lines.ensures e in
    step c.args.text.now.items c.append.new.text.items _ (codes "stalled: no actor can go on\n") _ c.in_ok-append.ensures r1)
    c.put_first_circle.ensures
