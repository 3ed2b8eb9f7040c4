use Rattle.std.proofs.Common.{codes}
use Rattle.std.proofs.lemmas.Result.{on_ok_weaker}
use Rattle.view_places.specs.WhyText.{actor_line}
use Rattle.view_texts.specs.Names.{actor_name}
use Rattle.ffm_model.specs.Actors.{counts_of}
use Rattle.ffm_model.specs.TraceText.{actor_word}
use Rattle.view_places.proofs.Appended.{step}
use Rattle.view_places.proofs.reasons_text.put_actor_line.Goals as goal

pub returns : goal.returns
unfolding actor_line
returns c =
    let s = c.args.system.now in
    on_ok_weaker c.append-4.result
    (λ e.
    let r5 = step c.append-3.new.text.items c.put_bytes.new.text.items _ c.args.doing.now _ c.in_ok-put_bytes.ensures e in
    let r4 = step c.put_actor_word.new.text.items c.append-3.new.text.items _ (codes "), before: ") _ c.in_ok-append-3.ensures r5 in
    let r3 = step c.append-2.new.text.items c.put_actor_word.new.text.items _ (actor_word (counts_of s) c.args.actor) _ c.in_ok-put_actor_word.ensures r4 in
    let r2 = step c.put_name.new.text.items c.append-2.new.text.items _ (codes " (") _ c.in_ok-append-2.ensures r3 in
    let r1 = step c.append.new.text.items c.put_name.new.text.items _ (actor_name s c.args.actor) _ c.in_ok-put_name.ensures r2 in
    step c.args.text.now.items c.append.new.text.items _ (codes "actor   ") _ c.in_ok-append.ensures r1)
    c.append-4.ensures
