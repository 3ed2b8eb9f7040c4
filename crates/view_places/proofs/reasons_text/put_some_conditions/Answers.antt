use Rattle.std.proofs.lemmas.Result.{on_ok_weaker}
use Rattle.view_places.specs.WhyText.{conditions_heading, some_conditions}
use Rattle.view_places.proofs.Appended.{step}
use Rattle.view_places.proofs.reasons_text.put_some_conditions.Goals as goal

pub returns : goal.returns
unfolding some_conditions
returns c =
    on_ok_weaker c.put_marked.result
    (λ e.
    step c.args.text.now.items c.put_heading.new.text.items _ (conditions_heading c.args.call) _ c.in_ok-put_heading.ensures e)
    c.put_marked.ensures
