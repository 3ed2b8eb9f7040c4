use Rattle.std.proofs.Common.{List, ℕ, ap, ap₂, sym, ◌∙◌}
use Rattle.ffm_model.specs.Held.{HeldMessage}
use Rattle.ffm_model.specs.HeldPlans.{table_noted}
use Rattle.mm_iovec.specs.HeldView.{HeldView}
use Rattle.script_engines.specs.Holdings.{holding}
use Rattle.script_engines.proofs.HeldLemmas.{after-is}
use Rattle.script_engines.proofs.held_script.held_go_on.Goals as goal

pub returns-clause-gone : goal.returns-clause-gone
returns-clause-gone c =
    let old : HeldView = c.args.held.now in
    let line = c.line_at-line.result in
    let call = c.held_call-call.result in
    let noted = ap (λ (h : HeldView). h.table) c.noted.ensures
    ∙ ap (λ (h : HeldView). table_noted h.holder line call c.args.outcome.now h.table) c.held_call-call.ensures.held in
    ap₂ (λ (rs : List ℕ) (t : List HeldMessage). holding rs c.place_after.result t) c.note_held.ensures noted
    ∙ sym (after-is old.holder c.args.script.now c.args.outcome.now (holding c.args.registers.now c.args.place old.table) line call c.place_after.result c.line_at-line.ensures c.held_call-call.ensures.call c.place_after.ensures)
