use Rattle.std.proofs.Common.{List, refl, ap, sym, ◌∙◌, inl, inr}
use Rattle.ffm_model.specs.Held.{HeldMessage}
use Rattle.ffm_model.specs.HeldPlans.{Holding, led_to}
use Rattle.mm_iovec.specs.declared.line.MmStep.{MmStep}
use Rattle.mm_iovec.specs.HeldView.{HeldView}
use Rattle.mm_iovec.specs.Lines.{engine_step}
use Rattle.script_engines.specs.Holdings.{holding}
use Rattle.script_engines.proofs.HeldLemmas.{call-keeps, fault-keeps}
use Rattle.script_engines.proofs.held_lines.mm_effect.Goals as goal

pub returns-in-Calls : goal.returns-in-Calls
returns-in-Calls c =
    let old : HeldView = c.args.held.now in
    let t : List HeldMessage = c.act.new.self.table in
    let x : Holding = holding c.args.registers.now c.args.place old.table in
    let by_engine = sym (ap led_to (c.act.ensures.engine x refl)) in
    elim c.in-Calls.is [
      | inl called ↦ (
          let held = c.act.ensures.table ∙ ap (λ (u : List HeldMessage). record old { table = u }) (call-keeps old.holder old.table c.args.line called.0 (sym called.1 ∙ c.act.ensures.step)) in
          record {
            leads = tt;
            makes = by_engine ∙ ap (λ (s : MmStep). led_to (engine_step x s t)) called.1;
            kept = refl;
            held = held;
            holder = ap (λ (h : HeldView). h.holder) held;
          })
      | inr fault ↦ (
          let held = c.act.ensures.table ∙ ap (λ (u : List HeldMessage). record old { table = u }) (fault-keeps old.holder old.table c.args.line (c.act.ensures.fault.0 fault)) in
          record {
            leads = tt;
            makes = by_engine ∙ ap (λ (s : MmStep). led_to (engine_step x s t)) fault;
            kept = refl;
            held = held;
            holder = ap (λ (h : HeldView). h.holder) held;
          })
    ]
