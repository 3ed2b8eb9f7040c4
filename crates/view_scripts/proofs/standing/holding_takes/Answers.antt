use Rattle.std.proofs.Common.{◌≡◌, Bool, ap, ◌∙◌}
use Rattle.std.specs.Prelude.{if◌then◌else◌}
use Rattle.ffm_model.specs.declared.machine.Call.{Call}
use Rattle.ffm_model.specs.declared.machine.Call.TheVariants as call
use Rattle.ffm_model.specs.Held.{Holder}
use Rattle.ffm_model.specs.HeldPlans.{Holding, held_engine}
use Rattle.view_scripts.proofs.standing.holding_takes.Goals as goal

pub returns-then-is_blocked-clause-taken : goal.returns-then-is_blocked-clause-taken
returns-then-is_blocked-clause-taken c =
    let same : c.args.entry.now.call ≡ c.due.result = c.makes.ensures.0 c.if-not-makes.false in
    let x : Holding = c.args.holding.now in
    let gone : Holding = (held_engine c.args.held.now.holder c.args.script.now).behind c.args.entry.now.outcome x in (
      same ∙ c.due.ensures ∙ ap (λ (z : Call). if c.args.pending then call.Resume else z) c.in_ok-call.ensures.call,
      ap (λ (b : Bool). if b then x else gone) c.if-is_blocked.ensures,
    )

pub returns-clause-taken : goal.returns-clause-taken
returns-clause-taken c =
    let same : c.args.entry.now.call ≡ c.due.result = c.makes.ensures.0 c.if-not-makes.false in
    let x : Holding = c.args.holding.now in
    let gone : Holding = (held_engine c.args.held.now.holder c.args.script.now).behind c.args.entry.now.outcome x in (
      same ∙ c.due.ensures ∙ ap (λ (z : Call). if c.args.pending then call.Resume else z) c.in_ok-call.ensures.call,
      c.in_ok-holding_go_on.ensures.gone
          ∙ ap (λ (p : Holder). (held_engine p c.args.script.now).behind c.args.entry.now.outcome x) c.in_ok-call.ensures.holder
          ∙ ap (λ (b : Bool). if b then x else gone) c.if-is_blocked.ensures,
    )
