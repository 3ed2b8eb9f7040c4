use Rattle.std.proofs.Common.{◌≡◌, Bool, ap, ◌∙◌}
use Rattle.std.specs.Prelude.{if◌then◌else◌}
use Rattle.ffm_model.specs.declared.machine.Call.{Call}
use Rattle.ffm_model.specs.declared.machine.Call.TheVariants as call
use Rattle.ffm_model.specs.Contexts.{Contexts, contexts_then}
use Rattle.view_scripts.proofs.standing.contexts_take.Goals as goal

pub returns-then-is_blocked : goal.returns-then-is_blocked
returns-then-is_blocked c =
    let same : c.args.entry.now.call ≡ c.due.result = c.makes.ensures.0 c.if-not-makes.false in
    let x : Contexts = c.args.contexts.now in
    let gone : Contexts = contexts_then c.args.parts.now c.args.entry.now.outcome x in (
      same ∙ c.due.ensures ∙ ap (λ (z : Call). if c.args.pending then call.Resume else z) c.contexts_call-call.ensures,
      ap (λ (b : Bool). if b then x else gone) c.if-is_blocked.ensures,
    )

pub returns : goal.returns
returns c =
    let same : c.args.entry.now.call ≡ c.due.result = c.makes.ensures.0 c.if-not-makes.false in
    let x : Contexts = c.args.contexts.now in
    let gone : Contexts = contexts_then c.args.parts.now c.args.entry.now.outcome x in (
      same ∙ c.due.ensures ∙ ap (λ (z : Call). if c.args.pending then call.Resume else z) c.contexts_call-call.ensures,
      c.in_ok-contexts_go_on.ensures ∙ ap (λ (b : Bool). if b then x else gone) c.if-is_blocked.ensures,
    )
