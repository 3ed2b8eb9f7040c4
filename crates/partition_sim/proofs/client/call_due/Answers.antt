use Rattle.std.proofs.Common.{ℕ, ◌<◌, length, ap, sym, ◌∙◌, subst, false, Bool, List, get_or}
use Rattle.std.specs.Prelude.{Option, IfSome, if◌then◌else◌}
use Rattle.std.specs.Option.{option_map_or}
use Rattle.std.specs.List.{list_any}
use Rattle.ffm_model.specs.declared.machine.Call.{Call}
use Rattle.ffm_model.specs.declared.machine.Call.TheVariants as call
use Rattle.ffm_model.specs.Contexts.{is_spent, next_calls}
use Rattle.partition_sim.proofs.ContextLemmas.{calls-get}
use Rattle.partition_sim.proofs.client.call_due.Goals as goal

pub returns-in-Some : goal.returns-in-Some
returns-in-Some c = λ ps long a.
    let k : ℕ = c.in-Some.k in
    let low : k < length c.args.parts.now = subst (λ (o : Option ℕ). IfSome o (λ i. i < length c.args.parts.now)) c.in-Some.is c.requires.within in
    let calls : List Call = next_calls c.args.parts.now ps in
    let due : Bool → Option ℕ → Call = λ b o. if b then call.Resume else option_map_or (λ i. get_or calls i (call.Stop false)) o (call.Stop (list_any is_spent calls)) in
    c.call_of.ensures _ _ (a k low) ∙ (sym (calls-get c.args.parts.now ps k (call.Stop false) long low) ∙ (ap (due false) (sym c.in-Some.is) ∙ ap (λ (b : Bool). due b c.args.picked) (sym c.if-waiting.false)))
