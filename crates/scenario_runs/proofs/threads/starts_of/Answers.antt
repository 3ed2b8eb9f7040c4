use Rattle.std.proofs.Common.{ℕ, ◌+◌, ◌≡◌, ◌<◌, ◌∷◌, [], ◌++◌, ◌∙◌, append_assoc, length, length-append, get_or, ap, sym, subst, refl, arith}
use Rattle.std.specs.Prelude.{option_to_list}
use Rattle.ffm_model.specs.Actors.{actor_count}
use Rattle.partition_sim.specs.ActorPlans.{Role, role_at}
use Rattle.partition_sim.specs.Standing.{Follows}
use Rattle.scenario_runs.specs.declared.threads.Start.{Start}
use Rattle.scenario_runs.proofs.Crews.{all_begun, script_here, starts_more}
use Rattle.scenario_runs.proofs.threads.starts_of.Goals as goal

pub unwrap-script-requires : goal.unwrap-script-requires
unwrap-script-requires c =
    let i = c.loop-a.invariant in
    let some : 0 < length c.loop-a.left.rest.items = omega (arith, length-append i.0 c.loop-a.left.rest.items, ap length i.2, i.3, c.loop-a-test.true, c.actor_count-a-end.ensures, c.requires.count) in
    let ok = c.loop-a.left.rest.ok.0 in
    c.next.ensures.variant.1 (omega (arith, some, ok))

pub new-runner-requires-clause-single : goal.new-runner-requires-clause-single
new-runner-requires-clause-single c = λ other.
    let i = c.loop-a.invariant in
    let script = c.unwrap-script.result in
    let later = c.next.new.self.rest.items in
    let left_is : c.loop-a.left.rest.items ≡ script ∷ later = c.next.ensures.items ∙ ap (λ o. option_to_list o ++ later) c.unwrap-script.ensures in
    let here : get_or c.args.scripts c.loop-a.a [] ≡ script = script_here i.0 later c.args.scripts script c.loop-a.a (ap (λ t. i.0 ++ t) (sym left_is) ∙ i.2) i.3 in
    let below : c.loop-a.a < actor_count c.args.system.now = omega (arith, c.loop-a-test.true, c.actor_count-a-end.ensures) in
    c.len.ensures ∙ (ap length (c.script.view_is ∙ sym here) ∙ c.requires.contexts c.loop-a.a below other)

pub loop-a-preserved : goal.loop-a-preserved
loop-a-preserved c =
    let i = c.loop-a.invariant in
    let script = c.unwrap-script.result in
    let later = c.next.new.self.rest.items in
    let left_is : c.loop-a.left.rest.items ≡ script ∷ later = c.next.ensures.items ∙ ap (λ o. option_to_list o ++ later) c.unwrap-script.ensures in
    let is : i.0 ++ script ∷ later ≡ c.args.scripts = ap (λ t. i.0 ++ t) (sym left_is) ∙ i.2 in
    let here : get_or c.args.scripts c.loop-a.a [] ≡ script = script_here i.0 later c.args.scripts script c.loop-a.a is i.3 in
    let long : length script ≡ c.len.result = sym (c.len.ensures ∙ ap length c.script.view_is) in
    let begun : Start = record { runner = c.new-runner.result; script = script } in
    let role = c.new-runner.ensures.role in
    let place : c.loop-a.a ≡ 0 + length i.0 = omega (arith, i.3) in
    let start = subst (λ (r : Role). Follows r script [] c.new-runner.result) (sym role) (c.new-runner.ensures.follows script long) in (
      i.0 ++ script ∷ [],
      rw c.in_ok-push.ensures.items (starts_more c.args.system.now 0 i.0 c.loop-a.starts.items script begun i.1 refl (role ∙ ap (role_at c.args.system.now) place) start),
      append_assoc i.0 (script ∷ []) later ∙ is,
      length-append i.0 (script ∷ []) ∙ ap (λ (n : ℕ). n + 1) i.3,
    )

pub returns : goal.returns
returns c =
    let i = c.loop-a.invariant in
    rw c.of.ensures (all_begun c.args.system.now i.0 c.loop-a.left.rest.items c.args.scripts c.loop-a.starts.items c.loop-a.a i.1 i.2 i.3 (omega (arith, c.requires.count, c.loop-a-test.false, c.loop-a.auto.a-end, c.actor_count-a-end.ensures)))
