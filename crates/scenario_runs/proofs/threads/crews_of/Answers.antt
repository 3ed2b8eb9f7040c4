use Rattle.std.proofs.Common.{◌≡◌, ◌∷◌, [], ◌++◌, ◌∙◌, append_assoc, length, length-append, ap, sym, subst, arith}
use Rattle.std.specs.Prelude.{option_to_list}
use Rattle.std.specs.List.{AllByRecursion}
use Rattle.scenario_runs.specs.Threads.{AreUnused, IsStart}
use Rattle.scenario_runs.proofs.Crews.{start_left, crewed_more, all_crewed}
use Rattle.scenario_runs.proofs.threads.crews_of.Goals as goal

pub unwrap-start-requires : goal.unwrap-start-requires
unwrap-start-requires c =
    let i = c.loop-pass.invariant in
    let some = start_left c.args.shared.now _ _ _ c.args.passes i.0 c.loop-pass.left.rest.items c.args.starts _ _ i.1 i.2 i.3 c.in-Some.ensures.steps.0 c.requires.count in
    let ok = c.loop-pass.left.rest.ok.0 in
    c.next-in-loop-pass.ensures.variant.1 (omega (arith, some, ok))

pub crew_of-requires-clause-start : goal.crew_of-requires-clause-start
crew_of-requires-clause-start c =
    let i = c.loop-pass.invariant in
    let start = c.unwrap-start.result in
    let left = c.next-in-loop-pass.new.self.rest.items in
    let left_is : c.loop-pass.left.rest.items ≡ start ∷ left = c.next-in-loop-pass.ensures.items ∙ ap (λ o. option_to_list o ++ left) c.unwrap-start.ensures in
    (subst (AllByRecursion IsStart) left_is i.5).0

pub loop-pass-preserved : goal.loop-pass-preserved
loop-pass-preserved c =
    let i = c.loop-pass.invariant in
    let start = c.unwrap-start.result in
    let left = c.next-in-loop-pass.new.self.rest.items in
    let left_is : c.loop-pass.left.rest.items ≡ start ∷ left = c.next-in-loop-pass.ensures.items ∙ ap (λ o. option_to_list o ++ left) c.unwrap-start.ensures in
    let next = c.in-Some.ensures.steps.0 in
    let items = c.push_reserved.ensures.items in
    let long = ap length items ∙ length-append c.loop-pass.crews.items (c.in_ok-crew_of.field-0 ∷ []) in
    let fewer = ap length next in (
      i.0 ++ start ∷ [],
      rw items (crewed_more c.args.shared.now c.loop-pass.yielded i.0 c.loop-pass.crews.items c.in-Some.pass start c.in_ok-crew_of.field-0 i.1 c.in_ok-crew_of.ensures),
      append_assoc i.0 (start ∷ []) left ∙ (ap (λ t. i.0 ++ t) (sym left_is) ∙ i.2),
      append_assoc c.loop-pass.yielded (c.in-Some.pass ∷ []) c.next.new.self.rest.items ∙ (ap (λ t. c.loop-pass.yielded ++ t) (sym next) ∙ i.3),
      (subst (AreUnused c.args.shared.now) next i.4).1,
      (subst (AllByRecursion IsStart) left_is i.5).1,
      omega (arith, long, fewer, i.6, c.push_reserved.ensures.capacity),
    )

pub returns : goal.returns
returns c =
    let i = c.loop-pass.invariant in
    let none_left = let r = c.loop-pass.pass-iterator.rest in sym r.ok.0 ∙ c.in-None.ensures.steps.0 in
    all_crewed c.args.shared.now c.loop-pass.yielded _ c.args.passes i.0 _ c.args.starts _ i.1 i.2 i.3 none_left c.requires.count
