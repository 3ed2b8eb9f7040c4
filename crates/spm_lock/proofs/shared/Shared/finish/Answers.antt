use Rattle.std.proofs.Common.{rules, ◌≡◌, [], refl, sym, ap, subst, ◌∙◌, Box, Global}
use mathlib.Core.Option.{some}
use Rattle.std.specs.Prelude.{IsSome}
use Rattle.spm_core.specs.declared.spm.Spm.{Spm}
use Rattle.spm_lock.specs.Views.{maker}
use Rattle.spm_lock.proofs.Moves.{comes}
use Rattle.spm_lock.proofs.Passes.{EndsWith, next_own, finished, finished_as}
use Rattle.spm_lock.proofs.shared.Shared.finish.Goals as goal

pub load_new_seat-requires : goal.load_new_seat-requires
load_new_seat-requires c =
    let x = c.self.inside.table.shared.key.value in
    (search rules, comes (λ (b : Box Spm Global). b.value) x c.self.inside.table.shared.table_id.slots 0 (maker x 0, []) refl)

pub take_in-requires-clause-table : goal.take_in-requires-clause-table
take_in-requires-clause-table c =
    let i = c.loop-pass.invariant in
    let own = next_own c.args.self _ c.loop-pass.yielded _ _ c.args.passes c.in-Some.pass c.requires i.2 c.in-Some.ensures.steps.0 in
    (i.0, own.0 ∙ sym (ap (λ v. v.table) c.self.view_is), search rules)

pub unwrap-manager-requires : goal.unwrap-manager-requires
unwrap-manager-requires c =
    let i = c.loop-pass.invariant in
    let x = c.self.inside.table.shared.key.value in
    let opening : c.args.self.opening ≡ x.opening = sym (ap (λ v. v.opening) c.self.view_is) in
    let none_left = let r = c.loop-pass.pass-iterator.rest in sym r.ok.0 ∙ c.in-None.ensures.steps.0 in
    let f = finished (λ (b : Box Spm Global). b.value) x c.args.self.opening c.loop-pass.target.id c.loop-pass.target.me _ _ c.loop-pass.yielded _ c.args.passes c.take.result opening c.requires.all i.1 i.2 none_left c.close_with-closed.ensures.values.2 c.take.ensures.value in
    subst IsSome (sym f.1) refl

pub returns-clause-opening : goal.returns-clause-opening
returns-clause-opening c =
    let i = c.loop-pass.invariant in
    let x = c.self.inside.table.shared.key.value in
    let opening : c.args.self.opening ≡ x.opening = sym (ap (λ v. v.opening) c.self.view_is) in
    let none_left = let r = c.loop-pass.pass-iterator.rest in sym r.ok.0 ∙ c.in-None.ensures.steps.0 in
    let f = finished_as (λ (b : Box Spm Global). b.value) x c.args.self.opening c.loop-pass.target.id c.loop-pass.target.me _ _ c.loop-pass.yielded _ c.args.passes c.unwrap-manager.result opening c.requires.all i.1 i.2 none_left c.close_with-closed.ensures.values.2 (c.take.ensures.value ∙ ap some c.unwrap-manager.ensures) in
    (subst (EndsWith c.args.self.opening c.args.passes) (sym c.into_inner.ensures) f).opening_is

pub returns-clause-run : goal.returns-clause-run
returns-clause-run c =
    let i = c.loop-pass.invariant in
    let x = c.self.inside.table.shared.key.value in
    let opening : c.args.self.opening ≡ x.opening = sym (ap (λ v. v.opening) c.self.view_is) in
    let none_left = let r = c.loop-pass.pass-iterator.rest in sym r.ok.0 ∙ c.in-None.ensures.steps.0 in
    let f = finished_as (λ (b : Box Spm Global). b.value) x c.args.self.opening c.loop-pass.target.id c.loop-pass.target.me _ _ c.loop-pass.yielded _ c.args.passes c.unwrap-manager.result opening c.requires.all i.1 i.2 none_left c.close_with-closed.ensures.values.2 (c.take.ensures.value ∙ ap some c.unwrap-manager.ensures) in
    (subst (EndsWith c.args.self.opening c.args.passes) (sym c.into_inner.ensures) f).run

pub returns-clause-fronts : goal.returns-clause-fronts
returns-clause-fronts c =
    let i = c.loop-pass.invariant in
    let x = c.self.inside.table.shared.key.value in
    let opening : c.args.self.opening ≡ x.opening = sym (ap (λ v. v.opening) c.self.view_is) in
    let none_left = let r = c.loop-pass.pass-iterator.rest in sym r.ok.0 ∙ c.in-None.ensures.steps.0 in
    let f = finished_as (λ (b : Box Spm Global). b.value) x c.args.self.opening c.loop-pass.target.id c.loop-pass.target.me _ _ c.loop-pass.yielded _ c.args.passes c.unwrap-manager.result opening c.requires.all i.1 i.2 none_left c.close_with-closed.ensures.values.2 (c.take.ensures.value ∙ ap some c.unwrap-manager.ensures) in
    (subst (EndsWith c.args.self.opening c.args.passes) (sym c.into_inner.ensures) f).keeps
