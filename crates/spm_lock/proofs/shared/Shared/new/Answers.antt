use Rattle.std.proofs.Common.{ℕ, rules, ◌≡◌, ◌+◌, ◌<◌, ◌^◌, ◌∷◌, [], ◌++◌, sym, ap, subst, ◌∙◌, Some, arith, Box, Global}
use Rattle.atomic_table.specs.Table.{opening}
use Rattle.spm_core.specs.declared.spm.Spm.{Spm}
use Rattle.spm_core.specs.Manager.{Managed}
use Rattle.spm_lock.specs.Histories.{actors}
use Rattle.spm_lock.specs.Views.{maker}
use Rattle.spm_lock.specs.Passes.{SharedView, FirstPasses, AreNew}
use Rattle.spm_lock.specs.Rule.{Kept}
use Rattle.spm_lock.proofs.Moves.{opens}
use Rattle.spm_lock.proofs.Passes.{one_more, new_more}
use Rattle.spm_lock.proofs.shared.Shared.new.Goals as goal

pub new-requires-2 : goal.new-requires-2
new-requires-2 c =
    let x = c.of-start.result.value in
    let b = c.in_ok-new.field-0 in
    let whole : b.value ≡ x = c.in_ok-new.ensures.ok ∙ sym c.of-start.ensures in
    let shared : x ≡ c.args.spm = c.of-start.ensures in
    let exact = c.actor_count-count.ensures.exact in
    let few = c.actor_count-count.ensures.few in
    let small : actors c.args.spm.opening < 2 ^ 32 = omega arith in
    subst (λ l. Kept (λ (z : Box Spm Global). z.value) x (opening (0 ∷ 0 ∷ 0 ∷ []) l (maker x 0)))
    (sym (c.push_reserved.ensures.items ∙ ap (λ l. l ++ Some b ∷ []) c.in_ok-slots.ensures.items))
    (opens (λ z. z.value) x b whole (ap (λ t. t.history) shared ∙ c.requires.empty) (subst (λ (m : Managed). actors m.opening < 2 ^ 32) (sym shared) small))

pub loop-n-preserved : goal.loop-n-preserved
loop-n-preserved c =
    let i = c.loop-n.invariant in
    let p = c.next_pass.ensures.pass in
    let start = ap (λ m. m.0.start) i.1 in
    let items = c.push_reserved-in-loop-n.ensures.items in (
      c.next_pass.ensures.source.0 ∙ i.0,
      c.next_pass.ensures.source.1 ∙ ap (λ t. (maker t (c.loop-n.n + 1), [])) start,
      search rules,
      i.3,
      rw items (one_more _ c.loop-n.n c.loop-n.passes.items c.next_pass.result i.4 (p.0 ∙ i.0, p.1 ∙ ap (λ t. t.opening) start) p.2),
      rw items (new_more c.loop-n.passes.items c.next_pass.result i.5 p.3 p.4),
    )

pub returns-clause-passes : goal.returns-clause-passes
returns-clause-passes c =
    let i = c.loop-n.invariant in
    let s : SharedView = record { table = c.in-Ok.table.shared.table_id; opening = c.of-start.result.value.opening } in
    let n : ℕ = c.loop-n.n in
    let below = c.loop-n.auto.n-end in
    let past = c.loop-n-test.false in
    let whole : n ≡ c.actor_count-count.result = omega arith in
    let all : n ≡ actors c.of-start.result.value.opening = whole ∙ i.3 in
    let key : c.in-Ok.table.shared.key.value ≡ c.of-start.result.value = ap (λ k. k.value) c.in-Ok.ensures.ok.5 in
    subst (λ (m : Managed). FirstPasses (record { table = c.in-Ok.table.shared.table_id; opening = m.opening }) (actors m.opening) c.of.result) (sym key)
    (subst (FirstPasses s (actors s.opening)) (sym c.of.ensures) (subst (λ (k : ℕ). FirstPasses s k c.loop-n.passes.items) all i.4))

pub returns-clause-fresh : goal.returns-clause-fresh
returns-clause-fresh c = subst AreNew (sym c.of.ensures) c.loop-n.invariant.5
