use Rattle.std.proofs.Common.{rules, sym, ap, subst, refl, Box, Global}
use Rattle.spm_core.specs.declared.spm.Spm.{Spm}
use Rattle.atomic_table.specs.Table.{Joins}
use Rattle.spm_lock.specs.declared.view.View.{View}
use Rattle.spm_lock.specs.Views.{joined, spent_seat, right_of}
use Rattle.spm_lock.specs.Rule.{Kept}
use Rattle.spm_lock.specs.Passes.{front, turns}
use Rattle.spm_lock.proofs.Moves.{takes_in}
use Rattle.spm_lock.proofs.shared.take_in.Goals as goal

pub join_seat-requires : goal.join_seat-requires
join_seat-requires c =
    let x = c.args.table.now.shared.key.value in
    let m = c.args.target.now.me in
    let p = c.pass.inside.seat in (
      c.requires.table.0,
      search rules,
      ap (λ y. y.1) c.pass.invariant.idle,
      c.requires.table.2,
      subst (λ (z : View × View). Joins (Kept (λ (b : Box Spm Global). b.value) x) c.args.target.now.id z.0 p.id z.1 (joined z.0 z.1) spent_seat)
          (λ i. (sym (ap (λ y. y.0) c.requires.target) i, sym (ap (λ y. y.0) c.pass.invariant.idle) i))
          (takes_in (λ b. b.value) x c.args.target.now.id x m.0.rights p.id p.me.0.start (right_of c.pass.inside.actor.0 (turns p.me) (front p.me)) refl),
    )
