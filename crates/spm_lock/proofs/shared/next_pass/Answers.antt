use Rattle.std.proofs.Common.{◌≡◌, false, [], Option, refl, sym, ap, ◌∙◌, subst, Box, Global}
use Rattle.ffm_model.proofs.RecordLemmas.{ends_blocked-nil}
use Rattle.atomic_table.specs.Table.{Me, Splits}
use Rattle.spm_core.specs.declared.spm.Spm.{Spm}
use Rattle.spm_lock.specs.declared.view.View.{View}
use Rattle.spm_lock.specs.declared.view.Stage.TheVariants.{Idle}
use Rattle.spm_lock.specs.Views.{maker_left, maker_right, pass_with, right_of}
use Rattle.spm_lock.specs.Rule.{Kept}
use Rattle.spm_lock.specs.Passes.{IsAtRest}
use Rattle.spm_lock.proofs.Moves.{splits_off}
use Rattle.spm_lock.proofs.shared.next_pass.Goals as goal

pub split_seat-seat-requires : goal.split_seat-seat-requires
split_seat-seat-requires c =
    let x = c.args.table.now.shared.key.value in
    let m = c.args.source.now.me in
    (c.requires.table.0, c.requires.table.1, subst (λ (v : View). Splits (Kept (λ b. b.value) x) c.args.source.now.id v (maker_left v) (maker_right v)) (sym (ap (λ y. y.0) c.requires.source.0)) (splits_off (λ b. b.value) x c.args.source.now.id m.0.start c.args.actor.0 c.requires.source.1))

pub invariant_of-result : goal.invariant_of-result
invariant_of-result c =
    let a = c.args.actor.0 in
    let seat : c.split_seat-seat.result.me ≡ (pass_with c.args.source.now.me.0.start (right_of a 0 []) Idle, []) = c.split_seat-seat.ensures.4 ∙ ap (λ m. (maker_right m.0, [])) c.requires.source.0 in
    subst (λ (m : Me (Option (Box Spm Global)) View). IsAtRest a false m) (sym seat) record { idle = refl; exists = c.requires.source.1; pending_is = sym ends_blocked-nil }
