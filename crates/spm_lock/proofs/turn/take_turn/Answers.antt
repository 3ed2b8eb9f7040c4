use Rattle.std.proofs.Common.{arith, length, [], ◌∷◌, Some, None, ◌≤◌, ◌+◌, ◌≡◌, rules, sym, ◌∙◌, ap, refl, subst}
use Rattle.atomic_table.specs.Table.{rest}
use Rattle.ffm_model.specs.declared.constants.TheConstants.{MAX_ENTRIES}
use Rattle.spm_lock.specs.declared.view.Stage.TheVariants.{Idle}
use Rattle.spm_lock.specs.Views.{pass_with, right_of}
use Rattle.spm_lock.specs.Passes.{front, turns, IsIdle, IsTurn}
use Rattle.spm_lock.proofs.Turns.{taken_out, same_manager, turned, stepped}
use Rattle.spm_lock.proofs.turn.take_turn.Goals as goal

pub exchange-requires : goal.exchange-requires
exchange-requires g c = let t = c.seize.ensures.turn in (search rules, (Some t.value, ap (λ y. y.1) t.seat_is ∙ ap (λ y. (0, Some t.value) ∷ rest y.1) (sym t.seat_is)))

pub give_back-requires-clause-stepped : goal.give_back-requires-clause-stepped
give_back-requires-clause-stepped g c =
    let m = c.args.seat.now.me in
    let t = c.seize.ensures.turn in
    let was = same_manager (λ b. b.value) c.args.actor.0 m c.seize.new.seat.me c.exchange.result c.unwrap-manager.result t c.exchange.ensures.2 c.unwrap-manager.ensures in
    let step = c.step-answer.ensures in
    let within = step.short in
    let limited = step.limited in
    let short : length c.step-answer.new.self.history ≤ MAX_ENTRIES = omega arith in
    stepped (λ b. b.value) c.args.actor.0 m c.seize.new.seat.me c.exchange.new.seat.me t c.deref_mut.result.now c.args.call c.step-answer.result c.step-answer.new.self (c.deref_mut.ensures.value ∙ ap (λ b. b.value) was) step.answer step.opening short c.exchange.ensures.3

pub returns-clause-idle : goal.returns-clause-idle
returns-clause-idle g c =
    let m = c.args.seat.now.me in
    let t = c.seize.ensures.turn in
    let after = c.step-answer.new.self.history in
    let seat = taken_out (λ b. b.value) c.args.actor.0 m c.seize.new.seat.me c.exchange.new.seat.me None t c.exchange.ensures.3 in
    let final : c.give_back.new.seat.me ≡ (pass_with m.0.start (right_of c.args.actor.0 (turns m + 1) after) Idle, []) =
    c.give_back.ensures.idle ∙ ap (λ y. (pass_with y.0.start (right_of c.args.actor.0 (turns y) after) Idle, [])) seat in
    (subst (λ z. IsIdle c.args.actor.0 z) (sym final) refl, ap (λ z. z.0.start) final)

pub returns-clause-turns : goal.returns-clause-turns
returns-clause-turns g c =
    let m = c.args.seat.now.me in
    let t = c.seize.ensures.turn in
    let after = c.step-answer.new.self.history in
    let seat = taken_out (λ b. b.value) c.args.actor.0 m c.seize.new.seat.me c.exchange.new.seat.me None t c.exchange.ensures.3 in
    let final : c.give_back.new.seat.me ≡ (pass_with m.0.start (right_of c.args.actor.0 (turns m + 1) after) Idle, []) =
    c.give_back.ensures.idle ∙ ap (λ y. (pass_with y.0.start (right_of c.args.actor.0 (turns y) after) Idle, [])) seat in
    ap turns final

pub returns-clause-turn : goal.returns-clause-turn
returns-clause-turn g c =
    let m = c.args.seat.now.me in
    let t = c.seize.ensures.turn in
    let after = c.step-answer.new.self.history in
    let was = same_manager (λ b. b.value) c.args.actor.0 m c.seize.new.seat.me c.exchange.result c.unwrap-manager.result t c.exchange.ensures.2 c.unwrap-manager.ensures in
    let seat = taken_out (λ b. b.value) c.args.actor.0 m c.seize.new.seat.me c.exchange.new.seat.me None t c.exchange.ensures.3 in
    let final : c.give_back.new.seat.me ≡ (pass_with m.0.start (right_of c.args.actor.0 (turns m + 1) after) Idle, []) =
    c.give_back.ensures.idle ∙ ap (λ y. (pass_with y.0.start (right_of c.args.actor.0 (turns y) after) Idle, [])) seat in
    let step = c.step-answer.ensures in
    subst (λ h. IsTurn m.0.start.opening c.args.actor.0 (front m) c.args.call c.step-answer.result h) (sym (ap front final))
    (turned (λ b. b.value) c.args.actor.0 m c.seize.new.seat.me t c.deref_mut.result.now c.args.call c.step-answer.result c.step-answer.new.self (c.deref_mut.ensures.value ∙ ap (λ b. b.value) was) step.answer step.opening step.short)
