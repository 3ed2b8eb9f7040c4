use Rattle.std.proofs.Common.{arith, length, length-append, [], ◌∷◌, None, ◌-◌, ◌+◌, ◌≡◌, rules, sym, ◌∙◌, ap, refl, subst}
use Rattle.atomic_table.specs.Table.{rest}
use Rattle.spm_core.specs.Manager.{StepAnswers}
use Rattle.spm_lock.specs.declared.view.Stage.TheVariants.{Has, Idle}
use Rattle.spm_lock.specs.Views.{pass_with, right_of}
use Rattle.spm_lock.specs.Passes.{front, turns}
use Rattle.spm_lock.proofs.Moves.{counts, serves}
use Rattle.spm_lock.proofs.Turns.{put_in, made_nothing, seat_counted}
use Rattle.spm_lock.proofs.turn.give_back.Goals as goal
use Rattle.spm_lock.proofs.turn.give_back.Goals.{in-Made, in_default}

pub compare_exchange_with-requires : goal.compare_exchange_with-requires
compare_exchange_with-requires c =
    let m = c.args.seat.now.me in
    let t = c.requires.stepped in
    let after = c.args.manager.value.history in
    let made = subst (λ r. StepAnswers m.0.start.opening (front m) c.args.actor.0 t.call r after) c.in-Made.is t.answered in
    let new : c.from-length.result ≡ length after = c.from-length.ensures ∙ made.place_is in
    let longer : length after ≡ length (front m) + 1 = ap length made.added ∙ length-append (front m) (c.in-Made.entry ∷ []) in
    let short = t.short in
    (search rules, search rules, counts (λ b. b.value) c.args.table.now.shared.key.value c.args.table.now.shared.table_id.slots c.args.seat.now.id m m.0.start (right_of c.args.actor.0 (turns m) (front m)) t.ticket None c.args.manager c.in-Made.entry (c.from-length.result - 1) c.from-length.result t.seat_is made.added made.actor made.is_state (omega arith) new (omega arith))

pub exchange-requires : goal.exchange-requires
exchange-requires c =
    let m = c.args.seat.now.me in
    let t = c.requires.stepped in
    let after = c.args.manager.value.history in
    let ready : c.match-answer.seat.me ≡ (pass_with m.0.start (right_of c.args.actor.0 (turns m) after) (Has t.ticket), (0, None) ∷ []) = elim c.match-answer.branch [
      | in-Made w ↦ ap (λ s. s.me) w.seat-is ∙ seat_counted (λ b. b.value) m.0.start c.args.actor.0 (turns m) t.ticket 0 (front m) None _ _ _ t.seat_is w.compare_exchange_with.ensures.2
      | in_default w ↦ ap (λ s. s.me) w.seat-is ∙ (t.seat_is ∙ ap (λ h. (pass_with m.0.start (right_of c.args.actor.0 (turns m) h) (Has t.ticket), (0, None) ∷ [])) (sym (made_nothing _ _ _ _ _ _ w.in_default.not-Made t.answered)))
    ] in
    (search rules, (None, ap (λ y. y.1) ready ∙ ap (λ y. (0, None) ∷ rest y.1) (sym ready)))

pub fetch_add-requires : goal.fetch_add-requires
fetch_add-requires c =
    let m = c.args.seat.now.me in
    let t = c.requires.stepped in
    let after = c.args.manager.value.history in
    let ready : c.match-answer.seat.me ≡ (pass_with m.0.start (right_of c.args.actor.0 (turns m) after) (Has t.ticket), (0, None) ∷ []) = elim c.match-answer.branch [
      | in-Made w ↦ ap (λ s. s.me) w.seat-is ∙ seat_counted (λ b. b.value) m.0.start c.args.actor.0 (turns m) t.ticket 0 (front m) None _ _ _ t.seat_is w.compare_exchange_with.ensures.2
      | in_default w ↦ ap (λ s. s.me) w.seat-is ∙ (t.seat_is ∙ ap (λ h. (pass_with m.0.start (right_of c.args.actor.0 (turns m) h) (Has t.ticket), (0, None) ∷ [])) (sym (made_nothing _ _ _ _ _ _ w.in_default.not-Made t.answered)))
    ] in
    (search rules, search rules, serves (λ b. b.value) c.args.table.now.shared.key.value c.args.table.now.shared.table_id.slots c.exchange.new.seat.id c.exchange.new.seat.me m.0.start (right_of c.args.actor.0 (turns m) after) t.ticket c.args.manager (put_in (λ b. b.value) _ _ _ _ _ ready c.exchange.ensures.3) t.opening_is refl)

pub returns-clause-idle : goal.returns-clause-idle
returns-clause-idle c =
    let m = c.args.seat.now.me in
    let t = c.requires.stepped in
    let after = c.args.manager.value.history in
    let ready : c.match-answer.seat.me ≡ (pass_with m.0.start (right_of c.args.actor.0 (turns m) after) (Has t.ticket), (0, None) ∷ []) = elim c.match-answer.branch [
      | in-Made w ↦ ap (λ s. s.me) w.seat-is ∙ seat_counted (λ b. b.value) m.0.start c.args.actor.0 (turns m) t.ticket 0 (front m) None _ _ _ t.seat_is w.compare_exchange_with.ensures.2
      | in_default w ↦ ap (λ s. s.me) w.seat-is ∙ (t.seat_is ∙ ap (λ h. (pass_with m.0.start (right_of c.args.actor.0 (turns m) h) (Has t.ticket), (0, None) ∷ [])) (sym (made_nothing _ _ _ _ _ _ w.in_default.not-Made t.answered)))
    ] in
    c.fetch_add.ensures.2 ∙ ap (λ z. (record z.0 { stage = Idle }, rest z.1)) (put_in (λ b. b.value) _ _ _ _ _ ready c.exchange.ensures.3)
