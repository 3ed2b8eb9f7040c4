use Rattle.std.proofs.Common.{◌≡◌, rules, subst, true, false}
use Rattle.ffm_model.specs.Actors.{kind_of}
use Rattle.ffm_model.specs.Calls.{has_call}
use Rattle.memory_image.specs.Pieces.{byte_at}
use Rattle.law_calls.specs.Named.{KeepsNames}
use Rattle.spm_tables.specs.Answers.{state_with}
use Rattle.spm_tables.specs.TablesView.{TablesView}
use Rattle.spm_core.proofs.Attempted.{case-not_had, does-after, does-attempted, does-refused}
use Rattle.spm_core.proofs.perform.issue.Goals as goal

pub returns-then-not-has_call-clause-does : goal.returns-then-not-has_call-clause-does
returns-then-not-has_call-clause-does c =
    let not : has_call (kind_of c.args.system.now c.args.actor.0) c.args.call ≡ false = search rules in
    does-refused c.args.system.now c.args.actor.0 c.args.call c.args.tables.now c.refuse.new.tables c.args.image.now c.refuse.result
    (λ given h. case-not_had c.args.system.now (state_with c.args.tables.now given (byte_at c.args.image.now)) c.args.actor.0 c.args.call h not) c.refuse.ensures.refused

pub returns-in-Ok-clause-does : goal.returns-in-Ok-clause-does
returns-in-Ok-clause-does c =
    let has : has_call (kind_of c.args.system.now c.args.actor.0) c.args.call ≡ true = search rules in
    does-attempted c.args.system.now c.args.actor.0 c.args.call c.args.tables.now c.attempt.new.tables c.args.image.now c.attempt.new.image c.in-Ok.outcome has c.in-Ok.ensures.attempts

pub returns-in-Err-clause-does : goal.returns-in-Err-clause-does
returns-in-Err-clause-does c =
    does-after c.args.system.now c.args.actor.0 c.args.call c.args.tables.now c.attempt.new.tables c.refuse-in-Err.new.tables c.args.image.now c.attempt.new.image c.refuse-in-Err.result
    c.in-Err.ensures.attempts.0 c.in-Err.ensures.attempts.1.0 c.in-Err.ensures.attempts.1.1 c.refuse-in-Err.ensures.refused

pub returns-in-Err-clause-names : goal.returns-in-Err-clause-names
returns-in-Err-clause-names c =
    subst (λ (d : TablesView). KeepsNames c.args.system.now d c.refuse-in-Err.new.tables) c.in-Err.ensures.attempts.1.0 c.refuse-in-Err.ensures.names
