use Rattle.std.proofs.Common.{refl, rules}
use Rattle.std.specs.Prelude.{IsErr, []}
use Rattle.ffm_model.specs.declared.machine.Call.TheVariants.{Read, Write}
use Rattle.ffm_model.specs.declared.machine.Outcome.TheVariants.{Number, Done}
use Rattle.memory_image.specs.Pieces.{byte_at}
use Rattle.spm_tables.specs.Answers.{state_with}
use Rattle.spm_core.proofs.Attempted.{attempts-effect, attempts-err}
use Rattle.spm_core.proofs.calls.transfer.Goals as goal

pub returns-in_err-count-in-Read-clause-attempts : goal.returns-in_err-count-in-Read-clause-attempts
returns-in_err-count-in-Read-clause-attempts c =
    let fails : IsErr c.from_residual.result = search rules in
    let kept = (c.in_err-count-in-Read.ensures.answer []).1 in
    rw c.in-Read.is
    (attempts-err c.args.system.now c.args.actor.0 (Read c.in-Read.handle c.in-Read.index c.in-Read.buffer c.in-Read.len) c.args.tables.now c.read.new.tables c.args.image.now c.read.new.image c.from_residual.result
    fails (λ given h. (c.in_err-count-in-Read.ensures.answer given).0) kept.0 kept.1)

pub returns-in_ok-count-in-Read-clause-attempts : goal.returns-in_ok-count-in-Read-clause-attempts
returns-in_ok-count-in-Read-clause-attempts c =
    rw c.in-Read.is
    (attempts-effect c.args.system.now c.args.actor.0 (Read c.in-Read.handle c.in-Read.index c.in-Read.buffer c.in-Read.len) c.args.tables.now c.read.new.tables c.args.image.now c.read.new.image (Number c.in_ok-count-in-Read.count)
    (λ given. state_with c.read.new.tables given (byte_at c.read.new.image)) (λ given. c.in_ok-count-in-Read.ensures.answer given) (λ given. refl) (λ given. refl))

pub returns-in_err-write-in-Write-clause-attempts : goal.returns-in_err-write-in-Write-clause-attempts
returns-in_err-write-in-Write-clause-attempts c =
    let fails : IsErr c.from_residual-in_err-write-in-Write.result = search rules in
    let kept = (c.in_err-write-in-Write.ensures.answer []).1 in
    rw c.in-Write.is
    (attempts-err c.args.system.now c.args.actor.0 (Write c.in-Write.handle c.in-Write.index c.in-Write.buffer c.in-Write.len) c.args.tables.now c.write.new.tables c.args.image.now c.write.new.image c.from_residual-in_err-write-in-Write.result
    fails (λ given h. (c.in_err-write-in-Write.ensures.answer given).0) kept.0 kept.1)

pub returns-in_ok-write-in-Write-clause-attempts : goal.returns-in_ok-write-in-Write-clause-attempts
returns-in_ok-write-in-Write-clause-attempts c =
    rw c.in-Write.is
    (attempts-effect c.args.system.now c.args.actor.0 (Write c.in-Write.handle c.in-Write.index c.in-Write.buffer c.in-Write.len) c.args.tables.now c.write.new.tables c.args.image.now c.write.new.image Done
    (λ given. state_with c.write.new.tables given (byte_at c.write.new.image)) (λ given. c.in_ok-write-in-Write.ensures.answer given) (λ given. refl) (λ given. refl))
