use Rattle.std.proofs.Common.{◌≤◌, length, subst, sym}
use Rattle.sfn_calls.proofs.CodeLemmas.{service_code-added-on, service_code-none, service_code-short-on, lines-short}
use Rattle.sfn_calls.proofs.expansion.push_service.Goals as goal

pub push_service_code-requires-clause-short : goal.push_service_code-requires-clause-short
push_service_code-requires-clause-short c = subst (λ l. length l ≤ 4096) (sym c.lines_for.ensures) (lines-short c.args.functions.now c.in-Some.service c.requires.short)

pub returns-in-Some-clause-code : goal.returns-in-Some-clause-code
returns-in-Some-clause-code c =
    service_code-added-on c.push_service_code.result c.args.system.now c.args.partition c.args.functions.now c.args.base c.args.bit _ _ c.lines_for.result.now c.args.code.now.items c.push_service_code.new.code.items
    c.in-Some.ensures c.signal_of-signal.ensures c.lines_for.ensures c.push_service_code.ensures.code

pub returns-in-Some-clause-few : goal.returns-in-Some-clause-few
returns-in-Some-clause-few c =
    service_code-short-on c.push_service_code.result c.args.base _ c.args.code.now.items c.push_service_code.new.code.items
    (subst (λ l. length l ≤ 4096) (sym c.lines_for.ensures) (lines-short c.args.functions.now c.in-Some.service c.requires.short)) c.push_service_code.ensures.code

pub returns-in-None-clause-code : goal.returns-in-None-clause-code
returns-in-None-clause-code c = service_code-none c.args.system.now c.args.partition c.args.functions.now c.args.base c.args.bit _ c.args.code.now.items c.in-None.ensures c.signal_of-signal.ensures
