use Rattle.std.proofs.Common.{◌∙◌, ◌&&◌, Some, ap, cond}
use Rattle.std.proofs.lemmas.List.{take_all}
use Rattle.std.specs.Option.{unwrap_or}
use Rattle.std.specs.Str.{bytes_eq}
use Rattle.ffm_model.specs.PartsItems.{ConnectionRecord}
use Rattle.ffm_model.specs.Permissions.{is_for}
use Rattle.manifest_compile.specs.Budgets.{count_in, named_pair}
use Rattle.manifest_compile.proofs.BudgetLemmas.{counts_more, is_key, key_of, last_count, last_count-counts}
use Rattle.manifest_compile.proofs.budgets.counts_of.Goals as goal

pub loop-connection-preserved : goal.loop-connection-preserved
loop-connection-preserved c = λ client service.
    let item = c.connection-item.result in
    let old = count_in c.loop-connection.counts client service in
    counts_more (named_pair client service) c.args.connections.now c.loop-connection.connection-index item old (count_in c.insert.new.self client service) c.loop-connection-test.true
    (c.in_ok-insert.ensures.updates.0 (key_of client service)
    ∙ ap (λ b. cond b (Some c.count_of.result) old) (is_key c.names_of.result.0.now c.names_of.result.1.now (key_of client service))
    ∙ ap (λ n. cond (bytes_eq n client && bytes_eq c.names_of.result.1.now service) (Some c.count_of.result) old) c.names_of.ensures.client
    ∙ ap (λ n. cond (bytes_eq item.client client && bytes_eq n service) (Some c.count_of.result) old) c.names_of.ensures.service
    ∙ ap (λ n. cond (bytes_eq item.client client && bytes_eq item.service service) (Some n) old) c.count_of.ensures
    ∙ ap (λ (d : ConnectionRecord). cond (is_for (named_pair client service) d) (Some d.count) old) c.connection-item.is)
    (c.loop-connection.invariant client service)

pub returns : goal.returns
returns c = λ client service.
    ap (λ o. unwrap_or o 1) (c.loop-connection.invariant client service ∙ ap (last_count (named_pair client service)) (take_all c.loop-connection.connection-index c.args.connections.now c.loop-connection-test.false))
    ∙ last_count-counts client service c.args.connections.now
