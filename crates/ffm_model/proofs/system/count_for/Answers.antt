-- What the search finds is the budget, and where it finds none there is none.
use Rattle.std.proofs.Common.{rules}
use Rattle.std.proofs.lemmas.Fn.{always_returns_same}
use Rattle.ffm_model.proofs.BudgetLemmas.{order_to, order-rises, found_is_first, none_is_there}
use Rattle.ffm_model.proofs.system.count_for.Goals as goal

pub returns-in-Ok : goal.returns-in-Ok
returns-in-Ok c =
    found_is_first c.args.client.0 c.args.service c.args.budgets.now c.in-Ok.place _ c.requires c.in-Ok.ensures.bound
    (c.in-Ok.ensures.position (order_to c.args.client.0 c.args.service) (always_returns_same _ _ _ (λ a r q k. search rules)))

pub returns-in-Err : goal.returns-in-Err
returns-in-Err c =
    none_is_there c.args.client.0 c.args.service c.args.budgets.now c.in-Err.field-0
    (c.in-Err.ensures.position (order_to c.args.client.0 c.args.service) (always_returns_same _ _ _ (λ a r q k. search rules)) (order-rises _ _ _ c.requires))
