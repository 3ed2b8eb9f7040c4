use Rattle.std.proofs.Common.{◌≡◌, ◌≤◌, [], ap, rules}
use Rattle.std.specs.Prelude.{vec_capacity}
use Rattle.ffm_model.specs.State.{opening_spm}
use Rattle.ffm_model.specs.Names.{message_capacity}
use Rattle.object_pools.specs.Pool.{Places, empty}
use Rattle.spm_tables.specs.declared.item.QueuedMessage.{QueuedMessage}
use Rattle.spm_tables.specs.TablesView.{MadeFor, spm_of}
use Rattle.spm_core.proofs.Kept.{keeps-first}
use Rattle.spm_core.proofs.spm.Spm.new.Goals as goal

pub invariant_of-result : goal.invariant_of-result
invariant_of-result c =
    let none : c.in_ok-history.history.items ≡ [] = search rules in
    let room : c.args.limit ≤ vec_capacity c.in_ok-history.history = search rules in
    let same : c.of-opening.result.value ≡ c.args.memory = search rules in
    let made : MadeFor c.in_ok-tables.tables c.args.system = search rules in
    let opens : spm_of c.in_ok-tables.tables ≡ opening_spm c.args.system = search rules in
    let none_waits : c.in_ok-tables.tables.messages ≡ empty (message_capacity c.args.system) = search rules in
    rw (none, same) (keeps-first _ c.in_ok-tables.tables _ c.requires.limited room c.requires.regions made c.law.ensures.connections c.law.ensures.messages opens (ap (λ (p : Places QueuedMessage). p.takes) none_waits))
