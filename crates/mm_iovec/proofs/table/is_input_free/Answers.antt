use Rattle.std.proofs.Common.{◌≡◌, ◌∙◌, ap, sym, not, rules, tests}
use Rattle.std.specs.List.{list_any}
use Rattle.std.proofs.lemmas.Iterator.{YieldsList-from_slice}
use Rattle.std.proofs.lemmas.Iterator.Search.{any_from_yields_List}
use Rattle.ffm_model.specs.Held.{is_mapped, vector_at}
use Rattle.mm_iovec.specs.Items.{message_of}
use Rattle.mm_iovec.proofs.table.is_input_free.Goals as goal
use Rattle.law_lists.proofs.Tests.{list_any-map}

pub returns : goal.returns
returns c =
    let found : c.any.result ≡ list_any (λ i. is_mapped (vector_at (message_of i).input c.args.index).state) c.args.items.now =
    any_from_yields_List (λ i. is_mapped (vector_at (message_of i).input c.args.index).state) _ _ c.any.result c.any.ensures.ran (YieldsList-from_slice c.args.items.now cc) (λ x b q k. search (rules, tests)) in
    ap not (found ∙ sym (list_any-map message_of (λ m. is_mapped (vector_at m.input c.args.index).state) c.args.items.now))
