use Rattle.std.proofs.Common.{◌≡◌, ◌∙◌, ap, sym, rules, tests}
use Rattle.std.specs.Prelude.{find}
use Rattle.std.specs.Option.{option_copied, option_map}
use Rattle.std.proofs.lemmas.Iterator.{YieldsList-from_slice}
use Rattle.std.proofs.lemmas.Iterator.Search.{find_from_yields_List}
use Rattle.ffm_model.specs.Held.{is_held_as}
use Rattle.mm_iovec.specs.Items.{message_of}
use Rattle.mm_iovec.proofs.table.find.Goals as goal
use Rattle.law_lists.proofs.Tests.{find-map}

pub returns : goal.returns
returns c =
    let found : option_copied c.find.result ≡ find (λ i. is_held_as c.args.handle (message_of i)) c.args.items.now =
    find_from_yields_List (λ i. is_held_as c.args.handle (message_of i)) _ _ c.find.result c.find.ensures.ran (YieldsList-from_slice c.args.items.now cc) (λ x b q k. search (rules, tests)) in
    ap (option_map message_of) found ∙ sym (find-map message_of (is_held_as c.args.handle) c.args.items.now)
