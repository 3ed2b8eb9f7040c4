use Rattle.std.proofs.Common.{◌≡◌, ◌∙◌, sym, rules, tests}
use Rattle.std.specs.Prelude.{position}
use Rattle.std.proofs.lemmas.Iterator.{YieldsList-from_slice}
use Rattle.std.proofs.lemmas.Iterator.Search.{position_from_yields_List}
use Rattle.ffm_model.specs.Held.{is_held_as}
use Rattle.mm_iovec.specs.Items.{message_of}
use Rattle.law_lists.proofs.Tests.{position-map}
use Rattle.mm_iovec.proofs.table.place_of.Goals as goal

pub returns : goal.returns
returns c =
    let found : c.position.result ≡ position (λ i. is_held_as c.args.handle (message_of i)) c.args.items.now =
    position_from_yields_List (λ i. is_held_as c.args.handle (message_of i)) _ _ c.position.result c.position.ensures.ran (YieldsList-from_slice c.args.items.now cc) (λ x b q k. search (rules, tests)) in
    found ∙ sym (position-map message_of (is_held_as c.args.handle) c.args.items.now)
