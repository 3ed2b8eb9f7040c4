use Rattle.std.proofs.Common.{◌≡◌, ◌∙◌, sym, rules, tests}
use Rattle.std.specs.List.{list_all}
use Rattle.std.proofs.lemmas.Iterator.{YieldsList-from_slice}
use Rattle.std.proofs.lemmas.Iterator.Search.{all_from_yields_List}
use Rattle.std.proofs.lemmas.List.Folds.{list_all-map}
use Rattle.mm_iovec.specs.HeldView.{is_output_unmapped}
use Rattle.mm_iovec.specs.Items.{message_of}
use Rattle.mm_iovec.proofs.table.are_outputs_unmapped.Goals as goal

pub returns : goal.returns
returns c =
    let found : c.all.result ≡ list_all (λ i. is_output_unmapped (message_of i)) c.args.items.now =
    all_from_yields_List (λ i. is_output_unmapped (message_of i)) _ _ c.all.result c.all.ensures.ran (YieldsList-from_slice c.args.items.now cc) (λ x b q k. search (rules, tests)) in
    found ∙ sym (list_all-map is_output_unmapped message_of c.args.items.now)
