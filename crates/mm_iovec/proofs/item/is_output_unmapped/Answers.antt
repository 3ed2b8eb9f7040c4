use Rattle.std.proofs.Common.{◌≡◌, ◌∙◌, sym, not, rules, tests}
use Rattle.std.specs.List.{list_all}
use Rattle.std.proofs.lemmas.Iterator.{YieldsList-from_slice}
use Rattle.std.proofs.lemmas.Iterator.Search.{all_from_yields_List}
use Rattle.std.proofs.lemmas.List.Folds.{list_all-map}
use Rattle.ffm_model.specs.Held.{is_mapped}
use Rattle.mm_iovec.specs.Items.{vector_of}
use Rattle.mm_iovec.proofs.item.is_output_unmapped.Goals as goal

pub returns : goal.returns
returns c =
    let found : c.all.result ≡ list_all (λ v. not (is_mapped (vector_of v).state)) c.args.item.now.output =
    all_from_yields_List (λ v. not (is_mapped (vector_of v).state)) _ _ c.all.result c.all.ensures.ran (YieldsList-from_slice c.args.item.now.output cc) (λ x b q k. search (rules, tests)) in
    found ∙ sym (list_all-map (λ v. not (is_mapped v.state)) vector_of c.args.item.now.output)
