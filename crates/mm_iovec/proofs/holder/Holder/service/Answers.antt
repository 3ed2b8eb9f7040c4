use Rattle.std.proofs.Common.{◌≡◌, ◌∙◌, ap, sym, rules, tests}
use Rattle.std.specs.Prelude.{◌==◌, find}
use Rattle.std.specs.Option.{option_copied, option_map}
use Rattle.std.proofs.lemmas.Iterator.{YieldsList-from_slice}
use Rattle.std.proofs.lemmas.Iterator.Search.{find_from_yields_List}
use Rattle.mm_iovec.specs.Items.{service_of}
use Rattle.mm_iovec.proofs.holder.Holder.service.Goals as goal
use Rattle.law_lists.proofs.Tests.{find-map}

pub returns : goal.returns
returns c =
    let found : option_copied c.find.result ≡ find (λ v. v.signal == c.args.signal) c.self.inside.services.items =
    find_from_yields_List (λ v. v.signal == c.args.signal) _ _ c.find.result c.find.ensures.ran (YieldsList-from_slice c.self.inside.services.items cc) (λ x b q k. search (rules, tests)) in
    rw (← c.self.view_is) (ap (option_map service_of) (c.copied.ensures ∙ found) ∙ sym (find-map service_of (λ v. v.signal == c.args.signal) c.self.inside.services.items))
