use Rattle.std.proofs.Common.{◌∙◌, ℕ, List, ◌∷◌, [], Option, ap, subst, sym}
use Rattle.outside_io.specs.Count.{Rose}
use Rattle.outside_io.specs.Counted.{count_of, value_of}
use Rattle.outside_io.specs.Files.{ReadBetween}
use Rattle.outside_io.proofs.OpenedReads.{closed, opened_read}
use Rattle.outside_io.proofs.opening.OpenedFiles.content.Goals as goal

pub returns-clause-read : goal.returns-clause-read
returns-clause-read g c =
    let opened = ap g.O.Opening.opened c.close.ensures.same in
    let names = c.args.name.now ∷ [] in
    let counted = c.in_ok-reader.ensures.counts in
    opened_read _ _ _ _ _ _ _ c.whole_of-read.result c.args.limit c.args.name.now
    (ap g.O.Opening.holds c.close.ensures.same ∙ c.in_ok-reader.ensures.keeps)
    c.in_ok-reader.ensures.content
    (subst (λ (b : Option (List (List ℕ))). ReadBetween (g.O.Opening.opened (value_of c.args.self.now.opening)) b names) (sym opened) c.in_ok-reader.ensures.opened)
    c.whole_of-read.ensures.within c.whole_of-read.ensures.content c.whole_of-read.ensures.too_long
    (closed _ _ _ _ c.whole_of-read.result c.whole_of-read.ensures.counts c.in_ok-reader.ensures.none (λ none. c.close.ensures.none none ∙ counted)
    (λ some. subst (λ (m : ℕ). Rose m (count_of c.close.new.self)) counted (c.close.ensures.some some)))
