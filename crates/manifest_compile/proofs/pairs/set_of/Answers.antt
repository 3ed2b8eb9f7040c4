use Rattle.std.proofs.Common.{◌∙◌, List, ℕ, Bor, ap, cond, true}
use Rattle.std.specs.BTreeSet as tree
use Rattle.std.specs.BTreeSet.{BTreeSet}
use Rattle.std.specs.Cmp.Lexicographic.{slice_cmp}
use Rattle.std.specs.Ordering.{nat_cmp}
use Rattle.std.specs.Str.{bytes_eq}
use Rattle.std.proofs.lemmas.Map.Text.{is_eq-slice_cmp}
use Rattle.region_map.proofs.RepeatLemmas.{seen_more}
use Rattle.manifest_compile.proofs.OwnerLemmas.{bytes_eq-flip}
use Rattle.manifest_compile.proofs.pairs.set_of.Goals as goal

pub loop-name-preserved : goal.loop-name-preserved
loop-name-preserved c =
    let has = λ (s : BTreeSet (Bor (List ℕ))) (q : Bor (List ℕ)). tree.contains (λ (x y : Bor (List ℕ)). slice_cmp nat_cmp x.now y.now) s q in
    seen_more (λ (name : List ℕ) (q : Bor (List ℕ)). bytes_eq q.now name) c.args.names.now c.loop-name.name-index c.name-item.result (has c.loop-name.set) (has c.insert.new.self) c.loop-name-test.true
    (λ q. c.in_ok-insert.ensures.updates.0 q
    ∙ ap (λ b. cond b true (has c.loop-name.set q))
    (is_eq-slice_cmp c.as_str.result.now q.now ∙ bytes_eq-flip c.as_str.result.now q.now ∙ ap (bytes_eq q.now) (c.as_str.ensures ∙ c.name-item.is)))
    c.loop-name.invariant
