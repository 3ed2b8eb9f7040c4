use Rattle.std.proofs.Common.{◌≡◌, ◌<◌, ℕ, List, sym, ◌∙◌, ap, get_or, cond, true, map, Bor, length, option_map, Some, []}
use Rattle.std.specs.Str.{bytes_eq}
use Rattle.std.specs.Ordering.{nat_cmp}
use Rattle.std.specs.Cmp.Lexicographic.{slice_cmp}
use Rattle.std.specs.BTreeSet as tree
use Rattle.std.specs.BTreeSet.{BTreeSet}
use Rattle.std.proofs.lemmas.Map.Text.{is_eq-slice_cmp}
use Rattle.ffm_model.specs.Rules.{Title}
use Rattle.region_map.proofs.RepeatLemmas.{repeated_step, seen_more, was_new, was_old, repeated_found}
use Rattle.manifest_compile.specs.Names.{title_seen}
use Rattle.std.proofs.lemmas.List.{get_or-map}
use Rattle.manifest_compile.specs.declared.names.LentTitle.{LentTitle}
use Rattle.manifest_compile.specs.declared.names.Titled.TheVariants.{Partition}
use Rattle.manifest_compile.proofs.Lists.{below_image}
use Rattle.manifest_compile.proofs.names.repeated_title.Goals as goal

pub loop-title-preserved : goal.loop-title-preserved
loop-title-preserved c =
    let xs = map title_seen c.args.titles.now in
    let i = c.loop-title.title-index in
    let d : LentTitle = record { name = record { ref_ptr = (0, 0); now = [] }; titled = Partition 0 } in
    let t = get_or c.args.titles.now i d in
    let x = title_seen t in
    let below : i < length xs = below_image title_seen c.args.titles.now i c.loop-title-test.true in
    let here : get_or xs i x ≡ x = get_or-map title_seen c.args.titles.now i d x c.loop-title-test.true in
    let so_far = c.loop-title.invariant.1 in
    let name = t.name in
    let key : name.now ≡ (get_or xs i x).name = ap (λ (y : Title). y.name) (sym here) in
    let new = was_new _ _ c.in_ok-insert.ensures.added c.if-not-branch.false in
    let fresh = sym (so_far name) ∙ new in
    let contains = λ (s : BTreeSet (Bor (List ℕ))) (q : Bor (List ℕ)). tree.contains (λ (x y : Bor (List ℕ)). slice_cmp nat_cmp x.now y.now) s q in (
      repeated_step (λ (x y : Title). bytes_eq x.name y.name) xs i x below (rw key at fresh) ∙ c.loop-title.invariant.0,
      seen_more (λ (y : Title) (q : Bor (List ℕ)). bytes_eq y.name q.now) xs i x (contains c.loop-title.names) (contains c.insert.new.self) below
          (λ q. c.in_ok-insert.ensures.updates.0 q ∙ ap (λ b. cond b true (contains c.loop-title.names q)) (is_eq-slice_cmp name.now q.now ∙ ap (λ n. bytes_eq n q.now) key)) so_far,
    )

pub returns-then-not-branch : goal.returns-then-not-branch
returns-then-not-branch c =
    let xs = map title_seen c.args.titles.now in
    let i = c.loop-title.title-index in
    let d : LentTitle = record { name = record { ref_ptr = (0, 0); now = [] }; titled = Partition 0 } in
    let t = get_or c.args.titles.now i d in
    let x = title_seen t in
    let below : i < length xs = below_image title_seen c.args.titles.now i c.loop-title-test.true in
    let here : get_or xs i x ≡ x = get_or-map title_seen c.args.titles.now i d x c.loop-title-test.true in
    let name = t.name in
    let key : name.now ≡ (get_or xs i x).name = ap (λ (y : Title). y.name) (sym here) in
    let old = sym (c.loop-title.invariant.1 name) ∙ was_old _ _ c.in_ok-insert.ensures.added c.if-not-branch.true in
    sym (ap (option_map (λ (y : Title). y.steps)) (sym c.loop-title.invariant.0 ∙ repeated_found (λ (x y : Title). bytes_eq x.name y.name) xs i x below (rw key at old) ∙ ap Some here))
