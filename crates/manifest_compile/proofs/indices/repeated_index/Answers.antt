use Rattle.std.proofs.Common.{◌≡◌, ◌<◌, ℕ, sym, ◌∙◌, ap, get_or, cond, true, false, map, length, option_map, Some, take}
use Rattle.std.specs.Prelude.{◌==◌}
use Rattle.std.specs.List.{list_any}
use Rattle.std.specs.Ordering.{nat_cmp}
use Rattle.std.specs.BTreeSet as tree
use Rattle.ffm_model.specs.Layout.{Located}
use Rattle.ffm_model.specs.ManifestItems.{ServiceRecord}
use Rattle.region_map.specs.Seen.{seen, spot}
use Rattle.region_map.proofs.RepeatLemmas.{repeated_step, seen_more, is_at_number, was_new, was_old, repeated_found}
use Rattle.manifest_compile.proofs.IndexLemmas.{same_index, states_again, states_none, states_first}
use Rattle.manifest_compile.proofs.Lists.{image_at, below_image}
use Rattle.manifest_compile.proofs.indices.repeated_index.Goals.{else-index-ne0-via-then-index-ne0+else-not-is_new, else-index-ne0-via-else-index-ne0}
use Rattle.manifest_compile.proofs.indices.repeated_index.Goals as goal

pub loop-at-preserved : goal.loop-at-preserved
loop-at-preserved c =
    let xs = map seen c.args.services.now in
    let i = c.loop-at.at-index in
    let x = seen c.at-item.result in
    let below : i < length xs = below_image seen c.args.services.now i c.loop-at-test.true in
    let here : get_or xs i x ≡ x = image_at seen c.args.services.now i c.at-item.result c.loop-at-test.true c.at-item.is in
    let so_far = c.loop-at.invariant.1 in
    let index = λ (y : Located ServiceRecord). y.value.stateless_handle in
    let key : c.stated_index-index.result ≡ index (get_or xs i x) = c.stated_index-index.ensures ∙ ap index (sym here) in
    let new : list_any (λ y. same_index y (get_or xs i x)) (take i xs) ≡ false =
    elim c.else-index-ne0.branch [
      | else-index-ne0-via-then-index-ne0+else-not-is_new w ↦
          states_first (take i xs) (get_or xs i x) c.stated_index-index.result key (sym (so_far c.stated_index-index.result) ∙ was_new _ _ c.in_ok-is_new.ensures.added w.if-not-is_new.false)
      | else-index-ne0-via-else-index-ne0 w ↦ states_none (take i xs) (get_or xs i x) c.stated_index-index.result key w.if-index-ne0.false
    ] in (
      repeated_step same_index xs i x below new ∙ c.loop-at.invariant.0,
      seen_more (λ (y : Located ServiceRecord) (q : ℕ). y.value.stateless_handle == q) xs i x (tree.contains nat_cmp c.loop-at.indices) (tree.contains nat_cmp c.insert.new.self) below
          (λ q. c.in_ok-is_new.ensures.updates.0 q ∙ ap (λ b. cond b true (tree.contains nat_cmp c.loop-at.indices q)) (is_at_number c.stated_index-index.result q ∙ ap (λ n. n == q) key)) so_far,
    )

pub returns-then-not-is_new : goal.returns-then-not-is_new
returns-then-not-is_new c =
    let xs = map seen c.args.services.now in
    let i = c.loop-at.at-index in
    let x = seen c.at-item.result in
    let below : i < length xs = below_image seen c.args.services.now i c.loop-at-test.true in
    let here : get_or xs i x ≡ x = image_at seen c.args.services.now i c.at-item.result c.loop-at-test.true c.at-item.is in
    let index = λ (y : Located ServiceRecord). y.value.stateless_handle in
    let key : c.stated_index-index.result ≡ index (get_or xs i x) = c.stated_index-index.ensures ∙ ap index (sym here) in
    let old = sym (c.loop-at.invariant.1 c.stated_index-index.result) ∙ was_old _ _ c.in_ok-is_new.ensures.added c.if-not-is_new.true in
    let again : list_any (λ y. same_index y (get_or xs i x)) (take i xs) ≡ true = states_again (take i xs) (get_or xs i x) c.stated_index-index.result key c.if-index-ne0.true old in
    sym (ap (option_map spot) (sym c.loop-at.invariant.0 ∙ repeated_found same_index xs i x below again ∙ ap Some here))
