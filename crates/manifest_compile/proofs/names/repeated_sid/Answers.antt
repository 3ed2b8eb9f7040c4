use Rattle.std.proofs.Common.{◌≡◌, ◌<◌, ℕ, sym, ◌∙◌, ap, get_or, cond, true, map, length, option_map, Some}
use Rattle.std.specs.Prelude.{◌==◌}
use Rattle.std.specs.Ordering.{nat_cmp}
use Rattle.std.specs.BTreeSet as tree
use Rattle.ffm_model.specs.Layout.{Located}
use Rattle.ffm_model.specs.ManifestItems.{ServiceRecord}
use Rattle.region_map.specs.Seen.{seen, spot}
use Rattle.region_map.proofs.RepeatLemmas.{repeated_step, seen_more, is_at_number, was_new, was_old, repeated_found}
use Rattle.manifest_compile.proofs.Lists.{image_at, below_image}
use Rattle.manifest_compile.proofs.names.repeated_sid.Goals as goal

pub loop-at-preserved : goal.loop-at-preserved
loop-at-preserved c =
    let xs = map seen c.args.services.now in
    let i = c.loop-at.at-index in
    let x = seen c.at-item.result in
    let below : i < length xs = below_image seen c.args.services.now i c.loop-at-test.true in
    let here : get_or xs i x ≡ x = image_at seen c.args.services.now i c.at-item.result c.loop-at-test.true c.at-item.is in
    let so_far = c.loop-at.invariant.1 in
    let sid = λ (y : Located ServiceRecord). y.value.sid.0 in
    let key : c.sid_of.result ≡ sid (get_or xs i x) = c.sid_of.ensures ∙ ap sid (sym here) in
    let new = was_new _ _ c.in_ok-insert.ensures.added c.if-not-branch.false in
    let fresh = sym (so_far c.sid_of.result) ∙ new in (
      repeated_step (λ (x y : Located ServiceRecord). x.value.sid.0 == y.value.sid.0) xs i x below (rw key at fresh) ∙ c.loop-at.invariant.0,
      seen_more (λ (y : Located ServiceRecord) (q : ℕ). y.value.sid.0 == q) xs i x (tree.contains nat_cmp c.loop-at.sids) (tree.contains nat_cmp c.insert.new.self) below
          (λ q. c.in_ok-insert.ensures.updates.0 q ∙ ap (λ b. cond b true (tree.contains nat_cmp c.loop-at.sids q)) (is_at_number c.sid_of.result q ∙ ap (λ n. n == q) key)) so_far,
    )

pub returns-then-not-branch : goal.returns-then-not-branch
returns-then-not-branch c =
    let xs = map seen c.args.services.now in
    let i = c.loop-at.at-index in
    let x = seen c.at-item.result in
    let below : i < length xs = below_image seen c.args.services.now i c.loop-at-test.true in
    let here : get_or xs i x ≡ x = image_at seen c.args.services.now i c.at-item.result c.loop-at-test.true c.at-item.is in
    let sid = λ (y : Located ServiceRecord). y.value.sid.0 in
    let key : c.sid_of.result ≡ sid (get_or xs i x) = c.sid_of.ensures ∙ ap sid (sym here) in
    let old = sym (c.loop-at.invariant.1 c.sid_of.result) ∙ was_old _ _ c.in_ok-insert.ensures.added c.if-not-branch.true in
    sym (ap (option_map spot) (sym c.loop-at.invariant.0 ∙ repeated_found (λ (x y : Located ServiceRecord). x.value.sid.0 == y.value.sid.0) xs i x below (rw key at old) ∙ ap Some here))
