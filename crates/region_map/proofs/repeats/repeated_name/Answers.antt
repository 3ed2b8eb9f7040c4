use Rattle.std.proofs.Common.{◌≡◌, ◌<◌, ℕ, List, sym, ◌∙◌, ap, get_or, cond, true, map, Bor, length, option_map, Some}
use Rattle.std.specs.Str.{bytes_eq}
use Rattle.std.specs.Ordering.{nat_cmp}
use Rattle.std.specs.Cmp.Lexicographic.{slice_cmp}
use Rattle.std.specs.BTreeSet as tree
use Rattle.std.specs.BTreeSet.{BTreeSet}
use Rattle.std.proofs.lemmas.List.{get_or-map, length-map}
use Rattle.std.proofs.lemmas.Map.Text.{is_eq-slice_cmp}
use Rattle.ffm_model.specs.Layout.{Located}
use Rattle.region_map.specs.Seen.{seen, spot, same_name}
use Rattle.region_map.specs.declared.at.At.{At}
use Rattle.region_map.proofs.RepeatLemmas.{repeated_step, seen_more, was_new, was_old, repeated_found}
use Rattle.region_map.proofs.repeats.repeated_name.Goals as goal

-- the item at i, as it is seen
item_seen : {T : Type 0} (xs : List (At T)) (i : ℕ) (x : At T) → i < length xs → x ≡ get_or xs i x → get_or (map seen xs) i (seen x) ≡ seen x
item_seen xs i x below is = get_or-map seen xs i x (seen x) below ∙ ap seen (sym is)

below_seen : {T : Type 0} (xs : List (At T)) (i : ℕ) → i < length xs → i < length (map seen xs)
below_seen xs i below = rw (length-map xs seen) below

pub loop-at-preserved : goal.loop-at-preserved
loop-at-preserved g c =
    let xs = map seen c.args.items.now in
    let i = c.loop-at.at-index in
    let x = seen c.at-item.result in
    let name = g.T.Named.name_of in
    let below : i < length xs = below_seen c.args.items.now i c.loop-at-test.true in
    let here : get_or xs i x ≡ x = item_seen c.args.items.now i c.at-item.result c.loop-at-test.true c.at-item.is in
    let so_far = c.loop-at.invariant.1 in
    let key : c.name.result.now ≡ name (get_or xs i x).value = c.name.ensures ∙ ap (λ (y : Located g.row.T.Denot). name y.value) (sym here) in
    let new = was_new _ _ c.in_ok-insert.ensures.added c.if-not-branch.false in
    let fresh = sym (so_far c.name.result) ∙ new in
    let contains = λ (s : BTreeSet (Bor (List ℕ))) (q : Bor (List ℕ)). tree.contains (λ (x y : Bor (List ℕ)). slice_cmp nat_cmp x.now y.now) s q in (
      repeated_step (same_name name) xs i x below (rw key at fresh) ∙ c.loop-at.invariant.0,
      seen_more (λ (y : Located g.row.T.Denot) (q : Bor (List ℕ)). bytes_eq (name y.value) q.now) xs i x (contains c.loop-at.names) (contains c.insert.new.self) below
          (λ q. c.in_ok-insert.ensures.updates.0 q ∙ ap (λ b. cond b true (contains c.loop-at.names q)) (is_eq-slice_cmp c.name.result.now q.now ∙ ap (λ n. bytes_eq n q.now) key)) so_far,
    )

pub returns-then-not-branch : goal.returns-then-not-branch
returns-then-not-branch g c =
    let xs = map seen c.args.items.now in
    let i = c.loop-at.at-index in
    let x = seen c.at-item.result in
    let name = g.T.Named.name_of in
    let below : i < length xs = below_seen c.args.items.now i c.loop-at-test.true in
    let here : get_or xs i x ≡ x = item_seen c.args.items.now i c.at-item.result c.loop-at-test.true c.at-item.is in
    let key : c.name.result.now ≡ name (get_or xs i x).value = c.name.ensures ∙ ap (λ (y : Located g.row.T.Denot). name y.value) (sym here) in
    let old = sym (c.loop-at.invariant.1 c.name.result) ∙ was_old _ _ c.in_ok-insert.ensures.added c.if-not-branch.true in
    sym (ap (option_map spot) (sym c.loop-at.invariant.0 ∙ repeated_found (same_name name) xs i x below (rw key at old) ∙ ap Some here))
