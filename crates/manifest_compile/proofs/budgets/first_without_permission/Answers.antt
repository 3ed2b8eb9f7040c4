use Rattle.std.proofs.Common.{◌≡◌, ◌∙◌, ◌&&◌, true, false, not, ℕ, Some, option_map, ap, get_or, map, sym}
use Rattle.std.specs.List.{list_any}
use Rattle.ffm_model.specs.PartsItems.{ConnectionRecord}
use Rattle.ffm_model.specs.Permissions.{is_for, permitted}
use Rattle.manifest_compile.specs.Pairs.{pair_seen}
use Rattle.manifest_compile.proofs.BudgetLemmas.{permitted_by}
use Rattle.manifest_compile.proofs.Lists.{first_past, first_here}
use Rattle.manifest_compile.proofs.budgets.first_without_permission.Goals as goal

pub returns-then-not-is_permitted : goal.returns-then-not-is_permitted
returns-then-not-is_permitted c =
    let p = c.args.parts.now in
    let t = λ (e : ℕ × ConnectionRecord). not (list_any (λ pair. pair.connects && is_for pair e.1) (permitted p)) in
    let xs = c.as_slice-connection-items.result.now in
    let item = c.connection-item.result in
    let none : list_any (λ pair. pair.connects && is_for pair item) (permitted p) ≡ false =
    sym (permitted_by c.in_ok-names.names p (map pair_seen c.args.pairs.now) c.in_ok-names.ensures c.requires item)
    ∙ sym c.is_permitted.ensures ∙ c.if-not-is_permitted.true in
    let here : t (c.loop-place.place, get_or xs c.loop-place.place item) ≡ true = ap (λ x. not (list_any (λ pair. pair.connects && is_for pair x) (permitted p))) (sym c.connection-item.is) ∙ ap not none in
    ap Some c.in_ok-number.ensures ∙ sym (ap (option_map (λ (e : ℕ × ConnectionRecord). e.0)) (sym c.loop-place.invariant ∙ first_here t xs c.loop-place.place item c.loop-place-test.true here))

pub loop-place-preserved : goal.loop-place-preserved
loop-place-preserved c =
    let p = c.args.parts.now in
    let t = λ (e : ℕ × ConnectionRecord). not (list_any (λ pair. pair.connects && is_for pair e.1) (permitted p)) in
    let xs = c.as_slice-connection-items.result.now in
    let item = c.connection-item.result in
    let some : list_any (λ pair. pair.connects && is_for pair item) (permitted p) ≡ true =
    sym (permitted_by c.in_ok-names.names p (map pair_seen c.args.pairs.now) c.in_ok-names.ensures c.requires item)
    ∙ sym c.is_permitted.ensures ∙ c.if-not-is_permitted.false in
    let here : t (c.loop-place.place, get_or xs c.loop-place.place item) ≡ false = ap (λ x. not (list_any (λ pair. pair.connects && is_for pair x) (permitted p))) (sym c.connection-item.is) ∙ ap not some in
    first_past t xs c.loop-place.place item c.loop-place-test.true here ∙ c.loop-place.invariant
