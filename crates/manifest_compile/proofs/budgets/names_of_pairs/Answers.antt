use Rattle.std.proofs.Common.{◌≡◌, ◌∙◌, ◌&&◌, ℕ, List, [], ap, cond, get_or, map, sym, true, false}
use Rattle.std.specs.Str.{bytes_eq}
use Rattle.std.proofs.lemmas.List.{get_or-map}
use Rattle.ffm_model.specs.Permissions.{Permitted}
use Rattle.region_map.proofs.RepeatLemmas.{seen_more}
use Rattle.manifest_compile.specs.declared.pairs.Pair.{Pair}
use Rattle.manifest_compile.specs.Budgets.{has_pair}
use Rattle.manifest_compile.specs.Pairs.{pair_seen}
use Rattle.manifest_compile.proofs.BudgetLemmas.{is_key, key_of}
use Rattle.manifest_compile.proofs.Lists.{below_image}
use Rattle.manifest_compile.proofs.OwnerLemmas.{bytes_eq-flip}
use Rattle.manifest_compile.proofs.budgets.names_of_pairs.Goals.{then-pair+in_ok-insert, else-pair}
use Rattle.manifest_compile.proofs.budgets.names_of_pairs.Goals as goal

pub loop-pair-preserved : goal.loop-pair-preserved
loop-pair-preserved c =
    let d : Pair = record { client = 0; client_name = record { ref_ptr = (0, 0); now = [] }; service = 0; service_name = record { ref_ptr = (0, 0); now = [] }; connects = false } in
    let i = c.loop-pair.pair-index in
    let pair = get_or c.args.pairs.now i d in
    let xs = map pair_seen c.args.pairs.now in
    let x = pair_seen pair in
    let here : get_or xs i x ≡ x = get_or-map pair_seen c.args.pairs.now i d x c.loop-pair-test.true in
    let test = λ (p : Permitted) (q : List ℕ × List ℕ). p.connects && (bytes_eq q.0 p.client_name && bytes_eq q.1 p.service_name) in
    let had = λ (q : List ℕ × List ℕ). has_pair c.loop-pair.names q.0 q.1 in
    let named = λ (q : List ℕ × List ℕ). bytes_eq q.0 pair.client_name.now && bytes_eq q.1 pair.service_name.now in
    let step : (q : List ℕ × List ℕ) → has_pair c.if-pair.names q.0 q.1 ≡ cond (test x q) true (had q) =
    λ q. elim c.if-pair.branch [
      | then-pair+in_ok-insert w ↦
          ap (λ s. has_pair s q.0 q.1) w.names-is
          ∙ w.in_ok-insert.ensures.updates.0 (key_of q.0 q.1)
          ∙ ap (λ b. cond b true (had q))
          (is_key pair.client_name.now pair.service_name.now (key_of q.0 q.1)
          ∙ ap (λ b. b && bytes_eq pair.service_name.now q.1) (bytes_eq-flip pair.client_name.now q.0)
          ∙ ap (λ b. bytes_eq q.0 pair.client_name.now && b) (bytes_eq-flip pair.service_name.now q.1)
          ∙ ap (λ b. b && named q) (sym w.if-pair.true))
      | else-pair w ↦ ap (λ s. has_pair s q.0 q.1) w.names-is ∙ ap (λ b. cond (b && named q) true (had q)) (sym w.if-pair.false)
    ] in
    λ client service.
    seen_more test xs i x had (λ q. has_pair c.if-pair.names q.0 q.1) (below_image pair_seen c.args.pairs.now i c.loop-pair-test.true)
    (λ q. step q ∙ ap (λ (p : Permitted). cond (test p q) true (had q)) (sym here))
    (λ q. c.loop-pair.invariant q.0 q.1)
    (client, service)
