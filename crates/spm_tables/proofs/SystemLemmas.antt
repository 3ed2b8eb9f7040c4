-- How many messages there may be.
use Rattle.std.proofs.Common.{ℕ, suc, ◌≡◌, ◌≤◌, ◌+◌, length, arith, ap}
use Rattle.std.specs.Prelude.{count_by}
use Rattle.std.specs.List.{range_with_len}
use Rattle.std.proofs.lemmas.List.Sums.{count_by-le-length}
use Rattle.std.proofs.lemmas.List.FromFn.{length-range_with_len}
use Rattle.ffm_model.specs.declared.system.System.{System}
use Rattle.ffm_model.specs.Names.{calls_stateless}
use Rattle.ffm_model.proofs.ActorLemmas.{few_partitions, few_clients}
use Rattle.law_lists.proofs.Counts.{bit, count-push}
use Rattle.law_lists.proofs.Lists.{range_with_len-more}

-- ---- partitions and clients that may use a stateless service

-- one actor more
pub callers_more : (s : System) (n : ℕ) → count_by (calls_stateless s) (range_with_len 0 (n + 1)) ≡ count_by (calls_stateless s) (range_with_len 0 n) + bit (calls_stateless s n)
callers_more s n =
    let next : n + 1 ≡ suc n = omega arith in
    let same : 0 + n ≡ n = omega arith in
    omega (
      arith,
      ap (λ k. count_by (calls_stateless s) (range_with_len 0 k)) next,
      ap (count_by (calls_stateless s)) (range_with_len-more 0 n),
      count-push (calls_stateless s) (range_with_len 0 n) (0 + n),
      ap (λ k. bit (calls_stateless s k)) same,
    )

-- at most 48
pub few_callers : (s : System) → count_by (calls_stateless s) (range_with_len 0 (length s.partitions + length s.clients)) ≤ 48
few_callers s =
    let n : ℕ = length s.partitions + length s.clients in
    omega (arith, count_by-le-length (calls_stateless s) (range_with_len 0 n), length-range_with_len 0 n, few_partitions s, few_clients s)
