-- The indices of stateless services.
use Rattle.std.proofs.Common.{ℕ, ◌≡◌, ◌≤◌, ◌<◌, true, length, get_or, arith}
use Rattle.std.specs.Prelude.{nat_le}
use Rattle.std.specs.List.{list_all}
use Rattle.std.proofs.lemmas.Bool.{and_parts}
use Rattle.std.proofs.lemmas.Bool.Decides.{nat_tests}
use Rattle.ffm_model.specs.declared.system.Service.{Service}
use Rattle.ffm_model.specs.declared.system.System.{System}
use Rattle.ffm_model.proofs.TestLemmas.{holds_at}
use Rattle.ffm_model.proofs.WellFormedLemmas.{stateless_hold}

-- an index is at most 32
pub low_indices : (s : System) (k : ℕ) (d : Service) → k < length s.services → (get_or s.services k d).stateless ≤ 32
low_indices s k d below =
    let low : list_all (λ v. nat_le v.stateless 32) s.services ≡ true = (and_parts _ _ (and_parts _ _ (stateless_hold s)).0).0 in
    let h : nat_le (get_or s.services k d).stateless 32 ≡ true = holds_at (λ v. nat_le v.stateless 32) s.services k d below low in
    grind (arith, nat_tests)
