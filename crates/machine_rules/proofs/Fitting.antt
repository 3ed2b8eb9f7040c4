-- Each place of vectors that meet the condition, and the vectors that are none.
use Rattle.std.proofs.Common.{ℕ, ◌≡◌, ◌≤◌, Bool, true, false, List, length, arith, refl, sym, subst}
use Rattle.std.specs.Prelude.{nat_lt}
use Rattle.std.proofs.lemmas.Bool.Decides.{nat_tests}
use Rattle.std.proofs.lemmas.List.{get_or_past}
use Rattle.std.proofs.lemmas.List.Elements.{All-replicate}
use Rattle.ffm_model.specs.declared.objects.Vectors.{Vectors}
use Rattle.ffm_model.specs.Memory.{no_span, no_vectors}
use Rattle.ffm_model.specs.ServiceCalls.{output_of}
use Rattle.memory_image.specs.Pieces.{is_inside}
use Rattle.machine_rules.specs.Vectors.{AreWithin, IsWithin}

none_at : (regions : List (ℕ × ℕ)) → IsWithin regions no_span
none_at regions = record { inside = refl; moved = omega arith }

-- the output vector at a place, also where none is there
pub output_at_within : (regions : List (ℕ × ℕ)) (v : Vectors) (index : ℕ) → AreWithin regions v → IsWithin regions (output_of v index)
output_at_within regions v index within = by_test (nat_lt index (length v.output)) refl where
  by_test : (b : Bool) → nat_lt index (length v.output) ≡ b → IsWithin regions (output_of v index)
  by_test true less = record { inside = within.outputs index no_span (grind (arith, nat_tests)); moved = within.moved.outputs index no_span (grind (arith, nat_tests)) }
  by_test false more = subst (IsWithin regions) (sym (get_or_past v.output index no_span (grind (arith, nat_tests)))) (none_at regions)

-- the vectors of a connection and of a disconnection
pub none_within : (regions : List (ℕ × ℕ)) → AreWithin regions no_vectors
none_within regions = record {
  few = omega arith;
  inputs = All-replicate (λ v. is_inside v.base v.len regions ≡ true) 4 no_span refl;
  outputs = All-replicate (λ v. is_inside v.base v.len regions ≡ true) 4 no_span refl;
  moved = record { inputs = All-replicate (λ v. v.moved ≤ v.len) 4 no_span (omega arith); outputs = All-replicate (λ v. v.moved ≤ v.len) 4 no_span (omega arith) };
  descriptors = λ k below. absurd (omega arith);
}
