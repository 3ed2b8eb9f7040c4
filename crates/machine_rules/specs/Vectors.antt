-- The condition that the vectors of a request always meet.
-- Source: FF-M 1.0, `psa/client.h`, psa_invec, psa_outvec; `psa/service.h`, psa_read, psa_skip, psa_write and psa_reply.
use Rattle.std.specs.Prelude.{ℕ, ◌+◌, ◌*◌, ◌<◌, ◌≤◌, ◌≡◌, true, List, All}
use Rattle.ffm_model.specs.declared.constants.TheConstants.{PSA_MAX_IOVEC}
use Rattle.ffm_model.specs.declared.objects.Span.{Span}
use Rattle.ffm_model.specs.declared.objects.Vectors.{Vectors}
use Rattle.memory_image.specs.Pieces.{is_inside}

-- no vector has more bytes moved than it has
pub record AreMovedWithin (vectors : Vectors) : Type 0 where
  pub inputs : All (λ v. v.moved ≤ v.len) vectors.input
  pub outputs : All (λ v. v.moved ≤ v.len) vectors.output

-- the condition on vectors: at most four outputs are given; each vector lies in one of the regions, and no more than all of it was moved;
-- each given output's descriptor, eight bytes, lies in one of the regions
pub record AreWithin (regions : List (ℕ × ℕ)) (vectors : Vectors) : Type 0 where
  pub few : vectors.out_len ≤ PSA_MAX_IOVEC
  pub inputs : All (λ v. is_inside v.base v.len regions ≡ true) vectors.input
  pub outputs : All (λ v. is_inside v.base v.len regions ≡ true) vectors.output
  pub moved : AreMovedWithin vectors
  pub descriptors : (k : ℕ) → k < vectors.out_len → is_inside (vectors.out_vec + 8 * k) 8 regions ≡ true

-- what the condition says of one vector: it lies in one of the regions, and no more than all of it was moved
pub record IsWithin (regions : List (ℕ × ℕ)) (v : Span) : Type 0 where
  pub inside : is_inside v.base v.len regions ≡ true
  pub moved : v.moved ≤ v.len
