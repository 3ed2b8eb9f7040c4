use Rattle.std.proofs.Common.{sym, subst}
use Rattle.std.specs.Prelude.{All}
use Rattle.std.proofs.lemmas.List.Elements.{All-nil}
use Rattle.ffm_model.specs.State.{SpmState}
use Rattle.memory_image.specs.Pieces.{regions_of}
use Rattle.machine_rules.specs.Vectors.{AreWithin}
use Rattle.test_manager.proofs.lives.makes_a_request.Goals as goal

pub assert_request_served-requires-clause-premises : goal.assert_request_served-requires-clause-premises
assert_request_served-requires-clause-premises g c = record {
  tables = c.in_ok-tables.ensures.premises;
  regions = c.in_ok-image.ensures;
  vectors =
      subst (λ (b : SpmState). All (λ m. AreWithin (regions_of c.in_ok-image.image) m.vectors) b.messages) (sym c.in_ok-tables.ensures.state) (All-nil (λ m. AreWithin (regions_of c.in_ok-image.image) m.vectors));
}
