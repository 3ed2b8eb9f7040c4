use Rattle.std.proofs.Common.{sym, subst}
use Rattle.std.specs.Prelude.{All}
use Rattle.std.proofs.lemmas.List.Elements.{All-nil}
use Rattle.ffm_model.specs.State.{SpmState}
use Rattle.memory_image.specs.Pieces.{regions_of}
use Rattle.machine_rules.specs.Vectors.{AreWithin}
use Rattle.test_manager.proofs.lives.connects_and_closes.Goals as goal

pub assert_connection_lived-requires-clause-premises : goal.assert_connection_lived-requires-clause-premises
assert_connection_lived-requires-clause-premises g c = record {
  tables = c.in_ok-tables.ensures.premises;
  regions = c.in_ok-image.ensures;
  vectors =
      subst (λ (b : SpmState). All (λ m. AreWithin (regions_of c.in_ok-image.image) m.vectors) b.messages) (sym c.in_ok-tables.ensures.state) (All-nil (λ m. AreWithin (regions_of c.in_ok-image.image) m.vectors));
}
