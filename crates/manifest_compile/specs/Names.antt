-- The names of partitions and clients, as the code lends them.
-- Source: of this repository.
use Rattle.std.specs.Prelude.{List, [], ◌∷◌}
use Rattle.ffm_model.specs.declared.key.Key.TheVariants as key
use Rattle.ffm_model.specs.declared.place.PathStep.{PathStep}
use Rattle.ffm_model.specs.declared.place.PathStep.TheVariants as step
use Rattle.ffm_model.specs.Rules.{Title, at_attribute}
use Rattle.manifest_compile.specs.declared.names.Titled.{Titled}
use Rattle.manifest_compile.specs.declared.names.Titled.TheVariants.{Partition, Client}
use Rattle.manifest_compile.specs.declared.names.LentTitle.{LentTitle}

-- the place of a partition's or a client's name
abbrev pub steps_of : Titled → List PathStep
steps_of (Partition k) = at_attribute k key.Name
steps_of (Client k) = step.Key key.Clients ∷ step.Index k ∷ []

abbrev pub title_seen : LentTitle → Title
title_seen t = record { name = t.name.now; steps = steps_of t.titled }
