-- Where doorbells and the flags of sources change, and nothing else: no slot of the tables is taken or put back, and connections and messages stay as they are.
use Rattle.std.proofs.Common.{◌≡◌, Bool, List, ap, sym, subst}
use Rattle.std.specs.Prelude.{All}
use Rattle.ffm_model.specs.declared.objects.SourceFlags.{SourceFlags}
use Rattle.ffm_model.specs.declared.system.System.{System}
use Rattle.law_counting.specs.Objects.{ObjectsFit}
use Rattle.law_counting.proofs.CallsFit.{beside-fits}
use Rattle.machine_rules.specs.Vectors.{AreWithin}
use Rattle.spm_tables.specs.TablesView.{TablesView, spm_of}
use Rattle.law_calls.specs.Named.{KeepsNames}
use Rattle.law_calls.specs.Premises.{KeepsFit, KeepsVectors}
use Rattle.law_calls.proofs.Changes.{names-same}

pub names-beside : (s : System) (old new : TablesView) (doorbells : List Bool) (flags : List SourceFlags) → new ≡ record old { doorbells = doorbells; flags = flags } → KeepsNames s old new
names-beside s old new doorbells flags e = names-same s old new (ap (λ (d : TablesView). d.connections) e) (ap (λ (d : TablesView). d.messages) e)

pub fits-beside : (old new : TablesView) (doorbells : List Bool) (flags : List SourceFlags) → new ≡ record old { doorbells = doorbells; flags = flags } → KeepsFit old new
fits-beside old new doorbells flags e = λ s fit. subst (λ (d : TablesView). ObjectsFit s (spm_of d)) (sym e) (beside-fits s (spm_of old) doorbells flags fit)

pub within-beside : (old new : TablesView) (doorbells : List Bool) (flags : List SourceFlags) → new ≡ record old { doorbells = doorbells; flags = flags } → KeepsVectors old new
within-beside old new doorbells flags e = λ ranges all. subst (λ (d : TablesView). All (λ m. AreWithin ranges m.vectors) (spm_of d).messages) (sym e) all
