use Rattle.std.proofs.Common.{◌∙◌, sym, refl}
use Rattle.std.proofs.lemmas.Bool.{false≢true}
use Rattle.serde_json.specs.Errors.{IsMemory}
use Rattle.manifest_json.proofs.Spelled.{tree_is, no_tree}
use Rattle.manifest_json.proofs.trees.tree_spelled.Goals as goal

pub returns-in-Ok : goal.returns-in-Ok
returns-in-Ok c = λ bytes is. tree_is bytes c.args.text.now _ is c.in-Ok.ensures.ok.0 c.in-Ok.ensures.ok.1

pub returns-else-is_memory : goal.returns-else-is_memory
returns-else-is_memory c =
    let other : IsMemory c.in-Err.e → ⊥ = λ m. false≢true (sym c.if-is_memory.false ∙ c.is_memory.ensures.1 m) in
    λ bytes is. (no_tree bytes c.args.text.now is (c.in-Err.ensures.err other), rw (c.of.ensures, c.new.ensures.items) refl)
