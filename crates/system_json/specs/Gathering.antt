-- Scripts gathered by actor, one after the other.
-- Source: this simulator's scenario file.
use Rattle.std.specs.Prelude.{ℕ, List, [], ◌∷◌, ◌++◌, get_or, slice_set}
use Rattle.ffm_model.specs.declared.script_item.ScriptItem.{ScriptItem}

-- the scripts of each actor with one more, after those of its actor
abbrev pub with_script : List (List (List (List ℕ))) → ScriptItem → List (List (List (List ℕ)))
with_script scripts script = slice_set scripts script.actor.0 (get_or scripts script.actor.0 [] ++ script.lines ∷ [])
