-- Whether the quoted bytes spell a tree.
use Rattle.std.proofs.Common.{◌≡◌, List, ℕ, Bool, true, false, cond, Option, Some, None, refl, sym, ap, ◌∙◌}
use Rattle.std.specs.Str.{IsUtf8, is_utf8}
use Rattle.std.proofs.lemmas.Str.{IsUtf8-from_is_utf8, is_utf8-from_IsUtf8}
use Rattle.serde_json.specs.Data.{Data}
use Rattle.serde_json.specs.Read.{read}
use Rattle.ffm_model.specs.Quote.{quote}
use Rattle.ffm_model.specs.Trees.{tree_of}

if_true : {A : Type 0} (b : Bool) (x y : A) → b ≡ true → cond b x y ≡ x
if_true b x y is = rw is refl

tree_spelled : (q : List ℕ) (d : Data) → IsUtf8 q → read q ≡ Some d → cond (is_utf8 q) (read q) None ≡ Some d
tree_spelled q d utf8 reads = if_true (is_utf8 q) (read q) None (is_utf8-from_IsUtf8 q utf8) ∙ reads

none_at : (q : List ℕ) (b : Bool) (r : Option Data) → is_utf8 q ≡ b → (IsUtf8 q → r ≡ None) → cond b r None ≡ None
none_at q true r is none = none (IsUtf8-from_is_utf8 q is)
none_at q false r is none = refl

pub tree_is : (bytes q : List ℕ) (d : Data) → q ≡ quote bytes → IsUtf8 q → read q ≡ Some d → tree_of bytes ≡ Some d
unfolding tree_of
tree_is bytes q d is utf8 reads = sym (ap (λ x. cond (is_utf8 x) (read x) None) is) ∙ tree_spelled q d utf8 reads

pub no_tree : (bytes q : List ℕ) → q ≡ quote bytes → (IsUtf8 q → read q ≡ None) → tree_of bytes ≡ None
unfolding tree_of
no_tree bytes q is none = sym (ap (λ x. cond (is_utf8 x) (read x) None) is) ∙ none_at q (is_utf8 q) (read q) refl none
