-- The functions of an SFN partition, section by section.
use Rattle.std.proofs.Common.{ℕ, ◌≡◌, ◌≤◌, List, [], ◌∷◌, ◌++◌, length, refl, ap, arith, drop, map, false}
use Rattle.std.proofs.lemmas.Grind.{common_steps}
use Rattle.std.specs.Prelude.{Result, Ok, ◌==◌}
use Rattle.std.specs.List.{IsDistinct}
use Rattle.std.proofs.lemmas.Bool.{or_parts}
use Rattle.law_lists.proofs.Lists.{AllByRecursion-push}
use Rattle.ffm_model.specs.declared.constants.TheConstants.{MAX_SCRIPT_LINES}
use Rattle.ffm_model.specs.declared.system.System.{System}
use Rattle.ffm_model.specs.declared.script.SfnFunction.{SfnFunction}
use Rattle.ffm_model.specs.SfnScripts.{IsFunction, IsSfnScript}
use Rattle.script_asm.specs.declared.lines.Line as code
use Rattle.script_asm.specs.Made.{Fails}
use Rattle.script_asm.specs.Views.{lines_view}
use Rattle.script_asm.specs.declared.scripts.LineError.{LineError}
use Rattle.script_asm.specs.declared.scripts.LineError.TheVariants as error
use Rattle.sfn_calls.specs.FunctionLines.{◌>>=◌, has_function, function_of, functions_below}
use Rattle.sfn_calls.specs.Sections.{Section, sections}

-- ---- the function of a section

fails-then : {A B : Type 0} (error : LineError) (r : Result A ℕ) (f : A → Result B ℕ) → Fails error r → Fails error (r >>= f)
fails-then (error.Wrong line) r f h = ap (λ r. r >>= f) h
fails-then error.Memory r f h = tt

-- ---- one section more

pub below-next : (s : System) (a : ℕ) (above : List SfnFunction) (x : Section) (xs : List Section) (f : SfnFunction) → function_of s a above x ≡ Ok f
    → functions_below s a (above ++ f ∷ []) xs ≡ functions_below s a above (x ∷ xs)
unfolding functions_below
below-next s a above x xs f made = rw made refl

pub below-wrong : (s : System) (a : ℕ) (above : List SfnFunction) (x : Section) (xs : List Section) (e : LineError) → Fails e (function_of s a above x)
    → Fails e (functions_below s a above (x ∷ xs))
unfolding functions_below
below-wrong s a above x xs e h = fails-then e (function_of s a above x) (λ f. functions_below s a (above ++ f ∷ []) xs) h

-- ---- what the functions keep

services-push : (fs : List SfnFunction) (f : SfnFunction) → map (λ f. f.service) (fs ++ f ∷ []) ≡ map (λ f. f.service) fs ++ f.service ∷ []
services-push [] f = refl
services-push (g ∷ fs) f = ap (λ (xs : List ℕ). g.service ∷ xs) (services-push fs f)

distinct-push : (fs : List SfnFunction) (service : ℕ) → IsDistinct (λ x y. x == y) (map (λ f. f.service) fs) → has_function fs service ≡ false
    → IsDistinct (λ x y. x == y) (map (λ f. f.service) fs ++ service ∷ [])
unfolding IsDistinct
distinct-push [] service h fresh = (tt, tt)
distinct-push (f ∷ fs) service h fresh =
    let apart = or_parts (f.service == service) (has_function fs service) fresh in
    (AllByRecursion-push (λ y. (f.service == y) ≡ false) (map (λ f. f.service) fs) service h.0 apart.0, distinct-push fs service h.1 apart.1)

pub no-functions : IsSfnScript []
unfolding IsDistinct
no-functions = record { one_each = tt; fit = tt; short = tt }

pub kept-next : (fs : List SfnFunction) (f : SfnFunction) → IsSfnScript fs → has_function fs f.service ≡ false → IsFunction f.instructions → length f.instructions ≤ MAX_SCRIPT_LINES
    → IsSfnScript (fs ++ f ∷ [])
kept-next fs f kept fresh fits short = record {
  one_each = rw services-push (distinct-push fs f.service kept.one_each fresh);
  fit = AllByRecursion-push (λ f. IsFunction f.instructions) fs f kept.fit fits;
  short = AllByRecursion-push (λ f. length f.instructions ≤ MAX_SCRIPT_LINES) fs f kept.short short;
}

-- ---- after the last line

pub below-end : (s : System) (a : ℕ) (above : List SfnFunction) (ls : List code.Line) (at : ℕ) → length ls ≤ at → functions_below s a above (sections at (lines_view (drop at ls))) ≡ Ok above
unfolding functions_below sections
below-end s a above ls at past =
    let none : drop at ls ≡ [] = grind (arith, common_steps) in
    rw none refl
