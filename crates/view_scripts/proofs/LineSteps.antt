-- The lines of a script, one further.
use Rattle.std.proofs.Common.{ℕ, ◌≡◌, ◌+◌, ◌-◌, ◌<◌, ◌==◌, Bool, true, false, List, [], ◌∷◌, drop, get_or, length, refl, ap, ap₂, sym, ◌∙◌}
use Rattle.std.specs.Prelude.{None, Some, ◌≤◌, if◌then◌else◌}
use Rattle.std.proofs.lemmas.List.{at_drop_all, drop_more}
use Rattle.script_asm.specs.declared.lines.Line.{Line}
use Rattle.script_asm.specs.Lines as model
use Rattle.script_asm.specs.Views.{line_view, lines_view}
use Rattle.view_scripts.specs.ScriptLines.{is_order, line_from}

one-is : (number place : ℕ) (line : model.Line) (lines : List model.Line) →
    line_from number place (line ∷ lines)
    ≡ (if is_order line then (if place == 0 then Some number else line_from (number + 1) (place - 1) lines) else line_from (number + 1) place lines)
unfolding line_from
one-is number place line lines = refl

none-is : (number place : ℕ) → None ≡ line_from number place []
unfolding line_from
none-is number place = refl

pub ends : (lines : List Line) (k place : ℕ) → length lines ≤ k → None ≡ line_from k place (lines_view (drop k lines))
ends lines k place over = none-is k place ∙ sym (at_drop_all (λ (l : List Line). line_from k place (lines_view l)) lines k over)

module _ (lines : List Line) (k place : ℕ) (x : Line) (low : k < length lines) (is : x ≡ get_or lines k x) where
  at-is : line_from k place (lines_view (drop k lines))
      ≡ (if is_order (line_view x) then (if place == 0 then Some k else line_from (k + 1) (place - 1) (lines_view (drop (k + 1) lines))) else line_from (k + 1) place (lines_view (drop (k + 1) lines)))
  at-is =
      ap (λ (l : List Line). line_from k place (lines_view l)) (drop_more lines k x low ∙ ap (λ (y : Line). y ∷ drop (k + 1) lines) (sym is))
      ∙ one-is k place (line_view x) (lines_view (drop (k + 1) lines))

  pub skips : is_order (line_view x) ≡ false → line_from k place (lines_view (drop k lines)) ≡ line_from (k + 1) place (lines_view (drop (k + 1) lines))
  skips same = at-is ∙ ap (λ (b : Bool). if b then (if place == 0 then Some k else line_from (k + 1) (place - 1) (lines_view (drop (k + 1) lines))) else line_from (k + 1) place (lines_view (drop (k + 1) lines))) same

  pub finds : is_order (line_view x) ≡ true → place ≡ 0 → line_from k place (lines_view (drop k lines)) ≡ Some k
  finds same zero_is = at-is ∙ ap₂ (λ (b : Bool) (p : ℕ). if b then (if p == 0 then Some k else line_from (k + 1) (p - 1) (lines_view (drop (k + 1) lines))) else line_from (k + 1) p (lines_view (drop (k + 1) lines))) same zero_is

  pub goes-on : is_order (line_view x) ≡ true → (place == 0) ≡ false → line_from k place (lines_view (drop k lines)) ≡ line_from (k + 1) (place - 1) (lines_view (drop (k + 1) lines))
  goes-on same more = at-is ∙ ap₂ (λ (b : Bool) (c : Bool). if b then (if c then Some k else line_from (k + 1) (place - 1) (lines_view (drop (k + 1) lines))) else line_from (k + 1) place (lines_view (drop (k + 1) lines))) same more
