-- What stands at the end of a diagram.
-- Source: this simulator's.
use Rattle.std.specs.Prelude.{ℕ, ◌≡◌, nat_le, ◌||◌, if◌then◌else◌, List, ◌∷◌, ◌++◌, codes}
use Rattle.std.specs.Fmt.{decimal}
use Rattle.ffm_model.specs.declared.machine.Verdict.{Verdict}
use Rattle.ffm_model.specs.TraceText.{verdict_word}
use Rattle.machine_check.specs.declared.judging.Checked.{Checked}
use Rattle.machine_check.specs.declared.judging.Checked.TheVariants as checked
use Rattle.view_diagram.specs.declared.gathering.Part.{Part}

-- a part that ends before the trace does
abbrev pub end_of_part : ℕ → ℕ → List ℕ
end_of_part to count = codes "up to entry " ++ (decimal to ++ (codes " of " ++ decimal count))

-- the place at which a trace of so many entries is illegal, or its verdict, where the part reaches that
abbrev pub end_text : Verdict → ℕ → Checked → Part → List ℕ
end_text verdict count (checked.IllegalAt place) part =
    if nat_le count part.to || nat_le place part.to then codes "illegal at " ++ decimal place else end_of_part part.to count
end_text verdict count checked.Legal part =
    if nat_le count part.to then verdict_word verdict ++ (32 ∷ decimal count) else end_of_part part.to count

-- a text that ends with this and then that
pub record EndsIn (end tail text : List ℕ) : Type 0 where
  pub front : List ℕ
  pub is : text ≡ front ++ (end ++ tail)

-- what stands below a diagram, as a line of Mermaid and on a page
abbrev pub mermaid_tail : List ℕ
mermaid_tail = codes "\n"

abbrev pub page_tail : List ℕ
page_tail = codes "</footer>\n</body>\n</html>\n"
