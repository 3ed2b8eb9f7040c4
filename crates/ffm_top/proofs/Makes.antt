-- The run of a generated system, and how many bytes it moves.
use Rattle.std.proofs.Common.{ℕ, ◌≡◌, ◌<◌, ◌+◌, List, [], ◌∷◌, length, take, get_or, ap, sym, ◌∙◌, refl, arith, subst}
use Rattle.std.specs.Prelude.{None, Ok, Option, IfSome, false, slice_get}
use Rattle.std.proofs.lemmas.List.Sums.{sum_by_more}
use Rattle.std.proofs.lemmas.Option.{slice_get-get_or}
use Rattle.ffm_model.specs.declared.machine.Entry.{Entry}
use Rattle.ffm_model.specs.declared.machine.Verdict.{Verdict}
use Rattle.ffm_model.specs.declared.scenario.Scenario.{Scenario}
use Rattle.ffm_model.specs.declared.system.System.{System}
use Rattle.ffm_model.specs.Memory.{opening_memory}
use Rattle.ffm_model.specs.Reading.{Contents}
use Rattle.ffm_model.specs.Scenarios.{scenario_in}
use Rattle.ffm_model.specs.Systems.{stopped}
use Rattle.system_texts.specs.Texts.{system_text, scenario_text}
use Rattle.ffm_top.specs.Makes.{IsGenerated, IsMade, MadeDue, moved_by, bytes_moved, summary_line}
use Rattle.actor_programs.specs.declared.program.Program.{Program}
use Rattle.actor_programs.specs.Programs.{programs_of}
use Rattle.scenario_runs.specs.Runs.{RanBy}
use Rattle.work_orders.specs.Work.{system_in}

pub is_generated : (rounds : ℕ) (s : System) (c : Scenario) (programs : List Program) (held : Contents) → ((name : List ℕ) → held name ≡ None) → (system_in held system_text).gives ≡ Ok s
    → stopped (scenario_in s (scenario_text rounds)) ≡ Ok c → programs_of s c ≡ Ok programs → IsGenerated rounds s c programs
is_generated rounds s c programs held empty one two three = record { held = held; empty = empty; system = one; scenario = two; assembled = three }

pub is_made : (rounds : ℕ) (s : System) (c : Scenario) (programs : List Program) (es : List Entry) (v : Verdict) → IsGenerated rounds s c programs → RanBy s (opening_memory c.memory) c programs false es v → IsMade rounds es v
is_made rounds s c programs es v generated ran = record { system = s; scenario = c; programs = programs; generated = generated; ran = ran }

pub made_due : (rounds : ℕ) (es : List Entry) (v : Verdict) (text : List ℕ) → IsMade rounds es v → text ≡ summary_line rounds (length es) (bytes_moved es) v → MadeDue rounds text 0
made_due rounds es v text made e = record { entries = es; ended = v; made = made; text_is = e; status_is = refl }

-- what is said of the item at a place
at_place : {X : Type 0} (P : X → Type 0) (xs : List X) (i : ℕ) (d : X) → i < length xs → IfSome (slice_get xs i) P → P (get_or xs i d)
at_place {X = X} P xs i d lt h = let Q : Option X → Type 0 = λ o. IfSome o P in subst Q (slice_get-get_or xs i d lt) h

-- one event more
pub moved_more : (es : List Entry) (i n : ℕ) → i < length es → IfSome (slice_get es i) (λ e. n ≡ moved_by e.call e.outcome) → bytes_moved (take (i + 1) es) ≡ bytes_moved (take i es) + n
moved_more [] i n lt h = absurd (omega arith)
moved_more (x ∷ xs) i n lt h =
    sum_by_more (λ e. moved_by e.call e.outcome) (x ∷ xs) i x lt
    ∙ ap (λ (k : ℕ). bytes_moved (take i (x ∷ xs)) + k) (sym (at_place (λ e. n ≡ moved_by e.call e.outcome) (x ∷ xs) i x lt h))
