-- Whether the entries up to a place are legal.
use Rattle.std.proofs.Common.{arith, ◌≡◌, ◌<◌, ◌≤◌, ◌∙◌, ℕ, ap, get_or, length, refl, subst, sym}
use Rattle.std.proofs.lemmas.Option.{slice_get-get_or}
use Rattle.std.specs.Prelude.{Some, is_some, slice_get}
use Rattle.ffm_model.specs.declared.machine.Entry.{Entry}
use Rattle.view_places.specs.Asking.{IsAsked}
use Rattle.view_places.specs.declared.asking.CallAfter.{CallAfter}
use Rattle.view_places.specs.declared.asking.PlaceAsked.{PlaceAsked}
use Rattle.view_places.specs.declared.asking.PlaceAsked.TheVariants as asked
use Rattle.view_places.specs.declared.behind.Place.{Place}
use Rattle.view_places.specs.declared.behind.Place.TheVariants as behind
use Rattle.view_places.specs.declared.behind.StateAfter.{StateAfter}
use Rattle.view_aspects.specs.declared.traces.TraceFiles.{TraceFiles}
use Rattle.view_aspects.specs.Traces.{memory_of}
use Rattle.view_aspects.specs.Views.{IsCallOf, IsIllegalTo, IsLegalTo, IsPlaceOf}

-- there is a state
pub legal_to : (f : TraceFiles) (k : ℕ) (b : StateAfter) → IsPlaceOf f k (behind.State b) → IsLegalTo f k
legal_to f k b is = (is.within, ap is_some is.behind.state)

-- there is none
pub illegal_to : (f : TraceFiles) (k : ℕ) (p : Place) → k ≤ length f.trace.entries → IsPlaceOf f k p → ((b : StateAfter) → p ≡ behind.State b → ⊥) → IsIllegalTo f k
illegal_to f k (behind.State b) few is other = absurd (other b refl)
illegal_to f k behind.Beyond few is other = absurd (omega (arith, few, is))
illegal_to f k (behind.Illegal n) few is other = (n, is.1.0, is.1.1)

-- there is none after the entry before
pub illegal_before : (f : TraceFiles) (k j : ℕ) (e : Entry) (p : PlaceAsked) → j ≤ k → j ≤ length f.trace.entries → IsAsked f.work.system (memory_of f) f.work.scenario.limit f.trace.entries j e p
    → ((t : CallAfter) → p ≡ asked.Call t → ⊥) → IsIllegalTo f k
illegal_before f k j e (asked.Call t) below few is other = absurd (other t refl)
illegal_before f k j e asked.Beyond below few is other = absurd (omega (arith, few, is))
illegal_before f k j e (asked.Illegal n) below few is other = (n, omega (arith, is.1.0, below), is.1.1)

-- the entry of which is told is the one after a place
pub entry_there : (f : TraceFiles) (j : ℕ) (e : Entry) (t : CallAfter) → j < length f.trace.entries → e ≡ get_or f.trace.entries j e → IsCallOf f j e t → slice_get f.trace.entries j ≡ Some t.entry
entry_there f j e t below same is = slice_get-get_or f.trace.entries j e below ∙ ap (λ (y : Entry). Some y) (sym same ∙ sym is.entry)

pub told_of_own : (f : TraceFiles) (j : ℕ) (e : Entry) (t : CallAfter) → IsCallOf f j e t → IsCallOf f j t.entry t
told_of_own f j e t is = subst (λ x. IsCallOf f j x t) (sym is.entry) is
