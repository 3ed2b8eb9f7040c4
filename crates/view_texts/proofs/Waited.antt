-- The waits of a trace, one entry further.
use Rattle.std.proofs.Common.{ℕ, ◌≡◌, ◌<◌, ◌+◌, ◌∙◌, List, [], ◌∷◌, ◌++◌, add-one, ap, get_or, length, sym, take}
use Rattle.std.proofs.lemmas.Option.{slice_get-get_or}
use Rattle.std.specs.Prelude.{Option, slice_get}
use Rattle.std.specs.Option.{option_map_or}
use Rattle.ffm_model.specs.declared.machine.Entry.{Entry}
use Rattle.ffm_model.specs.declared.system.System.{System}
use Rattle.ffm_model.specs.Actors.{actor_count}
use Rattle.view_texts.specs.Waited.{Waits, no_waits, noted, waits_in}

waits_further : (s : System) (es : List Entry) (k : ℕ) → waits_in s es (k + 1) ≡ option_map_or (noted (waits_in s es k) (k + 1)) (slice_get es k) (waits_in s es k)
unfolding waits_in
waits_further s es k =
    ap (waits_in s es) (add-one k) ∙ ap (λ n. option_map_or (noted (waits_in s es k) n) (slice_get es k) (waits_in s es k)) (sym (add-one k))

-- the waits after what the entry at this place told
pub waits_more : (s : System) (es : List Entry) (k place : ℕ) (d : Entry) (w new : Waits) → k < length es → take (k + 1) es ≡ take k es ++ get_or es k d ∷ []
    → place ≡ k + 1 → new ≡ noted w place (get_or es k d) → w ≡ waits_in s es k → new ≡ waits_in s es (k + 1)
waits_more s es k place d w new below more at is before =
    is ∙ ap (λ (n : ℕ). noted w n (get_or es k d)) at
    ∙ ap (λ (x : Waits). noted x (k + 1) (get_or es k d)) before
    ∙ ap (λ (o : Option Entry). option_map_or (noted (waits_in s es k) (k + 1)) o (waits_in s es k)) (sym (slice_get-get_or es k d below))
    ∙ sym (waits_further s es k)

pub waits_none : (s : System) (es : List Entry) (w : Waits) → w ≡ no_waits (actor_count s) → w ≡ waits_in s es 0
unfolding waits_in
waits_none s es w none = none
