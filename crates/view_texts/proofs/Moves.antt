-- What a trace moves, one entry further.
use Rattle.std.proofs.Common.{ℕ, ◌≡◌, ◌<◌, ◌+◌, ◌∙◌, List, add-one, ap, get_or, length, sym, take, []}
use Rattle.std.proofs.lemmas.Option.{slice_get-get_or}
use Rattle.std.specs.Prelude.{Option, Some, option_and_then, slice_get}
use Rattle.ffm_model.specs.declared.machine.Entry.{Entry}
use Rattle.ffm_model.specs.declared.system.System.{System}
use Rattle.ffm_model.specs.Memory.{ByteMap}
use Rattle.ffm_model.specs.State.{State}
use Rattle.ffm_model.specs.Step.{after}
use Rattle.view_texts.specs.declared.counts.Moved.{Moved}
use Rattle.view_texts.specs.Moves.{move_at, move_of, moved_in, with_move}

next_move : (s : System) (m : ByteMap) (es : List Entry) (k : ℕ) (d : Entry) (st : State) → k < length es → after s m (take k es) ≡ Some st
    → move_at s m es k ≡ move_of s st.spm (get_or es k d)
next_move s m es k d st below here =
    ap (λ (o : Option State). option_and_then (λ x. option_and_then (move_of s x.spm) (slice_get es k)) o) here
    ∙ ap (option_and_then (move_of s st.spm)) (slice_get-get_or es k d below)

moved_further : (s : System) (m : ByteMap) (es : List Entry) (k : ℕ) → moved_in s m es (k + 1) ≡ with_move (moved_in s m es k) (move_at s m es k)
unfolding moved_in
moved_further s m es k = ap (moved_in s m es) (add-one k)

-- the rows with what the entry moved
pub moved_more : (s : System) (m : ByteMap) (es : List Entry) (k : ℕ) (d : Entry) (st : State) (rows new : List Moved) → k < length es → after s m (take k es) ≡ Some st
    → new ≡ with_move rows (move_of s st.spm (get_or es k d)) → rows ≡ moved_in s m es k → new ≡ moved_in s m es (k + 1)
moved_more s m es k d st rows new below here is before =
    is ∙ ap (λ (xs : List Moved). with_move xs (move_of s st.spm (get_or es k d))) before
    ∙ ap (with_move (moved_in s m es k)) (sym (next_move s m es k d st below here)) ∙ sym (moved_further s m es k)

pub moved_none : (s : System) (m : ByteMap) (es : List Entry) (rows : List Moved) → rows ≡ [] → rows ≡ moved_in s m es 0
unfolding moved_in
moved_none s m es rows none = none
