-- What contracts see of a table: the partition for which it was made, and the messages that it holds.
-- Source: FF-M 1.1, mapped vectors (MM-IOVEC).
use Rattle.std.specs.Prelude.{◌≡◌, true, not, ◌&&◌, ◌||◌, Bool, List, length, nat_le, nat_lt}
use Rattle.std.specs.List.{list_all}
use Rattle.ffm_model.specs.Held.{Holder, HeldMessage, is_mapped, most_held, window_size}

pub record HeldView : Type 0 where
  pub holder : Holder
  pub table : List HeldMessage

abbrev pub is_output_unmapped : HeldMessage → Bool
is_output_unmapped m = list_all (λ v. not (is_mapped v.state)) m.output

-- where the heap is too small for windows, no output vector is mapped
abbrev pub HasWindows : Holder → List HeldMessage → Type 0
HasWindows p t = window_size p ≡ 0 → list_all is_output_unmapped t ≡ true

-- whether a partition can hold these messages: no more than there may be, and windows for the outputs that are mapped
abbrev pub can_hold : Holder → List HeldMessage → Bool
can_hold p t = nat_le (length t) most_held && (nat_lt 0 (window_size p) || list_all is_output_unmapped t)
