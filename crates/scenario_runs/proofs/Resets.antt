-- Memory of which the MMIO regions are as another one's, region by region.
use Rattle.std.proofs.Common.{ℕ, zero, suc, ◌≡◌, ◌<◌, ◌+◌, ◌-◌, Bool, true, false, List, [], ◌∷◌, ◌++◌, length, get_or, refl, sym, arith}
use Rattle.std.specs.Prelude.{◌&&◌, ◌||◌, slice_index, if◌then◌else◌, Option, Some, None}
use Rattle.std.specs.Option.{option_map, option_map_or}
use Rattle.std.specs.List.{list_any}
use Rattle.std.proofs.lemmas.List.Folds.{list_any-append}
use Rattle.std.proofs.Math.Path.{fun_ext}
use Rattle.std.proofs.lemmas.Bool.{or_right}
use Rattle.law_lists.proofs.Bools.{or_false}
use Rattle.memory_image.proofs.Compared.{has_itself}
use Rattle.ffm_model.proofs.BytesLemmas.{byte-there, bytes-length}
use Rattle.ffm_model.specs.declared.system.Region.{Region}
use Rattle.ffm_model.specs.Memory.{ByteMap, bytes_at, write_bytes}
use Rattle.ffm_model.specs.Reach.{covers}
use Rattle.ffm_model.specs.Restarts.{is_mmio}
use Rattle.ffm_model.specs.State.{State}
use Rattle.ffm_model.specs.Ranges.{has_range, ranges_of}
use Rattle.memory_image.specs.Pieces.{is_inside}

-- the last bytes in the MMIO regions among these, and else the first ones
abbrev pub reset_in : List Region → ByteMap → ByteMap → ByteMap
reset_in rs first last x = if list_any (λ r. is_mmio r.class && covers r x) rs then last x else first x

-- ---- one region more

put_or_kept : (a b : Bool) (u l f : ℕ) → (b ≡ true → u ≡ l) → (if b then u else (if a then l else f)) ≡ (if a || (b || false) then l else f)
put_or_kept true true u l f put = put refl
put_or_kept true false u l f put = refl
put_or_kept false true u l f put = put refl
put_or_kept false false u l f put = refl

-- an MMIO region's bytes are put
pub mmio_more : (rs : List Region) (r : Region) (first last : ByteMap) → is_mmio r.class ≡ true → write_bytes (reset_in rs first last) r.base (bytes_at last r.base r.size) ≡ reset_in (rs ++ r ∷ []) first last
mmio_more rs r first last mmio = fun_ext (λ x.
    let p : Region → Bool = λ q. is_mmio q.class && covers q x in
    rw (bytes-length last r.base r.size, list_any-append p rs (r ∷ []), mmio)
    (put_or_kept (list_any p rs) (covers r x) (slice_index (bytes_at last r.base r.size) (x - r.base)) (last x) (first x) (byte-there last r.base r.size x)))

-- any other region is as it was first
pub other_more : (rs : List Region) (r : Region) (first last : ByteMap) → is_mmio r.class ≡ false → reset_in rs first last ≡ reset_in (rs ++ r ∷ []) first last
other_more rs r first last other = fun_ext (λ x.
    let p : Region → Bool = λ q. is_mmio q.class && covers q x in
    rw (list_any-append p rs (r ∷ []), other, or_false (list_any p rs)) refl)

-- ---- a region of an image

inside_some : (rs : List Region) (i : ℕ) (d : Region) → i < length rs → list_any (has_range (get_or rs i d).base (get_or rs i d).size) (ranges_of rs) ≡ true
inside_some [] i d lt = absurd (omega arith)
inside_some (r ∷ rs) zero d lt = rw (has_itself r.base r.size) refl
inside_some (r ∷ rs) (suc i) d lt = or_right (has_range (get_or rs i d).base (get_or rs i d).size (r.base, r.size)) _ (inside_some rs i d (omega arith))

-- each region lies inside whole
pub region_inside : (rs : List Region) (i : ℕ) (d : Region) → i < length rs → is_inside (get_or rs i d).base (get_or rs i d).size (ranges_of rs) ≡ true
region_inside rs i d lt = or_right _ _ (inside_some rs i d lt)

-- ---- the memory that a run leaves

pub memory_left : (o : Option State) (left first : ByteMap) → option_map (λ st. st.memory) o ≡ Some left → left ≡ option_map_or (λ st. st.memory) o first
memory_left (Some st) left first e = let same : st.memory ≡ left = cc in sym same
memory_left None left first e = cc
