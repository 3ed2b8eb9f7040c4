-- Bytes of one piece, read as bytes of the memory, and copied into another piece.
use Rattle.std.proofs.Common.{ℕ, zero, suc, ◌≡◌, ◌<◌, ◌≤◌, ◌+◌, ◌-◌, true, List, [], ◌∷◌, ◌++◌, length, get_or, set, take, drop, arith, ◌∙◌, ap, sym, refl, drop-cons, subst, length-append}
use Rattle.std.specs.Prelude.{slice_index}
use Rattle.std.proofs.lemmas.List.{get_or_default, get_or_append_left, get_or-append-add, set-append_left, set-append_right}
use Rattle.std.proofs.lemmas.Bool.Decides.{nat_tests}
use Rattle.std.proofs.lemmas.List.Folds.{list_all-map}
use Rattle.std.proofs.lemmas.Bool.{and_parts}
use Rattle.ffm_model.specs.declared.scenario.Bytes.{Bytes}
use Rattle.ffm_model.specs.Memory.{ByteMap, write_bytes, bytes_at, copy_bytes}
use Rattle.ffm_model.specs.WellFormed.{each_pair}
use Rattle.ffm_model.specs.Ranges.{has_range, share_no_byte}
use Rattle.memory_image.specs.Pieces.{byte_at, range_of, IsPut, regions_of}
use Rattle.ffm_model.proofs.TestLemmas.{holds_at}
use Rattle.memory_image.proofs.Stored.{stored, regions-kept}

read_after : (p r : Bytes) (ps : List Bytes) (x n : ℕ) → share_no_byte (range_of p) (range_of r) ≡ true → has_range x 1 (range_of r) ≡ true
    → byte_at ps x ≡ n → byte_at (p ∷ ps) x ≡ n
read_after p r ps x n apart range rest = rw rest (grind (arith, nat_tests))

-- the byte at an address is that of the piece that has it
pub byte_of : (ps : List Bytes) (i : ℕ) (d : Bytes) (x : ℕ) → i < length ps → each_pair share_no_byte (regions_of ps) ≡ true
    → has_range x 1 (range_of (get_or ps i d)) ≡ true → byte_at ps x ≡ slice_index (get_or ps i d).content (x - (get_or ps i d).address)
byte_of [] i d x below apart range = absurd (omega arith)
byte_of (p ∷ ps) zero d x below apart range = grind (arith, nat_tests)
byte_of (p ∷ ps) (suc i) d x below apart range =
    let inside : i < length ps = omega arith in
    let apart_from : share_no_byte (range_of p) (range_of (get_or ps i d)) ≡ true =
    holds_at (λ r. share_no_byte (range_of p) (range_of r)) ps i d inside (sym (list_all-map (share_no_byte (range_of p)) range_of ps) ∙ (and_parts _ _ apart).0) in
    read_after p (get_or ps i d) ps x _ apart_from range (byte_of ps i d x inside (and_parts _ _ apart).1 range)

-- a part of a list that the memory agrees with
part_read : (m : ByteMap) (c : List ℕ) (o at len : ℕ) → o + len ≤ length c → ((x y : ℕ) → at ≤ x → x < at + len → x + o ≡ y + at → m x ≡ slice_index c y)
    → take len (drop o c) ≡ bytes_at m at len
part_read m c o at zero within same = refl
part_read m c o at (suc n) within same =
    let here : o < length c = omega arith in
    let first : m at ≡ get_or c o 0 = same at o (omega arith) (omega arith) (omega arith) in
    let rest : take n (drop (suc o) c) ≡ bytes_at m (at + 1) n =
    part_read m c (suc o) (at + 1) n (omega arith) (λ x y low high e. same x y (omega arith) (omega arith) (omega arith)) in
    ap (take (suc n)) (drop-cons c o 0 here) ∙ ap (λ xs. get_or c o 0 ∷ xs) rest ∙ ap (λ b. b ∷ bytes_at m (at + 1) n) (sym first)

piece_read : (m : ByteMap) (p : Bytes) (at len : ℕ) → has_range at len (range_of p) ≡ true
    → ((x : ℕ) → has_range x 1 (range_of p) ≡ true → m x ≡ slice_index p.content (x - p.address))
    → take len (drop (at - p.address) p.content) ≡ bytes_at m at len
piece_read m p at len range same =
    let low : p.address ≤ at = grind (arith, nat_tests) in
    let high : at + len ≤ p.address + length p.content = grind (arith, nat_tests) in
    part_read m p.content (at - p.address) at len (omega arith)
    (λ x y from to e.
    let place : x - p.address ≡ y = omega arith in
    let has : has_range x 1 (range_of p) ≡ true = grind (arith, nat_tests) in
    same x has ∙ ap (slice_index p.content) place)

-- the bytes of a range are those of the piece that has it
pub bytes_of : (ps : List Bytes) (i : ℕ) (d : Bytes) (at len : ℕ) → i < length ps → each_pair share_no_byte (regions_of ps) ≡ true
    → has_range at len (range_of (get_or ps i d)) ≡ true → take len (drop (at - (get_or ps i d).address) (get_or ps i d).content) ≡ bytes_at (byte_at ps) at len
bytes_of ps i d at len below apart range = piece_read (byte_at ps) (get_or ps i d) at len range (λ x has. byte_of ps i d x below apart has)

-- bytes that are read in one piece and put into another are copied
pub copied : (ps : List Bytes) (i j : ℕ) (q d e : Bytes) (from to len : ℕ) → i < length ps → j < length ps → each_pair share_no_byte (regions_of ps) ≡ true
    → has_range from len (range_of (get_or ps i d)) ≡ true → IsPut (get_or ps j e) q to (take len (drop (from - (get_or ps i d).address) (get_or ps i d).content))
    → (x : ℕ) → byte_at (set ps j q) x ≡ copy_bytes (byte_at ps) from to len x
copied ps i j q d e from to len source target apart range put x =
    stored ps j q e to _ target apart put x ∙ ap (λ bytes. write_bytes (byte_at ps) to bytes x) (bytes_of ps i d from len source apart range)

-- a piece is the same whatever stands for a missing one
pub range_at : (ps : List Bytes) (i : ℕ) (d e : Bytes) (at len : ℕ) → i < length ps → has_range at len (range_of (get_or ps i d)) ≡ true → has_range at len (range_of (get_or ps i e)) ≡ true
range_at ps i d e at len below range = ap (λ p. has_range at len (range_of p)) (get_or_default ps i e d below) ∙ range

pub bytes_read : (ps : List Bytes) (i : ℕ) (p d : Bytes) (at len : ℕ) → i < length ps → each_pair share_no_byte (regions_of ps) ≡ true
    → has_range at len (range_of (get_or ps i d)) ≡ true → p ≡ get_or ps i p → take len (drop (at - p.address) p.content) ≡ bytes_at (byte_at ps) at len
bytes_read ps i p d at len below apart range is =
    ap (λ r. take len (drop (at - r.address) r.content)) is ∙ bytes_of ps i p at len below apart (range_at ps i d p at len below range)

-- the same over a piece p that is read, and a piece r that is put to
copied_at : (ps qs : List Bytes) (i j : ℕ) (p r q d : Bytes) (bytes : List ℕ) (from to len : ℕ) → i < length ps → j < length ps → each_pair share_no_byte (regions_of ps) ≡ true
    → has_range from len (range_of (get_or ps i d)) ≡ true → p ≡ get_or ps i d → r ≡ get_or ps j d
    → bytes ≡ take len (drop (from - p.address) p.content) → IsPut r q to bytes → set ps j q ≡ qs
    → (x : ℕ) → byte_at qs x ≡ copy_bytes (byte_at ps) from to len x
copied_at ps qs i j p r q d bytes from to len source target apart range p_is r_is bytes_are put set_is x =
    let put_there : IsPut (get_or ps j d) q to bytes = subst (λ e. IsPut e q to bytes) r_is put in
    let read : bytes ≡ bytes_at (byte_at ps) from len =
    bytes_are ∙ ap (λ e. take len (drop (from - e.address) e.content)) p_is ∙ bytes_of ps i d from len source apart range in
    ap (λ rs. byte_at rs x) (sym set_is) ∙ stored ps j q d to bytes target apart put_there x ∙ ap (λ bs. write_bytes (byte_at ps) to bs x) read

in_front : (ps front back : List Bytes) (j k : ℕ) (d e : Bytes) → ps ≡ front ++ back → length front ≡ k → j < k → get_or front j e ≡ get_or ps j d
in_front ps front back j k d e split long below =
    let inside : j < length front = omega arith in
    get_or_default front j e d inside ∙ sym (get_or_append_left front back d j inside) ∙ ap (λ rs. get_or rs j d) (sym split)

in_back : (ps front back : List Bytes) (k : ℕ) (d e : Bytes) → ps ≡ front ++ back → length front ≡ k → k < length ps → get_or back 0 e ≡ get_or ps k d
in_back ps front back k d e split long below =
    let place : length front + 0 ≡ k = omega arith in
    sym (get_or-append-add front back 0 e) ∙ ap (get_or (front ++ back) (length front + 0)) refl ∙ ap (λ n. get_or (front ++ back) n e) place
    ∙ ap (λ rs. get_or rs k e) (sym split) ∙ get_or_default ps k e d below

set_front : (ps front back : List Bytes) (j k : ℕ) (q : Bytes) → ps ≡ front ++ back → length front ≡ k → j < k → set ps j q ≡ set front j q ++ back
set_front ps front back j k q split long below =
    let inside : j < length front = omega arith in
    ap (λ rs. set rs j q) split ∙ set-append_left front back j q inside

set_back : (ps front back : List Bytes) (k : ℕ) (q : Bytes) → ps ≡ front ++ back → length front ≡ k → set ps k q ≡ front ++ set back 0 q
set_back ps front back k q split long =
    let none : k - k ≡ 0 = omega arith in
    ap (λ rs. set rs k q) split ∙ set-append_right front back k k q long (omega arith) ∙ ap (λ n. front ++ set back n q) none

-- from a piece to a later one, where the pieces are split before the later one
pub copied_forward : (ps front back : List Bytes) (i j : ℕ) (s t q d : Bytes) (bytes : List ℕ) (from to len : ℕ) → ps ≡ front ++ back → length front ≡ j → i < j → j < length ps
    → each_pair share_no_byte (regions_of ps) ≡ true → has_range from len (range_of (get_or ps i d)) ≡ true
    → bytes ≡ take len (drop (from - (get_or front i s).address) (get_or front i s).content) → IsPut (get_or back 0 t) q to bytes
    → (x : ℕ) → byte_at (front ++ set back 0 q) x ≡ copy_bytes (byte_at ps) from to len x
copied_forward ps front back i j s t q d bytes from to len split long before below apart range bytes_are put =
    copied_at ps (front ++ set back 0 q) i j (get_or front i s) (get_or back 0 t) q d bytes from to len (omega arith) below apart range
    (in_front ps front back i j d s split long before) (in_back ps front back j d t split long below) bytes_are put (set_back ps front back j q split long)

-- from a piece to an earlier one, where the pieces are split before the later one
pub copied_back : (ps front back : List Bytes) (i j : ℕ) (s t q d : Bytes) (bytes : List ℕ) (from to len : ℕ) → ps ≡ front ++ back → length front ≡ i → j < i → i < length ps
    → each_pair share_no_byte (regions_of ps) ≡ true → has_range from len (range_of (get_or ps i d)) ≡ true
    → bytes ≡ take len (drop (from - (get_or back 0 s).address) (get_or back 0 s).content) → IsPut (get_or front j t) q to bytes
    → (x : ℕ) → byte_at (set front j q ++ back) x ≡ copy_bytes (byte_at ps) from to len x
copied_back ps front back i j s t q d bytes from to len split long before below apart range bytes_are put =
    copied_at ps (set front j q ++ back) i j (get_or back 0 s) (get_or front j t) q d bytes from to len below (omega arith) apart range
    (in_back ps front back i d s split long below) (in_front ps front back j i d t split long before) bytes_are put (set_front ps front back j i q split long before)

-- the regions stay where a piece of the front is changed
pub front_kept : (ps front back : List Bytes) (j k : ℕ) (q d : Bytes) → ps ≡ front ++ back → length front ≡ k → j < k → range_of q ≡ range_of (get_or front j d)
    → regions_of (set front j q ++ back) ≡ regions_of ps
front_kept ps front back j k q d split long before same =
    let inside : j < length ps = rw split (omega (arith, length-append {A = Bytes})) in
    ap regions_of (sym (set_front ps front back j k q split long before))
    ∙ regions-kept ps j q d inside (same ∙ ap range_of (in_front ps front back j k d d split long before))
