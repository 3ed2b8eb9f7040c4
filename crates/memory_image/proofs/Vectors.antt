-- Vectors that are read, their descriptors, and the lengths that are written of them.
use Rattle.std.proofs.Common.{ℕ, zero, suc, ◌≡◌, ◌<◌, ◌≤◌, ◌+◌, ◌*◌, true, List, ◌∷◌, length, get_or, drop, arith, ◌∙◌, ap, sym, add-one, drop-cons}
use Rattle.std.specs.Prelude.{All, min}
use Rattle.std.specs.List.{list_all}
use Rattle.std.proofs.lemmas.List.Elements.{All-append, All-replicate, All-take, All-cons, All-same}
use Rattle.ffm_model.specs.declared.system.System.{System}
use Rattle.ffm_model.specs.declared.objects.Span.{Span}
use Rattle.ffm_model.specs.Memory.{ByteMap, spans_at, vectors_read, no_span, valid_buffer, lengths_written, store_number}
use Rattle.ffm_model.specs.Ranges.{ranges_of}
use Rattle.ffm_model.proofs.TestLemmas.{holds_at}
use Rattle.memory_image.specs.Pieces.{fit_an_image, is_inside}
use Rattle.memory_image.proofs.Stored.{ends_below, part_inside}
use Rattle.memory_image.proofs.Systems.{buffer_inside}

spans_unmoved : (m : ByteMap) (a n : ℕ) → All (λ v. v.moved ≤ v.len) (spans_at m a n)
spans_unmoved m a zero = λ k d below. absurd (omega arith)
spans_unmoved m a (suc n) = All-cons (λ v. v.moved ≤ v.len) _ _ (omega arith) (spans_unmoved m (a + 8) n)

-- nothing is moved yet of vectors that are read
pub vectors_unmoved : (m : ByteMap) (a n : ℕ) (vs : List Span) → vs ≡ vectors_read m a n → All (λ v. v.moved ≤ v.len) vs
vectors_unmoved m a n vs is =
    All-same (λ v. v.moved ≤ v.len) _ _ is
    (All-take (λ v. v.moved ≤ v.len) 4 _ (All-append (λ v. v.moved ≤ v.len) _ _ (spans_unmoved m a (min n 4)) (All-replicate (λ v. v.moved ≤ v.len) 4 no_span (omega arith))))

-- vectors that are valid buffers lie inside
pub vectors_inside : (s : System) (a : ℕ) (vs : List Span) → list_all (λ v. valid_buffer s a v.base v.len) vs ≡ true → All (λ v. is_inside v.base v.len (ranges_of s.regions) ≡ true) vs
vectors_inside s a vs valid = λ k d below. buffer_inside s a _ _ (holds_at (λ v. valid_buffer s a v.base v.len) vs k d below valid)

-- each descriptor lies where all of them lie
pub descriptor_inside : (at count k : ℕ) (regions : List (ℕ × ℕ)) → k < count → is_inside at (8 * count) regions ≡ true → is_inside (at + 8 * k) 8 regions ≡ true
descriptor_inside at count k regions below inside = part_inside at (8 * count) (at + 8 * k) 8 regions (omega arith) (omega arith) inside

-- and ends by 2^32
pub descriptor_ends : (at k : ℕ) (regions : List (ℕ × ℕ)) → fit_an_image regions ≡ true → is_inside (at + 8 * k) 8 regions ≡ true → at + 8 * k + 8 ≤ 4294967296
descriptor_ends at k regions fits inside = ends_below (at + 8 * k) 8 regions fits inside (omega arith)

-- one more length is written
pub lengths_step : (m n all : ByteMap) (at k : ℕ) (v : Span) (vs : List Span) → k < length vs → v ≡ get_or vs k no_span → n ≡ store_number m (at + 8 * k + 4) 4 v.moved
    → lengths_written m (at + 8 * k) (drop k vs) ≡ all → lengths_written n (at + 8 * (k + 1)) (drop (k + 1) vs) ≡ all
lengths_step m n all at k v vs below is stored so_far =
    let next : at + 8 * (k + 1) ≡ (at + 8 * k) + 8 = omega arith in
    let front : drop k vs ≡ get_or vs k no_span ∷ drop (k + 1) vs = rw add-one (drop-cons vs k no_span below) in
    ap (λ x. lengths_written x (at + 8 * (k + 1)) (drop (k + 1) vs)) (stored ∙ ap (λ w. store_number m (at + 8 * k + 4) 4 w.moved) is)
    ∙ ap (λ a. lengths_written (store_number m (at + 8 * k + 4) 4 (get_or vs k no_span).moved) a (drop (k + 1) vs)) next
    ∙ ap (lengths_written m (at + 8 * k)) (sym front) ∙ so_far

-- the next bytes of a vector lie in the same region
pub next_inside : (regions : List (ℕ × ℕ)) (v : Span) (at n : ℕ) → at ≡ v.base + v.moved → v.moved + n ≤ v.len → is_inside v.base v.len regions ≡ true → is_inside at n regions ≡ true
next_inside regions v at n is fits inside = part_inside v.base v.len at n regions (omega arith) (omega arith) inside
