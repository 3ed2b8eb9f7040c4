-- Which bytes copies, lengths and descriptors read and change.
use Rattle.std.proofs.Common.{ℕ, zero, suc, ◌≡◌, ◌+◌, Bool, true, false, ◌&&◌, ◌||◌, List, [], ◌∷◌, length, arith, ◌∙◌, ap, sym, refl, inl, inr, ◌*◌, ◌++◌, take}
use Rattle.std.specs.Prelude.{nat_le, ◌==◌, min, replicate, if◌then◌else◌, Option, Some, None}
use Rattle.std.specs.List.{list_all}
use Rattle.std.proofs.lemmas.Bool.Decides.{nat_tests}
use Rattle.memory_image.proofs.Outside.{write_bytes-outside}
use Rattle.memory_image.proofs.Systems.{class-covers}
use Rattle.ffm_model.specs.declared.system.System.{System}
use Rattle.ffm_model.specs.declared.constants.TheConstants.{PSA_MAX_IOVEC}
use Rattle.ffm_model.specs.declared.objects.Span.{Span}
use Rattle.ffm_model.specs.declared.objects.Vectors.{Vectors}
use Rattle.ffm_model.specs.Memory.{ByteMap, write_bytes, store_number, low_bytes, copy_bytes, bytes_at, span_at, spans_at, vectors_read, vectors_of, valid_buffer, is_ram_of, lengths_written, no_span, number_of, load_number}
use Rattle.ffm_model.proofs.BytesLemmas.{bytes-same}
use Rattle.memory_image.specs.Differences.{range_covers}
use Rattle.message_vectors.specs.Bytes.{ram_has, AgreeWhere, TellsNothingAt}

-- where the same bytes are put
pub write_bytes-tells : (one other : ByteMap) (a : ℕ) (bs : List ℕ) (x : ℕ) → TellsNothingAt x one other (write_bytes one a bs) (write_bytes other a bs)
write_bytes-tells one other a bs x = by_test (range_covers (a, length bs) x) refl where
  by_test : (b : Bool) → range_covers (a, length bs) x ≡ b → TellsNothingAt x one other (write_bytes one a bs) (write_bytes other a bs)
  by_test true inside = inl (rw inside refl)
  by_test false outside = inr (write_bytes-outside one a bs _ x refl outside, write_bytes-outside other a bs _ x refl outside)

-- bytes of memories that agree there
pub bytes_at-same : (one other : ByteMap) (a len : ℕ) → AgreeWhere (λ x. range_covers (a, len) x) one other → bytes_at one a len ≡ bytes_at other a len
bytes_at-same one other a len same = bytes-same one other a a len (λ i lt. same (a + i) (grind (arith, nat_tests)))

-- a number is read from its own bytes alone
pub load_number-same : (one other : ByteMap) (at size : ℕ) → AgreeWhere (λ x. range_covers (at, size) x) one other → load_number one at size ≡ load_number other at size
load_number-same one other at size same = ap number_of (bytes_at-same one other at size same)

-- a copy reads its source alone
pub copy_bytes-tells : (one other : ByteMap) (from to len x : ℕ) → AgreeWhere (λ y. range_covers (from, len) y) one other
    → TellsNothingAt x one other (copy_bytes one from to len) (copy_bytes other from to len)
copy_bytes-tells one other from to len x same = rw (bytes_at-same one other from len same) (write_bytes-tells one other to (bytes_at other from len) x)

pub tells-then : (x : ℕ) (one other one_next other_next one_after other_after : ByteMap) → TellsNothingAt x one other one_next other_next
    → TellsNothingAt x one_next other_next one_after other_after → TellsNothingAt x one other one_after other_after
tells-then x one other one_next other_next one_after other_after first (inl same) = inl same
tells-then x one other one_next other_next one_after other_after (inl same) (inr kept) = inl (kept.0 ∙ same ∙ sym kept.1)
tells-then x one other one_next other_next one_after other_after (inr before) (inr kept) = inr (kept.0 ∙ before.0, kept.1 ∙ before.1)

-- and reads none
pub lengths_written-tells : (one other : ByteMap) (at x : ℕ) (vs : List Span) → TellsNothingAt x one other (lengths_written one at vs) (lengths_written other at vs)
lengths_written-tells one other at x [] = inr (refl, refl)
lengths_written-tells one other at x (v ∷ vs) =
    tells-then x one other (store_number one (at + 4) 4 v.moved) (store_number other (at + 4) 4 v.moved)
    (lengths_written (store_number one (at + 4) 4 v.moved) (at + 8) vs) (lengths_written (store_number other (at + 4) 4 v.moved) (at + 8) vs)
    (write_bytes-tells one other (at + 4) (low_bytes 4 v.moved) x)
    (lengths_written-tells (store_number one (at + 4) 4 v.moved) (store_number other (at + 4) 4 v.moved) (at + 8) x vs)

-- each byte of a valid buffer lies in the actor's RAM
pub buffer-ram : (s : System) (a base len x : ℕ) → valid_buffer s a base len ≡ true → range_covers (base, len) x ≡ true → ram_has s a x ≡ true
buffer-ram s a base len x valid inside = class-covers (is_ram_of s a) base len x s.regions inside (second (len == 0) _ valid some) where
  some : (len == 0) ≡ false
  some = grind (arith, nat_tests)

  second : (b c : Bool) → (b || c) ≡ true → b ≡ false → c ≡ true
  second true c h none = cc
  second false c h none = h

span_at-same : (one other : ByteMap) (a : ℕ) → AgreeWhere (λ x. range_covers (a, 8) x) one other → span_at one a ≡ span_at other a
span_at-same one other a same = both (load_number one a 4) (load_number other a 4) _ _ base len where
  span : ℕ → ℕ → Span
  span b l = record { base = b; len = l; moved = 0 }

  base : load_number one a 4 ≡ load_number other a 4
  base = load_number-same one other a 4 (λ x h. same x (grind (arith, nat_tests)))

  len : load_number one (a + 4) 4 ≡ load_number other (a + 4) 4
  len = load_number-same one other (a + 4) 4 (λ x h. same x (grind (arith, nat_tests)))

  both : (b c l n : ℕ) → b ≡ c → l ≡ n → span b l ≡ span c n
  both b c l n base len = ap (λ x. span x l) base ∙ ap (span c) len

spans_at-same : (one other : ByteMap) (a n : ℕ) → AgreeWhere (λ x. range_covers (a, 8 * n) x) one other → spans_at one a n ≡ spans_at other a n
spans_at-same one other a zero same = refl
spans_at-same one other a (suc n) same =
    let here : span_at one a ≡ span_at other a = span_at-same one other a (λ x h. same x (grind (arith, nat_tests))) in
    let rest : spans_at one (a + 8) n ≡ spans_at other (a + 8) n = spans_at-same one other (a + 8) n (λ x h. same x (grind (arith, nat_tests))) in
    rw (here, rest) refl

vectors_read-same : (one other : ByteMap) (a n : ℕ) → AgreeWhere (λ x. range_covers (a, 8 * n) x) one other → vectors_read one a n ≡ vectors_read other a n
vectors_read-same one other a n same =
    ap (λ spans. take 4 (spans ++ replicate 4 no_span)) (spans_at-same one other a (min n 4) (λ x h. same x (grind (arith, nat_tests))))

none_given : (few valid all : Bool) (one : Option Vectors) → valid ≡ false → if few && valid && all then one else None ≡ None
none_given true true all one h = cc
none_given true false all one h = refl
none_given false valid all one h = refl

-- the vectors of a call are read in the actor's RAM
pub vectors_of-same : (s : System) (one other : ByteMap) (a in_vec in_len out_vec out_len : ℕ) → AgreeWhere (ram_has s a) one other
    → vectors_of s one a in_vec in_len out_vec out_len ≡ vectors_of s other a in_vec in_len out_vec out_len
vectors_of-same s one other a in_vec in_len out_vec out_len same = by_tests _ _ refl refl where
  vectors_with : List Span → List Span → Option Vectors
  vectors_with inputs outputs =
      if nat_le (in_len + out_len) PSA_MAX_IOVEC
      && (valid_buffer s a in_vec (8 * in_len) && valid_buffer s a out_vec (8 * out_len))
      && (list_all (λ v. valid_buffer s a v.base v.len) inputs && list_all (λ v. valid_buffer s a v.base v.len) outputs)
      then Some (record { input = inputs; output = outputs; out_vec = out_vec; out_len = out_len })
      else None

  none : (m : ByteMap) → (valid_buffer s a in_vec (8 * in_len) && valid_buffer s a out_vec (8 * out_len)) ≡ false → vectors_of s m a in_vec in_len out_vec out_len ≡ None
  none m invalid = none_given (nat_le (in_len + out_len) PSA_MAX_IOVEC) _ _ _ invalid

  by_tests : (b c : Bool) → valid_buffer s a in_vec (8 * in_len) ≡ b → valid_buffer s a out_vec (8 * out_len) ≡ c
      → vectors_of s one a in_vec in_len out_vec out_len ≡ vectors_of s other a in_vec in_len out_vec out_len
  by_tests false c first second = none one (rw first refl) ∙ sym (none other (rw first refl))
  by_tests true false first second = none one (rw (first, second) refl) ∙ sym (none other (rw (first, second) refl))
  by_tests true true first second =
      let inputs : vectors_read one in_vec in_len ≡ vectors_read other in_vec in_len =
      vectors_read-same one other in_vec in_len (λ x inside. same x (buffer-ram s a in_vec (8 * in_len) x first inside)) in
      let outputs : vectors_read one out_vec out_len ≡ vectors_read other out_vec out_len =
      vectors_read-same one other out_vec out_len (λ x inside. same x (buffer-ram s a out_vec (8 * out_len) x second inside)) in
      ap (λ vs. vectors_with vs (vectors_read one out_vec out_len)) inputs ∙ ap (λ vs. vectors_with (vectors_read other in_vec in_len) vs) outputs
