-- The condition on vectors, through each call.
use Rattle.std.proofs.Common.{ℕ, ◌≡◌, ◌<◌, ◌≤◌, ◌*◌, true, List, length, get_or, set, arith}
use Rattle.std.specs.Prelude.{All}
use Rattle.std.specs.List.{list_all}
use Rattle.std.proofs.lemmas.List.Elements.{All-set}
use Rattle.ffm_model.specs.declared.system.System.{System}
use Rattle.ffm_model.specs.declared.objects.Span.{Span}
use Rattle.ffm_model.specs.declared.objects.Vectors.{Vectors}
use Rattle.ffm_model.specs.Memory.{ByteMap, vectors_read, no_span, valid_buffer}
use Rattle.ffm_model.specs.ServiceCalls.{moved_by, rest_of, input_of, output_of, with_input_moved, with_output_moved}
use Rattle.ffm_model.specs.Ranges.{ranges_of}
use Rattle.memory_image.specs.Pieces.{is_inside}
use Rattle.memory_image.proofs.Systems.{buffer_inside}
use Rattle.memory_image.proofs.Vectors.{descriptor_inside, vectors_inside, vectors_unmoved}
use Rattle.machine_rules.specs.Vectors.{AreWithin}

-- vectors that were read meet the condition
pub read_within : (s : System) (m : ByteMap) (a in_vec in_len out_vec out_len : ℕ) (input output : List Span) → out_len ≤ 4 → valid_buffer s a out_vec (8 * out_len) ≡ true
    → input ≡ vectors_read m in_vec in_len → output ≡ vectors_read m out_vec out_len
    → list_all (λ v. valid_buffer s a v.base v.len) input ≡ true → list_all (λ v. valid_buffer s a v.base v.len) output ≡ true
    → AreWithin (ranges_of s.regions) (record { input = input; output = output; out_vec = out_vec; out_len = out_len })
read_within s m a in_vec in_len out_vec out_len input output few descriptors input_is output_is inputs outputs = record {
  few = few;
  inputs = vectors_inside s a input inputs;
  outputs = vectors_inside s a output outputs;
  moved = record { inputs = vectors_unmoved m in_vec in_len input input_is; outputs = vectors_unmoved m out_vec out_len output output_is };
  descriptors = λ k below. descriptor_inside out_vec out_len k (ranges_of s.regions) below (buffer_inside s a out_vec (8 * out_len) descriptors);
}

-- no more than the rest is moved
moved_kept : (vs : List Span) (i n : ℕ) → i < length vs → n ≤ rest_of (get_or vs i no_span) → All (λ v. v.moved ≤ v.len) vs
    → All (λ v. v.moved ≤ v.len) (set vs i (moved_by (get_or vs i no_span) n))
moved_kept vs i n below fits moved =
    let own : (get_or vs i no_span).moved ≤ (get_or vs i no_span).len = moved i no_span below in
    All-set (λ v. v.moved ≤ v.len) vs i (moved_by (get_or vs i no_span) n) (omega arith) moved

-- a vector lies where it lay
place_kept : (regions : List (ℕ × ℕ)) (vs : List Span) (i n : ℕ) → i < length vs → All (λ v. is_inside v.base v.len regions ≡ true) vs
    → All (λ v. is_inside v.base v.len regions ≡ true) (set vs i (moved_by (get_or vs i no_span) n))
place_kept regions vs i n below inside = All-set (λ v. is_inside v.base v.len regions ≡ true) vs i (moved_by (get_or vs i no_span) n) (inside i no_span below) inside

pub input_within : (regions : List (ℕ × ℕ)) (v : Vectors) (i n : ℕ) → i < length v.input → n ≤ rest_of (input_of v i) → AreWithin regions v → AreWithin regions (with_input_moved v i n)
input_within regions v i n below fits within = record {
  few = within.few;
  inputs = place_kept regions v.input i n below within.inputs;
  outputs = within.outputs;
  moved = record { inputs = moved_kept v.input i n below fits within.moved.inputs; outputs = within.moved.outputs };
  descriptors = within.descriptors;
}

pub output_within : (regions : List (ℕ × ℕ)) (v : Vectors) (i n : ℕ) → i < length v.output → n ≤ rest_of (output_of v i) → AreWithin regions v → AreWithin regions (with_output_moved v i n)
output_within regions v i n below fits within = record {
  few = within.few;
  inputs = within.inputs;
  outputs = place_kept regions v.output i n below within.outputs;
  moved = record { inputs = within.moved.inputs; outputs = moved_kept v.output i n below fits within.moved.outputs };
  descriptors = within.descriptors;
}
