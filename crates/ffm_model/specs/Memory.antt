-- Memory: bytes by address, which ranges an actor may name, and the vectors of a request.
-- Source: FF-M 1.0, memory isolation of partitions, and `psa/client.h`, psa_invec, psa_outvec and psa_call.
use Rattle.std.specs.Prelude.{ℕ, zero, suc, ◌+◌, ◌-◌, ◌*◌, ◌/◌, ◌%◌, ◌==◌, nat_lt, nat_le, min, Bool, false, ◌&&◌, ◌||◌, if◌then◌else◌, List, [], ◌∷◌, ◌++◌, length, take, fold, slice_index, slice_get, Some, None, Option, replicate}
use Rattle.std.specs.List.{list_any, list_all}
use Rattle.std.specs.Option.{option_map_or}
use Rattle.ffm_model.specs.declared.constants.TheConstants.{PSA_MAX_IOVEC}
use Rattle.ffm_model.specs.declared.system.System.{System}
use Rattle.ffm_model.specs.declared.system.Region.{Region}
use Rattle.ffm_model.specs.declared.system.Class.{Class}
use Rattle.ffm_model.specs.declared.system.Class.TheVariants.{Ram, NonSecure, Mmio}
use Rattle.ffm_model.specs.declared.scenario.Bytes.{Bytes}
use Rattle.ffm_model.specs.declared.objects.Span.{Span}
use Rattle.ffm_model.specs.declared.objects.Vectors.{Vectors}
use Rattle.ffm_model.specs.Actors.{kind_of, is_partition, is_client}

-- the byte at each address
abbrev pub ByteMap : Type 0
ByteMap = ℕ → ℕ

-- the bytes at an address and after it
abbrev pub bytes_at : ByteMap → ℕ → ℕ → List ℕ
bytes_at m a zero = []
bytes_at m a (suc n) = m a ∷ bytes_at m (a + 1) n

-- these bytes are put at an address and after it
abbrev pub write_bytes : ByteMap → ℕ → List ℕ → ByteMap
write_bytes m a bytes x = if nat_le a x && nat_lt x (a + length bytes) then slice_index bytes (x - a) else m x

-- a number from its bytes, the lowest first
abbrev pub number_of : List ℕ → ℕ
number_of [] = 0
number_of (b ∷ bs) = b + 256 * number_of bs

abbrev pub low_bytes : ℕ → ℕ → List ℕ
low_bytes zero v = []
low_bytes (suc n) v = v % 256 ∷ low_bytes n (v / 256)

abbrev pub load_number : ByteMap → ℕ → ℕ → ℕ
load_number m a size = number_of (bytes_at m a size)

abbrev pub store_number : ByteMap → ℕ → ℕ → ℕ → ByteMap
store_number m a size v = write_bytes m a (low_bytes size v)

-- as if all bytes were read before the first one is written
abbrev pub copy_bytes : ByteMap → ℕ → ℕ → ℕ → ByteMap
copy_bytes m from to len = write_bytes m to (bytes_at m from len)

-- words of four bytes, one after the other
abbrev pub words_stored : ByteMap → ℕ → List ℕ → ByteMap
words_stored m at [] = m
words_stored m at (w ∷ ws) = words_stored (store_number m at 4 w) (at + 4) ws

-- the memory that a run begins with: 0, and then the opening bytes, piece by piece in order
abbrev pub opening_memory : List Bytes → ByteMap
opening_memory pieces = fold (λ m b. write_bytes m b.address b.content) (λ x. 0) pieces

-- each address of the range lies in the region
abbrev pub lies_in : ℕ → ℕ → Region → Bool
lies_in base len r = (len == 0) || (nat_le r.base base && nat_le (base + len) (r.base + r.size))

abbrev pub domain_of : System → ℕ → ℕ
domain_of s p = option_map_or (λ q. q.domain) (slice_get s.partitions p) 0

-- the RAM of a partition's domain; a client's domain is the non-secure region
abbrev pub is_ram_of : System → ℕ → Class → Bool
is_ram_of s a (Ram domain) = is_partition (kind_of s a) && (domain == domain_of s a)
is_ram_of s a NonSecure = is_client (kind_of s a)
is_ram_of s a (Mmio owner writable) = false

-- an MMIO region is its owner's alone
abbrev pub is_mmio_of : ℕ → Class → Bool
is_mmio_of a (Mmio owner writable) = owner == a
is_mmio_of a _ = false

abbrev pub is_writable_mmio_of : ℕ → Class → Bool
is_writable_mmio_of a (Mmio owner writable) = (owner == a) && writable
is_writable_mmio_of a _ = false

-- what an actor may hand to a call: no byte, or a range of its RAM
abbrev pub valid_buffer : System → ℕ → ℕ → ℕ → Bool
valid_buffer s a base len = (len == 0) || list_any (λ r. is_ram_of s a r.class && lies_in base len r) s.regions

-- what an actor may read and write by itself
abbrev pub may_read : System → ℕ → ℕ → ℕ → Bool
may_read s a base len = valid_buffer s a base len || list_any (λ r. is_mmio_of a r.class && lies_in base len r) s.regions

abbrev pub may_write : System → ℕ → ℕ → ℕ → Bool
may_write s a base len = valid_buffer s a base len || list_any (λ r. is_writable_mmio_of a r.class && lies_in base len r) s.regions

-- psa_invec and psa_outvec: a base, then a length
abbrev pub span_at : ByteMap → ℕ → Span
span_at m a = record { base = load_number m a 4; len = load_number m (a + 4) 4; moved = 0 }

-- a vector that isn't given
abbrev pub no_span : Span
no_span = record { base = 0; len = 0; moved = 0 }

abbrev pub spans_at : ByteMap → ℕ → ℕ → List Span
spans_at m a zero = []
spans_at m a (suc n) = span_at m a ∷ spans_at m (a + 8) n

-- four vectors, of which the first n are read from their descriptors
abbrev pub vectors_read : ByteMap → ℕ → ℕ → List Span
vectors_read m a n = take 4 (spans_at m a (min n 4) ++ replicate 4 no_span)

-- the vectors of psa_call, read once; nothing where there are too many, or one or its descriptor is no valid buffer
abbrev pub vectors_of : System → ByteMap → ℕ → ℕ → ℕ → ℕ → ℕ → Option Vectors
vectors_of s m a in_vec in_len out_vec out_len =
    let inputs = vectors_read m in_vec in_len in
    let outputs = vectors_read m out_vec out_len in
    if nat_le (in_len + out_len) PSA_MAX_IOVEC
    && (valid_buffer s a in_vec (8 * in_len) && valid_buffer s a out_vec (8 * out_len))
    && (list_all (λ v. valid_buffer s a v.base v.len) inputs && list_all (λ v. valid_buffer s a v.base v.len) outputs)
    then Some (record { input = inputs; output = outputs; out_vec = out_vec; out_len = out_len })
    else None

-- the vectors of a connection and of a disconnection
abbrev pub no_vectors : Vectors
no_vectors = record { input = replicate 4 no_span; output = replicate 4 no_span; out_vec = 0; out_len = 0 }

-- each given output vector's descriptor is told how many bytes were written, in order
abbrev pub lengths_written : ByteMap → ℕ → List Span → ByteMap
lengths_written m at [] = m
lengths_written m at (v ∷ vs) = lengths_written (store_number m (at + 4) 4 v.moved) (at + 8) vs
