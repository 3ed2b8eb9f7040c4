-- The memory that an image begins with.
use Rattle.std.proofs.Common.{ℕ, ◌≡◌, ◌<◌, ◌-◌, Bool, true, false, ◌||◌, List, [], ◌∷◌, length, get_or, ◌∙◌, ap, refl}
use Rattle.std.specs.Prelude.{◌==◌, map, if◌then◌else◌}
use Rattle.std.specs.List.{list_any}
use Rattle.std.proofs.lemmas.List.{length-replicate}
use Rattle.std.proofs.Math.Path.{fun_ext}
use Rattle.law_lists.proofs.Lists.{get_or-replicate_same}
use Rattle.ffm_model.specs.declared.scenario.Bytes.{Bytes}
use Rattle.ffm_model.specs.declared.system.Region.{Region}
use Rattle.ffm_model.specs.Memory.{opening_memory, lies_in}
use Rattle.memory_image.specs.Differences.{range_covers}
use Rattle.ffm_model.specs.Ranges.{has_range, ranges_of}
use Rattle.memory_image.specs.Pieces.{byte_at, range_of, regions_of, zero_piece, is_inside, open_within}
use Rattle.ffm_model.proofs.TestLemmas.{holds_at}

pub regions_of-zero : (rs : List Region) → regions_of (map zero_piece rs) ≡ ranges_of rs
regions_of-zero [] = refl
regions_of-zero (r ∷ rs) = let zero_byte : ℕ = 0 in rw (length-replicate r.size zero_byte) (ap (λ es. (r.base, r.size) ∷ es) (regions_of-zero rs))

same_either : (b : Bool) (m n k : ℕ) → m ≡ k → n ≡ k → if b then m else n ≡ k
same_either true m n k first second = first
same_either false m n k first second = second

pub byte_at-zero : (rs : List Region) (x : ℕ) → byte_at (map zero_piece rs) x ≡ 0
byte_at-zero [] x = refl
byte_at-zero (r ∷ rs) x = same_either (range_covers (range_of (zero_piece r)) x) _ _ 0 (get_or-replicate_same {X = ℕ} r.size (x - r.base) 0) (byte_at-zero rs x)

inside_later : (b c d e : Bool) → ((b || c) || d) ≡ true → (d ≡ true → (b || e) ≡ true) → (b || (c || e)) ≡ true
inside_later true c d e h rest = refl
inside_later false true d e h rest = refl
inside_later false false d e h rest = rest h

-- a range that lies in a region lies inside of the image
pub is_inside-lies : (at len : ℕ) (rs : List Region) → list_any (lies_in at len) rs ≡ true → is_inside at len (ranges_of rs) ≡ true
is_inside-lies at len [] h = cc
is_inside-lies at len (r ∷ rs) h =
    inside_later (len == 0) (has_range at len (r.base, r.size)) (list_any (lies_in at len) rs) (list_any (has_range at len) (ranges_of rs)) h (is_inside-lies at len rs)

-- each piece of an opening memory lies inside of the image
pub opening_inside : (regions : List Region) (opening pieces : List Bytes) (i : ℕ) (piece : Bytes) → i < length pieces → pieces ≡ opening → open_within regions opening ≡ true
    → piece ≡ get_or pieces i piece → is_inside piece.address (length piece.content) (ranges_of regions) ≡ true
opening_inside regions opening pieces i piece below same h is =
    let within : open_within regions pieces ≡ true = rw same h in
    ap (λ (b : Bytes). is_inside b.address (length b.content) (ranges_of regions)) is
    ∙ is_inside-lies _ _ regions (holds_at (λ (b : Bytes). list_any (lies_in b.address (length b.content)) regions) pieces i piece below within)

-- no byte is written yet
pub byte_at-opening : (pieces : List Bytes) (rs : List Region) → pieces ≡ map zero_piece rs → byte_at pieces ≡ opening_memory []
byte_at-opening pieces rs e = fun_ext (λ x. ap (λ ps. byte_at ps x) e ∙ byte_at-zero rs x)
