-- What the stores of the worked audits change.
use Rattle.std.proofs.Common.{ℕ, ◌≡◌, ◌<◌, ◌+◌, ◌-◌, Bool, true, false, not, ◌&&◌, List, [], ◌∷◌, Option, Some, None, refl, subst, arith}
use Rattle.std.specs.Prelude.{nat_le, nat_lt}
use Rattle.std.specs.List.{cons_option}
use Rattle.std.proofs.lemmas.Bool.Decides.{nat_tests}
use Rattle.std.proofs.lemmas.Bool.{and_left}
use Rattle.memory_image.specs.Differences.{differs, IsLeast}
use Rattle.ffm_model.specs.Memory.{ByteMap, store_number}
use Rattle.machine_check.specs.declared.auditing.Change.{Change}
use Rattle.machine_check.specs.Auditing.{own_ram, IsChange}
use Rattle.machine_check.specs.Worked.{first_change, neighbour_system}

abbrev pub zeros : ByteMap
zeros x = 0

-- the address is the one that a store of one byte names
abbrev is_at : ℕ → ℕ → Bool
is_at a x = nat_le a x && nat_lt x (a + 1)

-- memory with one byte stored
abbrev pub stored : ℕ → ℕ → ByteMap
stored a v = store_number zeros a 1 v

same_elsewhere : (a v x : ℕ) → is_at a x ≡ false → differs zeros (stored a v) x ≡ false
same_elsewhere a v x h = rw h refl

same_below : (a v x : ℕ) → x < a → differs zeros (stored a v) x ≡ false
same_below a v x l = same_elsewhere a v x (grind (arith, nat_tests))

no_byte : (a x : ℕ) → is_at a x ≡ true → x - a ≡ 0
no_byte a x h = let at : x < a + 1 = grind (arith, nat_tests) in omega arith

-- 0 is stored where 0 is
pub same_byte : (a : ℕ) → IsLeast (differs zeros (stored a 0)) None
same_byte a x =
    let go : (b : Bool) → is_at a x ≡ b → differs zeros (stored a 0) x ≡ false = elim [
      | true ↦ λ at. rw (at, no_byte a x at) refl
      | false ↦ λ at. same_elsewhere a 0 x at
    ] in
    go (is_at a x) refl

covered : (a b : Bool) → b ≡ true → (a && not b) ≡ false
covered true b h = rw h refl
covered false b h = refl

in_ram : (x : ℕ) → is_at 0x30000004 x ≡ true → own_ram neighbour_system 0 x ≡ true
in_ram x at = grind (arith, nat_tests)

none_outside : (x : ℕ) → (differs zeros (stored 0x30000004 7) x && not (own_ram neighbour_system 0 x)) ≡ false
none_outside x =
    let go : (b : Bool) → is_at 0x30000004 x ≡ b → (differs zeros (stored 0x30000004 7) x && not (own_ram neighbour_system 0 x)) ≡ false = elim [
      | true ↦ λ at. covered _ _ (in_ram x at)
      | false ↦ λ at. and_left _ _ (same_elsewhere 0x30000004 7 x at)
    ] in
    go (is_at 0x30000004 x) refl

-- a byte of the partition's own RAM
pub own_byte : IsChange neighbour_system 1 0 zeros (stored 0x30000004 7) (first_change 0x30000004 1 None)
own_byte = record {
  place = refl;
  lowest = (refl, same_below 0x30000004 7);
  count = refl;
  outside = none_outside;
}

-- a byte of its neighbour's
pub outside_byte : IsChange neighbour_system 1 0 zeros (stored 0x30000020 7) (first_change 0x30000020 1 (Some 0x30000020))
outside_byte = record {
  place = refl;
  lowest = (refl, same_below 0x30000020 7);
  count = refl;
  outside = (refl, λ x l. and_left _ _ (same_below 0x30000020 7 x l));
}

-- ---- what an audit tells of one entry

pub only_change : (P : Option Change → Type 0) (here : Option Change) (later : List Change) (change : Change) → change ∷ [] ≡ cons_option here later → later ≡ [] → P here → P (Some change)
only_change P None later change e none p = absurd cc
only_change P (Some c) later change e none p = let same : c ≡ change = cc in subst (λ (d : Change). P (Some d)) same p

pub no_change : (P : Option Change → Type 0) (here : Option Change) (later : List Change) → [] ≡ cons_option here later → P here → P None
no_change P None later e p = p
no_change P (Some c) later e p = absurd cc

-- an entry that changed nothing leaves all changes to those after it
pub none_here : (P : Option Change → Type 0) (here : Option Change) (changes later : List Change) → ((c : Change) → P (Some c) → ⊥) → changes ≡ cons_option here later → P here → changes ≡ later
none_here P None changes later never e p = e
none_here P (Some c) changes later never e p = absurd (never c p)
