-- What files in memory say of a read that fails is what all files say of it.
use Rattle.std.proofs.Common.{◌≡◌, ◌⊎◌, ℕ, ◌≤◌, List, [], ◌∷◌, ◌++◌, Option, Some, Err, inl, inr, ap, arith, refl}
use Rattle.ffm_model.specs.Reading.{Contents}
use Rattle.outside_io.specs.Count.{one_more}
use Rattle.outside_io.specs.Files.{ReadsFile}
use Rattle.outside_io.specs.declared.files.FileError.{FileError}
use Rattle.outside_io.specs.declared.files.FileError.TheVariants as file_error

not_long : (e : FileError) → e ≡ file_error.TooLong → (e ≡ file_error.Failed) ⊎ (e ≡ file_error.Memory) → ⊥
not_long e is (inl p) = cc
not_long e is (inr p) = cc

pub failed_read : {A : Type 0} (h k : Contents) (rs new : List (List ℕ)) (m faults : ℕ) (l last : Option (List ℕ)) (e : FileError) (limit : ℕ) (name : List ℕ)
    → k ≡ h → (e ≡ file_error.Failed) ⊎ (e ≡ file_error.Memory) → new ≡ rs ++ name ∷ [] → m ≤ faults
    → (e ≡ file_error.Failed → faults ≡ one_more m) → (e ≡ file_error.Memory → faults ≡ m)
    → (e ≡ file_error.Failed → last ≡ Some name) → (e ≡ file_error.Memory → last ≡ l)
    → ReadsFile {A = A} (record { held = Some h; reads = Some rs; faults = m; last_failed = Some l }) (record { held = Some k; reads = Some new; faults = faults; last_failed = Some last }) (Err e) limit name
failed_read h k rs new m faults l last file_error.TooLong limit name keeps kind read later rose same named unnamed = absurd (not_long file_error.TooLong refl kind)
failed_read h k rs new m faults l last file_error.Failed limit name keeps kind read later rose same named unnamed = record {
  keeps = ap Some keeps;
  within = tt;
  whole = tt;
  once = read;
  faults = (later, omega (arith, rose refl));
  failed = ap Some (named refl);
}
failed_read h k rs new m faults l last file_error.Memory limit name keeps kind read later rose same named unnamed = record {
  keeps = ap Some keeps;
  within = tt;
  whole = tt;
  once = inr read;
  faults = same refl;
  failed = ap Some (unnamed refl);
}
