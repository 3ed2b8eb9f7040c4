-- What an opened file's reader gave is what all files say of a read.
use Rattle.std.proofs.Common.{◌≡◌, ℕ, ◌<◌, ◌≤◌, List, [], ◌∷◌, Option, None, Some, Result, Ok, Err, Vec, IfOk, IsSomeAnd, IsErrOf, inr, refl, ap, sym, ◌∙◌, arith, length}
use Rattle.std.specs.Prelude.{IfSome}
use Rattle.ffm_model.specs.Reading.{Contents}
use Rattle.outside_io.specs.Count.{Rose}
use Rattle.outside_io.specs.Files.{FailedName, FaultsBy, ReadBetween, ReadsFile, ReadsOnce, ReadsWhole}
use Rattle.outside_io.specs.declared.files.FileError.{FileError}
use Rattle.outside_io.specs.declared.files.FileError.TheVariants as file_error

-- what was counted of a reader, from none on, is counted of its opening
pub closed : {X : Type 0} (k n m l : ℕ) (r : Result X FileError) → FaultsBy k n r → k ≡ 0 → (n ≡ 0 → l ≡ m) → (0 < n → Rose m l) → FaultsBy m l r
closed k n m l (Ok x) by none same rose = same (by ∙ none)
closed k n m l (Err file_error.TooLong) by none same rose = same (by ∙ none)
closed k n m l (Err file_error.Failed) by none same rose = rose (omega (arith, by.1, none))
closed k n m l (Err file_error.Memory) by none same rose = same (by ∙ none)

whole : {A : Type 0} (o left : Option (List ℕ)) (r : Result (Vec ℕ A) FileError) (limit : ℕ) → IsSomeAnd o (λ bytes. left ≡ Some bytes) → IfSome left (λ bytes. IfOk r (λ read. read.items ≡ bytes))
    → IfSome left (λ bytes. IsErrOf r file_error.TooLong → limit < length bytes) → ReadsWhole limit o r
whole None left r limit is content long = absurd is
whole (Some bytes) left (Ok read) limit is content long =
    let told : left ≡ Some bytes = is in
    let same : read.items ≡ bytes = rw told at content in
    ap Some (sym same)
whole {A = A} (Some bytes) left (Err file_error.TooLong) limit is content long =
    let told : left ≡ Some bytes = is in
    let over : IsErrOf {T = Vec ℕ A} (Err file_error.TooLong) file_error.TooLong → limit < length bytes = rw told at long in
    over refl
whole (Some bytes) left (Err file_error.Failed) limit is content long = tt
whole (Some bytes) left (Err file_error.Memory) limit is content long = tt

whole_told : {A : Type 0} (h : Option Contents) (left : Option (List ℕ)) (r : Result (Vec ℕ A) FileError) (limit : ℕ) (name : List ℕ) → IfSome h (λ of. IsSomeAnd (of name) (λ bytes. left ≡ Some bytes))
    → IfSome left (λ bytes. IfOk r (λ read. read.items ≡ bytes)) → IfSome left (λ bytes. IsErrOf r file_error.TooLong → limit < length bytes) → IfSome h (λ of. ReadsWhole limit (of name) r)
whole_told None left r limit name is content long = tt
whole_told (Some of) left r limit name is content long = whole (of name) left r limit is content long

once : {A : Type 0} (a b : Option (List (List ℕ))) (r : Result A FileError) (name : List ℕ) → ReadBetween a b (name ∷ []) → ReadsOnce a b r name
once a b (Ok x) name p = p
once a b (Err file_error.TooLong) name p = p
once a b (Err file_error.Failed) name p = p
once a b (Err file_error.Memory) name p = inr p

unnamed : {A : Type 0} (r : Result A FileError) (name : List ℕ) → FailedName None None r name
unnamed (Ok x) name = refl
unnamed (Err file_error.TooLong) name = refl
unnamed (Err file_error.Failed) name = refl
unnamed (Err file_error.Memory) name = refl

-- a file that was opened, and read by its reader
pub opened_read : {A : Type 0} (h k : Option Contents) (a b : Option (List (List ℕ))) (left : Option (List ℕ)) (m l : ℕ) (r : Result (Vec ℕ A) FileError) (limit : ℕ) (name : List ℕ)
    → k ≡ h → IfSome h (λ of. IsSomeAnd (of name) (λ bytes. left ≡ Some bytes)) → ReadBetween a b (name ∷ [])
    → IfOk r (λ bytes. length bytes.items ≤ limit) → IfSome left (λ bytes. IfOk r (λ read. read.items ≡ bytes)) → IfSome left (λ bytes. IsErrOf r file_error.TooLong → limit < length bytes)
    → FaultsBy m l r
    → ReadsFile (record { held = h; reads = a; faults = m; last_failed = None }) (record { held = k; reads = b; faults = l; last_failed = None }) r limit name
opened_read h k a b left m l r limit name keeps is read within content long faults = record {
  keeps = keeps;
  within = within;
  whole = whole_told h left r limit name is content long;
  once = once a b r name read;
  faults = faults;
  failed = unnamed r name;
}
