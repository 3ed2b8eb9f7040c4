-- A read that is kept is a read of what the files below tell.
use Rattle.std.proofs.Common.{◌≡◌, ◌∙◌, ◌&&◌, ℕ, List, [], ◌∷◌, ◌++◌, Bool, true, false, Option, None, Some, Result, Ok, Err, Vec, ap, ap₂, inr, refl, sym, string_bytes}
use Rattle.std.specs.Prelude.{IfSome, if◌then◌else◌}
use Rattle.std.specs.List.{list_all}
use Rattle.std.proofs.lemmas.List.Folds.{list_all-append}
use Rattle.ffm_model.proofs.StepLemmas.{bytes_eq-self}
use Rattle.ffm_model.specs.Reading.{Contents}
use Rattle.outside_io.specs.Files.{FilesSeen, ReadsFile, ReadsWhole}
use Rattle.outside_io.specs.declared.files.FileError.{FileError}
use Rattle.outside_io.specs.declared.files.FileError.TheVariants as file_error
use Rattle.file_places.specs.Kept.{is_content, is_held}
use Rattle.file_places.specs.KeptSeen.{KeepsOne, held_beside, told_beside}
use Rattle.file_places.specs.declared.kept.KeptFile.{KeptFile}

-- what is said of each content is said of one that is told while it holds what was kept
beside_by : (P : Contents → Type 0) (of : Contents) (all : Bool) → P of → IfSome (if all then Some of else None) P
beside_by P of true p = p
beside_by P of false p = tt

beside : (P : Contents → Type 0) (held : Option Contents) (kept : List KeptFile) → IfSome held P → IfSome (held_beside held kept) P
beside P None kept p = tt
beside P (Some of) kept p = beside_by P of (list_all (is_held of) kept) p

-- nothing more was kept
pub same_kept : {A : Type 0} (a b : FilesSeen) (kept : List KeptFile) (r : Result (Vec ℕ A) FileError) (limit : ℕ) (name : List ℕ) → ReadsFile a b r limit name → ReadsFile (told_beside a kept) (told_beside b kept) r limit name
same_kept a b kept r limit name reads = record {
  keeps = ap (λ h. held_beside h kept) reads.keeps;
  within = reads.within;
  whole = beside (λ of. ReadsWhole limit (of name) r) a.held kept reads.whole;
  once = reads.once;
  faults = reads.faults;
  failed = reads.failed;
}

-- no memory was found to keep it
pub lost : {A : Type 0} (a b : FilesSeen) (bytes : Vec ℕ A) (limit : ℕ) (name : List ℕ) → ReadsFile a b (Ok bytes) limit name → ReadsFile {A = A} a b (Err file_error.Memory) limit name
lost a b bytes limit name reads = record {
  keeps = reads.keeps;
  within = tt;
  whole = unsaid a.held;
  once = inr reads.once;
  faults = reads.faults;
  failed = reads.failed;
} where
  unsaid : (held : Option Contents) → IfSome held (λ of. Unit {0})
  unsaid None = tt
  unsaid (Some of) = tt

-- ---- one more file

all_with : (x y : Bool) → y ≡ true → (x && (y && true)) ≡ x
all_with true true e = refl
all_with true false e = e
all_with false y e = refl

held_one : (of : Contents) (file : KeptFile) → of (string_bytes file.name) ≡ Some file.bytes.items → is_held of file ≡ true
held_one of file is = ap (λ content. is_content content file.bytes.items) is ∙ bytes_eq-self file.bytes.items

all_held : (of : Contents) (before : List KeptFile) (file : KeptFile) → of (string_bytes file.name) ≡ Some file.bytes.items
    → list_all (is_held of) (before ++ file ∷ []) ≡ list_all (is_held of) before
all_held of before file is = list_all-append (is_held of) before (file ∷ []) ∙ all_with (list_all (is_held of) before) (is_held of file) (held_one of file is)

-- a file that holds what was kept of it changes nothing of what is told
held_more : (held : Option Contents) (before : List KeptFile) (file : KeptFile) → IfSome held (λ of. of (string_bytes file.name) ≡ Some file.bytes.items)
    → held_beside held (before ++ file ∷ []) ≡ held_beside held before
held_more None before file is = refl
held_more (Some of) before file is = ap (λ (all : Bool). if all then Some of else None) (all_held of before file is)

named : (held : Option Contents) (file : KeptFile) (name bytes : List ℕ) → string_bytes file.name ≡ name → file.bytes.items ≡ bytes
    → IfSome held (λ of. of name ≡ Some bytes) → IfSome held (λ of. of (string_bytes file.name) ≡ Some file.bytes.items)
named None file name bytes name_is bytes_are p = tt
named (Some of) file name bytes name_is bytes_are p = ap of name_is ∙ p ∙ ap Some (sym bytes_are)

-- what was read was kept
pub one_kept : {A : Type 0} (a b : FilesSeen) (before after : List KeptFile) (bytes : Vec ℕ A) (limit : ℕ) (name : List ℕ) → ReadsFile a b (Ok bytes) limit name → KeepsOne before after name bytes.items
    → ReadsFile (told_beside a before) (told_beside b after) (Ok bytes) limit name
one_kept a b before after bytes limit name reads keeps = record {
  keeps = ap₂ held_beside reads.keeps keeps.last ∙ held_more a.held before keeps.file (named a.held keeps.file name bytes.items keeps.name_is keeps.bytes_are reads.whole);
  within = reads.within;
  whole = beside (λ of. ReadsWhole limit (of name) (Ok bytes)) a.held before reads.whole;
  once = reads.once;
  faults = reads.faults;
  failed = reads.failed;
}

pub kept_one : (before after : List KeptFile) (file : KeptFile) (name bytes : List ℕ) → string_bytes file.name ≡ name → file.bytes.items ≡ bytes → after ≡ before ++ file ∷ [] → KeepsOne before after name bytes
kept_one before after file name bytes name_is bytes_are last = record { file = file; name_is = name_is; bytes_are = bytes_are; last = last }
