-- Where a refusal is told to stand, out of its parts.
use Rattle.std.proofs.Common.{◌≡◌, ◌++◌, ℕ, List, drop, inl, inr, refl}
use Rattle.std.specs.Prelude.{Contains}
use Rattle.ffm_model.specs.declared.place.PathStep.{PathStep}
use Rattle.file_places.specs.declared.sources.FileRead.{FileRead}
use Rattle.view_refusals.specs.Told.{IsFront, IsPartOf, IsPlaceLine, TellsPlace, no_place}

pub front_is_part : (path front : List PathStep) → IsFront path front → IsPartOf path front
front_is_part path front is = (front, is, inl refl)

pub rest_is_part : (path front part : List PathStep) → IsFront path front → part ≡ drop 2 front → IsPartOf path part
rest_is_part path front part is e = (front, is, inr e)

-- a file's place is told
pub told_place : (files : List FileRead) (path part : List PathStep) (file : FileRead) (line more text : List ℕ) → Contains files file → IsPartOf path part → IsPlaceLine file part line → text ≡ line ++ more → TellsPlace files path text
told_place files path part file line more text among is tells e = (line, more, e, inl (file, among, (part, is, tells)))

-- none is told
pub told_none : (files : List FileRead) (path : List PathStep) (more text : List ℕ) → text ≡ no_place ++ more → TellsPlace files path text
told_none files path more text e = (no_place, more, e, inr refl)
