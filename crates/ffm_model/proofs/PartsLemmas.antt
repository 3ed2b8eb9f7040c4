-- A system is the one that its parts make.
use Rattle.std.proofs.Common.{◌≡◌, Bool, true, false, refl, ap, ◌∙◌, sym}
use Rattle.std.specs.Prelude.{Some, None}
use Rattle.std.proofs.Math.Bool.{Bool-set}
use Rattle.ffm_model.specs.declared.system.System.{System}
use Rattle.ffm_model.specs.Parts.{SystemParts, are_numbered, do_fit, system_by, system_from, parts_of_system}

-- a system of these parts, with what it keeps
abbrev pub system_with : (p : SystemParts) → are_numbered p ≡ true → do_fit p ≡ true → System
system_with p numbered fit = record {
  level = p.level;
  partitions = p.partitions;
  services = p.services;
  sources = p.sources;
  regions = p.regions;
  clients = p.clients;
  budgets = p.budgets;
  counted = numbered;
  well_formed = fit;
}

same_proof : (b : Bool) (x y : b ≡ true) → x ≡ y
same_proof b x y = Bool-set b true x y

system_by-made : (p : SystemParts) (m f : Bool) (is_m : are_numbered p ≡ m) (is_f : do_fit p ≡ f) (numbered : are_numbered p ≡ true) (fit : do_fit p ≡ true)
    → system_by p m f is_m is_f ≡ Some (system_with p numbered fit)
system_by-made p true true is_m is_f numbered fit =
    ap (λ x. Some (system_with p x is_f)) (same_proof _ is_m numbered) ∙ ap (λ y. Some (system_with p numbered y)) (same_proof _ is_f fit)
system_by-made p true false is_m is_f numbered fit = cc
system_by-made p false f is_m is_f numbered fit = cc

-- the parts of a system make that system
pub system_from-parts_of_system : (s : System) → system_from (parts_of_system s) ≡ Some s
unfolding system_from
system_from-parts_of_system s = system_by-made (parts_of_system s) (are_numbered (parts_of_system s)) (do_fit (parts_of_system s)) refl refl s.counted s.well_formed

pub system_of_parts : (s : System) (p : SystemParts) → parts_of_system s ≡ p → system_from p ≡ Some s
system_of_parts s p e = ap system_from (sym e) ∙ system_from-parts_of_system s

system_by-none : (p : SystemParts) (m f : Bool) (is_m : are_numbered p ≡ m) (is_f : do_fit p ≡ f) → do_fit p ≡ false → system_by p m f is_m is_f ≡ None
system_by-none p true true is_m is_f off = cc
system_by-none p true false is_m is_f off = refl
system_by-none p false f is_m is_f off = refl

-- parts that don't fit make no system
pub no_system_of_parts : (p : SystemParts) → do_fit p ≡ false → system_from p ≡ None
unfolding system_from
no_system_of_parts p off = system_by-none p (are_numbered p) (do_fit p) refl refl off
