-- The passes of a system with three actors.
-- Source: this simulator's.
use Rattle.std.specs.Prelude.{◌≡◌, ℕ}
use Rattle.spm_lock.specs.Histories.{actors}
use Rattle.spm_lock.specs.Passes.{SharedView, PassView, IsOwn}

abbrev pub IsPassOf : SharedView → ℕ → PassView → Type 0
IsPassOf s a p = IsOwn s p × (p.actor ≡ a)

pub record AreThree (s : SharedView) (p q r : PassView) : Type 0 where
  pub count : actors s.opening ≡ 3
  pub first : IsPassOf s 0 p
  pub second : IsPassOf s 1 q
  pub third : IsPassOf s 2 r
