-- What a desk keeps. It names no `Desk`.
-- Source: this simulator's; FF-M leaves the scheduling of the non-secure side open.
use Rattle.std.specs.Prelude.{◌<◌, ◌≤◌}
use Rattle.ffm_model.specs.Contexts.{DeskView}

-- a client has one context, or up to eight, and the turn is one of them
pub record IsDesk (d : DeskView) : Type 0 where
  pub some : 1 ≤ d.count
  pub few : d.count ≤ 8
  pub within : d.turn < d.count
