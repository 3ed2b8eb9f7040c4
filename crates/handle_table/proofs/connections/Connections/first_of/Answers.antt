use Rattle.std.proofs.Common.{sym, ◌∙◌, refl}
use Rattle.handle_table.proofs.SlotLemmas.{live-nth}
use Rattle.handle_table.proofs.TableLemmas.{first-found, none-found, found-least}
use Rattle.handle_table.proofs.connections.Connections.first_of.Goals as goal

pub returns-then-is_owned_from-clause-connection : goal.returns-then-is_owned_from-clause-connection
returns-then-is_owned_from-clause-connection c =
    rw (← c.self.view_is) (
    live-nth _ c.self.inside.pool c.loop-place.place c.nth-candidate.result c.law.ensures c.nth-candidate.ensures
    ∙ sym (first-found _ c.self.inside.pool c.loop-place.place c.nth-candidate.result c.loop-place.invariant c.nth-candidate.ensures (sym c.is_owned_from.ensures ∙ c.if-is_owned_from.true))
    )

pub returns-then-is_owned_from-clause-live : goal.returns-then-is_owned_from-clause-live
returns-then-is_owned_from-clause-live c =
    rw (← c.self.view_is, live-nth _ c.self.inside.pool c.loop-place.place c.nth-candidate.result c.law.ensures c.nth-candidate.ensures) refl

pub returns-then-is_owned_from-clause-least : goal.returns-then-is_owned_from-clause-least
returns-then-is_owned_from-clause-least c =
    rw (← c.self.view_is, live-nth _ c.self.inside.pool c.loop-place.place c.nth-candidate.result c.law.ensures c.nth-candidate.ensures)
    (found-least _ _ _ _ _ c.self.invariant.rising
    (first-found _ c.self.inside.pool c.loop-place.place c.nth-candidate.result c.loop-place.invariant c.nth-candidate.ensures (sym c.is_owned_from.ensures ∙ c.if-is_owned_from.true)))

pub loop-place-preserved : goal.loop-place-preserved
loop-place-preserved c =
    none-found _ c.self.inside.pool c.loop-place.place c.nth-candidate.result c.loop-place.invariant c.nth-candidate.ensures (sym c.is_owned_from.ensures ∙ c.if-is_owned_from.false)
