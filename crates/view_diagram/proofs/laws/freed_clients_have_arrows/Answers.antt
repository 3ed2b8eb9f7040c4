use Rattle.view_diagram.proofs.Freed.{each-freed-has-arrow}
use Rattle.view_diagram.proofs.laws.freed_clients_have_arrows.Goals as goal

pub returns : goal.returns
returns c = each-freed-has-arrow
