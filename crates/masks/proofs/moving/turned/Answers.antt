-- `masks::moving::turned` meets its contract.
use Rattle.masks.proofs.Shifting.{turned_round}
use Rattle.masks.proofs.moving.turned.Goals as goal

pub returns : goal.returns
returns c = turned_round c.args.low c.args.class.0
