-- A new ring has no words.
use Rattle.walking.proofs.ring.Laws.{cached_none}
use Rattle.walking.proofs.ring.Ring.new.Goals as goal

pub returns : goal.returns
returns c = cached_none
