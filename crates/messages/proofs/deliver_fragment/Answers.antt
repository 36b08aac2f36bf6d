use mathlib.Core.Path.{refl, sym}
use Rattle.messages.specs.Delivery.{rebuilt}
use Rattle.messages.proofs.deliver_fragment.Goals as goal

pub returns : goal.returns
unfolding rebuilt
returns c = rw (c.rebuilt_by.ensures, c.id_of.ensures, sym c.shown-piece.ensures, sym c.arrive-answer.ensures) refl
