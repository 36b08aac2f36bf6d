use mathlib.Core.Path.{ap}
use mathlib.Core.Bool.{Bool, not, ◌||◌}
use lib.Dec.{eqb}
use Rattle.blocks.specs.Extent.{ignores_size}
use Rattle.blocks_extents.proofs.ignores_size.Goals as goal

pub returns : goal.returns
unfolding ignores_size
returns c = let k = c.args.row.kind in ap (λ (b : Bool). not (b || (eqb k 1 || eqb k 6))) c.carries_bytes.ensures
