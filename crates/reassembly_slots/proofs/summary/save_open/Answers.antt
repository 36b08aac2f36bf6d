use native.Mathlib.Omega.{arith}
use mathlib.Core.List.{[]}
use Rattle.wire.proofs.Parts.{stores_splice}
use Rattle.reassembly.specs.Sizes.{open_at}
use Rattle.reassembly.specs.Summary.{with_open}
use Rattle.reassembly_slots.proofs.summary.save_open.Goals as goal

pub returns : goal.returns
unfolding with_open
returns c = stores_splice c.args.rec.now open_at c.args.n [] (omega arith)
