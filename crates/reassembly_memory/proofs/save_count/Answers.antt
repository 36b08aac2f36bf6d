use native.Mathlib.Omega.{arith}
use mathlib.Core.List.{[]}
use Rattle.wire.proofs.Parts.{stores_splice}
use Rattle.reassembly.specs.Sizes.{count_at}
use Rattle.reassembly.specs.Remembered.{with_count}
use Rattle.reassembly_memory.proofs.save_count.Goals as goal

pub returns : goal.returns
unfolding with_count
returns c = stores_splice c.args.rec.now count_at c.args.n [] (omega arith)
