use mathlib.Core.Path.{ap}
use mathlib.Core.List.{List}
use Prim.Native.Nat.{ℕ}
use lib.ListN.{set}
use Rattle.blocks.specs.Layout.{eight}
use Rattle.acks.specs.AckBlocks.{ack_fields_of}
use Rattle.acks_reports.proofs.ack_block.fields_of.Goals as goal

pub returns : goal.returns
unfolding eight ack_fields_of
returns c =
    let r = c.args.report.now in
    rw (c.from.ensures, c.from-2.ensures) (ap (λ (l : List ℕ). set (set l 0 r.through) 1 r.count) c.no_fields-fields.ensures)
