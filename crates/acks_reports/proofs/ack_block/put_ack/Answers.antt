use mathlib.Core.Path.{refl}
use Rattle.refusals.specs.Numbers.{numbered}
use Rattle.acks.specs.Reporting.{made, pair_bytes}
use Rattle.acks.proofs.Handed.{handed}
use Rattle.acks_reports.proofs.ack_block.put_ack.Goals as goal

pub returns : goal.returns
unfolding pair_bytes
returns c =
    handed (made c.args.report.now) c.args.room.now c.as_slice.result.now c.write_block.new.room c.fields_of-fields.result (numbered c.write_block.result)
    refl c.fields_of-fields.ensures c.as_slice.ensures c.write_block.ensures.0 c.write_block.ensures.1
