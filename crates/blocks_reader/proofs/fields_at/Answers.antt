use Rattle.blocks.specs.Table.{field_length}
use Rattle.blocks_reader.proofs.fields_at.Goals as goal

pub read_fields-requires : goal.read_fields-requires
unfolding field_length
read_fields-requires c = rw c.widths.ensures c.requires

pub returns : goal.returns
unfolding field_length
returns c = cc
