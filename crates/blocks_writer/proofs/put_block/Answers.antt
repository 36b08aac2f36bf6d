use mathlib.Core.Path.{◌≡◌, ap}
use native.Mathlib.Omega.{arith}
use lib.ListN.{length}
use Rattle.blocks.specs.Layout.{sum}
use Rattle.blocks.specs.Table.{field_length}
use Rattle.blocks.specs.Writing.{size_of}
use Rattle.blocks.proofs.Loops.{few_widths}
use Rattle.blocks.proofs.Answers.{block_put}
use borrow.Author.Rules.{rules}
use Rattle.blocks_writer.proofs.put_block.Goals as goal

pub put_u8-requires : goal.put_u8-requires
unfolding field_length size_of
put_u8-requires c = search rules

pub put_be-requires : goal.put_be-requires
unfolding field_length size_of
put_be-requires c = search rules

pub widths-requires : goal.widths-requires
unfolding field_length size_of
widths-requires c = search rules

pub put_fields-requires : goal.put_fields-requires
unfolding field_length size_of
put_fields-requires c = omega (arith, ap sum c.widths.ensures, c.requires)

pub put_bytes-requires : goal.put_bytes-requires
unfolding field_length size_of
put_bytes-requires c = search rules

pub shape_of-room : goal.shape_of-room
unfolding field_length size_of
shape_of-room c = search rules

pub returns : goal.returns
unfolding field_length size_of
returns c =
    let eight : length c.args.fields ≡ 8 = search rules in
    block_put _ _ _ _ c.requires.0 c.requires.1 c.widths.ensures (omega (arith, eight, few_widths 8 c.widths.result)) c.put_u8.ensures c.put_be.ensures c.put_fields.ensures c.put_bytes.ensures
