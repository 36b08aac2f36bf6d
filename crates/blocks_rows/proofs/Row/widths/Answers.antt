use Rattle.blocks.proofs.Rows.{row_right}
use borrow.Author.Rules.{rules}
use Rattle.blocks_rows.proofs.Row.widths.Goals as goal

pub returns : goal.returns
returns c = cc ((row_right c.args.self.kind (search rules)).is_widths, c.args.self.is_row)
