use mathlib.Core.Path.{ap, ◌∙◌}
use Prim.Native.Nat.{ℕ, ◌/◌}
use native.Mathlib.Omega.{arith}
use Rattle.blocks.proofs.Rows.{row_right}
use borrow.Author.Rules.{rules}
use Rattle.blocks_rows.proofs.Row.length.Goals as goal

pub returns : goal.returns
returns c = let k = row_right c.args.self.kind (search rules) in let e = ap (λ (r : ℕ). r / 68719476736) c.args.self.is_row ∙ k.is_length in (e, omega (arith, e, k.short))
