use mathlib.Core.Path.{sym, ap, ◌∙◌}
use Prim.Native.Nat.{ℕ}
use Rattle.blocks.specs.Table.{field_length}
use Rattle.blocks.specs.Extent.{at_least, ignores_size, plain_length}
use Rattle.blocks_extents.proofs.plain_length.Goals as goal

pub returns-then-ignores_size : goal.returns-then-ignores_size
unfolding plain_length
returns-then-ignores_size c = let k = c.of-row.ensures.0 in c.length-fields.ensures.0 ∙ ap field_length k ∙ sym (simp (sym (ap ignores_size k) ∙ sym c.ignores_size.ensures ∙ c.if-ignores_size.true))

pub returns : goal.returns
unfolding plain_length
returns c = let a = c.args in let k = c.of-row.ensures.0 in c.at_least.ensures ∙ ap (λ (f : ℕ). at_least f a.size) (c.length-fields.ensures.0 ∙ ap field_length k) ∙ sym (simp (sym (ap ignores_size k) ∙ sym c.ignores_size.ensures ∙ c.if-ignores_size.false))
