use mathlib.Core.Path.{refl, ap, ◌∙◌}
use mathlib.Core.Bool.{Bool, cond}
use Prim.Native.Nat.{ℕ, ◌*◌, ◌/◌, ◌%◌, ◌^◌}
use lib.Dec.{ltb, eqb}
use borrow.Author.Tests.{eqb-true}
use Rattle.blocks.specs.Layout.{sum}
use Rattle.blocks.specs.Table.{look, widths, field_length}
use Rattle.blocks.specs.Sound.{is_sized, floor_of}
use Rattle.blocks.proofs.Tables.{at}
use Rattle.blocks_sound.proofs.floor_of.Goals as goal

-- a row's number for a type, and that it is right
abbrev shown : ℕ → ℕ → ℕ
shown k row = (row / 2 ^ (4 * (k % 16))) % 16

abbrev row : ℕ → ℕ
row k = cond (ltb k 16) 0x50000090000C4 0x1400C4

abbrev right : ℕ → Bool
right k = eqb (shown k (row k)) (floor_of k)

pub returns : goal.returns
unfolding floor_of is_sized field_length widths look sum
returns c = let k = c.args.kind in ap (λ (j : ℕ). shown j c.row_of.result) c.from.ensures ∙ ap (shown k) c.row_of.ensures ∙ eqb-true (shown k (row k)) (floor_of k) (at right 22 refl k c.requires)
