use mathlib.Core.Path.{◌≡◌, refl, ap, ◌∙◌}
use mathlib.Core.Bool.{Bool, true, false, not}
use Prim.Native.Nat.{ℕ, ◌/◌, ◌%◌, ◌^◌}
use lib.Dec.{eqb}
use Rattle.blocks.specs.Table.{look, after_fields}
use Rattle.blocks.specs.Extent.{ignores_size}
use Rattle.blocks.proofs.Tables.{at}
use Rattle.blocks_sound.proofs.ignores_size.Goals as goal

-- a type's bit, and that it is right
abbrev bit : ℕ → Bool
bit k = eqb ((0x338001 / 2 ^ k) % 2) 1

abbrev agree : Bool → Bool → Bool
agree true b = b
agree false b = not b

same : (a b : Bool) → agree a b ≡ true → a ≡ b
same true true e = refl
same true false e = cc
same false true e = cc
same false false e = refl

abbrev right : ℕ → Bool
right k = agree (bit k) (ignores_size k)

pub returns : goal.returns
unfolding ignores_size after_fields look
returns c = let k = c.args.kind in ap bit c.from.ensures ∙ same (bit k) (ignores_size k) (at right 22 refl k c.requires)
