-- The table as the code has it: a row in one number.
use Rattle.std.specs.Prelude.{cond, List, [], ◌∷◌, ℕ, zero, suc, ◌+◌, ◌*◌, ◌/◌, ◌%◌, eqb}
use Rattle.blocks.specs.declared.After.{After}
use Rattle.blocks.specs.declared.After.TheVariants.{Nothing, Any, Some, Pairs, Ip}
use Rattle.blocks.specs.Layout.{eight}
use Rattle.blocks.specs.Table.{widths, after_fields, typed, field_length}

-- a digit for what follows
abbrev pub digit : After → ℕ
digit Nothing = 0
digit Any = 1
digit Some = 2
digit Pairs = 3
digit Ip = 4

-- hexadecimal digits from the right, then a number
unfoldable pub packed : List ℕ → ℕ → ℕ
packed [] top = top
packed (w ∷ ws) top = w + 16 * packed ws top

-- a row from the right: eight widths, what follows (and 8 where the first field is a message's type), the bytes of all fields
unfoldable pub row_number : ℕ → ℕ
row_number k = packed (eight (widths k)) (digit (after_fields k) + cond (typed k) 8 0 + 16 * field_length k)

-- a digit as a width
unfoldable pub width_of : ℕ → ℕ
width_of d = cond (eqb d 1) 1 (cond (eqb d 2) 2 (cond (eqb d 4) 4 8))

-- the widths of the digits of a number, n of them at most
unfoldable pub unpacked : ℕ → ℕ → List ℕ
unpacked zero r = []
unpacked (suc n) r = cond (eqb r 0) [] (width_of (r % 16) ∷ unpacked n (r / 16))
