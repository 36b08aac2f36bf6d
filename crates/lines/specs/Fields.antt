-- Where the fields and the lines of a text stand: fields end at a space (32), lines at a newline (10).
use Rattle.std.specs.Prelude.{Bool, cond, ◌||◌, List, [], ◌∷◌, ℕ, zero, suc, ◌+◌, ◌-◌, min, eqb, length, get_or, drop}
use Rattle.wire.specs.Parts.{part}

-- a byte ends what ends at a byte of its own: it is that byte or a newline
abbrev pub is_end : ℕ → ℕ → Bool
is_end own b = eqb b 10 || eqb b own

-- how many bytes stand before such a byte, or before the end
unfoldable pub lead : ℕ → List ℕ → ℕ
lead own [] = 0
lead own (b ∷ bs) = cond (is_end own b) 0 (suc (lead own bs))

-- the field at a place; past the text's end it is empty
unfoldable pub field_at : List ℕ → ℕ → List ℕ
field_at text at = part text at (lead 32 (drop at text))

-- the place after what stands at a place and the byte that ends it, at most the text's end
abbrev pub past : ℕ → List ℕ → ℕ → ℕ
past own text at = min (length text) (at + lead own (drop at text) + 1)

-- the place after the last newline among the first n bytes; 0 where there is none
unfoldable pub whole_up_to : List ℕ → ℕ → ℕ
whole_up_to text zero = 0
whole_up_to text (suc n) = cond (eqb (get_or text n 0) 10) (suc n) (whole_up_to text n)

-- how many bytes from `used` up to `have` a buffer of so many bytes has
abbrev pub unread : ℕ → ℕ → ℕ → ℕ
unread used have size = min have size - used

-- those bytes
abbrev pub kept_bytes : List ℕ → ℕ → ℕ → List ℕ
kept_bytes buf used have = part buf used (unread used have (length buf))
