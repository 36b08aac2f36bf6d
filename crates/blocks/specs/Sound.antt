-- Sound bodies: what one takes, by type and size alone, and its tests where its bytes are there. That this is what `taken_at` says is shown.
use Rattle.std.specs.Prelude.{Bool, true, cond, ◌&&◌, ◌||◌, List, ℕ, ◌+◌, ◌%◌, ltb, leb, eqb, get_or}
use Rattle.blocks.specs.Table.{field_length}
use Rattle.blocks.specs.Extent.{between, is_i2np_type, at_least, ignores_size}

-- the types whose body is as long as the size says or is refused
unfoldable pub is_sized : ℕ → Bool
is_sized kind = between 2 5 kind || eqb kind 13

-- the fewest bytes of a body that is not refused by its size
unfoldable pub floor_of : ℕ → ℕ
floor_of kind = cond (is_sized kind) 0 (field_length kind)

-- the size as far as it counts: an Ack's only if its pairs are whole
unfoldable pub counted : ℕ → ℕ → ℕ
counted kind size = cond (ignores_size kind || (eqb kind 12 && eqb (size % 2) 0)) 0 size

-- the bytes that a sound body takes
unfoldable pub body_length : ℕ → ℕ → ℕ
body_length kind size = at_least (floor_of kind) (counted kind size)

-- the tests of RouterInfo, FollowOnFragment and Address
unfoldable pub tested : ℕ → ℕ → Bool
tested kind size =
    cond (eqb kind 2) (ltb 2 size)
    (cond (eqb kind 5) (ltb 5 size)
    (cond (eqb kind 13) (eqb size 6 || eqb size 18)
    true))

-- a body whose bytes are there passes its tests; I2NP takes size 9, FirstFragment 10
unfoldable pub sound : List ℕ → ℕ → ℕ → ℕ → Bool
sound s body kind size =
    cond (eqb kind 3 || eqb kind 4) (leb (6 + kind) size && is_i2np_type (get_or s body 0))
    (tested kind size)
