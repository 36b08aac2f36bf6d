-- 01's table of bodies.
use Rattle.std.specs.Prelude.{Bool, true, false, cond, ◌||◌, List, [], ◌∷◌, ℕ, ◌%◌, ltb, eqb}
use Rattle.blocks.specs.declared.After.{After}
use Rattle.blocks.specs.declared.After.TheVariants.{Nothing, Any, Some, Pairs, Ip}
use Rattle.blocks.specs.Layout.{sum}

-- A type: the widths of its fields in 01's order; what follows them; whether its first field is the type of an I2NP message.
pub record Row : Type 0 where
  pub kind : ℕ
  pub widths : List ℕ
  pub after : After
  pub typed : Bool

-- a row whose first field is any number
abbrev row : ℕ → List ℕ → After → Row
row k ws a = record { kind = k; widths = ws; after = a; typed = false }

-- a row of a message's type, id and expiration
abbrev message_row : ℕ → After → Row
message_row k a = record { kind = k; widths = 1 ∷ 4 ∷ 4 ∷ []; after = a; typed = true }

-- the rows, with the names of the fields
abbrev pub bodies : List Row
bodies =
    -- DateTime: time
    row 0 (4 ∷ []) Nothing
    -- Options: t_min, t_max, r_min, r_max, t_dmy, r_dmy, t_delay, r_delay
    ∷ row 1 (1 ∷ 1 ∷ 1 ∷ 1 ∷ 2 ∷ 2 ∷ 2 ∷ 2 ∷ []) Nothing
    -- RouterInfo: flag, frag; bytes
    ∷ row 2 (1 ∷ 1 ∷ []) Some
    -- I2NP: type, id, expiration; bytes
    ∷ message_row 3 Any
    -- FirstFragment: type, id, expiration; bytes
    ∷ message_row 4 Some
    -- FollowOnFragment: number * 2 + last, id; bytes
    ∷ row 5 (1 ∷ 4 ∷ []) Some
    -- Termination: count, reason
    ∷ row 6 (8 ∷ 1 ∷ []) Nothing
    -- Ack: through, count; pairs
    ∷ row 12 (4 ∷ 1 ∷ []) Pairs
    -- Address: port; IP
    ∷ row 13 (2 ∷ []) Ip
    -- RelayTagRequest
    ∷ row 15 [] Nothing
    -- RelayTag: tag
    ∷ row 16 (4 ∷ []) Nothing
    -- NewToken: expires, token
    ∷ row 17 (4 ∷ 8 ∷ []) Nothing
    -- PathChallenge: bytes
    ∷ row 18 [] Any
    -- PathResponse: bytes
    ∷ row 19 [] Any
    -- FirstPacketNumber: number
    ∷ row 20 (4 ∷ []) Nothing
    -- Congestion: flag
    ∷ row 21 (1 ∷ []) Nothing
    -- Padding: bytes
    ∷ row 254 [] Any
    ∷ []

-- the row of a type; a type that has none is opaque: bytes
unfoldable pub look : List Row → ℕ → Row
look [] k = row k [] Any
look (r ∷ rs) k = cond (eqb k r.kind) r (look rs k)

-- the widths of a type's fields
unfoldable pub widths : ℕ → List ℕ
widths k = (look bodies k).widths

-- what follows them
unfoldable pub after_fields : ℕ → After
after_fields k = (look bodies k).after

-- whether the first of them is the type of an I2NP message
unfoldable pub typed : ℕ → Bool
typed k = (look bodies k).typed

-- the bytes of a type's fields
unfoldable pub field_length : ℕ → ℕ
field_length k = sum (widths k)

-- whether bytes follow
abbrev pub carries : After → Bool
carries Nothing = false
carries Any = true
carries Some = true
carries Pairs = true
carries Ip = true

-- whether so many may follow; where none do, those lent are passed over
abbrev pub allowed : After → ℕ → Bool
allowed Nothing n = true
allowed Any n = true
allowed Some n = ltb 0 n
allowed Pairs n = eqb (n % 2) 0
allowed Ip n = eqb n 4 || eqb n 16
