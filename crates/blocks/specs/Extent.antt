-- Where a block ends: how many bytes its body takes, or the number of the refusal, by type.
use Rattle.std.specs.Prelude.{Bool, cond, not, ◌&&◌, ◌||◌, List, ℕ, ◌+◌, ◌-◌, ◌%◌, ltb, leb, eqb, length, get_or, Result, Ok, Err, Option, Some, None}
use Rattle.wire.specs.Numbers.{big_at}
use Rattle.blocks.specs.declared.Head.{Head}
use Rattle.blocks.specs.Outcomes.{Extent}
use Rattle.blocks.specs.Outcomes as End
use Rattle.blocks.specs.Table.{after_fields, field_length, carries}

-- a number between two, both included
abbrev pub between : ℕ → ℕ → ℕ → Bool
between lo hi x = leb lo x && leb x hi

-- the types of I2NP messages: 1 to 3, 10, 11 and 18 to 26
unfoldable pub is_i2np_type : ℕ → Bool
is_i2np_type t = (between 1 3 t || between 10 11 t) || between 18 26 t

-- a body of so many bytes, if as many are there; else 1
abbrev pub takes_bytes : ℕ → ℕ → Result ℕ ℕ
takes_bytes need there = cond (leb need there) (Ok need) (Err 1)

-- size, but no less than the fields
abbrev pub at_least : ℕ → ℕ → ℕ
at_least fields size = cond (leb fields size) size fields

-- 2: a RouterInfo of no bytes
unfoldable pub router_info : ℕ → ℕ → Result ℕ ℕ
router_info size there = cond (leb size 2) (Err 2) (takes_bytes size there)

-- 9 by the size, 1 for the fields, 3 by the message's type, 1 for the bytes
unfoldable pub i2np : List ℕ → ℕ → ℕ → Result ℕ ℕ
i2np s body size =
    cond (ltb size 9) (Err 9)
    (cond (ltb (length s - body) 9) (Err 1)
    (cond (is_i2np_type (get_or s body 0)) (takes_bytes size (length s - body))
    (Err 3)))

-- 1 for the fields, 3 by the message's type, 4 for no bytes, 5 for missing ones
unfoldable pub first_fragment : List ℕ → ℕ → ℕ → Result ℕ ℕ
first_fragment s body size =
    cond (ltb (length s - body) 9) (Err 1)
    (cond (is_i2np_type (get_or s body 0))
    (cond (leb size 9) (Err 4)
    (cond (ltb (length s - body) size) (Err 5)
    (Ok size)))
    (Err 3))

-- 1 for the fields, 6 for no bytes, 7 for missing ones
unfoldable pub follow_on : ℕ → ℕ → Result ℕ ℕ
follow_on size there =
    cond (ltb there 5) (Err 1)
    (cond (leb size 5) (Err 6)
    (cond (ltb there size) (Err 7)
    (Ok size)))

-- the bytes of an Ack's pairs: those above five where they are an even number, else none; a size below five has none, since minus stops at 0
unfoldable pub pair_bytes_in : ℕ → ℕ
pair_bytes_in size = cond (eqb ((size - 5) % 2) 0) (size - 5) 0

-- 1 for the port, 8 by the size, 1 for the IP
unfoldable pub address : ℕ → ℕ → Result ℕ ℕ
address size there =
    cond (ltb there 2) (Err 1)
    (cond (eqb size 6) (takes_bytes 6 there)
    (cond (eqb size 18) (takes_bytes 18 there)
    (Err 8)))

-- the types that read their fields whatever the size says: those that nothing follows, but for Options and Termination
unfoldable pub ignores_size : ℕ → Bool
ignores_size kind = not (carries (after_fields kind) || (eqb kind 1 || eqb kind 6))

-- what a body takes that its size alone does not refuse: its fields, or its size, but no less than its fields
unfoldable pub plain_length : ℕ → ℕ → ℕ
plain_length kind size = cond (ignores_size kind) (field_length kind) (at_least (field_length kind) size)

-- what the body at a place takes: six types by tests of their own, every other by the table
unfoldable pub taken_at : List ℕ → ℕ → ℕ → ℕ → Result ℕ ℕ
taken_at s body kind size =
    cond (eqb kind 2) (router_info size (length s - body))
    (cond (eqb kind 3) (i2np s body size)
    (cond (eqb kind 4) (first_fragment s body size)
    (cond (eqb kind 5) (follow_on size (length s - body))
    (cond (eqb kind 12) (takes_bytes (5 + pair_bytes_in size) (length s - body))
    (cond (eqb kind 13) (address size (length s - body))
    (takes_bytes (plain_length kind size) (length s - body)))))))

-- the type byte of the block at a place
abbrev pub kind_at : List ℕ → ℕ → ℕ
kind_at s at = get_or s at 0

-- its size field
abbrev pub size_at : List ℕ → ℕ → ℕ
size_at s at = big_at 2 s (at + 1)

-- both, if the three bytes of its head are there
unfoldable pub head_at : List ℕ → ℕ → Option Head
head_at s at = cond (leb (at + 3) (length s)) (Some (record { kind = kind_at s at; size = size_at s at })) None

-- a block that takes n bytes of body ends after them; a refusal's place is the block's type byte
abbrev pub ends : ℕ → ℕ → ℕ → Result ℕ ℕ → Extent
ends at kind size (Ok n) = End.Ends kind size (at + 3 + n)
ends at kind size (Err m) = End.Refused m at

-- the block at a place: its type, its size field and where it ends; 1 where its head is cut short
unfoldable pub extent_at : List ℕ → ℕ → Extent
extent_at s at =
    cond (leb (at + 3) (length s))
    (ends at (kind_at s at) (size_at s at) (taken_at s (at + 3) (kind_at s at) (size_at s at)))
    (End.Refused 1 at)
