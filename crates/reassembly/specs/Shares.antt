-- What the calls do to the bytes that they are lent, on every record, room and buffer. Neighbour n's share is the n-th quarter of the record and of the room; a
-- piece of it reads and writes nothing else of them.
use Rattle.std.specs.Prelude.{Bool, cond, ◌||◌, List, ℕ, zero, suc, ◌*◌, ltb, length, replicate}
use Rattle.wire.specs.Parts.{part, splice}
use Rattle.reassembly.specs.declared.Label.{Label}
use Rattle.reassembly.specs.Sizes.{share_room, room_size, share_size, record_size}
use Rattle.reassembly.specs.Calls.{Lent, lent, After, after, refuses, first_taken, follow_on_taken, share_swept}

-- neighbour n's share of a record
unfoldable pub share_of : List ℕ → ℕ → List ℕ
share_of rec n = part rec (n * share_size) share_size

-- the record with another share for it
unfoldable pub with_share : List ℕ → ℕ → List ℕ → List ℕ
with_share rec n s = splice rec (n * share_size) s

-- neighbour n's share of a room
unfoldable pub share_of_room : List ℕ → ℕ → List ℕ
share_of_room room n = part room (n * share_room) share_room

-- the room with another share for it
unfoldable pub with_share_of_room : List ℕ → ℕ → List ℕ → List ℕ
with_share_of_room room n s = splice room (n * share_room) s

-- neighbour n's share of what is lent; the assembly buffer is lent whole
abbrev pub lent_to : Lent → ℕ → Lent
lent_to x n = lent (share_of x.rec n) (share_of_room x.room n) x.out

-- what is lent, with what became of neighbour n's share
abbrev pub given_back : Lent → ℕ → Lent → Lent
given_back x n y = lent (with_share x.rec n y.rec) (with_share_of_room x.room n y.room) y.out

-- 59 before all else: the lent record or room is short. (That the record names bytes outside is asked only of pieces that the call reads: docs/DECISIONS.md)
unfoldable pub lent_short : List ℕ → List ℕ → Bool
lent_short rec room = ltb (length rec) record_size || ltb (length room) room_size

-- 59, then 58 for a neighbour above 3, then what became of the neighbour's share
unfoldable pub from_neighbour : Lent → ℕ → After → After
from_neighbour x n y =
    cond (lent_short x.rec x.room) (refuses 59 x)
    (cond (ltb 3 n) (refuses 58 x)
    (after y.reply (given_back x n y.left)))

-- a first piece of neighbour n
unfoldable pub first_call : Lent → ℕ → Label → ℕ → List ℕ → After
first_call x n l second v = from_neighbour x n (first_taken (lent_to x n) l second v)

-- a follow-on piece of neighbour n
unfoldable pub follow_on_call : Lent → ℕ → Label → ℕ → List ℕ → After
follow_on_call x n l second v = from_neighbour x n (follow_on_taken (lent_to x n) l second v)

-- the shares of the first n neighbours swept
abbrev pub shares_swept : ℕ → List ℕ → ℕ → List ℕ
shares_swept second rec zero = rec
shares_swept second rec (suc n) = with_share (shares_swept second rec n) n (share_swept second (share_of (shares_swept second rec n) n))

-- a sweep of all four; a record that is too short for a store has none
unfoldable pub swept : ℕ → List ℕ → List ℕ
swept second rec = cond (ltb (length rec) record_size) rec (shares_swept second rec 4)

-- a new store: its record is zeros, and what is lent behind it stays; a short record stays
unfoldable pub renewed : List ℕ → List ℕ
renewed rec = cond (ltb (length rec) record_size) rec (splice rec 0 (replicate record_size 0))

-- what making it new answers: 59 where the record is short
unfoldable pub renewal : List ℕ → ℕ
renewal rec = cond (ltb (length rec) record_size) 59 0
