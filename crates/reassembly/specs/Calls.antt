-- What a neighbour's pieces and a sweep do to its share of the lent bytes, on every share and buffer. (specs/Shares.antt has the calls, which are lent all shares;
-- specs/Stands.antt says what these bytes mean.)
use Rattle.std.specs.Prelude.{Bool, cond, ◌||◌, List, ℕ, zero, suc, ◌+◌, ◌*◌, eqb, ltb, length}
use Rattle.wire.specs.Parts.{splice}
use Rattle.reassembly.specs.declared.Head.{Head}
use Rattle.reassembly.specs.declared.Label.{Label}
use Rattle.reassembly.specs.declared.Reply.{Reply}
use Rattle.reassembly.specs.Sizes.{message_size, slot_size}
use Rattle.reassembly.specs.Record.{head_at, with_head, entry_at, with_entry, cleared, outside, piece_at}
use Rattle.reassembly.specs.Slots.{first_from, is_open_as, is_free}
use Rattle.reassembly.specs.Memory.{Finished, remembers}
use Rattle.reassembly.specs.Remembered.{memory_of, remembered_in, forgotten_in}
use Rattle.reassembly.specs.Summary.{open_count, with_open, lowered, is_full}
use Rattle.reassembly.specs.Joining.{message_of, joins_outside}
use Rattle.reassembly.specs.Judge.{again, misfits, grown_by, is_complete, new_head, no_head, is_old}

-- What a call is lent beside a piece: the store's record, the room for the pieces, the assembly buffer. So is a neighbour's share of them.
pub record Lent : Type 0 where
  pub rec : List ℕ
  pub room : List ℕ
  pub out : List ℕ

-- these three as one
abbrev pub lent : List ℕ → List ℕ → List ℕ → Lent
lent rec room out = record { rec = rec; room = room; out = out }

-- What a call leaves: its reply, and what became of the bytes that it was lent.
pub record After : Type 0 where
  pub reply : Reply
  pub left : Lent

-- these two as one
abbrev pub after : Reply → Lent → After
after r x = record { reply = r; left = x }

-- a number, and no message
unfoldable pub bare : ℕ → Reply
bare n = record { number = n; kind = 0; expires = 0; length = 0 }

-- a refusal: its number, and all that was lent as it was
abbrev pub refuses : ℕ → Lent → After
refuses n x = after (bare n) x

-- the record with a piece of n bytes kept as number k of slot i, whose head is then g: the piece stands after what the slot held, `total` bytes
unfoldable pub kept_rec : List ℕ → ℕ → ℕ → ℕ → ℕ → Head → List ℕ
kept_rec rec i k total n g = with_head (with_entry rec i k (record { place = total; len = n })) i g

-- the room with that piece
unfoldable pub kept_room : List ℕ → ℕ → ℕ → List ℕ → List ℕ
kept_room room i total v = splice room (i * slot_size + total) v

-- what is lent with a piece v kept as the label's number of slot i, after `total` bytes; g is the slot's head then
abbrev pub kept : Lent → ℕ → Label → ℕ → Head → List ℕ → Lent
kept x i l total g v = lent (kept_rec x.rec i l.number total (length v) g) (kept_room x.room i total v) x.out

-- the message of slot i, with v as the label's number: the numbers up to the head's last, one after the other
abbrev pub finished_message : Lent → ℕ → Label → Head → List ℕ → List ℕ
finished_message x i l g v = message_of x.rec x.room i l.number v (g.last + 1)

-- the message comes out: it stands at the start of the assembly buffer, the rest of which stays, its head and length are in the reply, its slot is free
abbrev pub came_out : Lent → ℕ → Head → List ℕ → After
came_out x i g m =
    after (record { number = 60; kind = g.kind; expires = g.expires; length = length m })
    (lent (with_head x.rec i no_head) x.room (splice x.out 0 m))

-- the message is finished by v as the label's number: 59 where the record names bytes outside for a piece that would be joined, or 56, or it comes out
unfoldable pub finished : Lent → ℕ → Label → Head → List ℕ → After
finished x i l g v =
    cond (joins_outside x.rec i l.number (g.last + 1)) (refuses 59 x)
    (cond (ltb (length x.out) (length (finished_message x i l g v))) (refuses 56 x)
    (came_out x i g (finished_message x i l g v)))

-- the piece fits slot i, whose head is h: 53, or the message is finished, or the piece is kept
unfoldable pub put_in : Lent → ℕ → Head → Label → List ℕ → After
put_in x i h l v =
    cond (ltb message_size (h.total + length v)) (refuses 53 x)
    (cond (is_complete (grown_by h l (length v))) (finished x i l (grown_by h l (length v)) v)
    (after (bare 0) (kept x i l h.total (grown_by h l (length v)) v)))

-- a piece whose number is held in slot i, whose head is h, is compared with the held one: 59 where the record names bytes outside for that, else 54 or 55
unfoldable pub compared : List ℕ → List ℕ → ℕ → Head → Label → List ℕ → ℕ
compared rec room i h l v = cond (outside (entry_at rec i l.number)) 59 (again h l (piece_at rec room i l.number) v)

-- a piece of the open message of slot i: it is compared with the held one, or 55, or it is put
unfoldable pub added : Lent → ℕ → Label → List ℕ → After
added x i l v =
    cond (eqb (entry_at x.rec i l.number).len 0)
    (cond (misfits (head_at x.rec i) l) (refuses 55 x) (put_in x i (head_at x.rec i) l v))
    (refuses (compared x.rec x.room i (head_at x.rec i) l v) x)

-- a piece of a message that is not open is kept in the free slot i
unfoldable pub opened_in : Lent → ℕ → Label → ℕ → List ℕ → After
opened_in x i l second v =
    after (bare 0) (kept (lent (cleared x.rec i) x.room x.out) i l 0 (grown_by (new_head l second) l (length v)) v)

-- a piece opened a message: the summary says one more than before
abbrev pub with_raised : Lent → After → After
with_raised x y = after y.reply (lent (with_open y.left.rec (open_count x.rec + 1)) y.left.room y.left.out)

-- a piece of a message that is not open: 57 where its id is remembered, or 52, or it is kept in the first free slot
unfoldable pub opened_now : Lent → Label → ℕ → List ℕ → After
opened_now x l second v =
    cond (remembers (memory_of x.rec) l.id) (refuses 57 x)
    (cond (is_full x.rec) (refuses 52 x)
    (with_raised x (opened_in x (first_from (is_free x.rec) 0 4) l second v)))

-- the record after a piece that was answered n: with 60 its message is finished, the summary says one less, and it is remembered
unfoldable pub remembered_after : List ℕ → ℕ → Finished → List ℕ
remembered_after rec n f = cond (eqb n 60) (remembered_in (lowered rec) f) rec

-- what a call for a piece of the label's message leaves; where it is finished, it is remembered with this second
abbrev pub with_remembered : Label → ℕ → After → After
with_remembered l second y = after y.reply (lent (remembered_after y.left.rec y.reply.number (record { id = l.id; second = second })) y.left.room y.left.out)

-- a piece of any message, at a second. An open message is looked for first: on a share that calls made its id is not remembered (specs/Apart.antt),
-- so 57 comes before 54 there, as the numbers' table has it
unfoldable pub taken_piece : Lent → Label → ℕ → List ℕ → After
taken_piece x l second v =
    cond (ltb (first_from (is_open_as x.rec l.id) 0 4) 4)
    (with_remembered l second (added x (first_from (is_open_as x.rec l.id) 0 4) l v))
    (opened_now x l second v)

-- 50: the piece's length is 0 or above 1,500
unfoldable pub bad_size : ℕ → Bool
bad_size n = eqb n 0 || ltb 1500 n

-- a first piece: 50, then it is taken
unfoldable pub first_taken : Lent → Label → ℕ → List ℕ → After
first_taken x l second v = cond (bad_size (length v)) (refuses 50 x) (taken_piece x l second v)

-- 51: a follow-on's number is 0 or above 127
unfoldable pub off_number : ℕ → Bool
off_number k = eqb k 0 || ltb 127 k

-- a follow-on piece: 50 and 51, then it is taken
unfoldable pub follow_on_taken : Lent → Label → ℕ → List ℕ → After
follow_on_taken x l second v =
    cond (bad_size (length v)) (refuses 50 x)
    (cond (off_number l.number) (refuses 51 x)
    (taken_piece x l second v))

-- slot i is free where its message is old, and the summary says one less
unfoldable pub swept_at : ℕ → List ℕ → ℕ → List ℕ
swept_at second rec i = cond (is_old second (head_at rec i)) (lowered (with_head rec i no_head)) rec

-- the first n slots swept
abbrev pub swept_to : ℕ → List ℕ → ℕ → List ℕ
swept_to second rec zero = rec
swept_to second rec (suc n) = swept_at second (swept_to second rec n) n

-- a share swept: old messages are dropped, finished ones that are due are forgotten
unfoldable pub share_swept : ℕ → List ℕ → List ℕ
share_swept second rec = forgotten_in second (swept_to second rec 4)
