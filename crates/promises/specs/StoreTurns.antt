-- The store's calls as turns, one after the other, on every record and room: a neighbour's piece, or a sweep. And what one neighbour has of the turns of all.
-- `first_call`, `follow_on_call` and `swept` are what the contracts of strawhub_store_first, strawhub_store_follow_on and strawhub_store_sweep say of every record, room and buffer.
use Rattle.std.specs.Prelude.{Bool, true, List, [], ◌∷◌, ℕ, ◌≤◌, ◌<◌, eqb, length}
use Rattle.reassembly.specs.Sizes.{room_size, record_size}
use Rattle.reassembly.specs.declared.Reply.{Reply}
use Rattle.reassembly.specs.Store.{Piece, first, follow}
use Rattle.reassembly.specs.Calls.{Lent, lent, After, bare}
use Rattle.reassembly.specs.Shares.{share_of, share_of_room, first_call, follow_on_call, swept}
use Rattle.reassembly.specs.Turns.{Turned, turned, said_each, record_left, room_left, said_those, those}
use Rattle.reassembly.specs.Stands.{Made, label_of}

-- a piece of neighbour n arrives: the call for it, and what it leaves
unfoldable pub piece_call : Lent → ℕ → Piece → ℕ → After
piece_call x n (first id kind expires bytes) second = first_call x n (label_of (first id kind expires bytes)) second bytes
piece_call x n (follow id number final bytes) second = follow_on_call x n (label_of (follow id number final bytes)) second bytes

-- A neighbour, of any number, sends a piece at a second, and the call is lent the assembly buffer `out`, whatever it holds; or a sweep, which is lent none. The seconds
-- may go back.
pub data Turn : Type 0 where
  sends : (n : ℕ) (out : List ℕ) (p : Piece) (second : ℕ) → Turn
  sweeps : (second : ℕ) → Turn

-- What is heard of a turn: the reply, and the assembly buffer afterwards.
pub record Heard : Type 0 where
  pub reply : Reply
  pub out : List ℕ

-- what a call leaves, as a turn
abbrev pub heard_of : After → Turned Heard
heard_of y = turned (record { reply = y.reply; out = y.left.out }) y.left.rec y.left.room

-- a turn, on a record and a room
unfoldable pub turn_call : List ℕ → List ℕ → Turn → Turned Heard
turn_call rec room (sends n out p second) = heard_of (piece_call (lent rec room out) n p second)
turn_call rec room (sweeps second) = turned (record { reply = bare 0; out = [] }) (swept second rec) room

-- what neighbour n's share meets: its pieces, and the sweeps
abbrev pub meets : ℕ → Turn → Bool
meets n (sends m out p second) = eqb m n
meets n (sweeps second) = true

-- these, of the turns of all
abbrev pub own : ℕ → List Turn → List Turn
own n turns = those (meets n) turns

-- what is heard of these
abbrev pub heard : ℕ → List ℕ → List ℕ → List Turn → List Heard
heard n rec room turns = said_those (meets n) turns (said_each turn_call rec room turns)

-- the record after the last turn
abbrev pub last_rec : List ℕ → List ℕ → List Turn → List ℕ
last_rec rec room turns = record_left turn_call rec room turns

-- and the room
abbrev pub last_room : List ℕ → List ℕ → List Turn → List ℕ
last_room rec room turns = room_left turn_call rec room turns

-- what the calls' parameters hold: ids and expirations of 4 bytes, seconds of 8
abbrev pub InWidth : Piece → ℕ → Type 0
InWidth p second = ((label_of p).id < 4294967296) × ((label_of p).expires < 4294967296) × (second < 18446744073709551616)

-- so all pieces of some turns
abbrev pub AllInWidth : List Turn → Type 0
AllInWidth [] = Unit
AllInWidth (sends n out p second ∷ turns) = InWidth p second × AllInWidth turns
AllInWidth (sweeps second ∷ turns) = AllInWidth turns

-- Record and room have their lengths, and neighbour n's share of them is one that calls made. Nothing is asked of the other shares.
pub record OwnMade (n : ℕ) (rec room : List ℕ) : Type 0 where
  pub record_long : record_size ≤ length rec
  pub room_long : room_size ≤ length room
  pub share_made : Made (share_of rec n) (share_of_room room n)
