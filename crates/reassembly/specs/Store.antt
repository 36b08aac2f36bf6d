-- Reassembly (document 01, "Reassembly" and "Numbers returned", rows 50 to 60; document 02, P5, row 57): what the store of one neighbour does with a piece, and
-- a sweep. specs/Neighbours.antt has the store of four.
use Rattle.std.specs.Prelude.{Bool, true, false, cond, ◌&&◌, ◌||◌, List, [], ◌∷◌, ◌++◌, map, ℕ, suc, ◌+◌, length, get_or, take, drop, set, replicate, ltb, leb, eqb}
use Rattle.std.specs.Bool.{beq}
use Rattle.std.proofs.Math.Option.{Option, none, some}
use Rattle.wire.specs.Parts.{same}
use Rattle.reassembly.specs.Sizes.{message_size, most_remembered}
use Rattle.reassembly.specs.Ages.{long_ago}
use Rattle.reassembly.specs.Memory.{Memory, remembers, remember, forget}

-- A piece: a first fragment (number 0, with the message's head) or a follow-on fragment (a number, and whether it is the last).
pub data Piece : Type 0 where
  first : (id kind expires : ℕ) (bytes : List ℕ) → Piece
  follow : (id number : ℕ) (final : Bool) (bytes : List ℕ) → Piece

-- the id of a piece's message
unfoldable pub id_of : Piece → ℕ
id_of (first id kind expires bytes) = id
id_of (follow id number final bytes) = id

-- its number: a first fragment is number 0
unfoldable pub number_of : Piece → ℕ
number_of (first id kind expires bytes) = 0
number_of (follow id number final bytes) = number

-- whether it is marked as the last
unfoldable pub final_of : Piece → Bool
final_of (first id kind expires bytes) = false
final_of (follow id number final bytes) = final

-- its bytes
unfoldable pub piece_bytes : Piece → List ℕ
piece_bytes (first id kind expires bytes) = bytes
piece_bytes (follow id number final bytes) = bytes

-- A message being rebuilt. `table` has the bytes held of each of 128 numbers. A piece has at least one byte, so [] says "not held".
-- `kind` and `expires` are the head, once number 0 is held. `last` is the last number, once it is known, and 0 before: a last piece is a follow-on.
pub record Message : Type 0 where
  pub id : ℕ
  pub opened : ℕ
  pub kind : ℕ
  pub expires : ℕ
  pub last : ℕ
  pub table : List (List ℕ)

-- the slots for open messages: 4 for a neighbour, each free or a message
abbrev pub Slots : Type 0
Slots = List (Option Message)

-- no message is open
abbrev pub empty : Slots
empty = replicate 4 none

-- A neighbour's store: the slots, and the finished messages that are remembered.
pub record Store : Type 0 where
  pub slots : Slots
  pub remembered : Memory

-- a new one: no message is open, none is remembered
abbrev pub new_store : Store
new_store = record { slots = empty; remembered = [] }

-- What comes out when a message is finished: its head and its bytes.
pub record Rebuilt : Type 0 where
  pub kind : ℕ
  pub expires : ℕ
  pub bytes : List ℕ

-- The store's answer: the number, the message that came out, the next store.
pub record Answer : Type 0 where
  pub number : ℕ
  pub out : Option Rebuilt
  pub store : Store

-- The slots' part of it: the number, the message that came out, the next slots.
pub record SlotsAnswer : Type 0 where
  pub number : ℕ
  pub out : Option Rebuilt
  pub slots : Slots

-- Whether a number is held: a held piece has bytes.
abbrev pub is_held : List ℕ → Bool
is_held [] = false
is_held (b ∷ bs) = true

-- all of some numbers are held
abbrev pub all_held : List (List ℕ) → Bool
all_held [] = true
all_held (x ∷ xs) = is_held x && all_held xs

-- one of some numbers is held
abbrev pub some_held : List (List ℕ) → Bool
some_held [] = false
some_held (x ∷ xs) = is_held x || some_held xs

-- how many bytes are held of them
abbrev pub total : List (List ℕ) → ℕ
total [] = 0
total (x ∷ xs) = length x + total xs

-- these bytes, one piece after the other
abbrev pub joined : List (List ℕ) → List ℕ
joined [] = []
joined (x ∷ xs) = x ++ joined xs

-- The slot of the open message with this id; where there is none, the number of slots.
unfoldable pub find_id : ℕ → Slots → ℕ
find_id id [] = 0
find_id id (none ∷ s) = suc (find_id id s)
find_id id (some m ∷ s) = cond (eqb m.id id) 0 (suc (find_id id s))

-- The first free slot; where there is none, the number of slots.
unfoldable pub find_free : Slots → ℕ
find_free [] = 0
find_free (none ∷ s) = 0
find_free (some m ∷ s) = suc (find_free s)

-- Where a piece of this id goes: to its open message, else to the first free slot.
unfoldable pub slot_of : ℕ → Slots → ℕ
slot_of id s = cond (ltb (find_id id s) (length s)) (find_id id s) (find_free s)

-- What stands there: the open message, or a new one with nothing held.
unfoldable pub message_or : Option Message → ℕ → ℕ → Message
message_or none id second = record { id = id; opened = second; kind = 0; expires = 0; last = 0; table = replicate 128 [] }
message_or (some m) id second = m

-- The message with one piece more
unfoldable pub plus : Message → Piece → Message
plus m (first id kind expires bytes) =
    record { id = m.id; opened = m.opened; kind = kind; expires = expires; last = m.last; table = set m.table 0 bytes }
plus m (follow id number final bytes) =
    record { id = m.id; opened = m.opened; kind = m.kind; expires = m.expires; last = cond final number m.last; table = set m.table number bytes }

-- 50: the length is 0 or above 1,500
unfoldable pub bad_length : Piece → Bool
bad_length p = eqb (length (piece_bytes p)) 0 || ltb 1500 (length (piece_bytes p))

-- 51: a follow-on's number is 0 or above 127
unfoldable pub bad_number : Piece → Bool
bad_number (first id kind expires bytes) = false
bad_number (follow id number final bytes) = eqb number 0 || ltb 127 number

-- 54: an exact repeat of a held piece: the same number, bytes, and head or flag
unfoldable pub repeats : Message → Piece → Bool
repeats m (first id kind expires bytes) =
    is_held (get_or m.table 0 []) && same (get_or m.table 0 []) bytes && eqb m.kind kind && eqb m.expires expires
repeats m (follow id number final bytes) =
    is_held (get_or m.table number []) && same (get_or m.table number []) bytes && beq (eqb m.last number) final

-- 55, of a piece that is no exact repeat: its number is held; or is above the known last; or it is a last, below a held number or beside another last
unfoldable pub clashes : Message → Piece → Bool
clashes m p =
    is_held (get_or m.table (number_of p) [])
    || (ltb 0 m.last && ltb m.last (number_of p))
    || (final_of p && (some_held (drop (suc (number_of p)) m.table) || ltb 0 m.last))

-- 53: the total would pass 65,535
unfoldable pub too_much : Message → Piece → Bool
too_much m p = ltb message_size (total m.table + length (piece_bytes p))

-- A last number n is known and all numbers from 0 to n are held.
unfoldable pub complete : Message → Bool
complete m = ltb 0 m.last && all_held (take (suc m.last) m.table)

-- What comes out of it: its head, and the pieces up to the last one after the other.
unfoldable pub rebuilt_of : Message → Rebuilt
rebuilt_of m = record { kind = m.kind; expires = m.expires; bytes = joined (take (suc m.last) m.table) }

-- 56: the assembly buffer is too short for what would come out
unfoldable pub too_short : ℕ → Message → Bool
too_short cap m = ltb cap (length (rebuilt_of m).bytes)

-- A piece that the slots refuse: its number, and the slots as they were.
unfoldable pub slots_refuse : ℕ → Slots → SlotsAnswer
slots_refuse n s = record { number = n; out = none; slots = s }

-- The answer to a piece for the message m in slot k, in the order of the numbers' table; 52 where there is no slot k. `cap` is the assembly buffer's length.
unfoldable pub answer : ℕ → Slots → Piece → ℕ → Message → SlotsAnswer
answer cap s p k m =
    cond (repeats m p) (slots_refuse 54 s)
    (cond (clashes m p) (slots_refuse 55 s)
    (cond (leb (length s) k) (slots_refuse 52 s)
    (cond (too_much m p) (slots_refuse 53 s)
    (cond (complete (plus m p))
    (cond (too_short cap (plus m p)) (slots_refuse 56 s)
    (record { number = 60; out = some (rebuilt_of (plus m p)); slots = set s k none }))
    (record { number = 0; out = none; slots = set s k (some (plus m p)) })))))

-- A piece comes to the slots at a second: to its open message, or to a new one in the first free slot.
unfoldable pub slots_step : ℕ → Slots → Piece → ℕ → SlotsAnswer
slots_step cap s p second =
    let k : ℕ = slot_of (id_of p) s in
    answer cap s p k (message_or (get_or s k none) (id_of p) second)

-- A refusal: its number, and the store as it was.
abbrev pub refused : ℕ → Store → Answer
refused n s = record { number = n; out = none; store = s }

-- The store with what the slots answer to a piece of the message `id`: with 60 the message is finished, and remembered with this second.
abbrev pub answer_by_slots : ℕ → Store → ℕ → ℕ → SlotsAnswer → Answer
answer_by_slots keep s id second a =
    record {
      number = a.number;
      out = a.out;
      store = record { slots = a.slots; remembered = cond (eqb a.number 60) (remember keep s.remembered (record { id = id; second = second })) s.remembered };
    }

-- A piece comes to the store at a second: 50, 51, then 57 where its id is remembered, then the slots answer. `keep` finished messages are remembered at most.
unfoldable pub step : ℕ → ℕ → Store → Piece → ℕ → Answer
step keep cap s p second =
    cond (bad_length p) (refused 50 s)
    (cond (bad_number p) (refused 51 s)
    (cond (remembers s.remembered (id_of p)) (refused 57 s)
    (answer_by_slots keep s (id_of p) second (slots_step cap s.slots p second))))

-- A sweep at a second frees a slot where that second is at least 30 above the one of the piece that opened the message.
unfoldable pub swept_one : ℕ → Option Message → Option Message
swept_one second none = none
swept_one second (some m) = cond (long_ago m.opened second) none (some m)

-- It drops exactly those messages,
unfoldable pub slots_sweep : ℕ → Slots → Slots
slots_sweep second s = map (swept_one second) s

-- and forgets the finished ones that are due. A message that it drops did not finish, and is not remembered.
abbrev pub sweep : ℕ → Store → Store
sweep second s = record { slots = slots_sweep second s.slots; remembered = forget second s.remembered }

-- The numbers that a run of pieces is answered by, all at the second 0, with 65,535 bytes to assemble in.
abbrev pub step_numbers : Store → List Piece → List ℕ
step_numbers s [] = []
step_numbers s (p ∷ ps) = (step most_remembered message_size s p 0).number ∷ step_numbers (step most_remembered message_size s p 0).store ps
