-- What holds of a call on every record, room and buffer, also on those that no call made.
use Rattle.std.specs.Prelude.{◌≡◌, ◌⊎◌, List, ℕ, ◌+◌, ◌*◌, ◌≤◌, ◌<◌, length}
use Rattle.wire.specs.Parts.{splice}
use Rattle.reassembly.specs.declared.Label.{Label}
use Rattle.reassembly.specs.Sizes.{slot_size}
use Rattle.reassembly.specs.Calls.{Lent, After, after}
use Rattle.reassembly.specs.Shares.{first_call, follow_on_call}

-- what is put into the room lies in one slot's own part of it, one of the neighbour's: slot k of neighbour n is the (4n + k)-th of the room
pub record InSlot (n : ℕ) (room room' : List ℕ) : Type 0 where
  pub slot : ℕ
  pub place : ℕ
  pub bytes : List ℕ
  pub one_of_4 : slot < 4
  pub inside : place + length bytes ≤ slot_size
  pub put : room' ≡ splice room ((4 * n + slot) * slot_size + place) bytes

-- the call answers 0 or 60, or it left all that it was lent as it was, byte for byte; and it wrote to the room in one slot of its neighbour, if at all
pub record Careful (n : ℕ) (x : Lent) (y : After) : Type 0 where
  pub refusal : (y.reply.number ≡ 0) ⊎ ((y.reply.number ≡ 60) ⊎ (y ≡ after y.reply x))
  pub own_room : (y.left.room ≡ x.room) ⊎ InSlot n x.room y.left.room

-- so is a first piece's call, whatever it is lent
abbrev pub CarefulFirst : Type 0
CarefulFirst = (x : Lent) (n : ℕ) (l : Label) (second : ℕ) (v : List ℕ) → Careful n x (first_call x n l second v)

-- and a follow-on piece's
abbrev pub CarefulFollowOn : Type 0
CarefulFollowOn = (x : Lent) (n : ℕ) (l : Label) (second : ℕ) (v : List ℕ) → Careful n x (follow_on_call x n l second v)
