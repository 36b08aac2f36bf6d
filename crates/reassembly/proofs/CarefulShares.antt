-- A piece that is careful with a neighbour's share is so with all that was lent. Assumes nothing.
use mathlib.Core.Path.{◌≡◌, refl, ap, ◌∙◌}
use mathlib.Core.Logic.{◌⊎◌, inl, inr}
use mathlib.Core.Bool.{Bool, true, false}
use mathlib.Core.List.{List}
use Prim.Native.Nat.{ℕ, ◌+◌, ◌*◌, ◌≤◌, ◌<◌}
use native.Mathlib.Omega.{arith}
use lib.Dec.{ltb}
use lib.ListN.{length}
use borrow.Author.Tests.{ltb-true, ltb-false}
use Rattle.wire.specs.Parts.{splice}
use Rattle.wire.proofs.Parts.{splice_inside}
use Rattle.reassembly.specs.Sizes.{slot_size, share_room, room_size}
use Rattle.reassembly.specs.Calls.{Lent, After, after}
use Rattle.reassembly.specs.Shares.{share_of_room, with_share_of_room, lent_to, lent_short, from_neighbour}
use Rattle.reassembly.specs.Careful.{InSlot, Careful}
use Rattle.reassembly.proofs.Shares.{room_again}
use Rattle.reassembly.proofs.GivenBack.{long_lent, from_59, from_58, from_taken, from_same}

-- what is put into a share of the room lies in one slot's own part of it
pub record InShare (room room' : List ℕ) : Type 0 where
  pub slot : ℕ
  pub place : ℕ
  pub bytes : List ℕ
  pub one_of_4 : slot < 4
  pub inside : place + length bytes ≤ slot_size
  pub put : room' ≡ splice room (slot * slot_size + place) bytes

-- a piece that came to a share, x, was answered 0 or 60, or left it as it was, byte for byte; and wrote to the share of the room in one slot, if at all
pub record CarefulOf (x : Lent) (y : After) : Type 0 where
  pub refusal : (y.reply.number ≡ 0) ⊎ ((y.reply.number ≡ 60) ⊎ (y ≡ after y.reply x))
  pub own_room : (y.left.room ≡ x.room) ⊎ InShare x.room y.left.room

-- what is put into neighbour n's share of a room, said of the room
pub in_slot : (room : List ℕ) (n : ℕ) → room_size ≤ length room → n ≤ 3 → (s : List ℕ) → InShare (share_of_room room n) s → InSlot n room (with_share_of_room room n s)
unfolding share_of_room with_share_of_room
in_slot room n long h s c =
    record {
      slot = c.slot;
      place = c.place;
      bytes = c.bytes;
      one_of_4 = c.one_of_4;
      inside = c.inside;
      put =
          ap (splice room (n * share_room)) c.put
          ∙ splice_inside room (n * share_room) share_room (c.slot * slot_size + c.place) c.bytes (omega arith) (omega (arith, c.one_of_4, c.inside))
          ∙ ap (λ (o : ℕ). splice room o c.bytes) there;
    }
  where
    there : n * share_room + (c.slot * slot_size + c.place) ≡ (4 * n + c.slot) * slot_size + c.place
    there = omega arith

module _ (x : Lent) (n : ℕ) (y : After) where
  -- the lift: short or above 3 it changes nothing, else the share is given back
  pub careful_from : CarefulOf (lent_to x n) y → Careful n x (from_neighbour x n y)
  careful_from c = short (lent_short x.rec x.room) refl
    where
      given : lent_short x.rec x.room ≡ false → n ≤ 3 → Careful n x (from_neighbour x n y)
      given long h =
          record {
            refusal = answered c.refusal;
            own_room = rw (from_taken x n y long h) (put c.own_room);
          }
        where
          number : (from_neighbour x n y).reply.number ≡ y.reply.number
          number = rw (from_taken x n y long h) refl

          answered : (y.reply.number ≡ 0) ⊎ ((y.reply.number ≡ 60) ⊎ (y ≡ after y.reply (lent_to x n)))
              → ((from_neighbour x n y).reply.number ≡ 0) ⊎ (((from_neighbour x n y).reply.number ≡ 60) ⊎ (from_neighbour x n y ≡ after (from_neighbour x n y).reply x))
          answered (inl e) = inl (number ∙ e)
          answered (inr (inl e)) = inr (inl (number ∙ e))
          answered (inr (inr e)) = inr (inr (rw (from_same x n y long h y.reply e) refl))

          put : (y.left.room ≡ share_of_room x.room n) ⊎ InShare (share_of_room x.room n) y.left.room
              → (with_share_of_room x.room n y.left.room ≡ x.room) ⊎ InSlot n x.room (with_share_of_room x.room n y.left.room)
          put (inl e) = inl (ap (with_share_of_room x.room n) e ∙ room_again x.room n (long_lent x.rec x.room long).1 (omega arith))
          put (inr i) = inr (in_slot x.room n (long_lent x.rec x.room long).1 h y.left.room i)

      above : (b : Bool) → ltb 3 n ≡ b → lent_short x.rec x.room ≡ false → Careful n x (from_neighbour x n y)
      above true e long = rw (from_58 x n y long (ltb-true 3 n e)) (record { refusal = inr (inr refl); own_room = inl refl })
      above false e long = given long (ltb-false 3 n e)

      short : (b : Bool) → lent_short x.rec x.room ≡ b → Careful n x (from_neighbour x n y)
      short true e = rw (from_59 x n y e) (record { refusal = inr (inr refl); own_room = inl refl })
      short false e = above (ltb 3 n) refl e
