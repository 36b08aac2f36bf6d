-- A neighbour's call reads and writes its own share, and leaves every other neighbour's as it was. Assumes nothing.
use mathlib.Core.Path.{◌≡◌, refl, sym}
use mathlib.Core.List.{List}
use mathlib.Core.Logic.{◌≢◌}
use Prim.Native.Nat.{ℕ, ◌≤◌, ◌<◌}
use native.Mathlib.Omega.{arith}
use lib.ListN.{length}
use Rattle.reassembly.specs.Sizes.{share_room, room_size, share_size, record_size}
use Rattle.reassembly.specs.declared.Label.{Label}
use Rattle.reassembly.specs.Calls.{Lent, After, refuses, first_taken, follow_on_taken}
use Rattle.reassembly.specs.Shares.{share_of, share_of_room, lent_to, from_neighbour, first_call, follow_on_call}
use Rattle.reassembly.proofs.Shares.{share_put_length, share_same, share_other, room_put_length, room_same, room_other}
use Rattle.reassembly.proofs.GivenBack.{not_short, from_58, from_taken}

-- what a share becomes is as long as a share
abbrev pub AsLong : After → Type 0
AsLong y = (share_size ≡ length y.left.rec) × (share_room ≡ length y.left.room)

-- z is what a call of neighbour n left of what it was lent, x, where y is what became of n's share: its answer and buffer are y's, n's share is y's, every other
-- share is as it was, and record and room are as long
pub record Own (x : Lent) (n : ℕ) (y z : After) : Type 0 where
  pub reply : z.reply ≡ y.reply
  pub out : z.left.out ≡ y.left.out
  pub rec_long : length z.left.rec ≡ length x.rec
  pub room_long : length z.left.room ≡ length x.room
  pub own : share_of z.left.rec n ≡ y.left.rec
  pub own_room : share_of_room z.left.room n ≡ y.left.room
  pub others : (m : ℕ) → m ≢ n → share_of z.left.rec m ≡ share_of x.rec m
  pub others_room : (m : ℕ) → m ≢ n → share_of_room z.left.room m ≡ share_of_room x.room m

module _ (x : Lent) (n : ℕ) (long : record_size ≤ length x.rec) (wide : room_size ≤ length x.room) where
  module _ (h : n ≤ 3) where
    pub from_own : (y : After) → share_size ≡ length y.left.rec → share_room ≡ length y.left.room → Own x n y (from_neighbour x n y)
    from_own y lr lm =
        rw (from_taken x n y (not_short x.rec x.room long wide) h)
        (record {
          reply = refl;
          out = refl;
          rec_long = share_put_length x.rec n long (omega arith) y.left.rec (sym lr);
          room_long = room_put_length x.room n wide (omega arith) y.left.room (sym lm);
          own = share_same x.rec n long (omega arith) y.left.rec (sym lr);
          own_room = room_same x.room n wide (omega arith) y.left.room (sym lm);
          others = share_other x.rec n long (omega arith) y.left.rec (sym lr);
          others_room = room_other x.room n wide (omega arith) y.left.room (sym lm);
        })

    module _ (l : Label) (second : ℕ) (v : List ℕ) where
      -- a first piece's call; the piece keeps the lengths of the share
      pub first_own : share_size ≡ length (first_taken (lent_to x n) l second v).left.rec → share_room ≡ length (first_taken (lent_to x n) l second v).left.room
          → Own x n (first_taken (lent_to x n) l second v) (first_call x n l second v)
      unfolding first_call
      first_own lr lm = from_own (first_taken (lent_to x n) l second v) lr lm

      -- and a follow-on piece's
      pub follow_own : share_size ≡ length (follow_on_taken (lent_to x n) l second v).left.rec → share_room ≡ length (follow_on_taken (lent_to x n) l second v).left.room
          → Own x n (follow_on_taken (lent_to x n) l second v) (follow_on_call x n l second v)
      unfolding follow_on_call
      follow_own lr lm = from_own (follow_on_taken (lent_to x n) l second v) lr lm

  -- a neighbour above 3 is answered 58, and all stays
  module _ (above : 3 < n) (l : Label) (second : ℕ) (v : List ℕ) where
    pub first_above : first_call x n l second v ≡ refuses 58 x
    unfolding first_call
    first_above = from_58 x n (first_taken (lent_to x n) l second v) (not_short x.rec x.room long wide) above

    pub follow_above : follow_on_call x n l second v ≡ refuses 58 x
    unfolding follow_on_call
    follow_above = from_58 x n (follow_on_taken (lent_to x n) l second v) (not_short x.rec x.room long wide) above
