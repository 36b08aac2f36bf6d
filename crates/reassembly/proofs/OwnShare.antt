-- What the promises cite of a neighbour's share: its number of the summary, and what a piece's call does to it. Assumes nothing.
use mathlib.Core.Path.{◌≡◌, refl, sym, ◌∙◌}
use mathlib.Core.Bool.{Bool, false}
use mathlib.Core.List.{List}
use Prim.Native.Nat.{ℕ, ◌≤◌, ◌<◌}
use native.Mathlib.Omega.{arith}
use lib.ListN.{length}
use Rattle.reassembly.specs.Sizes.{share_room, room_size, share_size, record_size}
use Rattle.reassembly.specs.declared.Label.{Label}
use Rattle.reassembly.specs.declared.Reply.{Reply}
use Rattle.reassembly.specs.Store.{first, follow}
use Rattle.reassembly.specs.Neighbours.{open_of}
use Rattle.reassembly.specs.Summary.{open_count}
use Rattle.reassembly.specs.Calls.{Lent, after, first_taken, follow_on_taken}
use Rattle.reassembly.specs.Shares.{share_of, share_of_room, lent_to, first_call, follow_on_call}
use Rattle.reassembly.specs.Stands.{slots_of, stands, Made, label_of}
use Rattle.reassembly.specs.Standing.{store_at, summary_at}
use Rattle.reassembly.proofs.Shares.{share_length, room_length}
use Rattle.reassembly.proofs.GivenBack.{not_short, from_same}
use Rattle.reassembly.proofs.Own.{AsLong, Own, first_own, follow_own}
use Rattle.reassembly.proofs.Lengths.{first_keeps, follow_keeps}

pub store_at_lem : (rec room : List ℕ) (n : ℕ) → store_at rec room n ≡ stands (share_of rec n) (share_of_room room n)
unfolding store_at
store_at_lem rec room n = refl

pub summary_at_lem : (rec : List ℕ) (n : ℕ) → summary_at rec n ≡ open_count (share_of rec n)
unfolding summary_at
summary_at_lem rec n = refl

-- what a piece's label is
pub first_label_lem : (id kind expires : ℕ) (bytes : List ℕ) → label_of (first id kind expires bytes) ≡ record { id = id; number = 0; last = false; kind = kind; expires = expires }
unfolding label_of
first_label_lem id kind expires bytes = refl

pub follow_label : (id number : ℕ) (final : Bool) (bytes : List ℕ) → label_of (follow id number final bytes) ≡ record { id = id; number = number; last = final; kind = 0; expires = 0 }
unfolding label_of
follow_label id number final bytes = refl

-- on a share that calls made the number is a count over its slots
pub own_count : (rec room : List ℕ) (n : ℕ) → Made (share_of rec n) (share_of_room room n) → summary_at rec n ≡ open_of (slots_of (share_of rec n) (share_of_room room n))
own_count rec room n m = summary_at_lem rec n ∙ m.counted

module _ (x : Lent) (n : ℕ) (long : record_size ≤ length x.rec) (wide : room_size ≤ length x.room) (h : n ≤ 3) (l : Label) (second : ℕ) (v : List ℕ) where
  lr : length (share_of x.rec n) ≡ share_size
  lr = share_length x.rec n long (omega arith)

  lm : length (share_of_room x.room n) ≡ share_room
  lm = room_length x.room n wide (omega arith)

  -- a piece's call does to the neighbour's share what the piece does to a share, and nothing to the others
  pub own_first : l.number < 128 → Own x n (first_taken (lent_to x n) l second v) (first_call x n l second v)
  own_first small =
      let a : AsLong (first_taken (lent_to x n) l second v) = first_keeps (lent_to x n) (sym lr) (sym lm) l second v small in
      first_own x n long wide h l second v a.0 a.1

  pub own_follow : Own x n (follow_on_taken (lent_to x n) l second v) (follow_on_call x n l second v)
  own_follow =
      let a : AsLong (follow_on_taken (lent_to x n) l second v) = follow_keeps (lent_to x n) (sym lr) (sym lm) l second v in
      follow_own x n long wide h l second v a.0 a.1

  -- where it leaves the share as it was, all stays
  pub first_stays : (r : Reply) → first_taken (lent_to x n) l second v ≡ after r (lent_to x n) → first_call x n l second v ≡ after r x
  unfolding first_call
  first_stays r e = from_same x n (first_taken (lent_to x n) l second v) (not_short x.rec x.room long wide) h r e

  pub follow_stays : (r : Reply) → follow_on_taken (lent_to x n) l second v ≡ after r (lent_to x n) → follow_on_call x n l second v ≡ after r x
  unfolding follow_on_call
  follow_stays r e = from_same x n (follow_on_taken (lent_to x n) l second v) (not_short x.rec x.room long wide) h r e
