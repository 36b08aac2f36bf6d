-- The shares of record and room, one for each neighbour: each is as long as it says, one that is put is read back, the others stay. Assumes nothing.
use mathlib.Core.Path.{◌≡◌, refl, sym, ap, ◌∙◌}
use mathlib.Core.Bool.{Bool, true, false}
use mathlib.Core.List.{List}
use mathlib.Core.Logic.{◌⊎◌, inl, inr, ◌≢◌}
use Prim.Native.Nat.{ℕ, ◌+◌, ◌*◌, ◌-◌, ◌≤◌, ◌<◌}
use native.Mathlib.Omega.{arith}
use lib.Dec.{ltb}
use lib.ListN.{length, take, drop}
use borrow.Author.Tests.{ltb-true, ltb-false}
use borrow.Rule.Slice.PartMut.{put_mid}
use Rattle.wire.specs.Parts.{part, splice}
use Rattle.wire.proofs.Parts.{length_part, length_splice, part_same, part_other, splice_part}
use Rattle.wire.proofs.Slices.{slice_is}
use Rattle.wire.proofs.Lent.{lent_part}
use Rattle.reassembly.specs.Sizes.{share_room, room_size, share_size, record_size}
use Rattle.reassembly.specs.Shares.{share_of, with_share, share_of_room, with_share_of_room}

-- ---- the n-th of equal parts, each w long

-- it is as long as w where it lies inside
module _ (w : ℕ) (l : List ℕ) (n : ℕ) (fits : n * w + w ≤ length l) where
  nth_put_length : (s : List ℕ) → length s ≡ w → length (splice l (n * w) s) ≡ length l
  nth_put_length s e = length_splice l (n * w) s (omega arith)

  nth_same : (s : List ℕ) → length s ≡ w → part (splice l (n * w) s) (n * w) w ≡ s
  nth_same s e = ap (part (splice l (n * w) s) (n * w)) (sym e) ∙ part_same l (n * w) s (omega arith)

  nth_other : (s : List ℕ) → length s ≡ w → (o : ℕ) → (o + w ≤ n * w) ⊎ (n * w + w ≤ o) → part (splice l (n * w) s) o w ≡ part l o w
  nth_other s e o h = part_other l (n * w) s (omega arith) o w (go h)
    where
      go : (o + w ≤ n * w) ⊎ (n * w + w ≤ o) → (o + w ≤ n * w) ⊎ (n * w + length s ≤ o)
      go (inl b) = inl b
      go (inr b) = inr (omega arith)

-- what is lent as `&l[a..e]`, and what `&mut l[a..e]` gives back
nth_lent : (l : List ℕ) (o w a e : ℕ) → a ≡ o → e ≡ a + w → take (e - a) (drop a l) ≡ part l o w
nth_lent l o w a e p q = rw (q, p) (slice_is l o w)

nth_back : (l : List ℕ) (o w a e : ℕ) (ys : List ℕ) → a ≡ o → e ≡ a + w → length ys ≡ w → put_mid a (e - a) l ys ≡ splice l o ys
nth_back l o w a e ys p q h = lent_part l a e ys (omega arith) (omega arith) ∙ ap (λ (z : ℕ). splice l z ys) p

-- ---- the record's

-- one share lies before or behind another
share_apart : (m n : ℕ) → m ≢ n → (m * share_size + share_size ≤ n * share_size) ⊎ (n * share_size + share_size ≤ m * share_size)
share_apart m n h = go (ltb m n) refl
  where
    go : (b : Bool) → ltb m n ≡ b → (m * share_size + share_size ≤ n * share_size) ⊎ (n * share_size + share_size ≤ m * share_size)
    go true e = let l : m < n = ltb-true m n e in inl (omega arith)
    go false e = let l : n ≤ m = ltb-false m n e in inr (omega arith)

module _ (rec : List ℕ) (n a e : ℕ) (at : a ≡ n * share_size) (to : e ≡ a + share_size) where
  -- the share as a slice of the record
  pub share_lent : take (e - a) (drop a rec) ≡ share_of rec n
  unfolding share_of
  share_lent = nth_lent rec (n * share_size) share_size a e at to

  -- the record with what such a slice became
  pub share_back : (s : List ℕ) → length s ≡ share_size → put_mid a (e - a) rec s ≡ with_share rec n s
  unfolding with_share
  share_back s h = nth_back rec (n * share_size) share_size a e s at to h

module _ (rec : List ℕ) (n : ℕ) (long : record_size ≤ length rec) (one : n < 4) where
  pub share_length : length (share_of rec n) ≡ share_size
  unfolding share_of
  share_length = length_part rec (n * share_size) share_size (omega arith)

  -- a share put where it stands
  pub share_again : with_share rec n (share_of rec n) ≡ rec
  unfolding share_of with_share
  share_again = splice_part rec (n * share_size) share_size (omega arith)

  module _ (s : List ℕ) (as_long : length s ≡ share_size) where
    pub share_put_length : length (with_share rec n s) ≡ length rec
    unfolding with_share
    share_put_length = nth_put_length share_size rec n (omega arith) s as_long

    pub share_same : share_of (with_share rec n s) n ≡ s
    unfolding share_of with_share
    share_same = nth_same share_size rec n (omega arith) s as_long

    pub share_other : (m : ℕ) → m ≢ n → share_of (with_share rec n s) m ≡ share_of rec m
    unfolding share_of with_share
    share_other m h = nth_other share_size rec n (omega arith) s as_long (m * share_size) (share_apart m n h)

-- ---- the room's

room_apart : (m n : ℕ) → m ≢ n → (m * share_room + share_room ≤ n * share_room) ⊎ (n * share_room + share_room ≤ m * share_room)
room_apart m n h = go (ltb m n) refl
  where
    go : (b : Bool) → ltb m n ≡ b → (m * share_room + share_room ≤ n * share_room) ⊎ (n * share_room + share_room ≤ m * share_room)
    go true e = let l : m < n = ltb-true m n e in inl (omega arith)
    go false e = let l : n ≤ m = ltb-false m n e in inr (omega arith)

module _ (room : List ℕ) (n a e : ℕ) (at : a ≡ n * share_room) (to : e ≡ a + share_room) where
  pub room_lent : take (e - a) (drop a room) ≡ share_of_room room n
  unfolding share_of_room
  room_lent = nth_lent room (n * share_room) share_room a e at to

  pub room_back : (s : List ℕ) → length s ≡ share_room → put_mid a (e - a) room s ≡ with_share_of_room room n s
  unfolding with_share_of_room
  room_back s h = nth_back room (n * share_room) share_room a e s at to h

module _ (room : List ℕ) (n : ℕ) (long : room_size ≤ length room) (one : n < 4) where
  pub room_length : length (share_of_room room n) ≡ share_room
  unfolding share_of_room
  room_length = length_part room (n * share_room) share_room (omega arith)

  pub room_again : with_share_of_room room n (share_of_room room n) ≡ room
  unfolding share_of_room with_share_of_room
  room_again = splice_part room (n * share_room) share_room (omega arith)

  module _ (s : List ℕ) (as_long : length s ≡ share_room) where
    pub room_put_length : length (with_share_of_room room n s) ≡ length room
    unfolding with_share_of_room
    room_put_length = nth_put_length share_room room n (omega arith) s as_long

    pub room_same : share_of_room (with_share_of_room room n s) n ≡ s
    unfolding share_of_room with_share_of_room
    room_same = nth_same share_room room n (omega arith) s as_long

    pub room_other : (m : ℕ) → m ≢ n → share_of_room (with_share_of_room room n s) m ≡ share_of_room room m
    unfolding share_of_room with_share_of_room
    room_other m h = nth_other share_room room n (omega arith) s as_long (m * share_room) (room_apart m n h)
