-- Laws of the tracker as lent bytes: what a call in place leaves is what the call by value returns. Assumes nothing.
use Rattle.std.specs.Prelude.{Ok}
use mathlib.Core.Path.{◌≡◌, refl, sym, ap, ◌∙◌}
use mathlib.Core.Bool.{Bool, true, false, cond}
use mathlib.Core.List.{List, ◌++◌}
use Prim.Native.Nat.{ℕ, ◌+◌, ◌^◌, ◌≤◌, ◌<◌}
use native.Mathlib.Omega.{arith}
use lib.ListN.{length, take, drop, length-append}
use borrow.Author.Tests.{lt-ltb, le-ltb, ne_eqb}
use borrow.Rule.Slice.PartMut.{put_mid}
use Rattle.wire.specs.Parts.{part, splice}
use Rattle.wire.specs.Numbers.{Bytes, little_at, little_bytes}
use Rattle.wire.proofs.Parts.{part_is, splice_swap, splice_join, length_splice, part_before, part_all, part_left, part_right, part_within, part_add, splice_part}
use Rattle.wire.proofs.Numbers.{little_at_again, length_little, little_at_back}
use Rattle.wire.proofs.Lent.{lent_part}
use Rattle.acks.specs.declared.Tracker.{Tracker}
use Rattle.acks.specs.History.{answer_to}
use Rattle.acks.specs.Tracking.{Registered, is_duplicate, register_answer, register_of}
use Rattle.acks.specs.Recorded.{duplicate_number, tracker_size, tracker_short, tracker_at, tracker_bytes, register_there, record_after}

-- a duplicate by its number
pub asked : (b : Bool) → duplicate_number (Ok b) ≡ cond b 1 0
asked true = refl
asked false = refl

add_zero_of : (k n : ℕ) → n ≡ k → n + 0 ≡ k
add_zero_of k n e = omega arith

module _ (r : List ℕ) where
  pub is_short_lem : length r < tracker_size → tracker_short r ≡ true
  unfolding tracker_short
  is_short_lem h = lt-ltb (length r) tracker_size h

  pub is_long : tracker_size ≤ length r → tracker_short r ≡ false
  unfolding tracker_short
  is_long h = le-ltb (length r) tracker_size h

  pub short_refused : (n : ℕ) → length r < tracker_size → (59 ≡ register_there r n) × (r ≡ record_after r n)
  unfolding register_there record_after
  short_refused n h = (rw (is_short_lem h), rw (is_short_lem h))

  -- bytes, read as a tracker and put back
  put_back : tracker_size ≤ length r → Bytes r → splice r 0 (tracker_bytes (tracker_at r)) ≡ r
  unfolding tracker_bytes tracker_at
  put_back long bytes =
      ap (λ (l : List ℕ). splice r 0 (l ++ part r 4 255)) (little_at_again 4 r 0 (omega arith) bytes)
      ∙ ap (splice r 0) (sym (part_add r 0 4 255))
      ∙ splice_part r 0 tracker_size long

  -- a tracker's bytes, read as a tracker
  pub read_back : (t : Tracker) → tracker_size ≤ length r → t.highest < 256 ^ 4 → length t.marks ≡ 255 → tracker_at (splice r 0 (tracker_bytes t)) ≡ t
  unfolding tracker_at tracker_bytes
  read_back t long small size =
      let h : List ℕ = little_bytes 4 t.highest in
      let four : length (little_bytes 4 t.highest) ≡ 4 = length_little 4 t.highest in
      let all : length (little_bytes 4 t.highest ++ t.marks) ≡ tracker_size = length-append (little_bytes 4 t.highest) t.marks ∙ omega arith in
      let front : part (splice r 0 (little_bytes 4 t.highest ++ t.marks)) 0 4 ≡ little_bytes 4 t.highest =
      part_within r 0 (little_bytes 4 t.highest ++ t.marks) (omega arith) 0 4 (omega arith)
      ∙ part_left (little_bytes 4 t.highest) t.marks 0 4 (omega arith)
      ∙ part_all (little_bytes 4 t.highest) 4 (omega arith) in
      let back : part (splice r 0 (little_bytes 4 t.highest ++ t.marks)) 4 255 ≡ t.marks =
      part_within r 0 (little_bytes 4 t.highest ++ t.marks) (omega arith) 4 255 (omega arith)
      ∙ ap (λ (k : ℕ). part (little_bytes 4 t.highest ++ t.marks) k 255) (sym (add_zero_of 4 (length (little_bytes 4 t.highest)) four))
      ∙ part_right (little_bytes 4 t.highest) t.marks 0 255
      ∙ part_all t.marks 255 (omega arith) in
      rw (little_at_back 4 t.highest (splice r 0 (little_bytes 4 t.highest ++ t.marks)) 0 small front, back)

  -- a refusal leaves every byte
  pub refused : (top n : ℕ) → top ≡ little_at 4 r 0 → tracker_size ≤ length r → (a : ℕ) → Bytes r → a ≡ answer_to top (is_duplicate top (part r 4 255)) n → (a ≡ 0 → ⊥) → (a ≡ register_there r n) × (r ≡ record_after r n)
  unfolding register_there record_after register_of register_answer tracker_at
  refused top n is-top long a bytes e ne =
      let f : a ≡ answer_to (little_at 4 r 0) (is_duplicate (little_at 4 r 0) (part r 4 255)) n = e ∙ ap (λ t. answer_to t (is_duplicate t (part r 4 255)) n) is-top in
      (rw (is_long long) f, rw (is_long long, sym f, ne_eqb a 0 ne) (sym (put_back long bytes)))

  -- what a window's registration there leaves: the marks were put, then the highest
  module _ (top n a h : ℕ) (marks m : List ℕ) (long : tracker_size ≤ length r) (is-top : top ≡ little_at 4 r 0) (is-marks : marks ≡ take 255 (drop 4 r)) (size : length m ≡ 255)
      (e : record { answer = a; tracker = record { highest = h; marks = m } } ≡ register_of (record { highest = top; marks = marks }) n) where
    is-tracker : record { highest = top; marks = marks } ≡ tracker_at r
    unfolding tracker_at
    is-tracker = let q : marks ≡ part r 4 255 = is-marks ∙ part_is r 4 255 in λ i. record { highest = is-top i; marks = q i }

    done : record { answer = a; tracker = record { highest = h; marks = m } } ≡ register_of (tracker_at r) n
    done = e ∙ ap (λ (t : Tracker). register_of t n) is-tracker

    pub answered : a ≡ register_there r n
    unfolding register_there
    answered = rw (is_long long) (ap (λ (x : Registered). x.answer) done)

    lent : put_mid 4 255 r m ≡ splice r 4 m
    lent = lent_part r 4 tracker_size m (omega arith) (omega arith)

    four : length (little_bytes 4 h) ≡ 4
    four = length_little 4 h

    pub left : splice (put_mid 4 255 r m) 0 (little_bytes 4 h) ≡ record_after r n
    unfolding record_after tracker_bytes
    left =
        let next : 4 ≡ 0 + length (little_bytes 4 h) = omega (arith, four) in
        let swapped : splice (put_mid 4 255 r m) 0 (little_bytes 4 h) ≡ splice (splice r 0 (little_bytes 4 h)) (0 + length (little_bytes 4 h)) m =
        ap (λ (l : List ℕ). splice l 0 (little_bytes 4 h)) lent
        ∙ sym (splice_swap r 0 4 (little_bytes 4 h) m (omega (arith, four)) (omega arith))
        ∙ ap (λ (k : ℕ). splice (splice r 0 (little_bytes 4 h)) k m) next in
        swapped
        ∙ splice_join r 0 (little_bytes 4 h) m (omega (arith, four))
        ∙ rw (is_long long) (ap (λ (x : Registered). splice r 0 (little_bytes 4 x.tracker.highest ++ x.tracker.marks)) done)

    -- refused, the highest is put as it was
    pub stays : Bytes r → h ≡ top → put_mid 4 255 r m ≡ record_after r n
    stays bytes kept =
        let old : little_bytes 4 h ≡ part r 0 4 = ap (little_bytes 4) (kept ∙ is-top) ∙ little_at_again 4 r 0 (omega arith) bytes in
        let front : part (put_mid 4 255 r m) 0 4 ≡ part r 0 4 = ap (λ (l : List ℕ). part l 0 4) lent ∙ part_before r 4 m (omega arith) 0 4 (omega arith) in
        let size : 4 ≤ length (put_mid 4 255 r m) = omega (arith, ap length lent, length_splice r 4 m (omega arith)) in
        sym (splice_part (put_mid 4 255 r m) 0 4 size)
        ∙ ap (splice (put_mid 4 255 r m) 0) (front ∙ sym old)
        ∙ left
