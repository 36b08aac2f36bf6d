-- Calls in place, one after another, keep the record of the tracker that the calls by value make. Assumes nothing.
use mathlib.Core.Path.{◌≡◌, refl, sym, ap, ◌∙◌}
use mathlib.Core.Bool.{Bool, true, false, cond}
use mathlib.Core.List.{List, [], ◌∷◌, ◌++◌}
use Prim.Native.Nat.{ℕ, ◌+◌, ◌-◌, ◌%◌, ◌^◌, ◌≤◌, ◌<◌}
use native.Mathlib.Omega.{arith}
use lib.Dec.{eqb}
use lib.ListN.{length, drop, set, replicate, length-set, length-append, length-replicate}
use Rattle.wire.specs.Parts.{part, splice}
use Rattle.wire.specs.Numbers.{little_bytes}
use Rattle.wire.proofs.Parts.{part_part, length_splice, drop_after}
use Rattle.wire.proofs.Numbers.{length_little}
use Rattle.wire.proofs.Slices.{part_alike, length_part_min}
use Rattle.wire.proofs.Zeros.{little_at_none}
use Rattle.acks.specs.declared.Tracker.{Tracker}
use Rattle.acks.specs.History.{Packets}
use Rattle.acks.specs.Tracking.{fresh, clear_up, marks_after, accept_of, register_answer, register_of, register_all}
use Rattle.acks.specs.Recorded.{tracker_size, tracker_short, tracker_at, tracker_bytes, record_after, record_all}
use Rattle.acks.proofs.Ring.{length_clear}
use Rattle.acks.proofs.Recording.{is_long, read_back}

-- a tracker that 259 bytes hold
record TrackerInWidth (t : Tracker) : Type 0 where
  small : t.highest < 256 ^ 4
  long : length t.marks ≡ 255

length_after : (m : List ℕ) (top n : ℕ) → length (marks_after m top n) ≡ length m
unfolding marks_after
length_after m top n =
    length-set (clear_up (set m (top % 255) 1) (top + 1) (n - top - 1)) (n % 255) 1
    ∙ length_clear (set m (top % 255) 1) (top + 1) (n - top - 1)
    ∙ length-set m (top % 255) 1

fits_step : (t : Tracker) (n : ℕ) → TrackerInWidth t → n < 256 ^ 4 → TrackerInWidth (register_of t n).tracker
unfolding register_of accept_of
fits_step t n f h = go (eqb (register_answer t n) 0)
  where
    go : (b : Bool) → TrackerInWidth (cond b (accept_of t n) t)
    go true = record { small = omega (arith, f.small); long = length_after t.marks t.highest n ∙ f.long }
    go false = f

-- r is a record of tracker t, as long as r0 was and with the bytes behind it that r0 had
record Holds (r0 r : List ℕ) (t : Tracker) : Type 0 where
  is : tracker_at r ≡ t
  room : tracker_size ≤ length r
  size : length r ≡ length r0
  behind : drop tracker_size r ≡ drop tracker_size r0
  fits : TrackerInWidth t

holds_step : (r0 r : List ℕ) (t : Tracker) (n : ℕ) → Holds r0 r t → n < 256 ^ 4 → Holds r0 (record_after r n) (register_of t n).tracker
unfolding record_after tracker_bytes
holds_step r0 r t n h small =
    let u : Tracker = (register_of t n).tracker in
    let f : TrackerInWidth (register_of t n).tracker = fits_step t n h.fits small in
    let size : length (little_bytes 4 u.highest ++ u.marks) ≡ tracker_size =
    length-append (little_bytes 4 u.highest) u.marks ∙ omega (arith, length_little 4 u.highest, f.long) in
    let same : length (splice r 0 (little_bytes 4 u.highest ++ u.marks)) ≡ length r =
    length_splice r 0 (little_bytes 4 u.highest ++ u.marks) (omega (arith, h.room)) in
    rw (is_long r h.room, h.is)
    (record {
      is = read_back r (register_of t n).tracker h.room f.small f.long;
      room = omega (arith, h.room);
      size = same ∙ h.size;
      behind = drop_after r 0 (little_bytes 4 u.highest ++ u.marks) (omega (arith, h.room)) tracker_size (omega arith) ∙ h.behind;
      fits = f;
    })

holds_all : (calls r0 r : List ℕ) (t : Tracker) → Holds r0 r t → Packets calls → Holds r0 (record_all r calls) (register_all t calls)
unfolding record_all register_all
holds_all [] r0 r t h p = h
holds_all (n ∷ calls) r0 r t h p = holds_all calls r0 (record_after r n) (register_of t n).tracker (holds_step r0 r t n h p.0) p.1

-- a record that starts with 259 zeros
module _ (rec : List ℕ) (zeros : part rec 0 tracker_size ≡ replicate tracker_size 0) where
  zeros_long : tracker_size ≤ length rec
  zeros_long = omega (arith, ap length zeros, length_part_min rec 0 tracker_size, length-replicate {A = ℕ} tracker_size 0)

  zeros_at : (o n : ℕ) → o + n ≤ tracker_size → part rec (0 + o) n ≡ replicate n 0
  zeros_at o n h = sym (part_part rec 0 tracker_size o n h) ∙ ap (λ (l : List ℕ). part l o n) zeros ∙ part_alike 0 tracker_size o n h

  -- is a new tracker's,
  pub starts : tracker_at rec ≡ fresh
  unfolding tracker_at fresh
  starts = λ j. record { highest = little_at_none 4 rec 0 (zeros_at 0 4 (omega arith)) j; marks = zeros_at 4 255 (omega arith) j }

  -- and calls keep it
  module _ (calls : List ℕ) (p : Packets calls) where
    held_all : Holds rec (record_all rec calls) (register_all fresh calls)
    unfolding fresh
    held_all =
        holds_all calls rec rec fresh
        (record { is = starts; room = zeros_long; size = refl; behind = refl; fits = record { small = omega arith; long = refl } })
        p

    pub in_place : tracker_at (record_all rec calls) ≡ register_all fresh calls
    in_place = held_all.is

    pub in_place_long : tracker_short (record_all rec calls) ≡ false
    in_place_long = is_long (record_all rec calls) held_all.room

    pub in_place_behind : (length (record_all rec calls) ≡ length rec) × (drop tracker_size (record_all rec calls) ≡ drop tracker_size rec)
    in_place_behind = (held_all.size, held_all.behind)

    pub in_place_small : (register_all fresh calls).highest < 256 ^ 4
    in_place_small = held_all.fits.small
