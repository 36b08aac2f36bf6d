-- A call leaves its share as long as it was, whatever it holds. Assumes nothing.
use mathlib.Core.Path.{◌≡◌, refl, sym, ◌∙◌}
use mathlib.Core.Bool.{Bool, true, false, cond}
use mathlib.Core.List.{List}
use Prim.Native.Nat.{ℕ, ◌+◌, ◌≤◌, ◌<◌}
use native.Mathlib.Omega.{arith}
use lib.Dec.{eqb, ltb}
use lib.ListN.{length}
use borrow.Author.Tests.{ltb-true}
use Rattle.reassembly.specs.Sizes.{share_room, share_size}
use Rattle.reassembly.specs.declared.Label.{Label}
use Rattle.reassembly.specs.Slots.{first_from, is_open_as, is_free}
use Rattle.reassembly.specs.Memory.{remembers}
use Rattle.reassembly.specs.Remembered.{memory_of, remembered_in}
use Rattle.reassembly.specs.Summary.{open_count, lowered, is_full}
use Rattle.reassembly.specs.Calls.{Lent, After, added, opened_in, opened_now, remembered_after, with_remembered, taken_piece, bad_size, off_number, first_taken, follow_on_taken}
use Rattle.reassembly.proofs.Branches.{good_size, good_number, free_slot}
use Rattle.reassembly.proofs.Remembered.{remembered_behind}
use Rattle.reassembly.proofs.Summary.{open_behind}
use Rattle.reassembly.proofs.Own.{AsLong}
use Rattle.reassembly.proofs.MemoryStays.{Stays, stays_added, stays_opened}

-- what is left is as long as what was lent
record Keeps (x : Lent) (y : After) : Type 0 where
  rec_long : length y.left.rec ≡ length x.rec
  room_long : length y.left.room ≡ length x.room

-- a test decides between two
both : (x : Lent) (b : Bool) (y z : After) → (b ≡ true → Keeps x y) → (b ≡ false → Keeps x z) → Keeps x (cond b y z)
both x true y z p q = p refl
both x false y z p q = q refl

module _ (x : Lent) (long : share_size ≤ length x.rec) (room_long : share_room ≤ length x.room) (l : Label) (second : ℕ) (v : List ℕ) where
  long_remembered : (y : After) → Keeps x y → Keeps x (with_remembered l second y)
  unfolding remembered_after
  long_remembered y a = go (eqb y.reply.number 60)
    where
      go : (b : Bool) → Keeps x (record { reply = y.reply; left = record { rec = cond b (remembered_in (lowered y.left.rec) (record { id = l.id; second = second })) y.left.rec; room = y.left.room; out = y.left.out } })
      go true =
          let c : length (lowered y.left.rec) ≡ length y.left.rec = (open_behind y.left.rec _ (omega (arith, a.rec_long))).long in
          record {
            rec_long = (remembered_behind (lowered y.left.rec) (omega (arith, a.rec_long)) (record { id = l.id; second = second })).long ∙ c ∙ a.rec_long;
            room_long = a.room_long;
          }
      go false = a

  taken_long : l.number < 128 → length v ≤ 1500 → Keeps x (taken_piece x l second v)
  unfolding taken_piece opened_now
  taken_long small few =
      both x (ltb (first_from (is_open_as x.rec l.id) 0 4) 4) _ _
      (λ e.
      let s : Stays x (added x (first_from (is_open_as x.rec l.id) 0 4) l v)
      = stays_added x long room_long l small v (first_from (is_open_as x.rec l.id) 0 4) (ltb-true (first_from (is_open_as x.rec l.id) 0 4) 4 e) in
      long_remembered (added x (first_from (is_open_as x.rec l.id) 0 4) l v) (record { rec_long = s.rec_long; room_long = s.room_long }))
      (λ e. both x (remembers (memory_of x.rec) l.id) _ _ (λ w. record { rec_long = refl; room_long = refl })
      (λ w. both x (is_full x.rec) _ _ (λ z. record { rec_long = refl; room_long = refl })
      (λ z.
      let i : first_from (is_free x.rec) 0 4 < 4 = free_slot x.rec z in
      let s : Stays x (opened_in x (first_from (is_free x.rec) 0 4) l second v) = stays_opened x long room_long l small v second (first_from (is_free x.rec) 0 4) i few in
      record {
        rec_long = (open_behind (opened_in x (first_from (is_free x.rec) 0 4) l second v).left.rec (open_count x.rec + 1) (omega (arith, s.rec_long))).long ∙ s.rec_long;
        room_long = s.room_long;
      })))

  first_long : l.number < 128 → Keeps x (first_taken x l second v)
  unfolding first_taken
  first_long small = both x (bad_size (length v)) _ _ (λ e. record { rec_long = refl; room_long = refl }) (λ e. taken_long small (good_size (length v) e).1)

  follow_long : Keeps x (follow_on_taken x l second v)
  unfolding follow_on_taken
  follow_long =
      both x (bad_size (length v)) _ _ (λ e. record { rec_long = refl; room_long = refl })
      (λ e. both x (off_number l.number) _ _ (λ w. record { rec_long = refl; room_long = refl })
      (λ w. let k : l.number ≤ 127 = (good_number l.number w).1 in taken_long (omega arith) (good_size (length v) e).1))

-- on a share of its length
module _ (x : Lent) (long : share_size ≡ length x.rec) (room_long : share_room ≡ length x.room) (l : Label) (second : ℕ) (v : List ℕ) where
  pub first_keeps : l.number < 128 → AsLong (first_taken x l second v)
  first_keeps small = let k : Keeps x (first_taken x l second v) = first_long x (omega arith) (omega arith) l second v small in (long ∙ sym k.rec_long, room_long ∙ sym k.room_long)

  pub follow_keeps : AsLong (follow_on_taken x l second v)
  follow_keeps = let k : Keeps x (follow_on_taken x l second v) = follow_long x (omega arith) (omega arith) l second v in (long ∙ sym k.rec_long, room_long ∙ sym k.room_long)
