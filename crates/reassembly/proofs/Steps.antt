-- A piece that is taken does on record, room and assembly buffer what the slots do. Assumes nothing.
use mathlib.Core.Path.{◌≡◌, refl, sym, ap, ◌∙◌}
use mathlib.Core.Bool.{Bool, true, false, cond, not, ◌&&◌, false≢true}
use mathlib.Core.List.{List, []}
use mathlib.Core.Option.{none, some}
use Prim.Native.Nat.{ℕ, ◌+◌, ◌≤◌, ◌<◌}
use native.Mathlib.Omega.{arith}
use lib.Dec.{eqb, ltb}
use lib.ListN.{length, get_or, set}
use borrow.Author.Tests.{lt-ltb, le-ltb, ltb-true, ltb-false}
use Rattle.wire.specs.Parts.{same}
use Rattle.reassembly.specs.Sizes.{message_size, share_size}
use Rattle.reassembly.specs.declared.Head.{Head}
use Rattle.reassembly.specs.declared.Label.{Label}
use Rattle.reassembly.specs.Store.{Piece, first, follow, id_of, piece_bytes, Message, Slots, is_held, find_id, find_free, slot_of, message_or, plus, bad_length, bad_number, repeats, clashes, slots_refuse, answer, slots_step}
use Rattle.reassembly.specs.Record.{head_at, entry_at, outside, piece_at, cleared}
use Rattle.reassembly.specs.Slots.{first_from, is_open_as, is_free}
use Rattle.reassembly.specs.Judge.{same_label, again, misfits, grown_by, is_complete, new_head}
use Rattle.reassembly.specs.Calls.{lent, after, bare, kept_rec, kept_room, put_in, compared, added, opened_in}
use Rattle.reassembly.specs.Stands.{table_at, message_with, slot_at, slots_of, Fine, SlotsMade, label_of}
use Rattle.wire.proofs.Series.{length_series, get_d_series}
use Rattle.reassembly.proofs.Searches.{is_none, has_id, found_is, vacant_is, first_passes, free_none}
use Rattle.reassembly.proofs.Written.{length_cleared}
use Rattle.reassembly.proofs.Kept.{never_outside, held_is}
use Rattle.reassembly.proofs.Others.{Others, others_cleared}
use Rattle.reassembly.proofs.Answers.{label_id, number_small, repeats_held, repeats_free, clashes_held, clashes_free}
use Rattle.reassembly.proofs.Refines.{SlotsAgree, refusal, size_of, answer_53, answer_kept, kept_agrees, finished_agrees}
use Rattle.reassembly.proofs.Fresh.{none_held, fresh_is, fresh_fine, fresh_fits, fresh_part}

-- what every number of a call fits in
pub record PieceInWidth (p : Piece) (second : ℕ) : Type 0 where
  pub id : (label_of p).id < 4294967296
  pub expires : (label_of p).expires < 4294967296
  pub second_fits : second < 18446744073709551616

pub fits_first : (id kind expires : ℕ) (bytes : List ℕ) (second : ℕ) → id < 4294967296 → expires < 4294967296 → second < 18446744073709551616 → PieceInWidth (first id kind expires bytes) second
unfolding label_of
fits_first id kind expires bytes second a b c = record { id = a; expires = b; second_fits = c }

-- a follow-on has no expiration
pub fits_follow : (id number : ℕ) (final : Bool) (bytes : List ℕ) (second : ℕ) → id < 4294967296 → second < 18446744073709551616 → PieceInWidth (follow id number final bytes) second
unfolding label_of
fits_follow id number final bytes second a c = record { id = a; expires = omega arith; second_fits = c }

others_none : (rec room : List ℕ) (i : ℕ) → Others rec room rec room i
others_none rec room i = record { heads = λ j h q. refl; entries = λ j k h q hk. refl; rooms = λ j h q. refl }

-- the slot tests of the record are those of the store
module _ (rec room : List ℕ) where
  open_test : (id k : ℕ) → is_open_as rec id k ≡ has_id id (slot_at rec room k)
  unfolding is_open_as slot_at is_free message_with
  open_test id k = go (eqb (head_at rec k).count 0)
    where
      go : (b : Bool) → (not b && eqb (head_at rec k).id id) ≡ has_id id (cond b none (some (record { id = (head_at rec k).id; opened = (head_at rec k).opened; kind = (head_at rec k).kind; expires = (head_at rec k).expires; last = (head_at rec k).last; table = table_at rec room k })))
      go true = refl
      go false = refl

  free_test : (k : ℕ) → is_free rec k ≡ is_none (slot_at rec room k)
  unfolding slot_at
  free_test k = go (is_free rec k)
    where
      go : (b : Bool) → b ≡ is_none (cond b none (some (message_with (head_at rec k) rec room k)))
      go true = refl
      go false = refl

  pub found_in : (id : ℕ) → find_id id (slots_of rec room) ≡ first_from (is_open_as rec id) 0 4
  unfolding slots_of
  found_in id = found_is id (slot_at rec room) (is_open_as rec id) (open_test id) 4

  pub four_slots : length (slots_of rec room) ≡ 4
  unfolding slots_of
  four_slots = length_series (slot_at rec room) 0 4

module _ (rec room out : List ℕ) (made : SlotsMade rec room) (p : Piece) (second : ℕ) (gl : bad_length p ≡ false) (gn : bad_number p ≡ false) (fit : PieceInWidth p second) where
  abbrev l : Label
  l = label_of p

  abbrev v : List ℕ
  v = piece_bytes p

  abbrev s : Slots
  s = slots_of rec room

  in_all : (i : ℕ) → i < 4 → i < length s
  in_all i hi = omega (arith, four_slots rec room)

  -- a piece of the open message of slot i
  module _ (i : ℕ) (hi : i < 4) (used : is_free rec i ≡ false) where
    abbrev h : Head
    h = head_at rec i

    abbrev m : Message
    m = message_with h rec room i

    f : Fine h rec room i
    f = made.slots i hi used

    held_as : (b : Bool) → eqb (entry_at rec i l.number).len 0 ≡ b → is_held (get_or (table_at rec room i) l.number []) ≡ not b
    held_as b e = held_is h rec room i f made.room_long hi l.number (number_small p gn) ∙ ap not e

    put_agrees : is_held (get_or (table_at rec room i) l.number []) ≡ false → misfits h l ≡ false → SlotsAgree out (put_in (lent rec room out) i h l v) (answer (length out) s p i m)
    unfolding put_in
    put_agrees free ok = go (ltb message_size (h.total + length v)) refl (is_complete (grown_by h l (length v))) refl
      where
        go : (b : Bool) → ltb message_size (h.total + length v) ≡ b → (c : Bool) → is_complete (grown_by h l (length v)) ≡ c → SlotsAgree out (put_in (lent rec room out) i h l v) (answer (length out) s p i m)
        go true e c w =
            let a : answer (length out) s p i m ≡ slots_refuse 53 s
            = answer_53 h rec room i f made.record_long made.room_long hi p gl gn fit.expires free ok out s (in_all i hi) (ltb-true message_size (h.total + length v) e) in
            rw (e, a) (refusal rec room out 53 made)
        go false e true w =
            rw (e, w)
            (finished_agrees h rec room i f made.record_long made.room_long hi p gl gn fit.expires free ok out s (in_all i hi) (ltb-false message_size (h.total + length v) e) made w refl)
        go false e false w =
            let a : answer (length out) s p i m ≡ record { number = 0; out = none; slots = set s i (some (plus m p)) }
            = answer_kept h rec room i f made.record_long made.room_long hi p gl gn fit.expires free ok out s (in_all i hi) (ltb-false message_size (h.total + length v) e) w in
            rw (e, w, a)
            (kept_agrees h rec room i f made.record_long made.room_long hi p gl gn fit.expires free ok out s (in_all i hi) (ltb-false message_size (h.total + length v) e) rec made (others_none rec room i))

    added_agrees : SlotsAgree out (added (lent rec room out) i l v) (answer (length out) s p i m)
    unfolding added compared again answer
    added_agrees = go (eqb (entry_at rec i l.number).len 0) refl
      where
        inside : outside (entry_at rec i l.number) ≡ false
        inside = never_outside h rec room i f made.room_long hi l.number (number_small p gn)

        repeated : (c : Bool) → is_held (get_or (table_at rec room i) l.number []) ≡ true → (same_label h l && same (piece_at rec room i l.number) v) ≡ c
            → SlotsAgree out (after (bare (compared rec room i h l v)) (lent rec room out)) (answer (length out) s p i m)
        repeated true t q =
            let r : repeats m p ≡ true = repeats_held h rec room i f made.room_long hi p gn t ∙ q in
            rw (inside, q, r) (refusal rec room out 54 made)
        repeated false t q =
            let r : repeats m p ≡ false = repeats_held h rec room i f made.room_long hi p gn t ∙ q in
            let c : clashes m p ≡ true = clashes_held h rec room i f made.room_long hi p gn t in
            rw (inside, q, r, c) (refusal rec room out 55 made)

        fitting : (c : Bool) → is_held (get_or (table_at rec room i) l.number []) ≡ false → misfits h l ≡ c
            → SlotsAgree out (cond (misfits h l) (after (bare 55) (lent rec room out)) (put_in (lent rec room out) i h l v)) (answer (length out) s p i m)
        fitting true t q =
            let r : repeats m p ≡ false = repeats_free h rec room i f made.room_long hi p gn t in
            let c : clashes m p ≡ true = clashes_free h rec room i f made.room_long hi p gn t ∙ q in
            rw (q, r, c) (refusal rec room out 55 made)
        fitting false t q = rw q (put_agrees t q)

        go : (b : Bool) → eqb (entry_at rec i l.number).len 0 ≡ b → SlotsAgree out (added (lent rec room out) i l v) (answer (length out) s p i m)
        go false e = rw e (repeated (same_label h l && same (piece_at rec room i l.number) v) (held_as false e) refl)
        go true e = rw e (fitting (misfits h l) (held_as true e) refl)

  -- a piece of a message that is not open, for the free slot i
  module _ (i : ℕ) (hi : i < 4) where
    abbrev h₀ : Head
    h₀ = new_head l second

    opened_agrees : SlotsAgree out (opened_in (lent rec room out) i l second v) (answer (length out) s p i (message_or none (id_of p) second))
    opened_agrees = rw (fresh_is rec room i made.record_long hi p second, a) in_slot
      where
        long₁ : share_size ≤ length (cleared rec i)
        long₁ = omega (arith, length_cleared rec made.record_long i hi, made.record_long)

        f₀ : Fine h₀ (cleared rec i) room i
        f₀ = fresh_fine rec room i made.record_long hi l second fit.id fit.second_fits

        free₀ : is_held (get_or (table_at (cleared rec i) room i) l.number []) ≡ false
        free₀ = none_held rec room i made.record_long hi l.number

        fits₀ : h₀.total + length v ≤ message_size
        fits₀ = unfold new_head in omega (arith, (size_of p gl).1)

        a : answer (length out) s p i (message_with h₀ (cleared rec i) room i) ≡ record { number = 0; out = none; slots = set s i (some (plus (message_with h₀ (cleared rec i) room i) p)) }
        a = answer_kept h₀ (cleared rec i) room i f₀ long₁ made.room_long hi p gl gn fit.expires free₀ (fresh_fits l second) out s (in_all i hi) fits₀ (fresh_part l second (length v))

        k : SlotsAgree out (after (bare 0) (lent (kept_rec (cleared rec i) i l.number h₀.total (length v) (grown_by h₀ l (length v))) (kept_room room i h₀.total v) out))
            (record { number = 0; out = none; slots = set s i (some (plus (message_with h₀ (cleared rec i) room i) p)) })
        k = kept_agrees h₀ (cleared rec i) room i f₀ long₁ made.room_long hi p gl gn fit.expires free₀ (fresh_fits l second) out s (in_all i hi) fits₀ rec made (others_cleared rec room i made.record_long hi)

        in_slot : SlotsAgree out (opened_in (lent rec room out) i l second v) (record { number = 0; out = none; slots = set s i (some (plus (message_with h₀ (cleared rec i) room i) p)) })
        in_slot = unfold opened_in new_head in k

  found : find_id (id_of p) s ≡ first_from (is_open_as rec l.id) 0 4
  found = ap (λ (z : ℕ). find_id z s) (sym (label_id p)) ∙ found_in rec room l.id

  pub vacant : find_free s ≡ first_from (is_free rec) 0 4
  unfolding slots_of
  vacant = vacant_is (slot_at rec room) (is_free rec) (free_test rec room) 4

  at_slot : (k : ℕ) → k < 4 → get_or s k none ≡ slot_at rec room k
  unfolding slots_of
  at_slot k hk = get_d_series (slot_at rec room) 4 k none hk

  -- the slot that was found is in use
  used_slot : (k : ℕ) → is_open_as rec l.id k ≡ true → is_free rec k ≡ false
  unfolding is_open_as is_free
  used_slot k e = go (eqb (head_at rec k).count 0) refl e
    where
      go : (b : Bool) → eqb (head_at rec k).count 0 ≡ b → (not b && eqb (head_at rec k).id l.id) ≡ true → eqb (head_at rec k).count 0 ≡ false
      go true q t = absurd (false≢true t)
      go false q t = q

  step_open : (k : ℕ) → first_from (is_open_as rec l.id) 0 4 ≡ k → k < 4 → is_free rec k ≡ false
      → slots_step (length out) s p second ≡ answer (length out) s p k (message_with (head_at rec k) rec room k)
  unfolding slots_step slot_of message_or
  step_open k e hk u =
      let q : find_id (id_of p) s ≡ k = found ∙ e in
      let t : get_or s k none ≡ some (message_with (head_at rec k) rec room k) = at_slot k hk ∙ slot_used k u in
      rw (q, four_slots rec room, lt-ltb k 4 hk, t) refl
    where
      slot_used : (k : ℕ) → is_free rec k ≡ false → slot_at rec room k ≡ some (message_with (head_at rec k) rec room k)
      slot_used k u = unfold slot_at in rw u refl

  step_new : 4 ≤ first_from (is_open_as rec l.id) 0 4
      → slots_step (length out) s p second ≡ answer (length out) s p (first_from (is_free rec) 0 4) (message_or none (id_of p) second)
  unfolding slots_step slot_of
  step_new n =
      let q : ltb (find_id (id_of p) s) (length s) ≡ false = le-ltb (find_id (id_of p) s) (length s) (omega (arith, found, four_slots rec room)) in
      rw (q, free_none s, vacant) refl

  -- a piece of an open message
  pub added_slots : ltb (first_from (is_open_as rec l.id) 0 4) 4 ≡ true
      → SlotsAgree out (added (lent rec room out) (first_from (is_open_as rec l.id) 0 4) l v) (slots_step (length out) s p second)
  added_slots e =
      let hk : first_from (is_open_as rec l.id) 0 4 < 4 = ltb-true (first_from (is_open_as rec l.id) 0 4) 4 e in
      let u : is_free rec (first_from (is_open_as rec l.id) 0 4) ≡ false
      = used_slot (first_from (is_open_as rec l.id) 0 4) (first_passes (is_open_as rec l.id) 0 4 (omega arith)) in
      rw (step_open (first_from (is_open_as rec l.id) 0 4) refl hk u) (added_agrees (first_from (is_open_as rec l.id) 0 4) hk u)

  -- a piece of a message that is not open, where a slot is free
  pub opened_slots : ltb (first_from (is_open_as rec l.id) 0 4) 4 ≡ false → first_from (is_free rec) 0 4 < 4
      → SlotsAgree out (opened_in (lent rec room out) (first_from (is_free rec) 0 4) l second v) (slots_step (length out) s p second)
  opened_slots e q = rw (step_new (ltb-false (first_from (is_open_as rec l.id) 0 4) 4 e)) (opened_agrees (first_from (is_free rec) 0 4) q)
