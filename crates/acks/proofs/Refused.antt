-- A refusal leaves the record, the room or the list that was lent as it was, and its number is one of 01's for the call. Assumes nothing.
use Rattle.std.specs.Prelude.{Err}
use mathlib.Core.Path.{◌≡◌, refl, sym, ap, ◌∙◌, subst}
use mathlib.Core.Logic.{inl, inr}
use mathlib.Core.Bool.{Bool, true, false, cond}
use mathlib.Core.List.{List, [], ◌∷◌}
use Prim.Native.Nat.{ℕ, ◌+◌, ◌%◌, ◌^◌, ◌≤◌, ◌<◌}
use native.Mathlib.Omega.{arith}
use lib.Dec.{eqb, ltb, leb}
use lib.ListN.{length}
use borrow.Author.Tests.{ltb-true, ltb-false, eqb-true, eqb-false, ne_eqb}
use types.Run.{OneOf}
use Rattle.wire.specs.Numbers.{Bytes, little_at}
use Rattle.wire.proofs.Numbers.{little_at_lt}
use Rattle.blocks.specs.Layout.{fits}
use Rattle.blocks.specs.Table.{widths}
use Rattle.blocks.specs.Writing.{writing, room_after}
use Rattle.blocks.proofs.Refused as Blocks
use Rattle.acks.specs.declared.Tracker.{Tracker}
use Rattle.acks.specs.History.{answer_to}
use Rattle.acks.specs.Tracking.{mark, is_duplicate, register_answer, register_of}
use Rattle.acks.specs.Reporting.{Report, refused_report, silent, pair_bytes, report_of, ack_info}
use Rattle.acks.specs.Recorded.{tracker_size, tracker_short, tracker_at, register_there, record_after, duplicate_there, report_there}
use Rattle.acks.specs.AckBlocks.{ack_fields_of, ack_writing, ack_room}
use Rattle.acks.specs.Runs.{whole_pairs, run_sum}
use Rattle.acks.specs.Expanding.{ack_numbers, expand_answer, goes_below, expand_of, list_after}
use Rattle.acks.proofs.Faithful.{faithful, unheard}
use Rattle.acks.proofs.Sent.{ack_fields_fit}
use Rattle.acks.proofs.Recording as Recording

-- a tracker by value
pub tracker_stays : (t : Tracker) (n : ℕ) → ((register_of t n).answer ≡ 0 → ⊥) → (register_of t n).tracker ≡ t
unfolding register_of
tracker_stays t n ne = rw (ne_eqb (register_answer t n) 0 ne)

-- 40, 42 or 43, or 0
answers : (top : ℕ) (got : ℕ → Bool) (n : ℕ) → (answer_to top got n ≡ 0 → ⊥) → OneOf (40 ∷ 42 ∷ 43 ∷ []) (answer_to top got n)
unfolding answer_to
answers top got n = go (ltb (top + 255) n) (leb (n + 255) top) (got n)
  where
    go : (a b c : Bool) → (◌≡◌ {A = ℕ} (cond a 40 (cond b 42 (cond c 43 0))) 0 → ⊥) → OneOf (40 ∷ 42 ∷ 43 ∷ []) (cond a 40 (cond b 42 (cond c 43 0)))
    go true b c ne = inl refl
    go false true c ne = inr (inl refl)
    go false false true ne = inr (inr refl)
    go false false false ne = absurd (ne refl)

pub tracker_numbers : (t : Tracker) (n : ℕ) → ((register_of t n).answer ≡ 0 → ⊥) → OneOf (40 ∷ 42 ∷ 43 ∷ []) (register_of t n).answer
unfolding register_of register_answer
tracker_numbers t n = answers t.highest (is_duplicate t.highest t.marks) n

-- a tracker's record
pub record_stays : (r : List ℕ) (n : ℕ) → Bytes r → (register_there r n ≡ 0 → ⊥) → record_after r n ≡ r
unfolding tracker_short register_there register_of register_answer tracker_at
record_stays r n bytes = go (ltb (length r) tracker_size) refl
  where
    go : (b : Bool) → ltb (length r) tracker_size ≡ b → (register_there r n ≡ 0 → ⊥) → record_after r n ≡ r
    go true q ne = sym (Recording.short_refused r n (ltb-true (length r) tracker_size q)).1
    go false q ne = sym (Recording.refused r (little_at 4 r 0) n refl (ltb-false (length r) tracker_size q) (register_there r n) bytes (rw q refl) ne).1

pub record_numbers : (r : List ℕ) (n : ℕ) → (register_there r n ≡ 0 → ⊥) → OneOf (40 ∷ 42 ∷ 43 ∷ 59 ∷ []) (register_there r n)
unfolding register_there
record_numbers r n = go (tracker_short r)
  where
    more : (m : ℕ) → OneOf (40 ∷ 42 ∷ 43 ∷ []) m → OneOf (40 ∷ 42 ∷ 43 ∷ 59 ∷ []) m
    more m (inl e) = inl e
    more m (inr (inl e)) = inr (inl e)
    more m (inr (inr e)) = inr (inr (inl e))

    go : (b : Bool) → (cond b 59 (register_of (tracker_at r) n).answer ≡ 0 → ⊥) → OneOf (40 ∷ 42 ∷ 43 ∷ 59 ∷ []) (cond b 59 (register_of (tracker_at r) n).answer)
    go true ne = inr (inr (inr refl))
    go false ne = more (register_of (tracker_at r) n).answer (tracker_numbers (tracker_at r) n ne)

-- a report's number is 0, and then its pairs are whole and few, or 41
module _ (top : ℕ) (got : ℕ → Bool) where
  is_41 : ((report_of top got).number ≡ 0 → ⊥) → (report_of top got).number ≡ 41
  unfolding refused_report
  is_41 = go (got top) refl
    where
      go : (b : Bool) → got top ≡ b → ((report_of top got).number ≡ 0 → ⊥) → (report_of top got).number ≡ 41
      go true e ne = absurd (ne (faithful top got e).number_is)
      go false e ne = ap (λ (z : Report). z.number) (unheard top got e)

  is_paired : (report_of top got).number ≡ 0 → (length (pair_bytes (report_of top got)) % 2 ≡ 0) × (length (pair_bytes (report_of top got)) ≤ 254)
  unfolding refused_report
  is_paired z = go (got top) refl
    where
      go : (b : Bool) → got top ≡ b → (length (pair_bytes (report_of top got)) % 2 ≡ 0) × (length (pair_bytes (report_of top got)) ≤ 254)
      go true e = ((faithful top got e).even, (faithful top got e).few)
      go false e = let w : ◌≡◌ {A = ℕ} 41 0 = sym (ap (λ (y : Report). y.number) (unheard top got e)) ∙ z in absurd (omega arith)

  -- and of a highest number of four bytes its numbers fit an Ack block
  is_fitting : (report_of top got).number ≡ 0 → top < 256 ^ 4 → fits (widths 12) (ack_fields_of (report_of top got)) ≡ true
  unfolding refused_report
  is_fitting z h = go (got top) refl
    where
      go : (b : Bool) → got top ≡ b → fits (widths 12) (ack_fields_of (report_of top got)) ≡ true
      go true e = let f = faithful top got e in ack_fields_fit (report_of top got) (omega (arith, f.through_is)) (omega (arith, f.adds_up))
      go false e = let w : ◌≡◌ {A = ℕ} 41 0 = sym (ap (λ (y : Report). y.number) (unheard top got e)) ∙ z in absurd (omega arith)

-- 41 where a tracker reports nothing; 59 too where its record is short
pub tracker_report : (t : Tracker) → ((ack_info t).number ≡ 0 → ⊥) → (ack_info t).number ≡ 41
unfolding ack_info
tracker_report t = is_41 t.highest (mark t.marks)

pub report_numbers_lem : (r : List ℕ) → ((report_there r).number ≡ 0 → ⊥) → OneOf (41 ∷ 59 ∷ []) (report_there r).number
unfolding report_there refused_report
report_numbers_lem r = go (tracker_short r)
  where
    go : (b : Bool) → ((cond b (refused_report 59) (ack_info (tracker_at r))).number ≡ 0 → ⊥) → OneOf (41 ∷ 59 ∷ []) (cond b (refused_report 59) (ack_info (tracker_at r))).number
    go true ne = inr refl
    go false ne = inl (tracker_report (tracker_at r) ne)

-- no, yes or 59
pub duplicate_numbers : (r : List ℕ) (n : ℕ) → OneOf (0 ∷ 1 ∷ 59 ∷ []) (duplicate_there r n)
unfolding duplicate_there
duplicate_numbers r n = go (tracker_short r) (is_duplicate (tracker_at r).highest (tracker_at r).marks n)
  where
    go : (a b : Bool) → OneOf (0 ∷ 1 ∷ 59 ∷ []) (cond a 59 (cond b 1 0))
    go true b = inr (inr refl)
    go false true = inr (inl refl)
    go false false = inl refl

-- the room of an Ack block
pub ack_leaves : (r : Report) (room : List ℕ) (m : ℕ) → ack_writing r (length room) ≡ Err m → ack_room r room ≡ room
unfolding ack_writing ack_room
ack_leaves r room m = go (eqb r.number 0)
  where
    go : (b : Bool) → cond b (writing 12 (ack_fields_of r) (pair_bytes r) (length room)) (Err r.number) ≡ Err m → cond b (room_after 12 (ack_fields_of r) (pair_bytes r) room) room ≡ room
    go true e = Blocks.write_leaves 12 (ack_fields_of r) (pair_bytes r) room m e
    go false e = refl

-- and its number is none of success
pub ack_refused : (r : Report) (room m : ℕ) → ack_writing r room ≡ Err m → m ≡ 0 → ⊥
unfolding ack_writing
ack_refused r room m = go (eqb r.number 0) refl
  where
    never : OneOf (30 ∷ 31 ∷ 32 ∷ []) m → m ≡ 0 → ⊥
    never (inl e) o = omega arith
    never (inr (inl e)) o = omega arith
    never (inr (inr e)) o = omega arith

    go : (b : Bool) → eqb r.number 0 ≡ b → cond b (writing 12 (ack_fields_of r) (pair_bytes r) room) (Err r.number) ≡ Err m → m ≡ 0 → ⊥
    go true q e o = never (Blocks.write_numbers 12 (ack_fields_of r) (pair_bytes r) room m e) o
    go false q e o = let n : r.number ≡ m = cc in eqb-false r.number 0 q (n ∙ o)

-- a report's pairs are whole, and at most 127
pub report_paired : (t : Tracker) → (ack_info t).number ≡ 0 → (length (pair_bytes (ack_info t)) % 2 ≡ 0) × (length (pair_bytes (ack_info t)) ≤ 254)
unfolding ack_info
report_paired t z = is_paired t.highest (mark t.marks) z

-- and its numbers fit an Ack block
pub report_fits : (t : Tracker) → (ack_info t).number ≡ 0 → t.highest < 256 ^ 4 → fits (widths 12) (ack_fields_of (ack_info t)) ≡ true
unfolding ack_info
report_fits t z h = is_fitting t.highest (mark t.marks) z h

paired : (r : List ℕ) → (report_there r).number ≡ 0 → (length (pair_bytes (report_there r)) % 2 ≡ 0) × (length (pair_bytes (report_there r)) ≤ 254)
unfolding report_there refused_report
paired r = by (tracker_short r)
  where
    by : (b : Bool) → (cond b (refused_report 59) (ack_info (tracker_at r))).number ≡ 0
        → (length (pair_bytes (cond b (refused_report 59) (ack_info (tracker_at r)))) % 2 ≡ 0) × (length (pair_bytes (cond b (refused_report 59) (ack_info (tracker_at r)))) ≤ 254)
    by true z = absurd (omega arith)
    by false z = report_paired (tracker_at r) z

fitting : (r : List ℕ) → Bytes r → (report_there r).number ≡ 0 → fits (widths 12) (ack_fields_of (report_there r)) ≡ true
unfolding report_there refused_report tracker_short tracker_at
fitting r bytes = by (ltb (length r) tracker_size) refl
  where
    by : (b : Bool) → ltb (length r) tracker_size ≡ b → (cond b (refused_report 59) (ack_info (tracker_at r))).number ≡ 0 → fits (widths 12) (ack_fields_of (cond b (refused_report 59) (ack_info (tracker_at r)))) ≡ true
    by true e z = absurd (omega arith)
    by false e z = let n = ltb-false (length r) tracker_size e in report_fits (tracker_at r) z (little_at_lt 4 r 0 (omega (arith, n)) bytes)

-- 30, 41 or 59 where the block of a record's report is not written
pub ack_numbers_lem : (r : List ℕ) (room m : ℕ) → Bytes r → ack_writing (report_there r) room ≡ Err m → OneOf (30 ∷ 41 ∷ 59 ∷ []) m
unfolding ack_writing
ack_numbers_lem r room m bytes = go (eqb (report_there r).number 0) refl
  where
    go : (b : Bool) → eqb (report_there r).number 0 ≡ b
        → cond b (writing 12 (ack_fields_of (report_there r)) (pair_bytes (report_there r)) room) (Err (report_there r).number) ≡ Err m → OneOf (30 ∷ 41 ∷ 59 ∷ []) m
    go true q e =
        let n : (report_there r).number ≡ 0 = eqb-true (report_there r).number 0 q in
        let z = paired r n in
        inl (Blocks.ack_is_30 (ack_fields_of (report_there r)) (pair_bytes (report_there r)) room m (fitting r bytes n) z.0 z.1 e)
    go false q e =
        let n : (report_there r).number ≡ m = cc in
        inr (subst (OneOf (41 ∷ 59 ∷ [])) n (report_numbers_lem r (eqb-false (report_there r).number 0 q)))

-- before any number: 41, and no block
pub silent_is_41 : silent.number ≡ 41
unfolding refused_report
silent_is_41 = refl

pub silent_unwritten : (room : ℕ) → ack_writing silent room ≡ Err 41
unfolding ack_writing refused_report
silent_unwritten room = refl

-- the list of an expansion
pub expand_leaves : (through count : ℕ) (ps list : List ℕ) → ((expand_of through count ps (length list)).number ≡ 0 → ⊥) → list_after through count ps list ≡ list
unfolding expand_of list_after
expand_leaves through count ps list ne = rw (ne_eqb (expand_answer through count ps (length list)) 0 ne)

pub expand_numbers : (through count : ℕ) (ps : List ℕ) (room : ℕ) → ((expand_of through count ps room).number ≡ 0 → ⊥) → OneOf (44 ∷ 46 ∷ []) (expand_of through count ps room).number
unfolding expand_of expand_answer goes_below
expand_numbers through count ps room = go (ltb through (count + run_sum (whole_pairs ps))) (ltb room (length (ack_numbers through count ps)))
  where
    go : (a b : Bool) → (◌≡◌ {A = ℕ} (cond a 44 (cond b 46 0)) 0 → ⊥) → OneOf (44 ∷ 46 ∷ []) (cond a 44 (cond b 46 0))
    go true b ne = inl refl
    go false true ne = inr refl
    go false false ne = absurd (ne refl)
