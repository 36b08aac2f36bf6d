-- The calls for a piece do on record, room and assembly buffer what the store does. Assumes nothing.
use mathlib.Core.Path.{◌≡◌, refl, sym, ap, ◌∙◌, subst}
use mathlib.Core.Bool.{Bool, true, false, cond, ◌||◌, and-false, false≢true}
use mathlib.Core.List.{List}
use Prim.Native.Nat.{ℕ, ◌+◌, ◌-◌, ◌≤◌, ◌<◌}
use native.Mathlib.Omega.{arith}
use lib.Dec.{eqb, ltb, leb}
use lib.ListN.{length, drop}
use borrow.Author.Tests.{ltb-true, leb-true}
use Rattle.reassembly.specs.Sizes.{most_remembered, open_at, ids_at, share_size}
use Rattle.reassembly.specs.declared.Label.{Label}
use Rattle.reassembly.specs.declared.Reply.{Reply}
use Rattle.reassembly.specs.Memory.{Finished, Memory, remembers, remember}
use Rattle.reassembly.specs.Store.{Piece, first, follow, id_of, piece_bytes, Store, Answer, SlotsAnswer, bad_length, bad_number, slots_refuse, slots_step, refused, answer_by_slots, step}
use Rattle.reassembly.specs.Apart.{Apart}
use Rattle.reassembly.specs.Slots.{first_from, is_open_as, is_free}
use Rattle.reassembly.specs.Remembered.{memory_of, remembered_in}
use Rattle.reassembly.specs.Neighbours.{is_open_in, open_of, recounted}
use Rattle.reassembly.specs.Summary.{open_count, with_open, lowered, is_full}
use Rattle.reassembly.specs.Calls.{Lent, lent, After, after, bare, refuses, added, opened_in, opened_now, with_raised, remembered_after, with_remembered, taken_piece, bad_size, off_number, first_taken, follow_on_taken}
use Rattle.reassembly.specs.Stands.{slots_of, stands, SlotsMade, Made, label_of, reply_for, laid_out, Agrees}
use Rattle.reassembly.proofs.Branches.{free_slot}
use Rattle.reassembly.proofs.Answers.{label_id, number_small, good_length}
use Rattle.reassembly.proofs.Refines.{SlotsAgree, number_of, size_of}
use Rattle.reassembly.proofs.Steps.{PieceInWidth, found_in, four_slots, vacant, added_slots, opened_slots}
use Rattle.reassembly.proofs.MemoryStays.{stays_added, stays_opened}
use Rattle.reassembly.proofs.Moves.{step_50, step_51, step_57, step_slots}
use Rattle.reassembly.proofs.Aparts.{step_apart, open_unremembered}
use Rattle.reassembly.proofs.Remembered.{remembered_behind, remembered_memory, memory_behind}
use Rattle.reassembly.proofs.Fronts.{Behind, front_slots, front_made}
use Rattle.reassembly.proofs.Summary.{open_same, open_behind, open_memory, before_open, before_memory, after_open}
use Rattle.reassembly.proofs.Counts.{shut_full, full_52, step_open}

-- A call on the share `rec` did what the store's answer says, but for the ids; `was` says that the piece's message was open.
record Near (rec : List ℕ) (was : Bool) (out : List ℕ) (x : After) (a : Answer) : Type 0 where
  reply : x.reply ≡ reply_for a.number a.out
  delivered : x.left.out ≡ laid_out out a.out
  store : stands x.left.rec x.left.room ≡ a.store
  slots_made : SlotsMade x.left.rec x.left.room
  recount : open_count x.left.rec ≡ recounted a.number was (open_count rec)

-- the ids that the record holds are the store's, and those stay apart; so does the summary count its slots
whole : (rec : List ℕ) (was : Bool) (out : List ℕ) (x : After) (a : Answer) → Near rec was out x a → Apart most_remembered a.store → recounted a.number was (open_count rec) ≡ open_of a.store.slots
    → Agrees out x a
whole rec was out x a n v c =
    record {
      reply = n.reply;
      delivered = n.delivered;
      store = n.store;
      made = record {
        slots_made = n.slots_made;
        apart = subst (λ (s : Store). Apart most_remembered s) (sym n.store) v;
        counted = n.recount ∙ c ∙ ap (λ (s : Store). open_of s.slots) (sym n.store);
      };
    }

-- the summary's number after a piece: less with 60, as it was with any other number for an open message, more with 0 for a new one
less_one : (n : ℕ) (was : Bool) (k : ℕ) → eqb n 60 ≡ true → recounted n was k ≡ k - 1
unfolding recounted
less_one n was k e = rw e refl

as_before : (n k : ℕ) → eqb n 60 ≡ false → recounted n true k ≡ k
unfolding recounted
as_before n k e = rw (e, and-false (eqb n 0)) refl

one_more : (n k : ℕ) → n ≡ 0 → recounted n false k ≡ k + 1
unfolding recounted
one_more n k e = rw e refl

-- a refusal changes nothing
near_refused : (rec room : List ℕ) (was : Bool) (out : List ℕ) (n : ℕ) → SlotsMade rec room → eqb n 60 ≡ false → eqb n 0 ≡ false → Near rec was out (after (bare n) (lent rec room out)) (refused n (stands rec room))
unfolding reply_for laid_out recounted
near_refused rec room was out n m a b = record { reply = refl; delivered = refl; store = refl; slots_made = m; recount = rw (a, b) refl }

-- A piece of an open message: the slots did what they answer, and the summary and the memory stayed. With 60 the summary says one less, and the message is remembered.
module _ (rec room out : List ℕ) (x : After) (a : SlotsAnswer) (g : SlotsAgree out x a) (same : drop open_at x.left.rec ≡ drop open_at rec)
    (l : Label) (second : ℕ) (hid : l.id < 4294967296) (hs : second < 18446744073709551616) where
  abbrev f : Finished
  f = record { id = l.id; second = second }

  abbrev mid : List ℕ
  mid = lowered x.left.rec

  near_remembered : Near rec true out (with_remembered l second x) (answer_by_slots most_remembered (stands rec room) l.id second a)
  unfolding remembered_after
  near_remembered = go (eqb a.number 60) refl
    where
      number_is : x.reply.number ≡ a.number
      number_is = ap (λ (r : Reply). r.number) g.reply ∙ number_of a.number a.out

      long : share_size ≤ length x.left.rec
      long = g.made.record_long

      less : Behind open_at x.left.rec mid
      less = open_behind x.left.rec _ long

      long₁ : share_size ≤ length mid
      long₁ = omega (arith, less.long, long)

      put : Behind ids_at mid (remembered_in mid f)
      put = remembered_behind mid long₁ f

      count_is : open_count x.left.rec ≡ open_count rec
      count_is = before_open rec x.left.rec same

      memory_was : memory_of x.left.rec ≡ memory_of rec
      memory_was = memory_behind rec x.left.rec (before_memory rec x.left.rec same)

      go : (b : Bool) → eqb a.number 60 ≡ b → Near rec true out (with_remembered l second x) (answer_by_slots most_remembered (stands rec room) l.id second a)
      go true e = rw (ap (λ (n : ℕ). eqb n 60) number_is ∙ e, e)
          (record {
            reply = g.reply;
            delivered = g.delivered;
            store = λ j. record {
              slots = (front_slots ids_at mid (remembered_in mid f) put x.left.room (omega arith) ∙ front_slots open_at x.left.rec mid less x.left.room (omega arith) ∙ g.slots) j;
              remembered = (remembered_memory mid long₁ f hid hs ∙ ap (λ (fs : Memory). remember most_remembered fs f) (open_memory x.left.rec _ long ∙ memory_was)) j;
            };
            slots_made = front_made ids_at mid (remembered_in mid f) put x.left.room (omega arith) (front_made open_at x.left.rec mid less x.left.room (omega arith) g.made);
            recount = after_open mid (remembered_in mid f) put ∙ open_same x.left.rec _ long ∙ ap (λ (k : ℕ). k - 1) count_is ∙ sym (less_one a.number true (open_count rec) e);
          })
      go false e = rw (ap (λ (n : ℕ). eqb n 60) number_is ∙ e, e)
          (record {
            reply = g.reply;
            delivered = g.delivered;
            store = λ j. record { slots = g.slots j; remembered = memory_was j };
            slots_made = g.made;
            recount = count_is ∙ sym (as_before a.number (open_count rec) e);
          })

-- A piece that opened a message: the summary says one more.
module _ (rec room out : List ℕ) (x : After) (a : SlotsAnswer) (g : SlotsAgree out x a) (same : drop open_at x.left.rec ≡ drop open_at rec) (opened : x.reply ≡ bare 0)
    (id second : ℕ) where
  near_raised : Near rec false out (with_raised (lent rec room out) x) (answer_by_slots most_remembered (stands rec room) id second a)
  unfolding bare
  near_raised = rw (ap (λ (n : ℕ). eqb n 60) zero_is)
      (record {
        reply = g.reply;
        delivered = g.delivered;
        store = λ j. record {
          slots = (front_slots open_at x.left.rec (with_open x.left.rec (open_count rec + 1)) more x.left.room (omega arith) ∙ g.slots) j;
          remembered = (open_memory x.left.rec (open_count rec + 1) long ∙ memory_behind rec x.left.rec (before_memory rec x.left.rec same)) j;
        };
        slots_made = front_made open_at x.left.rec (with_open x.left.rec (open_count rec + 1)) more x.left.room (omega arith) g.made;
        recount = open_same x.left.rec (open_count rec + 1) long ∙ sym (one_more a.number (open_count rec) zero_is);
      })
    where
      long : share_size ≤ length x.left.rec
      long = g.made.record_long

      more : Behind open_at x.left.rec (with_open x.left.rec (open_count rec + 1))
      more = open_behind x.left.rec (open_count rec + 1) long

      zero_is : a.number ≡ 0
      zero_is = sym (number_of a.number a.out) ∙ ap (λ (r : Reply). r.number) (sym g.reply ∙ opened)

-- an id is open in the store that a share stands for where a slot of it is found
open_is : (rec room : List ℕ) (id : ℕ) → is_open_in id (slots_of rec room) ≡ ltb (first_from (is_open_as rec id) 0 4) 4
unfolding is_open_in
open_is rec room id = rw (found_in rec room id, four_slots rec room) refl

-- on a share that calls made an open message is not remembered,
open_strange : (rec room : List ℕ) → Made rec room → (id : ℕ) → ltb (first_from (is_open_as rec id) 0 4) 4 ≡ true → remembers (memory_of rec) id ≡ false
open_strange rec room made id e = open_unremembered most_remembered (stands rec room) made.apart id (open_is rec room id ∙ e)

-- so what is remembered is not open: a piece of it is 57 and changes nothing
taken_57 : (x : Lent) → Made x.rec x.room → (l : Label) (second : ℕ) (v : List ℕ) → remembers (memory_of x.rec) l.id ≡ true → taken_piece x l second v ≡ refuses 57 x
unfolding taken_piece opened_now
taken_57 x made l second v r = go (ltb (first_from (is_open_as x.rec l.id) 0 4) 4) refl
  where
    go : (b : Bool) → ltb (first_from (is_open_as x.rec l.id) 0 4) 4 ≡ b → taken_piece x l second v ≡ refuses 57 x
    go true e = absurd (false≢true (sym (open_strange x.rec x.room made l.id e) ∙ r))
    go false e = rw (e, r) refl

module _ (rec room out : List ℕ) (made : Made rec room) (p : Piece) (second : ℕ) (gl : bad_length p ≡ false) (gn : bad_number p ≡ false) (fit : PieceInWidth p second) where
  abbrev l : Label
  l = label_of p

  abbrev v : List ℕ
  v = piece_bytes p

  abbrev sm : SlotsMade rec room
  sm = made.slots_made

  abbrev s : Store
  s = stands rec room

  -- a piece's id is its label's
  as_labelled : (b : Bool) → remembers (memory_of rec) l.id ≡ b → remembers (memory_of rec) (id_of p) ≡ b
  as_labelled b r = ap (remembers (memory_of rec)) (sym (label_id p)) ∙ r

  step_labelled : remembers (memory_of rec) l.id ≡ false → step most_remembered (length out) s p second ≡ answer_by_slots most_remembered s l.id second (slots_step (length out) (slots_of rec room) p second)
  step_labelled r =
      step_slots most_remembered (length out) s p second gl gn (as_labelled false r)
      ∙ ap (λ (id : ℕ). answer_by_slots most_remembered s id second (slots_step (length out) (slots_of rec room) p second)) (sym (label_id p))

  abbrev is_open : Bool
  is_open = is_open_in (id_of p) (slots_of rec room)

  open_labelled : (b : Bool) → ltb (first_from (is_open_as rec l.id) 0 4) 4 ≡ b → is_open ≡ b
  open_labelled b e = ap (λ (id : ℕ). is_open_in id (slots_of rec room)) (sym (label_id p)) ∙ open_is rec room l.id ∙ e

  near_added : ltb (first_from (is_open_as rec l.id) 0 4) 4 ≡ true
      → Near rec is_open out (with_remembered l second (added (lent rec room out) (first_from (is_open_as rec l.id) 0 4) l v)) (step most_remembered (length out) s p second)
  near_added e =
      let hk : first_from (is_open_as rec l.id) 0 4 < 4 = ltb-true (first_from (is_open_as rec l.id) 0 4) 4 e in
      rw (open_labelled true e, step_labelled (open_strange rec room made l.id e))
      (near_remembered rec room out (added (lent rec room out) (first_from (is_open_as rec l.id) 0 4) l v) (slots_step (length out) (slots_of rec room) p second) (added_slots rec room out sm p second gl gn fit e)
      (stays_added (lent rec room out) sm.record_long sm.room_long l (number_small p gn) v (first_from (is_open_as rec l.id) 0 4) hk).behind
      l second fit.id fit.second_fits)

  -- 52 by the summary, or by the slots: all are in use
  all_used : is_full rec ≡ true → length (slots_of rec room) ≤ open_of (slots_of rec room)
  unfolding is_full
  all_used e = go (leb 4 (open_count rec)) refl e
    where
      go : (b : Bool) → leb 4 (open_count rec) ≡ b → (b || leb 4 (first_from (is_free rec) 0 4)) ≡ true → length (slots_of rec room) ≤ open_of (slots_of rec room)
      go true q t = omega (arith, leb-true 4 (open_count rec) q, made.counted, four_slots rec room)
      go false q t = shut_full (slots_of rec room) (omega (arith, leb-true 4 (first_from (is_free rec) 0 4) t, vacant rec room out sm p second gl gn fit, four_slots rec room))

  near_opened : ltb (first_from (is_open_as rec l.id) 0 4) 4 ≡ false → Near rec is_open out (opened_now (lent rec room out) l second v) (step most_remembered (length out) s p second)
  unfolding opened_now
  near_opened e = go (remembers (memory_of rec) l.id) refl (is_full rec) refl
    where
      go : (b : Bool) → remembers (memory_of rec) l.id ≡ b → (c : Bool) → is_full rec ≡ c → Near rec is_open out (opened_now (lent rec room out) l second v) (step most_remembered (length out) s p second)
      go true r c w = rw (r, step_57 most_remembered (length out) s p second gl gn (as_labelled true r)) (near_refused rec room is_open out 57 sm refl refl)
      go false r true w =
          rw (r, w, step_labelled r, full_52 (length out) (slots_of rec room) p second (open_labelled false e) (all_used w))
          (unfold slots_refuse in near_refused rec room is_open out 52 sm refl refl)
      go false r false w =
          let few : length v ≤ 1500 = (size_of p gl).1 in
          rw (r, w, step_labelled r, open_labelled false e)
          (near_raised rec room out (opened_in (lent rec room out) (first_from (is_free rec) 0 4) l second v) (slots_step (length out) (slots_of rec room) p second) (opened_slots rec room out sm p second gl gn fit e (free_slot rec w))
          (stays_opened (lent rec room out) sm.record_long sm.room_long l (number_small p gn) v second (first_from (is_free rec) 0 4) (free_slot rec w) few).behind
          (unfold opened_in in refl) l.id second)

  near_taken : Near rec is_open out (taken_piece (lent rec room out) l second v) (step most_remembered (length out) s p second)
  unfolding taken_piece
  near_taken = go (ltb (first_from (is_open_as rec l.id) 0 4) 4) refl
    where
      go : (b : Bool) → ltb (first_from (is_open_as rec l.id) 0 4) 4 ≡ b → Near rec is_open out (taken_piece (lent rec room out) l second v) (step most_remembered (length out) s p second)
      go true e = rw e (near_added e)
      go false e = rw e (near_opened e)

-- while its id is remembered no piece changes anything
module _ (x : Lent) (made : Made x.rec x.room) (l : Label) (second : ℕ) (v : List ℕ) (r : remembers (memory_of x.rec) l.id ≡ true) where
  pub first_57 : first_taken x l second v ≡ refuses (cond (bad_size (length v)) 50 57) x
  unfolding first_taken
  first_57 = rw (taken_57 x made l second v r) (go (bad_size (length v)))
    where
      go : (b : Bool) → cond b (refuses 50 x) (refuses 57 x) ≡ refuses (cond b 50 57) x
      go true = refl
      go false = refl

  pub follow_57 : follow_on_taken x l second v ≡ refuses (cond (bad_size (length v)) 50 (cond (off_number l.number) 51 57)) x
  unfolding follow_on_taken
  follow_57 = rw (taken_57 x made l second v r) (go (bad_size (length v)) (off_number l.number))
    where
      go : (b c : Bool) → cond b (refuses 50 x) (cond c (refuses 51 x) (refuses 57 x)) ≡ refuses (cond b 50 (cond c 51 57)) x
      go true c = refl
      go false true = refl
      go false false = refl

-- a first piece, and a follow-on piece, of any length and number
module _ (rec room out : List ℕ) (made : Made rec room) (second : ℕ) where
  abbrev sm₀ : SlotsMade rec room
  sm₀ = made.slots_made

  -- what the store answers keeps its ids apart
  agrees_of : (x : After) (p : Piece) → Near rec (is_open_in (id_of p) (slots_of rec room)) out x (step most_remembered (length out) (stands rec room) p second) → Agrees out x (step most_remembered (length out) (stands rec room) p second)
  agrees_of x p n =
      whole rec (is_open_in (id_of p) (slots_of rec room)) out x (step most_remembered (length out) (stands rec room) p second) n
      (step_apart most_remembered (omega arith) (length out) (stands rec room) made.apart p second)
      (ap (recounted (step most_remembered (length out) (stands rec room) p second).number (is_open_in (id_of p) (slots_of rec room))) made.counted ∙ step_open most_remembered (length out) (stands rec room) p second)

  near_first : (id kind expires : ℕ) (bytes : List ℕ) → PieceInWidth (first id kind expires bytes) second
      → Near rec (is_open_in (id_of (first id kind expires bytes)) (slots_of rec room)) out (first_taken (lent rec room out) (label_of (first id kind expires bytes)) second bytes) (step most_remembered (length out) (stands rec room) (first id kind expires bytes) second)
  unfolding first_taken piece_bytes bad_number
  near_first id kind expires bytes fit = go (bad_size (length bytes)) refl
    where
      go : (b : Bool) → bad_size (length bytes) ≡ b
          → Near rec (is_open_in (id_of (first id kind expires bytes)) (slots_of rec room)) out (first_taken (lent rec room out) (label_of (first id kind expires bytes)) second bytes) (step most_remembered (length out) (stands rec room) (first id kind expires bytes) second)
      go true e =
          rw (e, step_50 most_remembered (length out) (stands rec room) (first id kind expires bytes) second (good_length (first id kind expires bytes) ∙ e))
          (near_refused rec room _ out 50 sm₀ refl refl)
      go false e =
          rw e
          (near_taken rec room out made (first id kind expires bytes) second (good_length (first id kind expires bytes) ∙ e) refl fit)

  near_follow : (id number : ℕ) (final : Bool) (bytes : List ℕ) → PieceInWidth (follow id number final bytes) second
      → Near rec (is_open_in (id_of (follow id number final bytes)) (slots_of rec room)) out (follow_on_taken (lent rec room out) (label_of (follow id number final bytes)) second bytes) (step most_remembered (length out) (stands rec room) (follow id number final bytes) second)
  unfolding follow_on_taken piece_bytes bad_number off_number label_of
  near_follow id number final bytes fit = go (bad_size (length bytes)) refl (eqb number 0 || ltb 127 number) refl
    where
      go : (b : Bool) → bad_size (length bytes) ≡ b → (c : Bool) → (eqb number 0 || ltb 127 number) ≡ c
          → Near rec (is_open_in (id_of (follow id number final bytes)) (slots_of rec room)) out (follow_on_taken (lent rec room out) (label_of (follow id number final bytes)) second bytes) (step most_remembered (length out) (stands rec room) (follow id number final bytes) second)
      go true e c n =
          rw (e, step_50 most_remembered (length out) (stands rec room) (follow id number final bytes) second (good_length (follow id number final bytes) ∙ e))
          (near_refused rec room _ out 50 sm₀ refl refl)
      go false e true n =
          rw (e, n, step_51 most_remembered (length out) (stands rec room) (follow id number final bytes) second (good_length (follow id number final bytes) ∙ e) n)
          (near_refused rec room _ out 51 sm₀ refl refl)
      go false e false n =
          rw (e, n)
          (near_taken rec room out made (follow id number final bytes) second (good_length (follow id number final bytes) ∙ e) n fit)

  pub first_agrees : (id kind expires : ℕ) (bytes : List ℕ) → PieceInWidth (first id kind expires bytes) second
      → Agrees out (first_taken (lent rec room out) (label_of (first id kind expires bytes)) second bytes) (step most_remembered (length out) (stands rec room) (first id kind expires bytes) second)
  first_agrees id kind expires bytes fit = agrees_of _ (first id kind expires bytes) (near_first id kind expires bytes fit)

  pub follow_agrees : (id number : ℕ) (final : Bool) (bytes : List ℕ) → PieceInWidth (follow id number final bytes) second
      → Agrees out (follow_on_taken (lent rec room out) (label_of (follow id number final bytes)) second bytes) (step most_remembered (length out) (stands rec room) (follow id number final bytes) second)
  follow_agrees id number final bytes fit = agrees_of _ (follow id number final bytes) (near_follow id number final bytes fit)
