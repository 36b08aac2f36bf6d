-- A piece's call did to a neighbour's share what its store answers: then it did to record and room what the store of four neighbours answers. Assumes nothing.
use mathlib.Core.Path.{◌≡◌, refl, sym, ap, ◌∙◌}
use mathlib.Core.List.{List}
use Prim.Native.Nat.{ℕ, ◌≤◌, ◌<◌}
use native.Mathlib.Omega.{arith}
use native.Mathlib.Decide.{ℕ_discrete}
use lib.ListN.{length, set}
use Rattle.wire.specs.Series.{series}
use Rattle.wire.proofs.Series.{get_d_series, series_set}
use Rattle.reassembly.specs.Sizes.{share_room, most_remembered, share_size}
use Rattle.reassembly.specs.Store.{Piece, id_of, Store, new_store, Answer, step}
use Rattle.reassembly.specs.Neighbours.{store_of, summary_of, is_open_in, open_of, recounted, answer_from, step_from}
use Rattle.reassembly.specs.Summary.{open_count}
use Rattle.reassembly.specs.Calls.{lent, After}
use Rattle.reassembly.specs.Shares.{share_of, with_share, share_of_room, with_share_of_room, from_neighbour}
use Rattle.reassembly.specs.Stands.{stands, Made, reply_for, laid_out, Agrees}
use Rattle.reassembly.specs.Standing.{store_at, summary_at, neighbours_of, AllMade, AllAgree}
use Rattle.reassembly.proofs.Shares.{share_put_length, share_same, share_other, room_put_length, room_same, room_other}
use Rattle.reassembly.proofs.Neighbours as Four
use Rattle.reassembly.proofs.GivenBack.{not_short, from_58, from_taken}

-- ---- the store of four neighbours, read

module _ (rec room : List ℕ) (n : ℕ) (one : n < 4) where
  pub store_of_lem : store_of (neighbours_of rec room) n ≡ store_at rec room n
  unfolding neighbours_of
  store_of_lem = get_d_series (store_at rec room) 4 n new_store one

  pub summary_of_lem : summary_of (neighbours_of rec room) n ≡ summary_at rec n
  unfolding neighbours_of
  summary_of_lem = get_d_series (summary_at rec) 4 n 0 one

-- on a record and room that calls made, the summary is the count over the slots
pub made_count : (rec room : List ℕ) → AllMade rec room → (n : ℕ) → n < 4 → summary_at rec n ≡ open_of (store_at rec room n).slots
unfolding summary_at store_at
made_count rec room made n one = (made.shares n one).counted

-- ---- the answer to a piece, by the share

module _ (cap : ℕ) (rec room : List ℕ) (n : ℕ) (p : Piece) (second : ℕ) where
  pub step_from_lem : n ≤ 3 → step_from cap (neighbours_of rec room) n p second
      ≡ answer_from (neighbours_of rec room) n (is_open_in (id_of p) (store_at rec room n).slots) (step most_remembered cap (store_at rec room n) p second)
  step_from_lem h =
      Four.from_own cap (neighbours_of rec room) n p second (omega arith)
      ∙ (ap (λ (s : Store). answer_from (neighbours_of rec room) n (is_open_in (id_of p) s.slots) (step most_remembered cap s p second)) (store_of_lem rec room n (omega arith)))

-- ---- 58

pub lifted_58 : (rec room out : List ℕ) → AllMade rec room → (n : ℕ) → 3 < n → (p : Piece) (second : ℕ) (y : After)
    → AllAgree out (from_neighbour (lent rec room out) n y) (step_from (length out) (neighbours_of rec room) n p second)
unfolding reply_for laid_out
lifted_58 rec room out made n h p second y =
    rw (from_58 (lent rec room out) n y (not_short rec room made.record_long made.room_long) h, Four.from_58 (length out) (neighbours_of rec room) n p second (omega arith))
    (record { reply = refl; delivered = refl; store = refl; made = made })

-- ---- a share put back

module _ (rec room : List ℕ) (n : ℕ) (one : n < 4) (made : AllMade rec room) (s m : List ℕ) (ls : length s ≡ share_size) (lm : length m ≡ share_room) where
  abbrev rec' : List ℕ
  rec' = with_share rec n s

  abbrev room' : List ℕ
  room' = with_share_of_room room n m

  pub put_stores : (a : Store) → stands s m ≡ a → series (store_at rec' room') 0 4 ≡ set (series (store_at rec room) 0 4) n a
  unfolding store_at
  put_stores a e =
      series_set (store_at rec room) (store_at rec' room') 4 n a new_store one
      (rw (share_same rec n made.record_long one s ls, room_same room n made.room_long one m lm) e)
      (λ j hj q. rw (share_other rec n made.record_long one s ls j q, room_other room n made.room_long one m lm j q) refl)

  pub put_summary : (k : ℕ) → open_count s ≡ k → series (summary_at rec') 0 4 ≡ set (series (summary_at rec) 0 4) n k
  unfolding summary_at
  put_summary k e =
      series_set (summary_at rec) (summary_at rec') 4 n k 0 one
      (rw (share_same rec n made.record_long one s ls) e)
      (λ j hj q. rw (share_other rec n made.record_long one s ls j q) refl)

  pub put_made : Made s m → AllMade rec' room'
  put_made g =
      record {
        record_long = rw (share_put_length rec n made.record_long one s ls) made.record_long;
        room_long = rw (room_put_length room n made.room_long one m lm) made.room_long;
        shares = λ j hj. go j hj (ℕ_discrete j n);
      }
    where
      go : (j : ℕ) → j < 4 → Dec (j ≡ n) → Made (share_of rec' j) (share_of_room room' j)
      go j hj (yes q) = rw (q, share_same rec n made.record_long one s ls, room_same room n made.room_long one m lm) g
      go j hj (no q) = rw (share_other rec n made.record_long one s ls j q, room_other room n made.room_long one m lm j q) (made.shares j hj)

-- ---- the lift

module _ (rec room out : List ℕ) (made : AllMade rec room) (n : ℕ) (h : n ≤ 3) (p : Piece) (second : ℕ) (y : After)
    (lr : share_size ≡ length y.left.rec) (lm : share_room ≡ length y.left.room) where
  abbrev own : Store
  own = store_at rec room n

  abbrev said : Answer
  said = step most_remembered (length out) own p second

  -- y is what became of neighbour n's share: it agrees with what n's own store answers, and the slots' count moves as the summary's number does
  pub lifted : Agrees out y said → recounted said.number (is_open_in (id_of p) own.slots) (open_of own.slots) ≡ open_of said.store.slots
      → AllAgree out (from_neighbour (lent rec room out) n y) (step_from (length out) (neighbours_of rec room) n p second)
  unfolding answer_from neighbours_of
  lifted g count =
      rw (from_taken (lent rec room out) n y (not_short rec room made.record_long made.room_long) h, step_from_lem (length out) rec room n p second h)
      (record {
        reply = g.reply;
        delivered = g.delivered;
        store = λ i. record { stores = put_stores rec room n (omega arith) made y.left.rec y.left.room (sym lr) (sym lm) said.store g.store i; summary = summaries i };
        made = put_made rec room n (omega arith) made y.left.rec y.left.room (sym lr) (sym lm) g.made;
      })
    where
      counted : open_count y.left.rec ≡ recounted said.number (is_open_in (id_of p) own.slots) (summary_of (neighbours_of rec room) n)
      counted =
          g.made.counted
          ∙ ap (λ (s : Store). open_of s.slots) g.store
          ∙ sym count
          ∙ ap (recounted said.number (is_open_in (id_of p) own.slots)) (sym (summary_of_lem rec room n (omega arith) ∙ made_count rec room made n (omega arith)))

      summaries : series (summary_at (with_share rec n y.left.rec)) 0 4
          ≡ set (series (summary_at rec) 0 4) n (recounted said.number (is_open_in (id_of p) own.slots) (summary_of (neighbours_of rec room) n))
      summaries = put_summary rec room n (omega arith) made y.left.rec y.left.room (sym lr) (sym lm) _ counted
