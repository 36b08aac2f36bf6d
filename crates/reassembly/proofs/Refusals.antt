-- A refusal changes nothing, and a piece is written to its own slot's room, on every record. Assumes nothing.
use mathlib.Core.Path.{◌≡◌, refl}
use mathlib.Core.Logic.{inl, inr}
use mathlib.Core.Bool.{Bool, true, false, cond}
use mathlib.Core.List.{List}
use Prim.Native.Nat.{ℕ, ◌+◌, ◌≤◌, ◌<◌}
use native.Mathlib.Omega.{arith}
use lib.Dec.{eqb, ltb}
use lib.ListN.{length}
use borrow.Author.Tests.{eqb-true, ltb-true, ltb-false}
use Rattle.reassembly.specs.Sizes.{message_size}
use Rattle.reassembly.specs.declared.Head.{Head}
use Rattle.reassembly.specs.declared.Label.{Label}
use Rattle.reassembly.specs.declared.Reply.{Reply}
use Rattle.reassembly.specs.Record.{head_at, entry_at}
use Rattle.reassembly.specs.Slots.{first_from, is_open_as, is_free}
use Rattle.reassembly.specs.Memory.{remembers}
use Rattle.reassembly.specs.Remembered.{memory_of}
use Rattle.reassembly.specs.Summary.{is_full}
use Rattle.reassembly.specs.Judge.{misfits, grown_by, is_complete}
use Rattle.reassembly.specs.Joining.{message_of, joins_outside}
use Rattle.reassembly.specs.Calls.{Lent, After, after, bare, kept_room, finished, put_in, added, opened_in, opened_now, remembered_after, with_remembered, taken_piece, bad_size, off_number, first_taken, follow_on_taken}
use Rattle.reassembly.specs.Shares.{lent_to, first_call, follow_on_call}
use Rattle.reassembly.specs.Careful.{CarefulFirst, CarefulFollowOn}
use Rattle.reassembly.proofs.Branches.{good_size, free_slot}
use Rattle.reassembly.proofs.CarefulShares.{CarefulOf, careful_from}

-- x is a neighbour's share
module _ (x : Lent) where
  refused : (r : Reply) → CarefulOf x (after r x)
  refused r = record { refusal = inr (inr refl); own_room = inl refl }

  -- a test decides between two
  both : (b : Bool) (y z : After) → (b ≡ true → CarefulOf x y) → (b ≡ false → CarefulOf x z) → CarefulOf x (cond b y z)
  both true y z p q = p refl
  both false y z p q = q refl

  module _ (l : Label) (v : List ℕ) where
    careful_finished : (i : ℕ) (g : Head) → CarefulOf x (finished x i l g v)
    unfolding finished
    careful_finished i g =
        both (joins_outside x.rec i l.number (g.last + 1)) _ _ (λ e. refused (bare 59))
        (λ z. both (ltb (length x.out) (length (message_of x.rec x.room i l.number v (g.last + 1)))) _ _
        (λ e. refused (bare 56))
        (λ e. record { refusal = inr (inl refl); own_room = inl refl }))

    careful_put : (i : ℕ) → i < 4 → (h : Head) → CarefulOf x (put_in x i h l v)
    unfolding put_in kept_room bare
    careful_put i hi h =
        both (ltb message_size (h.total + length v)) _ _ (λ e. refused (bare 53))
        (λ e. both (is_complete (grown_by h l (length v))) _ _ (λ w. careful_finished i (grown_by h l (length v)))
        (λ w. record {
          refusal = inl refl;
          own_room = inr (record { slot = i; place = h.total; bytes = v; one_of_4 = hi; inside = ltb-false message_size (h.total + length v) e; put = refl });
        }))

    careful_added : (i : ℕ) → i < 4 → CarefulOf x (added x i l v)
    unfolding added
    careful_added i hi =
        both (eqb (entry_at x.rec i l.number).len 0) _ _
        (λ e. both (misfits (head_at x.rec i) l) _ _ (λ w. refused (bare 55)) (λ w. careful_put i hi (head_at x.rec i)))
        (λ e. refused _)

    careful_opened : (second : ℕ) → length v ≤ 1500 → CarefulOf x (opened_now x l second v)
    unfolding opened_now opened_in kept_room bare
    careful_opened second few =
        both (remembers (memory_of x.rec) l.id) _ _ (λ e. refused (bare 57))
        (λ z. both (is_full x.rec) _ _ (λ e. refused (bare 52))
        (λ e. record {
          refusal = inl refl;
          own_room = inr (record { slot = first_from (is_free x.rec) 0 4; place = 0; bytes = v; one_of_4 = free_slot x.rec e; inside = omega arith; put = refl });
        }))

    -- with 60 the summary and the memory change, and nothing else
    careful_remembered : (second : ℕ) (y : After) → CarefulOf x y → CarefulOf x (with_remembered l second y)
    unfolding remembered_after
    careful_remembered second y c = go (eqb y.reply.number 60) refl
      where
        go : (b : Bool) → eqb y.reply.number 60 ≡ b → CarefulOf x (with_remembered l second y)
        go true e = record { refusal = inr (inl (eqb-true y.reply.number 60 e)); own_room = c.own_room }
        go false e = rw e c

    careful_taken : (second : ℕ) → length v ≤ 1500 → CarefulOf x (taken_piece x l second v)
    unfolding taken_piece
    careful_taken second few =
        both (ltb (first_from (is_open_as x.rec l.id) 0 4) 4) _ _
        (λ e. careful_remembered second (added x (first_from (is_open_as x.rec l.id) 0 4) l v)
        (careful_added (first_from (is_open_as x.rec l.id) 0 4) (ltb-true (first_from (is_open_as x.rec l.id) 0 4) 4 e)))
        (λ e. careful_opened second few)

    careful_first_taken : (second : ℕ) → CarefulOf x (first_taken x l second v)
    unfolding first_taken
    careful_first_taken second = both (bad_size (length v)) _ _ (λ w. refused (bare 50)) (λ w. careful_taken second (good_size (length v) w).1)

    careful_follow_taken : (second : ℕ) → CarefulOf x (follow_on_taken x l second v)
    unfolding follow_on_taken
    careful_follow_taken second =
        both (bad_size (length v)) _ _ (λ w. refused (bare 50))
        (λ w. both (off_number l.number) _ _ (λ n. refused (bare 51)) (λ n. careful_taken second (good_size (length v) w).1))

pub careful_first : CarefulFirst
unfolding first_call
careful_first x n l second v = careful_from x n (first_taken (lent_to x n) l second v) (careful_first_taken (lent_to x n) l v second)

pub careful_follow_on : CarefulFollowOn
unfolding follow_on_call
careful_follow_on x n l second v = careful_from x n (follow_on_taken (lent_to x n) l second v) (careful_follow_taken (lent_to x n) l v second)
