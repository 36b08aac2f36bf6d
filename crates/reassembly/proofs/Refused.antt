-- What each call answers is one of 01's numbers for it; and a record that is not made new stays. Assumes nothing.
use mathlib.Core.Path.{◌≡◌, refl}
use mathlib.Core.Logic.{inl, inr}
use mathlib.Core.Bool.{Bool, true, false, cond, ◌&&◌}
use mathlib.Core.List.{List, [], ◌∷◌}
use Prim.Native.Nat.{ℕ, ◌+◌}
use lib.Dec.{eqb, ltb}
use lib.ListN.{length, replicate}
use types.Run.{OneOf}
use Rattle.wire.specs.Parts.{splice, same}
use Rattle.reassembly.specs.Sizes.{message_size, record_size}
use Rattle.reassembly.specs.declared.Head.{Head}
use Rattle.reassembly.specs.declared.Label.{Label}
use Rattle.reassembly.specs.Record.{head_at, entry_at, outside, piece_at}
use Rattle.reassembly.specs.Slots.{first_from, is_open_as}
use Rattle.reassembly.specs.Memory.{remembers}
use Rattle.reassembly.specs.Remembered.{memory_of}
use Rattle.reassembly.specs.Summary.{is_full}
use Rattle.reassembly.specs.Judge.{same_label, again, misfits, grown_by, is_complete}
use Rattle.reassembly.specs.Joining.{message_of, joins_outside}
use Rattle.reassembly.specs.Calls.{Lent, After, bare, finished, put_in, compared, added, opened_in, opened_now, taken_piece, bad_size, off_number, first_taken, follow_on_taken}
use Rattle.reassembly.specs.Shares.{lent_to, lent_short, from_neighbour, first_call, follow_on_call, renewed, renewal}

-- kept and finished, then the refusals of a first piece, and of a follow-on
abbrev pub first_numbers : List ℕ
first_numbers = 0 ∷ 60 ∷ 50 ∷ 52 ∷ 53 ∷ 54 ∷ 55 ∷ 56 ∷ 57 ∷ 58 ∷ 59 ∷ []

abbrev pub follow_on_numbers : List ℕ
follow_on_numbers = 0 ∷ 60 ∷ 50 ∷ 51 ∷ 52 ∷ 53 ∷ 54 ∷ 55 ∷ 56 ∷ 57 ∷ 58 ∷ 59 ∷ []

abbrev Says : After → Type 0
Says x = OneOf first_numbers x.reply.number

-- a test decides between two
both : (b : Bool) (x y : After) → Says x → Says y → Says (cond b x y)
both true x y p q = p
both false x y p q = q

says_compared : (rec room : List ℕ) (i : ℕ) (h : Head) (l : Label) (v : List ℕ) → OneOf first_numbers (compared rec room i h l v)
unfolding compared again
says_compared rec room i h l v = go (outside (entry_at rec i l.number)) (same_label h l && same (piece_at rec room i l.number) v)
  where
    go : (o b : Bool) → OneOf first_numbers (cond o 59 (cond b 54 55))
    go true b = inr (inr (inr (inr (inr (inr (inr (inr (inr (inr refl)))))))))
    go false true = inr (inr (inr (inr (inr (inl refl)))))
    go false false = inr (inr (inr (inr (inr (inr (inl refl))))))

module _ (x : Lent) (l : Label) (v : List ℕ) where
  says_finished : (i : ℕ) (g : Head) → Says (finished x i l g v)
  unfolding finished bare
  says_finished i g =
      both (joins_outside x.rec i l.number (g.last + 1)) _ _ (inr (inr (inr (inr (inr (inr (inr (inr (inr (inr refl))))))))))
      (both (ltb (length x.out) (length (message_of x.rec x.room i l.number v (g.last + 1)))) _ _ (inr (inr (inr (inr (inr (inr (inr (inl refl)))))))) (inr (inl refl)))

  says_put : (i : ℕ) (h : Head) → Says (put_in x i h l v)
  unfolding put_in bare
  says_put i h =
      both (ltb message_size (h.total + length v)) _ _ (inr (inr (inr (inr (inl refl)))))
      (both (is_complete (grown_by h l (length v))) _ _ (says_finished i (grown_by h l (length v))) (inl refl))

  says_added : (i : ℕ) → Says (added x i l v)
  unfolding added bare
  says_added i =
      both (eqb (entry_at x.rec i l.number).len 0) _ _
      (both (misfits (head_at x.rec i) l) _ _ (inr (inr (inr (inr (inr (inr (inl refl))))))) (says_put i (head_at x.rec i)))
      (says_compared x.rec x.room i (head_at x.rec i) l v)

  says_taken : (second : ℕ) → Says (taken_piece x l second v)
  unfolding taken_piece opened_now opened_in bare
  says_taken second =
      both (ltb (first_from (is_open_as x.rec l.id) 0 4) 4) _ _
      (says_added (first_from (is_open_as x.rec l.id) 0 4))
      (both (remembers (memory_of x.rec) l.id) _ _ (inr (inr (inr (inr (inr (inr (inr (inr (inl refl)))))))))
      (both (is_full x.rec) _ _ (inr (inr (inr (inl refl)))) (inl refl)))

-- 59, 58, 50, then the others
pub first_numbers_lem : (x : Lent) (n : ℕ) (l : Label) (second : ℕ) (v : List ℕ) → OneOf first_numbers (first_call x n l second v).reply.number
unfolding first_call from_neighbour first_taken bare
first_numbers_lem x n l second v =
    both (lent_short x.rec x.room) _ _ (inr (inr (inr (inr (inr (inr (inr (inr (inr (inr refl))))))))))
    (both (ltb 3 n) _ _ (inr (inr (inr (inr (inr (inr (inr (inr (inr (inl refl))))))))))
    (both (bad_size (length v)) _ _ (inr (inr (inl refl))) (says_taken (lent_to x n) l v second)))

-- a follow-on's numbers are a first piece's, and 51
pub of_first : (n : ℕ) → OneOf first_numbers n → OneOf follow_on_numbers n
of_first n (inl e) = inl e
of_first n (inr (inl e)) = inr (inl e)
of_first n (inr (inr (inl e))) = inr (inr (inl e))
of_first n (inr (inr (inr e))) = inr (inr (inr (inr e)))

pub follow_on_numbers_lem : (x : Lent) (n : ℕ) (l : Label) (second : ℕ) (v : List ℕ) → OneOf follow_on_numbers (follow_on_call x n l second v).reply.number
unfolding follow_on_call from_neighbour follow_on_taken bare
follow_on_numbers_lem x n l second v =
    either (lent_short x.rec x.room) _ _ (inr (inr (inr (inr (inr (inr (inr (inr (inr (inr (inr refl)))))))))))
    (either (ltb 3 n) _ _ (inr (inr (inr (inr (inr (inr (inr (inr (inr (inr (inl refl)))))))))))
    (either (bad_size (length v)) _ _ (inr (inr (inl refl)))
    (either (off_number l.number) _ _ (inr (inr (inr (inl refl)))) (of_first _ (says_taken (lent_to x n) l v second)))))
  where
    either : (b : Bool) (y z : After) → OneOf follow_on_numbers y.reply.number → OneOf follow_on_numbers z.reply.number → OneOf follow_on_numbers (cond b y z).reply.number
    either true y z p q = p
    either false y z p q = q

-- a record that is not made new stays
pub renew_leaves : (rec : List ℕ) → (renewal rec ≡ 0 → ⊥) → renewed rec ≡ rec
unfolding renewal renewed
renew_leaves rec = go (ltb (length rec) record_size)
  where
    go : (b : Bool) → (◌≡◌ {A = ℕ} (cond b 59 0) 0 → ⊥) → cond b rec (splice rec 0 (replicate record_size 0)) ≡ rec
    go true ne = refl
    go false ne = absurd (ne refl)

pub renew_numbers : (rec : List ℕ) → (renewal rec ≡ 0 → ⊥) → renewal rec ≡ 59
unfolding renewal
renew_numbers rec = go (ltb (length rec) record_size)
  where
    go : (b : Bool) → (◌≡◌ {A = ℕ} (cond b 59 0) 0 → ⊥) → ◌≡◌ {A = ℕ} (cond b 59 0) 59
    go true ne = refl
    go false ne = absurd (ne refl)
