-- Laws of the mask, each once over place and length: a turn of its loop, what it leaves, and that twice is not at all. Assumes nothing.
use Rattle.std.proofs.Common.{◌≡◌, ℕ, zero, suc, ◌+◌, ◌-◌, ◌<◌, ◌≤◌, ◌⊎◌, List, [], ◌∷◌, ◌++◌, length, get_or, take, drop, set, sym, refl, ap, ◌∙◌, ap₂, inl, inr, ⊎_elim, add-zero, arith, take-append-drop}
use lib.Bits.{bit_xor, xor_lt}
use borrow.Rule.Slice.PartMut.{put_mid, mid_of}
use Rattle.wire.specs.Parts.{part, splice}
use Rattle.wire.specs.Numbers.{Bytes}
use Rattle.wire.proofs.Parts.{part_is, part_none, length_part, length_splice, part_same, part_other, part_part, part_inside, drop_after, splice_pieces, splice_over, splice_part, splice_swap}
use Rattle.wire.proofs.Numbers.{bytes_append, bytes_take, bytes_drop, bytes_part}
use Rattle.wire.proofs.Lent.{lent_part}
use Rattle.keystream.specs.Chacha.{block, add_words, rounds, initial}
use Rattle.keystream.specs.Mask.{xor_with, masked}
use Rattle.keystream.proofs.Bits.{bit_xor_twice}
use Rattle.keystream.proofs.State.{bytes_serialise}

-- ---- XOR with a stream

pub xor_none : (l : List ℕ) → xor_with l [] ≡ l
unfolding xor_with
xor_none [] = refl
xor_none (a ∷ l) = refl

-- one byte of the stream more
pub xor_more : (l k : List ℕ) (i : ℕ) → i < length l → i < length k
    → set (xor_with l (take i k)) i (bit_xor (get_or (xor_with l (take i k)) i 0) (get_or k i 0)) ≡ xor_with l (take (suc i) k)
unfolding xor_with
xor_more [] k i h g = absurd (omega arith)
xor_more (a ∷ l) [] i h g = absurd (omega arith)
xor_more (a ∷ l) (b ∷ k) zero h g = ap (λ (m : List ℕ). bit_xor a b ∷ m) (sym (xor_none l))
xor_more (a ∷ l) (b ∷ k) (suc i) h g = ap (λ (m : List ℕ). bit_xor a b ∷ m) (xor_more l k i (omega arith) (omega arith))

-- as many bytes of the stream as there are to mask are enough
pub xor_enough : (l k : List ℕ) → xor_with l (take (length l) k) ≡ xor_with l k
unfolding xor_with
xor_enough [] k = refl
xor_enough (a ∷ l) [] = refl
xor_enough (a ∷ l) (b ∷ k) = ap (λ (m : List ℕ). bit_xor a b ∷ m) (xor_enough l k)

pub length_xor : (l k : List ℕ) → length (xor_with l k) ≡ length l
unfolding xor_with
length_xor [] k = refl
length_xor (a ∷ l) [] = refl
length_xor (a ∷ l) (b ∷ k) = ap suc (length_xor l k)

pub xor_twice : (l k : List ℕ) → xor_with (xor_with l k) k ≡ l
unfolding xor_with
xor_twice [] k = refl
xor_twice (a ∷ l) [] = refl
xor_twice (a ∷ l) (b ∷ k) = ap₂ (λ (x : ℕ) (m : List ℕ). x ∷ m) (bit_xor_twice a b) (xor_twice l k)

-- ---- the mask over a range

-- as a splice, where the range lies in the list
masked_splice : (l k : List ℕ) (from n : ℕ) → from + n ≤ length l → masked l from n k ≡ splice l from (xor_with (part l from n) k)
unfolding masked
masked_splice l k from n h =
    sym (splice_pieces l from n (xor_with (part l from n) k) (length_xor (part l from n) k ∙ length_part l from n h))

-- a part that was lent from a to e, XORed and put back
pub masked_lent : (l : List ℕ) {k k' ys : List ℕ} (a e n : ℕ) → a + n ≤ length l → e ≡ a + n → k' ≡ k → ys ≡ xor_with (mid_of a (e - a) l) k' → put_mid a (e - a) l ys ≡ masked l a n k
masked_lent l {k} {k'} {ys} a e n h q ek ey =
    let m : e - a ≡ n = omega arith in
    let lx : length (xor_with (part l a n) k') ≡ n = length_xor (part l a n) k' ∙ length_part l a n h in
    let ez : ys ≡ xor_with (part l a n) k' = ey ∙ ap (λ (z : List ℕ). xor_with z k') (ap (λ (i : ℕ). mid_of a i l) m ∙ part_is l a n) in
    let ly : length ys ≡ e - a = ap length ez ∙ lx ∙ sym m in
    lent_part l a e ys (omega arith) ly
    ∙ ap (splice l a) (ez ∙ ap (xor_with (part l a n)) ek)
    ∙ sym (masked_splice l k a n h)

module _ (l k : List ℕ) (from n : ℕ) (fits : from + n ≤ length l) where
  x : List ℕ
  x = xor_with (part l from n) k

  long : length x ≡ n
  unfolding x
  long = length_xor (part l from n) k ∙ length_part l from n fits

  whole : masked l from n k ≡ splice l from x
  unfolding x
  whole = masked_splice l k from n fits

  pub length_masked : length (masked l from n k) ≡ length l
  length_masked = ap length whole ∙ length_splice l from x (omega (arith, long))

  -- the range is XORed
  pub masked_part : part (masked l from n k) from n ≡ xor_with (part l from n) k
  unfolding x
  masked_part =
      ap (λ (z : List ℕ). part z from n) whole
      ∙ ap (part (splice l from x) from) (sym long)
      ∙ part_same l from x (omega (arith, long))

  -- a part that does not meet the range is as it was
  pub masked_other : (p m : ℕ) → (p + m ≤ from) ⊎ (from + n ≤ p) → part (masked l from n k) p m ≡ part l p m
  masked_other p m w =
      ap (λ (z : List ℕ). part z p m) whole
      ∙ part_other l from x (omega (arith, long)) p m (⊎_elim (λ h. inl h) (λ h. inr (omega (arith, long))) w)

-- masking twice with one stream restores
pub masked_twice : (l k : List ℕ) (from n : ℕ) → from + n ≤ length l → masked (masked l from n k) from n k ≡ l
masked_twice l k from n fits =
    let v = xor_with (part l from n) k in
    let m = masked l from n k in
    let lv : length v ≡ n = length_xor (part l from n) k ∙ length_part l from n fits in
    let again : xor_with (part m from n) k ≡ part l from n = ap (λ (z : List ℕ). xor_with z k) (masked_part l k from n fits) ∙ xor_twice (part l from n) k in
    masked_splice m k from n (omega (arith, length_masked l k from n fits))
    ∙ ap (splice m from) again
    ∙ ap (λ (z : List ℕ). splice z from (part l from n)) (masked_splice l k from n fits)
    ∙ splice_over l from v (part l from n) (omega arith) (length_part l from n fits ∙ sym lv)
    ∙ splice_part l from n fits

-- ---- masks of several ranges

-- no bytes: nothing changes
pub masked_none : (l k : List ℕ) (from : ℕ) → masked l from 0 k ≡ l
unfolding masked xor_with
masked_none l k from = rw (part_none, add-zero) (take-append-drop from l)

-- what follows the range is as it was
pub masked_drop : (l k : List ℕ) (from n p : ℕ) → from + n ≤ length l → from + n ≤ p → drop p (masked l from n k) ≡ drop p l
masked_drop l k from n p fits h =
    let v = xor_with (part l from n) k in
    let lv : length v ≡ n = length_xor (part l from n) k ∙ length_part l from n fits in
    ap (drop p) (masked_splice l k from n fits) ∙ drop_after l from v (omega arith) p (omega arith)

-- the first w bytes, masked as a list of their own
pub masked_front : (l k : List ℕ) (w from n : ℕ) → w ≤ length l → from + n ≤ w → part (masked l from n k) 0 w ≡ masked (part l 0 w) from n k
masked_front l k w from n h g =
    let v = xor_with (part l from n) k in
    let lv : length v ≡ n = length_xor (part l from n) k ∙ length_part l from n (omega arith) in
    let lp : length (part l 0 w) ≡ w = length_part l 0 w (omega arith) in
    let zf : from ≡ 0 + from = omega arith in
    let same : part (part l 0 w) from n ≡ part l from n = part_part l 0 w from n g ∙ ap (λ (z : ℕ). part l z n) (sym zf) in
    ap (λ (z : List ℕ). part z 0 w) (masked_splice l k from n (omega arith) ∙ ap (λ (z : ℕ). splice l z v) zf)
    ∙ part_inside l 0 w from v (omega arith) (omega arith)
    ∙ ap (λ (z : List ℕ). splice (part l 0 w) from (xor_with z k)) (sym same)
    ∙ sym (masked_splice (part l 0 w) k from n (omega arith))

-- two ranges side by side, in either order
pub masked_swap : (l j k : List ℕ) (a m b n : ℕ) → a + m ≤ b → b + n ≤ length l → masked (masked l a m j) b n k ≡ masked (masked l b n k) a m j
masked_swap l j k a m b n h g =
    let v = xor_with (part l a m) j in
    let w = xor_with (part l b n) k in
    let lv : length v ≡ m = length_xor (part l a m) j ∙ length_part l a m (omega arith) in
    let lw : length w ≡ n = length_xor (part l b n) k ∙ length_part l b n g in
    let one : masked (masked l a m j) b n k ≡ splice (splice l a v) b w =
    masked_splice (masked l a m j) k b n (omega (arith, length_masked l j a m (omega arith)))
    ∙ ap (λ (z : List ℕ). splice (masked l a m j) b (xor_with z k)) (masked_other l j a m (omega arith) b n (inr h))
    ∙ ap (λ (z : List ℕ). splice z b w) (masked_splice l j a m (omega arith))
    in
    let other : masked (masked l b n k) a m j ≡ splice (splice l b w) a v =
    masked_splice (masked l b n k) j a m (omega (arith, length_masked l k b n g))
    ∙ ap (λ (z : List ℕ). splice (masked l b n k) a (xor_with z j)) (masked_other l k b n g a m (inl h))
    ∙ ap (λ (z : List ℕ). splice z a v) (masked_splice l k b n g)
    in
    one ∙ splice_swap l a b v w (omega arith) (omega arith) ∙ sym other

-- ---- bytes stay bytes

pub bytes_xor : (l k : List ℕ) → Bytes l → Bytes k → Bytes (xor_with l k)
unfolding xor_with
bytes_xor [] k hl hk i = hl i
bytes_xor (a ∷ l) [] hl hk i = hl i
bytes_xor (a ∷ l) (b ∷ k) hl hk zero = xor_lt 8 a b (hl zero) (hk zero)
bytes_xor (a ∷ l) (b ∷ k) hl hk (suc i) = bytes_xor l k (λ j. hl (suc j)) (λ j. hk (suc j)) i

pub bytes_masked : (l k : List ℕ) (from n : ℕ) → Bytes l → Bytes k → Bytes (masked l from n k)
unfolding masked
bytes_masked l k from n hl hk =
    bytes_append (take from l) (xor_with (part l from n) k ++ drop (from + n) l) (bytes_take from l hl)
    (bytes_append (xor_with (part l from n) k) (drop (from + n) l) (bytes_xor (part l from n) k (bytes_part l from n hl) hk) (bytes_drop (from + n) l hl))

pub bytes_block : (key : List ℕ) (counter : ℕ) (nonce : List ℕ) → Bytes (block key counter nonce)
unfolding block
bytes_block key counter nonce = bytes_serialise (add_words (rounds 10 (initial key counter nonce)) (initial key counter nonce))
