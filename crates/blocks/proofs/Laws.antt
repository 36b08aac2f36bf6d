-- Laws of fields of any widths, each once over every width and place. Assumes nothing.
use mathlib.Core.Path.{◌≡◌, refl, sym, ap, ◌∙◌}
use mathlib.Core.Bool.{Bool, true, ◌&&◌, false≢true}
use mathlib.Core.List.{List, [], ◌∷◌, ◌++◌}
use Prim.Native.Nat.{ℕ, zero, suc, ◌+◌, ◌-◌, ◌^◌, ◌≤◌, ◌<◌}
use native.Mathlib.Omega.{arith}
use lib.Dec.{ltb}
use lib.ListN.{length, get_or, take, replicate, length-append}
use borrow.Author.Tests.{ltb-true, lt-ltb}
use Rattle.wire.specs.Parts.{part}
use Rattle.wire.specs.Numbers.{Bytes, big_at, big_bytes}
use Rattle.wire.proofs.Tests.{and_both}
use Rattle.wire.proofs.Parts.{part_add, part_none, part_all, part_part, part_middle, part_right}
use Rattle.wire.proofs.Numbers.{length_big, big_at_back, big_at_again, big_at_lt}
use Rattle.blocks.specs.Layout.{sum, fields_at, field_bytes, fits, eight}

-- ---- lengths

pub length_fields : (ws s : List ℕ) (o : ℕ) → length (fields_at ws s o) ≡ length ws
unfolding fields_at
length_fields [] s o = refl
length_fields (w ∷ ws) s o = ap suc (length_fields ws s (o + w))

-- numbers that fit are at least as many as the fields
pub fits_length : (ws vs : List ℕ) → fits ws vs ≡ true → length ws ≤ length vs
unfolding fits
fits_length [] vs e = omega arith
fits_length (w ∷ ws) [] e = absurd (false≢true e)
fits_length (w ∷ ws) (v ∷ vs) e = omega (arith, fits_length ws vs (and_both (ltb v (256 ^ w)) (fits ws vs) e).1)

-- the bytes of numbers are as many as the widths say
pub length_bytes : (ws vs : List ℕ) → length ws ≤ length vs → length (field_bytes ws vs) ≡ sum ws
unfolding field_bytes sum
length_bytes [] vs h = refl
length_bytes (w ∷ ws) [] h = absurd (omega arith)
length_bytes (w ∷ ws) (v ∷ vs) h =
    let g : length ws ≤ length vs = omega arith in
    rw (length-append, length_big w v, length_bytes ws vs g)

-- each number is below its field's limit
pub fits_at : (ws vs : List ℕ) (i : ℕ) → fits ws vs ≡ true → i < length ws → get_or vs i 0 < 256 ^ get_or ws i 0
unfolding fits
fits_at [] vs i e h = absurd (omega arith)
fits_at (w ∷ ws) [] i e h = absurd (false≢true e)
fits_at (w ∷ ws) (v ∷ vs) zero e h = ltb-true v (256 ^ w) (and_both (ltb v (256 ^ w)) (fits ws vs) e).0
fits_at (w ∷ ws) (v ∷ vs) (suc i) e h = fits_at ws vs i (and_both (ltb v (256 ^ w)) (fits ws vs) e).1 (omega arith)

-- ---- numbers beyond the fields change nothing

module _ (us : List ℕ) where
  fits_more : (ws vs : List ℕ) → length ws ≤ length vs → fits ws (vs ++ us) ≡ fits ws vs
  unfolding fits
  fits_more [] vs h = refl
  fits_more (w ∷ ws) [] h = absurd (omega arith)
  fits_more (w ∷ ws) (v ∷ vs) h = ap (λ (b : Bool). ltb v (256 ^ w) && b) (fits_more ws vs (omega arith))

  bytes_more : (ws vs : List ℕ) → length ws ≤ length vs → field_bytes ws (vs ++ us) ≡ field_bytes ws vs
  unfolding field_bytes
  bytes_more [] vs h = refl
  bytes_more (w ∷ ws) [] h = absurd (omega arith)
  bytes_more (w ∷ ws) (v ∷ vs) h = ap (λ (l : List ℕ). big_bytes w v ++ l) (bytes_more ws vs (omega arith))

pub eight_fits : (ws vs : List ℕ) → length ws ≤ length vs → fits ws (eight vs) ≡ fits ws vs
unfolding eight
eight_fits ws vs h = fits_more (replicate (8 - length vs) 0) ws vs h

pub eight_bytes : (ws vs : List ℕ) → length ws ≤ length vs → field_bytes ws (eight vs) ≡ field_bytes ws vs
unfolding eight
eight_bytes ws vs h = bytes_more (replicate (8 - length vs) 0) ws vs h

-- ---- written and read

-- a part that is two lists, the first of them m long
module _ (s : List ℕ) (o m n : ℕ) (a b : List ℕ) (la : length a ≡ m) where
  first_of : part s o (m + n) ≡ a ++ b → part s o m ≡ a
  first_of e =
      let z : o + 0 ≡ o = omega arith in
      sym (part_part s o (m + n) 0 m (omega arith) ∙ ap (λ (i : ℕ). part s i m) z)
      ∙ ap (λ (l : List ℕ). part l 0 m) e
      ∙ part_middle [] a b 0 m refl la

  second_of_lem : length b ≡ n → part s o (m + n) ≡ a ++ b → part s (o + m) n ≡ b
  second_of_lem lb e =
      let z : m ≡ length a + 0 = omega arith in
      sym (part_part s o (m + n) m n (omega arith))
      ∙ ap (λ (l : List ℕ). part l m n) e
      ∙ ap (λ (i : ℕ). part (a ++ b) i n) z
      ∙ part_right a b 0 n
      ∙ part_all b n (omega arith)

-- numbers that fit, read where their bytes stand
pub fields_back : (ws vs s : List ℕ) (o : ℕ) → fits ws vs ≡ true → part s o (sum ws) ≡ field_bytes ws vs → fields_at ws s o ≡ take (length ws) vs
unfolding fits fields_at field_bytes sum
fields_back [] vs s o f e = refl
fields_back (w ∷ ws) [] s o f e = absurd (false≢true f)
fields_back (w ∷ ws) (v ∷ vs) s o f e =
    let g = and_both (ltb v (256 ^ w)) (fits ws vs) f in
    let n = sum ws in
    let A = big_bytes w v in
    let B = field_bytes ws vs in
    let a : part s o w ≡ big_bytes w v = first_of s o w n A B (length_big w v) e in
    let b : part s (o + w) (sum ws) ≡ field_bytes ws vs = second_of_lem s o w n A B (length_big w v) (length_bytes ws vs (fits_length ws vs g.1)) e in
    ap (λ (x : ℕ). x ∷ fields_at ws s (o + w)) (big_at_back w v s o (ltb-true v (256 ^ w) g.0) a) ∙ ap (λ (z : List ℕ). v ∷ z) (fields_back ws vs s (o + w) g.1 b)

-- ---- read and written

-- each number that was read fits
pub fields_fit : (ws s : List ℕ) (o : ℕ) → Bytes s → o + sum ws ≤ length s → fits ws (fields_at ws s o) ≡ true
unfolding fits fields_at sum
fields_fit [] s o b h = refl
fields_fit (w ∷ ws) s o b h =
    rw (lt-ltb (big_at w s o) (256 ^ w) (big_at_lt w s o (omega arith) b)) (fields_fit ws s (o + w) b (omega arith))

-- and its bytes are those that were there
pub fields_again : (ws s : List ℕ) (o : ℕ) → Bytes s → o + sum ws ≤ length s → field_bytes ws (fields_at ws s o) ≡ part s o (sum ws)
unfolding field_bytes fields_at sum
fields_again [] s o b h = sym (part_none s o)
fields_again (w ∷ ws) s o b h =
    ap (λ (z : List ℕ). z ++ field_bytes ws (fields_at ws s (o + w))) (big_at_again w s o (omega arith) b)
    ∙ ap (λ (z : List ℕ). part s o w ++ z) (fields_again ws s (o + w) b (omega arith))
    ∙ sym (part_add s o w (sum ws))
