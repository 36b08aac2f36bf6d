-- Laws of a header's masks: what they leave, and that unmasking is masking again. Assumes nothing.
use mathlib.Core.Path.{◌≡◌, refl, sym, ap, ap₂, ◌∙◌}
use mathlib.Core.List.{List}
use mathlib.Core.Logic.{inl, inr}
use Prim.Native.Nat.{ℕ, ◌+◌, ◌-◌, ◌≤◌}
use native.Mathlib.Omega.{arith}
use lib.ListN.{length, get_or, drop, replicate}
use Rattle.wire.specs.Parts.{part, splice}
use Rattle.wire.proofs.Parts.{get_d_part, splice_front}
use Rattle.keystream.specs.Chacha.{block}
use Rattle.keystream.specs.Mask.{masked}
use Rattle.keystream.proofs.Masks.{length_masked, masked_other, masked_twice, masked_none, masked_drop, masked_front, masked_swap}
use Rattle.header.specs.Kinds.{masked_length}
use Rattle.header.specs.Unmasking.{stream, nonce1, nonce2, front, rest, packet_kind}

module _ (k1 k2 p : List ℕ) (h : 40 ≤ length p) where
  s1 : List ℕ
  s1 = stream k1 (nonce1 p)

  s2 : List ℕ
  s2 = stream k2 (nonce2 p)

  half : List ℕ
  half = masked p 0 8 s1

  length_half : length half ≡ length p
  unfolding half
  length_half = length_masked p s1 0 8 (omega arith)

  front_is : front k1 k2 p ≡ masked half 8 8 s2
  unfolding front half s1 s2
  front_is = refl

  pub length_front : length (front k1 k2 p) ≡ length p
  length_front = ap length front_is ∙ length_masked half s2 8 8 (omega (arith, length_half)) ∙ length_half

  -- what stands from 16 on is as it was
  pub drop_front : drop 16 (front k1 k2 p) ≡ drop 16 p
  unfolding half
  drop_front =
      ap (drop 16) front_is
      ∙ masked_drop half s2 8 8 16 (omega (arith, length_half)) (omega arith)
      ∙ masked_drop p s1 0 8 16 (omega arith) (omega arith)

  -- a part from 16 on is as it was
  pub part_front : (o n : ℕ) → 16 ≤ o → part (front k1 k2 p) o n ≡ part p o n
  unfolding half
  part_front o n g =
      ap (λ (z : List ℕ). part z o n) front_is
      ∙ masked_other half s2 8 8 (omega (arith, length_half)) o n (inr (omega arith))
      ∙ masked_other p s1 0 8 (omega arith) o n (inr (omega arith))

  -- the first 16 bytes, unmasked by themselves
  pub front_16 : masked (masked (part p 0 16) 0 8 (stream k1 (nonce1 p))) 8 8 (stream k2 (nonce2 p)) ≡ part (front k1 k2 p) 0 16
  unfolding half s1 s2
  front_16 =
      ap (λ (z : List ℕ). masked z 8 8 s2) (sym (masked_front p s1 16 0 8 (omega arith) (omega arith)))
      ∙ sym (masked_front half s2 16 8 8 (omega (arith, length_half)) (omega arith))
      ∙ ap (λ (z : List ℕ). part z 0 16) (sym front_is)

  -- the same, from what each step gave
  pub front_by_steps : {a b head m x : List ℕ} → a ≡ part p (length p - 24) 12 → b ≡ part p (length p - 12) 12 → head ≡ part p 0 16
      → m ≡ masked head 0 8 (block k1 1 a) → x ≡ masked m 8 8 (block k2 1 b) → x ≡ part (front k1 k2 p) 0 16
  unfolding stream nonce1 nonce2
  front_by_steps ea eb eh em ex = ex ∙ rw (em, eh, ea, eb) front_16

  -- stored over the packet's own
  pub front_stored : splice p 0 (part (front k1 k2 p) 0 16) ≡ front k1 k2 p
  front_stored = splice_front p (front k1 k2 p) 16 (omega (arith, length_front)) (sym drop_front)

  -- front and type as the code has them
  pub front_kept : (x : List ℕ) → x ≡ part (front k1 k2 p) 0 16 → splice p 0 x ≡ front k1 k2 p
  front_kept x e = ap (splice p 0) e ∙ front_stored

  pub front_type : (x : List ℕ) → x ≡ part (front k1 k2 p) 0 16 → get_or x 12 0 ≡ packet_kind (front k1 k2 p)
  front_type x e = ap (λ (z : List ℕ). get_or z 12 0) e ∙ get_d_part (front k1 k2 p) 0 16 12 0 (omega arith)

  -- the nonces lie past it
  nonce1_front : nonce1 (front k1 k2 p) ≡ nonce1 p
  unfolding nonce1
  nonce1_front =
      ap (λ (n : ℕ). part (front k1 k2 p) (n - 24) 12) length_front ∙ part_front (length p - 24) 12 (omega arith)

  nonce2_front : nonce2 (front k1 k2 p) ≡ nonce2 p
  unfolding nonce2
  nonce2_front =
      ap (λ (n : ℕ). part (front k1 k2 p) (n - 12) 12) length_front ∙ part_front (length p - 12) 12 (omega arith)

  again_is : front k1 k2 (front k1 k2 p) ≡ masked (masked (front k1 k2 p) 0 8 s1) 8 8 s2
  unfolding front s1 s2
  again_is =
      ap₂ (λ (a b : List ℕ). masked (masked (front k1 k2 p) 0 8 (stream k1 a)) 8 8 (stream k2 b)) nonce1_front nonce2_front

  -- the front masked again
  pub front_twice : front k1 k2 (front k1 k2 p) ≡ p
  unfolding half
  front_twice =
      again_is
      ∙ ap (λ (z : List ℕ). masked (masked z 0 8 s1) 8 8 s2) front_is
      ∙ ap (λ (z : List ℕ). masked z 8 8 s2) (sym (masked_swap half s1 s2 0 8 8 8 (omega arith) (omega (arith, length_half))))
      ∙ ap (λ (z : List ℕ). masked (masked z 8 8 s2) 8 8 s2) (masked_twice p s1 0 8 (omega arith))
      ∙ masked_twice p s2 8 8 (omega arith)

-- the rest where it is nothing
pub rest_none : (k2 : List ℕ) (t : ℕ) (p : List ℕ) → masked_length t ≡ 0 → p ≡ rest k2 t p
unfolding rest
rest_none k2 t p e = sym (ap (λ (n : ℕ). masked p 16 n (stream k2 (replicate 12 0))) e ∙ masked_none p (stream k2 (replicate 12 0)) 16)

pub rest_is : (k2 : List ℕ) (t n : ℕ) (p : List ℕ) {x : List ℕ} → n ≡ masked_length t → x ≡ masked p 16 n (block k2 1 (replicate 12 0)) → x ≡ rest k2 t p
unfolding rest stream
rest_is k2 t n p e q = q ∙ ap (λ (m : ℕ). masked p 16 m (block k2 1 (replicate 12 0))) e

pub length_rest : (k2 : List ℕ) (t : ℕ) (p : List ℕ) → 16 + masked_length t ≤ length p → length (rest k2 t p) ≡ length p
unfolding rest
length_rest k2 t p h = length_masked p (stream k2 (replicate 12 0)) 16 (masked_length t) h

pub rest_twice : (k2 : List ℕ) (t : ℕ) (p : List ℕ) → 16 + masked_length t ≤ length p → rest k2 t (rest k2 t p) ≡ p
unfolding rest
rest_twice k2 t p h = masked_twice p (stream k2 (replicate 12 0)) 16 (masked_length t) h

-- what stands before 16 is as it was
pub part_rest : (k2 : List ℕ) (t : ℕ) (p : List ℕ) (o n : ℕ) → 16 + masked_length t ≤ length p → o + n ≤ 16 → part (rest k2 t p) o n ≡ part p o n
unfolding rest
part_rest k2 t p o n h g = masked_other p (stream k2 (replicate 12 0)) 16 (masked_length t) h o n (inl g)

pub type_rest : (k2 : List ℕ) (t : ℕ) (q : List ℕ) → 16 + masked_length t ≤ length q → packet_kind (rest k2 t q) ≡ packet_kind q
type_rest k2 t q h =
    sym (get_d_part (rest k2 t q) 0 16 12 0 (omega arith))
    ∙ ap (λ (z : List ℕ). get_or z 12 0) (part_rest k2 t q 0 16 h (omega arith))
    ∙ get_d_part q 0 16 12 0 (omega arith)
