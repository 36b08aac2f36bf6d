-- A refusal leaves the packet as it came, and its number is one of 01's for the call. Assumes nothing.
use mathlib.Core.Path.{◌≡◌, refl, subst}
use mathlib.Core.Logic.{inl, inr}
use mathlib.Core.Bool.{Bool, true, false, cond, ◌&&◌, ◌||◌, not}
use mathlib.Core.List.{List, [], ◌∷◌}
use Prim.Native.Nat.{ℕ}
use native.Mathlib.Omega.{arith}
use lib.Dec.{eqb, ltb}
use lib.ListN.{length, get_or}
use borrow.Author.Tests.{eqb-false}
use types.Run.{OneOf}
use Rattle.wire.specs.Numbers.{big_at}
use Rattle.header.specs.declared.Fields.{Fields}
use Rattle.std.specs.Prelude.{Ok, Err}
use Rattle.header.specs.Kinds.{is_keyed, is_short, is_listed, is_version, need_of}
use Rattle.header.specs.Unmasking.{front, packet_kind, unmasked}
use Rattle.header.specs.Reading.{front_refusal, read_number, header_at, header_answer, packet_after_read}
use Rattle.header.specs.Writing.{write_number}

module _ (k1 k2 p : List ℕ) where
  -- a refused packet has a number, and it is not 0
  read_number_lem : (n : ℕ) → header_answer k1 k2 p ≡ Err n → (read_number k1 k2 p ≡ n) × (eqb (read_number k1 k2 p) 0 ≡ false)
  unfolding header_answer
  read_number_lem n e = go (eqb (read_number k1 k2 p) 0) refl e
    where
      go : (b : Bool) → eqb (read_number k1 k2 p) 0 ≡ b → cond b (Ok (header_at (unmasked k1 k2 p))) (Err (read_number k1 k2 p)) ≡ Err n
          → (read_number k1 k2 p ≡ n) × (eqb (read_number k1 k2 p) 0 ≡ false)
      go true q z = let w : ◌≡◌ {A = ℕ} 0 1 = cc in absurd (omega arith)
      go false q z = (cc, q)

  pub read_leaves : (n : ℕ) → header_answer k1 k2 p ≡ Err n → packet_after_read k1 k2 p ≡ p
  unfolding packet_after_read
  read_leaves n e = rw (read_number_lem n e).1

  -- its number is 20 to 24
  some_read : (read_number k1 k2 p ≡ 0 → ⊥) → OneOf (20 ∷ 21 ∷ 22 ∷ 23 ∷ 24 ∷ []) (read_number k1 k2 p)
  unfolding read_number front_refusal
  some_read =
      let q : List ℕ = front k1 k2 p in
      go (ltb (length p) 40) (not (is_listed (packet_kind q))) (not (is_short (packet_kind q)) && not (is_version (get_or q 13 0))) (is_keyed (packet_kind q) && ltb (length p) 64)
      (eqb (packet_kind q) 2 && not (eqb (big_at 4 q 8) 0))
    where
      go : (s a b c d : Bool) → (◌≡◌ {A = ℕ} (cond s 20 (cond a 21 (cond b 22 (cond c 23 (cond d 24 0))))) 0 → ⊥)
          → OneOf (20 ∷ 21 ∷ 22 ∷ 23 ∷ 24 ∷ []) (cond s 20 (cond a 21 (cond b 22 (cond c 23 (cond d 24 0)))))
      go true a b c d ne = inl refl
      go false true b c d ne = inr (inl refl)
      go false false true c d ne = inr (inr (inl refl))
      go false false false true d ne = inr (inr (inr (inl refl)))
      go false false false false true ne = inr (inr (inr (inr refl)))
      go false false false false false ne = absurd (ne refl)

  pub read_numbers_lem : (n : ℕ) → header_answer k1 k2 p ≡ Err n → OneOf (20 ∷ 21 ∷ 22 ∷ 23 ∷ 24 ∷ []) n
  read_numbers_lem n e =
      subst (OneOf (20 ∷ 21 ∷ 22 ∷ 23 ∷ 24 ∷ [])) (read_number_lem n e).0 (some_read (eqb-false (read_number k1 k2 p) 0 (read_number_lem n e).1))

-- 20, 21, 22, 24 or 25 where a header is not written
pub write_numbers : (f : Fields) (n : ℕ) → (write_number f n ≡ 0 → ⊥) → OneOf (20 ∷ 21 ∷ 22 ∷ 24 ∷ 25 ∷ []) (write_number f n)
unfolding write_number
write_numbers f n =
    go (not (is_listed f.kind)) (not (is_short f.kind) && not (is_version f.version)) (eqb f.kind 2 && not (eqb f.number 0))
    (eqb f.kind 2 && (ltb 15 f.fragment || ltb 15 f.count)) (ltb n (need_of f.kind))
  where
    go : (a b c d s : Bool) → (◌≡◌ {A = ℕ} (cond a 21 (cond b 22 (cond c 24 (cond d 25 (cond s 20 0))))) 0 → ⊥)
        → OneOf (20 ∷ 21 ∷ 22 ∷ 24 ∷ 25 ∷ []) (cond a 21 (cond b 22 (cond c 24 (cond d 25 (cond s 20 0)))))
    go true b c d s ne = inr (inl refl)
    go false true c d s ne = inr (inr (inl refl))
    go false false true d s ne = inr (inr (inr (inl refl)))
    go false false false true s ne = inr (inr (inr (inr refl)))
    go false false false false true ne = inl refl
    go false false false false false ne = absurd (ne refl)
