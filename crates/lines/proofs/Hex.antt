-- Laws of digits, and of fields of hex digits: a turn of each loop, and its end. Assumes nothing.
use Rattle.std.proofs.Common.{◌≡◌, refl, sym, ap, ◌∙◌, true, false, ◌&&◌, List, [], ◌∷◌, ℕ, zero, suc, ◌+◌, ◌-◌, ◌*◌, ◌/◌, ◌≤◌, ◌<◌, Option, Some, None, arith, length, get_or, take, drop}
use Rattle.std.proofs.Math.Seq.{take-length}
use Rattle.std.specs.Option.{unwrap_or}
use mathlib.Core.Bool.{false≢true}
use lib.Dec.{ltb, eqb}
use borrow.Author.Tests.{le-leb, lt-leb, ltb-true}
use Rattle.wire.proofs.Tests.{and_both}
use Rattle.wire.specs.Parts.{splice}
use Rattle.lines.specs.Digits.{pair_of, pairs_of, all_bytes, is_bytes, bytes_in, with_bytes}

-- ---- whether all are bytes

-- two digits that stand first, and the digits after them
pub pairs_step : (l : List ℕ) → 2 ≤ length l → all_bytes (pairs_of l) ≡ (ltb (pair_of (get_or l 0 0) (get_or l 1 0)) 256 && all_bytes (pairs_of (take (length l - 2) (drop 2 l))))
unfolding all_bytes pairs_of
pairs_step [] h = absurd (omega arith)
pairs_step (a ∷ []) h = absurd (omega arith)
pairs_step (a ∷ b ∷ l) h =
    let n : length (a ∷ b ∷ l) - 2 ≡ length l = omega arith in
    let e : take (length (a ∷ b ∷ l) - 2) l ≡ l = ap (λ (k : ℕ). take k l) n ∙ take-length l in
    rw e refl

-- at the end no digit is left over
pub pairs_end : (l : List ℕ) → length l < 2 → eqb (length l) 0 ≡ all_bytes (pairs_of l)
unfolding all_bytes pairs_of
pairs_end [] h = refl
pairs_end (a ∷ []) h = refl
pairs_end (a ∷ b ∷ l) h = absurd (omega arith)

-- what reads as a byte reads so with any other number in its place
pub byte_read : (o : Option ℕ) (v : ℕ) → unwrap_or o 256 ≡ v → v < 256 → unwrap_or o 0 ≡ v
byte_read None v e h = absurd (omega arith)
byte_read (Some x) v e h = e

-- ---- the bytes, where all are

pub good_length : (l : List ℕ) → all_bytes (pairs_of l) ≡ true → length (pairs_of l) * 2 ≡ length l
unfolding all_bytes pairs_of
good_length [] h = refl
good_length (a ∷ []) h = absurd (false≢true h)
good_length (a ∷ b ∷ l) h =
    let e : length (pairs_of l) * 2 ≡ length l = good_length l (and_both (ltb (pair_of a b) 256) (all_bytes (pairs_of l)) h).1 in
    omega arith

pub good_byte : (xs : List ℕ) (i : ℕ) → all_bytes xs ≡ true → i < length xs → get_or xs i 0 < 256
unfolding all_bytes
good_byte [] i h g = absurd (omega arith)
good_byte (x ∷ xs) zero h g = ltb-true x 256 (and_both (ltb x 256) (all_bytes xs) h).0
good_byte (x ∷ xs) (suc i) h g = good_byte xs i (and_both (ltb x 256) (all_bytes xs) h).1 (omega arith)

pub pair_at : (l : List ℕ) (i : ℕ) → 2 * i + 1 < length l → get_or (pairs_of l) i 0 ≡ pair_of (get_or l (2 * i) 0) (get_or l (2 * i + 1) 0)
unfolding pairs_of
pair_at [] i h = absurd (omega arith)
pair_at (a ∷ []) i h = absurd (omega arith)
pair_at (a ∷ b ∷ l) zero h = refl
pair_at (a ∷ b ∷ l) (suc i) h =
    let e : 2 * suc i ≡ suc (suc (2 * i)) = omega arith in
    let f : 2 * suc i + 1 ≡ suc (suc (2 * i + 1)) = omega arith in
    rw (f, e) (pair_at l i (omega arith))

-- ---- what is answered and what is left

module _ (field : List ℕ) (out : List ℕ) where
  refused : is_bytes field (length out) ≡ false → (None ≡ bytes_in field (length out)) × (out ≡ with_bytes field out)
  unfolding bytes_in with_bytes
  refused h = (rw h, rw h)

  pub no_digits : false ≡ all_bytes (pairs_of field) → (None ≡ bytes_in field (length out)) × (out ≡ with_bytes field out)
  unfolding is_bytes
  no_digits h = refused (rw (← h))

  pub no_room : true ≡ all_bytes (pairs_of field) → length out < length field / 2 → (None ≡ bytes_in field (length out)) × (out ≡ with_bytes field out)
  unfolding is_bytes
  no_room h g = refused (rw (← h, lt-leb (length (pairs_of field)) (length out) (omega (arith, good_length field (sym h)))))

  pub as_bytes : (n : ℕ) (x : List ℕ) → true ≡ all_bytes (pairs_of field) → n ≡ length field / 2 → n ≤ length out → x ≡ splice out 0 (pairs_of field) → (Some n ≡ bytes_in field (length out)) × (x ≡ with_bytes field out)
  unfolding bytes_in with_bytes is_bytes
  as_bytes n x h e g q =
      let m : n ≡ length (pairs_of field) = omega (arith, good_length field (sym h)) in
      (rw (← h, le-leb (length (pairs_of field)) (length out) (omega arith)) (ap (λ (k : ℕ). Some k) m), rw (← h, le-leb (length (pairs_of field)) (length out) (omega arith)) q)
