-- The bytes that a sound body takes, by type and size. Assumes nothing.
use mathlib.Core.Path.{◌≡◌, refl, ap, ◌∙◌}
use mathlib.Core.Bool.{Bool, true, false, cond, not, ◌&&◌, ◌||◌}
use mathlib.Core.Logic.{⊎_elim}
use Prim.Native.Nat.{ℕ, ◌+◌, ◌-◌, ◌%◌, ◌≤◌, ◌<◌}
use native.Mathlib.Omega.{arith}
use lib.Dec.{ltb, leb, eqb}
use borrow.Author.Tests.{ltb-true, leb-true, leb-false, eqb-true, eqb-false, le-leb, eq-eqb, ne_eqb, not-true}
use Rattle.wire.proofs.Tests.{and_both, or_either}
use Rattle.blocks.specs.Layout.{sum}
use Rattle.blocks.specs.Table.{look, widths, after_fields, field_length}
use Rattle.blocks.specs.Extent.{between, at_least, pair_bytes_in, ignores_size, plain_length}
use Rattle.blocks.specs.Sound.{is_sized, floor_of, counted, body_length}
use Rattle.blocks.proofs.Tables.{at}
use Rattle.blocks.proofs.Types.{is_tested, apart}

pub from_none : (z : ℕ) → at_least 0 z ≡ z
from_none z = rw (le-leb 0 z (omega arith))

at_least_floor : (f z : ℕ) → z ≤ f → at_least f z ≡ f
at_least_floor f z h = go (leb f z) refl
  where
    go : (b : Bool) → leb f z ≡ b → cond b z f ≡ f
    go true e = let n : f ≤ z = leb-true f z e in omega arith
    go false e = refl

at_least_lem : (f z : ℕ) → f ≤ at_least f z
at_least_lem f z = go (leb f z) refl
  where
    go : (b : Bool) → leb f z ≡ b → f ≤ cond b z f
    go true e = leb-true f z e
    go false e = omega arith

pub at_least_below : (f z m : ℕ) → f < m → z < m → at_least f z < m
at_least_below f z m h g = go (leb f z)
  where
    go : (b : Bool) → cond b z f < m
    go true = g
    go false = h

-- floors are small, and types above 21 have none and count their size
rule : ℕ → Bool
rule k = ltb (floor_of k) 65536 && (leb k 21 || (eqb (floor_of k) 0 && not (ignores_size k)))

rules : (k : ℕ) → k < 256 → (ltb (floor_of k) 65536 ≡ true) × ((leb k 21 || (eqb (floor_of k) 0 && not (ignores_size k))) ≡ true)
unfolding rule floor_of is_sized ignores_size field_length widths after_fields look sum
rules k h = and_both (ltb (floor_of k) 65536) _ (at rule 256 refl k h)

pub floor_below : (k : ℕ) → k < 256 → floor_of k < 65536
floor_below k h = ltb-true (floor_of k) 65536 (rules k h).0

-- a type above 21 takes its size
pub high_length : (k z : ℕ) → k < 256 → 21 < k → body_length k z ≡ z
unfolding body_length counted
high_length k z h g =
    ⊎_elim (λ e. absurd (omega (arith, leb-true k 21 e)))
    (λ e. let b = and_both (eqb (floor_of k) 0) (not (ignores_size k)) e in rw (eqb-true (floor_of k) 0 b.0, not-true (ignores_size k) b.1, ne_eqb k 12 (λ q. omega (arith, q))) (from_none z))
    (or_either (leb k 21) (eqb (floor_of k) 0 && not (ignores_size k)) (rules k h).1)

-- I2NP and FirstFragment take their size
pub message_length : (k z : ℕ) → (eqb k 3 || eqb k 4) ≡ true → body_length k z ≡ z
unfolding body_length floor_of is_sized counted ignores_size after_fields look
message_length k z t =
    ⊎_elim (λ e. ap (λ (j : ℕ). body_length j z) (eqb-true k 3 e) ∙ from_none z) (λ e. ap (λ (j : ℕ). body_length j z) (eqb-true k 4 e) ∙ from_none z) (or_either (eqb k 3) (eqb k 4) t)

pub ack_length : (z : ℕ) → body_length 12 z ≡ 5 + pair_bytes_in z
unfolding body_length floor_of is_sized field_length widths look sum counted ignores_size after_fields pair_bytes_in
ack_length z = go (eqb (z % 2) 0) refl (leb 5 z) refl
  where
    go : (b : Bool) → eqb (z % 2) 0 ≡ b → (l : Bool) → leb 5 z ≡ l → at_least 5 (cond b 0 z) ≡ 5 + cond (eqb ((z - 5) % 2) 0) (z - 5) 0
    go true e true h =
        let n : z % 2 ≡ 0 = eqb-true (z % 2) 0 e in
        let g : 5 ≤ z = leb-true 5 z h in
        rw (ne_eqb ((z - 5) % 2) 0 (λ q. omega (arith, n, g, q)))
    go true e false h =
        let d : z - 5 ≡ 0 = omega (arith, leb-false 5 z h) in
        rw d
    go false e true h =
        let n = eqb-false (z % 2) 0 e in
        let g : 5 ≤ z = leb-true 5 z h in
        let odd : z % 2 ≡ 1 = omega (arith, n) in
        rw (eq-eqb ((z - 5) % 2) 0 (omega (arith, odd, g)), le-leb 5 z g) (omega arith)
    go false e false h =
        let d : z - 5 ≡ 0 = omega (arith, leb-false 5 z h) in
        rw d (at_least_floor 5 z (omega (arith, leb-false 5 z h)))

plain_sized : (k : ℕ) → is_tested k ≡ false → is_sized k ≡ false
unfolding is_sized
plain_sized k p = rw (apart k 13 p refl) (go (between 2 5 k) refl)
  where
    go : (b : Bool) → between 2 5 k ≡ b → (b || false) ≡ false
    go true e =
        let b = and_both (leb 2 k) (leb k 5) e in
        absurd (omega (arith, leb-true 2 k b.0, leb-true k 5 b.1, eqb-false k 2 (apart k 2 p refl), eqb-false k 3 (apart k 3 p refl), eqb-false k 4 (apart k 4 p refl), eqb-false k 5 (apart k 5 p refl)))
    go false e = refl

pub plain_length_lem : (k z : ℕ) → is_tested k ≡ false → body_length k z ≡ plain_length k z
unfolding body_length floor_of counted plain_length
plain_length_lem k z p = rw (plain_sized k p, apart k 12 p refl) (go (ignores_size k))
  where
    go : (b : Bool) → at_least (field_length k) (cond (b || false) 0 z) ≡ cond b (field_length k) (at_least (field_length k) z)
    go true = at_least_floor (field_length k) 0 (omega arith)
    go false = refl

pub plain_fields : (k z : ℕ) → field_length k ≤ plain_length k z
unfolding plain_length
plain_fields k z = go (ignores_size k)
  where
    go : (b : Bool) → field_length k ≤ cond b (field_length k) (at_least (field_length k) z)
    go true = omega arith
    go false = at_least_lem (field_length k) z
