-- Laws of the eight numbers that the C calls pass. Assumes nothing.
use mathlib.Core.Path.{◌≡◌, refl, sym, ap, ◌∙◌}
use mathlib.Core.Bool.{Bool, true, false, cond}
use mathlib.Core.List.{List, [], ◌∷◌}
use Prim.Native.Nat.{ℕ, ◌/◌, ◌%◌}
use native.Mathlib.Omega.{arith}
use lib.Dec.{eqb}
use mir.Val.{bool_byte}
use lib.ListN.{length, get_or}
use borrow.Author.Tests.{eqb-true, eqb-false}
use Rattle.wire.proofs.Parts.{part_all, part_reads}
use Rattle.blocks.specs.Layout.{eight}
use Rattle.blocks.specs.Outcomes.{Extent}
use Rattle.blocks.specs.Outcomes as End
use Rattle.blocks.specs.Outcomes.{Read}
use Rattle.blocks.specs.Numbers.{as_numbers, block_numbers, read_numbers}
use Rattle.numbers_outcomes.specs.Outcomes.{outcome, end_outcome, read_outcome}

-- eight numbers, each by its place
pub one_by_one : (l : List ℕ) → length l ≡ 8 → get_or l 0 0 ∷ get_or l 1 0 ∷ get_or l 2 0 ∷ get_or l 3 0 ∷ get_or l 4 0 ∷ get_or l 5 0 ∷ get_or l 6 0 ∷ get_or l 7 0 ∷ [] ≡ l
one_by_one l h = sym (part_reads l 0 7 0 (omega arith)) ∙ part_all l 8 (omega arith)

-- a mark as a number
pub one_if : (b : Bool) → bool_byte b ≡ cond b 1 0
one_if true = refl
one_if false = refl

-- what is left by 2 is the mark
mark : (n : ℕ) → n % 2 ≡ cond (eqb (n % 2) 1) 1 0
mark n = go (eqb (n % 2) 1) refl
  where
    go : (b : Bool) → eqb (n % 2) 1 ≡ b → n % 2 ≡ cond b 1 0
    go true e = eqb-true (n % 2) 1 e
    go false e = let m = eqb-false (n % 2) 1 e in omega (arith, m)

-- a follow-on's numbers: its byte by 2, and what is left
pub follow_on_as_numbers : (f : List ℕ) → get_or f 0 0 / 2 ∷ get_or f 0 0 % 2 ∷ get_or f 1 0 ∷ 0 ∷ 0 ∷ 0 ∷ 0 ∷ 0 ∷ [] ≡ as_numbers 5 f
unfolding as_numbers eight
follow_on_as_numbers f = ap (λ (m : ℕ). get_or f 0 0 / 2 ∷ m ∷ get_or f 1 0 ∷ 0 ∷ 0 ∷ 0 ∷ 0 ∷ 0 ∷ []) (mark (get_or f 0 0))

-- a block that was read, and one that was refused, by its reading
pub read_shown : (out : List ℕ) {r x : Read} {kind size next : ℕ} {l : List ℕ} → r ≡ x → r.extent ≡ End.Ends kind size next → l ≡ as_numbers kind r.fields
    → (outcome 0 next ≡ read_outcome x) × (kind ∷ size ∷ r.bytes.start ∷ r.bytes.len ∷ l ≡ read_numbers x out)
read_shown out {r} {x} {kind} {size} {next} {l} e q p = (
  sym (ap end_outcome q) ∙ ap read_outcome e,
  ap (λ (m : List ℕ). kind ∷ size ∷ r.bytes.start ∷ r.bytes.len ∷ m) p ∙ sym (ap (λ (y : Extent). block_numbers y r.fields r.bytes out) q) ∙ ap (λ (y : Read). read_numbers y out) e,
)

pub read_refused_lem : (out : List ℕ) {r x : Read} {number place : ℕ} → r ≡ x → r.extent ≡ End.Refused number place → (outcome number place ≡ read_outcome x) × (out ≡ read_numbers x out)
read_refused_lem out {r} e q = (sym (ap end_outcome q) ∙ ap read_outcome e, sym (ap (λ (y : Extent). block_numbers y r.fields r.bytes out) q) ∙ ap (λ (y : Read). read_numbers y out) e)
