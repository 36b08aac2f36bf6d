-- Rules of the table, each by one computation over its 256 types; digits as widths, and numbers of such a width. Assumes nothing.
use mathlib.Core.Path.{◌≡◌, refl, sym, ap, ◌∙◌}
use mathlib.Core.Bool.{Bool, true, false, cond, ◌||◌}
use mathlib.Core.List.{List, [], ◌∷◌}
use Prim.Native.Nat.{ℕ, ◌+◌, ◌/◌, ◌%◌, ◌^◌, ◌≤◌, ◌<◌}
use native.Mathlib.Omega.{arith}
use native.Mathlib.Numerals.{add-one}
use lib.Dec.{ltb, leb, eqb, leb-suc-suc}
use borrow.Author.Tests.{leb-true, eqb-true, ne_eqb}
use lib.ListN.{length, get_or, set}
use Rattle.wire.specs.Parts.{splice, same}
use Rattle.wire.specs.Numbers.{little, big, big_at, big_bytes}
use Rattle.wire.proofs.Parts.{part_one, stores_splice}
use Rattle.wire.proofs.Numbers.{big_one, big_mod}
use Rattle.wire.proofs.Tests.{one_of}
use Rattle.wire.proofs.Same.{same_eq}
use Rattle.blocks.specs.declared.After.{After}
use Rattle.blocks.specs.declared.After.TheVariants.{Nothing, Any, Some, Pairs, Ip}
use Rattle.blocks.specs.Layout.{sum, eight}
use Rattle.blocks.specs.Table.{look, widths, after_fields, typed, field_length}
use Rattle.blocks.specs.Packed.{digit, packed, row_number, width_of, unpacked}
use Rattle.blocks.proofs.Tables.{at}

-- ---- a row's number holds the row

pub record Right (k : ℕ) : Type 0 where
  pub is_widths : unpacked 8 (row_number k % 4294967296) ≡ widths k
  pub is_after : row_number k / 4294967296 % 8 ≡ digit (after_fields k)
  pub is_typed : eqb (row_number k / 34359738368 % 2) 1 ≡ typed k
  pub is_length : row_number k / 68719476736 ≡ field_length k
  pub short : field_length k ≤ 12

pub row_right : (k : ℕ) → k < 256 → Right k
unfolding same unpacked width_of row_number packed eight widths after_fields typed look field_length sum
row_right k h =
    record {
      is_widths = same_eq _ _ (at (λ j. same (unpacked 8 (row_number j % 4294967296)) (widths j)) 256 refl k h);
      is_after = eqb-true _ _ (at (λ j. eqb (row_number j / 4294967296 % 8) (digit (after_fields j))) 256 refl k h);
      is_typed = as_bit _ _ (at (λ j. eqb (row_number j / 34359738368 % 2) (cond (typed j) 1 0)) 256 refl k h);
      is_length = eqb-true _ _ (at (λ j. eqb (row_number j / 68719476736) (field_length j)) 256 refl k h);
      short = leb-true _ _ (at (λ j. leb (field_length j) 12) 256 refl k h);
    }
  where
    as_bit : (x : ℕ) (b : Bool) → eqb x (cond b 1 0) ≡ true → eqb x 1 ≡ b
    as_bit x true e = e
    as_bit x false e = ap (λ (y : ℕ). eqb y 1) (eqb-true x 0 e)

-- what a digit says follows
unfoldable pub after_by : ℕ → After
after_by d = cond (eqb d 0) Nothing (cond (eqb d 1) Any (cond (eqb d 2) Some (cond (eqb d 3) Pairs Ip)))

pub after_digit : (k : ℕ) → k < 256 → after_by (row_number k / 4294967296 % 8) ≡ after_fields k
unfolding after_by
after_digit k h = ap after_by (row_right k h).is_after ∙ go (after_fields k)
  where
    go : (a : After) → after_by (digit a) ≡ a
    go Nothing = refl
    go Any = refl
    go Some = refl
    go Pairs = refl
    go Ip = refl

-- ---- the types that are not bytes alone

abbrev rows : List ℕ
rows = 0 ∷ 16 ∷ 20 ∷ 1 ∷ 2 ∷ 3 ∷ 4 ∷ 5 ∷ 6 ∷ 12 ∷ 13 ∷ 15 ∷ 17 ∷ 21 ∷ []

pub bytes_alone : (k : ℕ) → k < 256 → one_of rows k ≡ false → 4294967296 ≡ row_number k
unfolding row_number packed eight widths after_fields typed look field_length sum
bytes_alone k h e =
    sym (eqb-true _ _ (sym (ap (λ (b : Bool). b || eqb (row_number k) 4294967296) e) ∙ at (λ j. one_of rows j || eqb (row_number j) 4294967296) 256 refl k h))

-- ---- digits

-- a digit other than 1, 2 and 4 is the width 8
pub width_else : {A : Type 0} {d : ℕ} → ((A × (d ≡ 1 → ⊥)) × (d ≡ 2 → ⊥)) × (d ≡ 4 → ⊥) → width_of d ≡ 8
unfolding width_of
width_else {A} {d} n = rw (ne_eqb d 1 n.0.0.1, ne_eqb d 2 n.0.1, ne_eqb d 4 n.1)

-- ---- a number of one byte, and what a number puts where its field is narrower

pub number_one : (s : List ℕ) (o : ℕ) → o + 1 ≤ length s → get_or s o 0 ≡ big_at 1 s o
unfolding big_at big little
number_one s o h = sym (ap big (sym (part_one s o 0 (omega arith))) ∙ omega arith)

module _ (l : List ℕ) (o x : ℕ) where
  -- put as two bytes or four
  pub cut : (w : ℕ) {m : List ℕ} → m ≡ splice l o (big_bytes w (x % 256 ^ w)) → m ≡ splice l o (big_bytes w x)
  cut w q = q ∙ ap (splice l o) (big_mod w x)

  -- put as one
  pub put_one : o + 1 ≤ length l → set l o (x % 256) ≡ splice l o (big_bytes 1 x)
  put_one h = stores_splice l o (x % 256) [] (omega arith) ∙ ap (splice l o) (sym (big_one x))

-- ---- whether a number fits: it is at most the largest that does

pub fit_up_to : (x m n : ℕ) → m + 1 ≡ n → leb x m ≡ ltb x n
fit_up_to x m n e = sym (leb-suc-suc x m) ∙ ap (ltb x) (sym (add-one m) ∙ e)
