-- Blocks by the numbers that the C calls pass: reading and writing are inverse both ways. Assumes nothing.
use mathlib.Core.Path.{◌≡◌, refl, sym, ap, ap₂, ◌∙◌, subst}
use mathlib.Core.Bool.{Bool, true, false, cond, not}
use mathlib.Core.List.{List, [], ◌∷◌}
use Prim.Native.Nat.{ℕ, ◌+◌, ◌*◌, ◌/◌, ◌%◌, ◌≤◌, ◌<◌, min}
use native.Mathlib.Omega.{arith}
use lib.Dec.{ltb, eqb}
use lib.ListN.{length, get_or}
use borrow.Author.Tests.{ltb-true, eqb-true, eqb-false}
use Rattle.wire.specs.Numbers.{Bytes, big_at}
use Rattle.wire.proofs.Numbers.{big_at_lt}
use Rattle.wire.proofs.Tests.{and_both}
use Rattle.blocks.specs.Outcomes as End
use Rattle.blocks.specs.Outcomes.{Read}
use Rattle.blocks.specs.Layout.{sum, fields_at, fits, eight}
use Rattle.blocks.specs.Table.{look, widths, field_length}
use Rattle.blocks.specs.Extent.{extent_at}
use Rattle.blocks.specs.Reading.{bytes_after, read_at}
use Rattle.blocks.specs.Writing.{size_of, is_proper, writing, room_after}
use Rattle.blocks.specs.Numbers.{as_numbers, as_fields, read_numbers, writing_by, room_by}
use Rattle.blocks.specs.Claims.{own_fields, numbers_back, NumbersBack, NumbersAgain}
use Rattle.blocks.proofs.Ends.{bounded}
use Rattle.blocks.proofs.Answers.{reads_block}
use Rattle.blocks.proofs.ReadExtents.{read_extent}
use Rattle.blocks.proofs.RoundTrip.{taken_by, write_then_read}
use Rattle.blocks.proofs.Named.{number_and_mark}

-- ---- a follow-on's first byte

-- a byte, from its number and mark
byte_again : (b : ℕ) → b < 256 → min (b / 2) 128 * 2 + cond (not (eqb (cond (eqb (b % 2) 1) 1 0) 0)) 1 0 ≡ b
byte_again b h = let n : min (b / 2) 128 ≡ b / 2 = omega arith in rw n (go (eqb (b % 2) 1) refl)
  where
    go : (t : Bool) → eqb (b % 2) 1 ≡ t → b / 2 * 2 + cond (not (eqb (cond t 1 0) 0)) 1 0 ≡ b
    go true e = let m = eqb-true (b % 2) 1 e in omega (arith, m)
    go false e = let m = eqb-false (b % 2) 1 e in omega (arith, m)

mark_is : (x : ℕ) → ◌≡◌ {A = ℕ} (cond (not (eqb x 0)) 1 0) (cond (eqb x 0) 0 1)
mark_is x = go (eqb x 0)
  where
    go : (b : Bool) → ◌≡◌ {A = ℕ} (cond (not b) 1 0) (cond b 0 1)
    go true = refl
    go false = refl

-- ---- written, then read

-- a number whose byte fits is the number itself
uncut : (n : ℕ) (l : Bool) → min n 128 * 2 + cond l 1 0 < 256 → min n 128 ≡ n
uncut n true h = omega arith
uncut n false h = omega arith

five_back : (v : List ℕ) → fits (widths 5) (as_fields 5 v) ≡ true → as_numbers 5 (own_fields 5 (as_fields 5 v)) ≡ numbers_back 5 v
unfolding fits widths look eight own_fields as_numbers as_fields numbers_back
five_back v f =
    let l : Bool = not (eqb (get_or v 1 0) 0) in
    let n : ℕ = min (get_or v 0 0) 128 in
    let u : n ≡ get_or v 0 0 = uncut (get_or v 0 0) l (ltb-true (n * 2 + cond l 1 0) 256 (and_both (ltb (n * 2 + cond l 1 0) 256) _ f).0) in
    let h = number_and_mark n l in
    ap₂ (λ (a m : ℕ). a ∷ m ∷ get_or v 2 0 ∷ 0 ∷ 0 ∷ 0 ∷ 0 ∷ 0 ∷ []) (h.0 ∙ u) (ap (λ (b : Bool). cond b 1 0) h.1 ∙ mark_is (get_or v 1 0))

numbers_same : (kind : ℕ) (v : List ℕ) → fits (widths kind) (as_fields kind v) ≡ true → as_numbers kind (own_fields kind (as_fields kind v)) ≡ numbers_back kind v
unfolding as_numbers as_fields numbers_back
numbers_same kind v f = go (eqb kind 5) refl
  where
    go : (b : Bool) → eqb kind 5 ≡ b → as_numbers kind (own_fields kind (as_fields kind v)) ≡ numbers_back kind v
    go true e =
        let k : kind ≡ 5 = eqb-true kind 5 e in
        ap (λ (j : ℕ). as_numbers j (own_fields j (as_fields j v))) k ∙ five_back v (sym (ap (λ (j : ℕ). fits (widths j) (as_fields j v)) k) ∙ f) ∙ sym (ap (λ (j : ℕ). numbers_back j v) k)
    go false e = rw e

pub numbers_back_lem : NumbersBack
unfolding writing_by room_by is_proper
numbers_back_lem kind v body room out n h w =
    let t = taken_by kind (as_fields kind v) body room n w in
    let f = (and_both (fits (widths kind) (as_fields kind v)) _ t.0).0 in
    ap (λ (r : Read). read_numbers r out) (write_then_read kind (as_fields kind v) body room n h w).0
    ∙ ap (λ (l : List ℕ). kind ∷ size_of kind body ∷ (bytes_after kind 3 (size_of kind body)).start ∷ (bytes_after kind 3 (size_of kind body)).len ∷ l) (numbers_same kind v f)

-- ---- read, then written

five_long : field_length 5 ≡ 5
unfolding field_length widths look sum
five_long = refl

five_again : (s : List ℕ) (o : ℕ) → Bytes s → o + 5 ≤ length s → as_fields 5 (as_numbers 5 (eight (fields_at (widths 5) s o))) ≡ eight (fields_at (widths 5) s o)
unfolding fields_at widths look eight as_numbers as_fields
five_again s o bytes h = ap (λ (b : ℕ). b ∷ big_at 4 s (o + 1) ∷ 0 ∷ 0 ∷ 0 ∷ 0 ∷ 0 ∷ 0 ∷ []) (byte_again (big_at 1 s o) (big_at_lt 1 s o (omega arith) bytes))

fields_same : (s : List ℕ) (at kind size next : ℕ) → Bytes s → extent_at s at ≡ End.Ends kind size next
    → as_fields kind (as_numbers kind (eight (fields_at (widths kind) s (at + 3)))) ≡ eight (fields_at (widths kind) s (at + 3))
unfolding as_numbers as_fields
fields_same s at kind size next bytes e = go (eqb kind 5) refl
  where
    go : (b : Bool) → eqb kind 5 ≡ b → as_fields kind (as_numbers kind (eight (fields_at (widths kind) s (at + 3)))) ≡ eight (fields_at (widths kind) s (at + 3))
    go true q =
        let k : kind ≡ 5 = eqb-true kind 5 q in
        let d = bounded s at kind size next e in
        subst (λ (j : ℕ). as_fields j (as_numbers j (eight (fields_at (widths j) s (at + 3)))) ≡ eight (fields_at (widths j) s (at + 3))) (sym k)
        (five_again s (at + 3) bytes (omega (arith, d.fields, d.inside, ap field_length k ∙ five_long)))
    go false q = rw q

pub numbers_again : NumbersAgain
unfolding writing_by room_by
numbers_again s body room at kind size next bytes e =
    let x : extent_at s at ≡ End.Ends kind size next = sym (read_extent s at) ∙ e in
    let f : (read_at s at).fields ≡ eight (fields_at (widths kind) s (at + 3)) = sym (ap (λ (r : Read). r.fields) (reads_block s at x refl refl)) in
    let q : as_fields kind (as_numbers kind (read_at s at).fields) ≡ (read_at s at).fields = ap (λ (l : List ℕ). as_fields kind (as_numbers kind l)) f ∙ fields_same s at kind size next bytes x ∙ sym f in
    (ap (λ (f : List ℕ). writing kind f body (length room)) q, ap (λ (f : List ℕ). room_after kind f body room) q)
