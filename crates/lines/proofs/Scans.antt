-- Laws of the fields and lines of a text: a turn of each search, and its end. Assumes nothing.
use Rattle.std.proofs.Common.{◌≡◌, ◌≢◌, Bool, refl, sym, ap, ◌∙◌, true, false, cond, List, [], ◌∷◌, ℕ, zero, suc, ◌+◌, ◌-◌, ◌≤◌, ◌<◌, nat_lt, Some, None, arith, length, get_or, take, drop}
use Rattle.std.specs.Option.{unwrap_or}
use Rattle.std.specs.List.{position, position_or_len}
use Rattle.std.proofs.lemmas.Bool.Decides.{nat_tests}
use Rattle.std.proofs.lemmas.List.Recursion.{is_position_or_len}
use Rattle.std.proofs.lemmas.Grind.{common_steps}
use lib.Dec.{eqb}
use borrow.Author.Tests.{eq-eqb, ne_eqb, eqb-true, eqb-false}
use Rattle.wire.proofs.Parts.{part_is}
use Rattle.wire.proofs.Slices.{part_past}
use Rattle.lines.specs.Fields.{is_end, lead, field_at, whole_up_to}

-- ---- what stands before an end

-- a place that was found, or the end
found_or : (n m : ℕ) → n ≤ m → unwrap_or (cond (nat_lt n m) (Some n) None) m ≡ n
found_or n m h = grind (arith, nat_tests)

pub lead_le : (own : ℕ) (l : List ℕ) → lead own l ≤ length l
unfolding lead
lead_le own [] = omega arith
lead_le own (b ∷ bs) = grind (arith, nat_tests, lead_le own bs)

lead_counts : (own : ℕ) (l : List ℕ) → lead own l ≡ position_or_len (is_end own) l
unfolding lead
lead_counts own l =
    is_position_or_len (lead own) (is_end own) refl
    (λ x xs. let e : suc (lead own xs) ≡ 1 + lead own xs = omega arith in ap (cond (is_end own x) 0) e) l

-- the place of the first byte that ends it, or the end
pub lead_found : (own : ℕ) (l : List ℕ) → unwrap_or (position (is_end own) l) (length l) ≡ lead own l
lead_found own l =
    rw (← lead_counts own l) (found_or (lead own l) (length l) (lead_le own l))

-- ---- fields

module _ (text : List ℕ) (at : ℕ) where
  pub field_past : length text < at → [] ≡ field_at text at
  unfolding field_at
  field_past h = sym (part_past text at (lead 32 (drop at text)) (omega arith))

  pub field_found : (n : ℕ) → n ≡ lead 32 (take (length text - at) (drop at text)) → n ≤ length (take (length text - at) (drop at text)) → at ≤ length text → take n (take (length text - at) (drop at text)) ≡ field_at text at
  unfolding field_at
  field_found n e h g = grind (arith, common_steps, part_is text at n)

-- ---- whole lines

module _ (text : List ℕ) where
  -- no newline stands among the first n bytes
  pub whole_none : (n : ℕ) → ((k : ℕ) → k < n → get_or text k 0 ≢ 10) → 0 ≡ whole_up_to text n
  unfolding whole_up_to
  whole_none zero g = refl
  whole_none (suc n) g = rw (ne_eqb (get_or text n 0) 10 (g n (omega arith))) (whole_none n (λ k h. g k (omega arith)))

  -- one stands at i, and none after it among the first n
  pub whole_found : (i n : ℕ) → i < n → get_or text i 0 ≡ 10 → ((k : ℕ) → i < k → k < n → get_or text k 0 ≢ 10) → i + 1 ≡ whole_up_to text n
  unfolding whole_up_to
  whole_found i zero h e g = absurd (omega arith)
  whole_found i (suc n) h e g = go (eqb n i) refl (λ less. whole_found i n less e (λ k h l. g k h (omega arith)))
    where
      go : (b : Bool) → eqb n i ≡ b → (i < n → i + 1 ≡ whole_up_to text n) → i + 1 ≡ whole_up_to text (suc n)
      go true q r =
          let same : n ≡ i = eqb-true n i q in
          let t : get_or text n 0 ≡ 10 = ap (λ (k : ℕ). get_or text k 0) same ∙ e in
          rw (eq-eqb (get_or text n 0) 10 t) (omega arith)
      go false q r =
          let other : n ≢ i = eqb-false n i q in
          let less : i < n = omega arith in
          rw (ne_eqb (get_or text n 0) 10 (g n less (omega arith))) (r less)
