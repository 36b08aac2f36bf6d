-- What `taken_at` says of a row: a body that was taken may be written, and one that may be written is taken. Assumes nothing.
use Rattle.std.specs.Prelude.{Ok}
use mathlib.Core.Path.{◌≡◌, refl, sym, ap, ◌∙◌, subst}
use mathlib.Core.Bool.{Bool, true, false, cond, ◌&&◌, ◌||◌}
use mathlib.Core.List.{List}
use mathlib.Core.Logic.{⊎_elim}
use Prim.Native.Nat.{ℕ, ◌+◌, ◌-◌, ◌%◌, ◌≤◌, ◌<◌}
use native.Mathlib.Omega.{arith}
use lib.Dec.{leb, eqb}
use lib.ListN.{length, get_or}
use borrow.Author.Tests.{ltb-true, leb-true, eqb-true, lt-ltb, le-leb, eq-eqb, not-true}
use Rattle.wire.proofs.Tests.{and_both, or_either, or_neither}
use Rattle.blocks.specs.Layout.{sum}
use Rattle.blocks.specs.Table.{look, widths, after_fields, typed, field_length, carries, allowed}
use Rattle.blocks.specs.Extent.{is_i2np_type, at_least, pair_bytes_in, ignores_size, plain_length, taken_at}
use Rattle.blocks.specs.Sound.{is_sized, floor_of, counted, body_length, tested, sound}
use Rattle.blocks.proofs.Tables.{at}
use Rattle.blocks.proofs.Types.{is_tested, by_test}
use Rattle.blocks.proofs.Lengths.{from_none, ack_length, plain_length_lem}
use Rattle.blocks.proofs.Soundness.{plain_sound, taken_holds, sound_taken}

-- ---- what was taken may be written

even_pairs : (z : ℕ) → pair_bytes_in z % 2 ≡ 0
unfolding pair_bytes_in
even_pairs z = go (eqb ((z - 5) % 2) 0) refl
  where
    go : (b : Bool) → eqb ((z - 5) % 2) 0 ≡ b → cond b (z - 5) 0 % 2 ≡ 0
    go true e = eqb-true ((z - 5) % 2) 0 e
    go false e = refl

module _ (s : List ℕ) (o z : ℕ) where
  -- so many bytes may follow the fields, and a message's type is listed
  abbrev pub Good : ℕ → ℕ → Type 0
  Good k n = (allowed (after_fields k) (n - field_length k) ≡ true) × (cond (typed k) (is_i2np_type (get_or s o 0)) true ≡ true)

  -- the types that have no test of their own, by one computation
  others : (n k : ℕ) → is_tested k ≡ false → k < 256 → Good k n
  unfolding after_fields typed look
  others n k p h = and_both _ _ (sym (ap (λ (b : Bool). b || good k) p) ∙ at (λ j. is_tested j || good j) 256 refl k h)
    where
      good : ℕ → Bool
      good j = allowed (after_fields j) (n - field_length j) && cond (typed j) (is_i2np_type (get_or s o 0)) true

  sound_good : (n k : ℕ) → k < 256 → n ≡ body_length k z → sound s o k z ≡ true → Good k n
  unfolding sound tested body_length floor_of is_sized counted ignores_size field_length widths after_fields typed look sum
  sound_good n =
      by_test (λ k. k < 256 → n ≡ body_length k z → sound s o k z ≡ true → Good k n)
      (λ _ e t. (lt-ltb 0 (n - 2) (omega (arith, e ∙ from_none z, ltb-true 2 z t)), refl))
      (λ _ _ t. (refl, (and_both (leb 9 z) _ t).1))
      (λ _ e t. let b = and_both (leb 10 z) _ t in (lt-ltb 0 (n - 9) (omega (arith, e ∙ from_none z, leb-true 10 z b.0)), b.1))
      (λ _ e t. (lt-ltb 0 (n - 5) (omega (arith, e ∙ from_none z, ltb-true 5 z t)), refl))
      (λ _ e _. (eq-eqb ((n - 5) % 2) 0 (omega (arith, e ∙ ack_length z, even_pairs z)), refl))
      (λ _ e t. (⊎_elim (λ q. rw (e ∙ from_none z ∙ eqb-true z 6 q)) (λ q. rw (e ∙ from_none z ∙ eqb-true z 18 q)) (or_either (eqb z 6) (eqb z 18) t), refl))
      (λ k p h _ _. others n k p h)

  pub taken_good : (k n : ℕ) → k < 256 → taken_at s o k z ≡ Ok n → Good k n
  taken_good k n h e = let t = taken_holds s o z k n e in sound_good n k h t.0 t.3

-- ---- what may be written is taken

-- the body of a size z, of which m bytes follow the fields
pub record Fine (s : List ℕ) (o k m z : ℕ) : Type 0 where
  pub size : z ≡ field_length k + m
  pub fixed : carries (after_fields k) ≡ false → m ≡ 0
  pub may : allowed (after_fields k) m ≡ true
  pub listed : cond (typed k) (is_i2np_type (get_or s o 0)) true ≡ true
  pub inside : z ≤ length s - o

-- it is as long as its size
own_length : (m z k : ℕ) → z ≡ field_length k + m → (carries (after_fields k) ≡ false → m ≡ 0) → (k ≡ 12 → m % 2 ≡ 0) → body_length k z ≡ z
unfolding body_length floor_of is_sized counted ignores_size plain_length pair_bytes_in field_length widths after_fields look sum
own_length m z =
    by_test (λ k. z ≡ field_length k + m → (carries (after_fields k) ≡ false → m ≡ 0) → (k ≡ 12 → m % 2 ≡ 0) → body_length k z ≡ z)
    same same same same (λ e _ g. ack_length z ∙ rw (eq-eqb ((z - 5) % 2) 0 (omega (arith, e, g refl))) (omega (arith, e))) same
    (λ k p e f _. plain_length_lem k z p ∙ go k e f (ignores_size k) refl)
  where
    same : {A B C : Type 0} → A → B → C → at_least 0 z ≡ z
    same _ _ _ = from_none z

    go : (k : ℕ) → z ≡ field_length k + m → (carries (after_fields k) ≡ false → m ≡ 0) → (b : Bool) → ignores_size k ≡ b → cond b (field_length k) (at_least (field_length k) z) ≡ z
    go k e f true q = let n = f (or_neither (carries (after_fields k)) (eqb k 1 || eqb k 6) (not-true _ q)).0 in omega (arith, e, n)
    go k e f false q = rw (le-leb (field_length k) z (omega (arith, e)))

-- of the size of its fields it takes these alone
pub fixed_length : (k : ℕ) → body_length k (field_length k) ≡ field_length k
fixed_length k = own_length 0 (field_length k) k (omega arith) (λ _. refl) (λ _. refl)

fine_sound : (s : List ℕ) (o m z k : ℕ) → Fine s o k m z → sound s o k z ≡ true
unfolding sound tested field_length widths after_fields typed look sum
fine_sound s o m z =
    by_test (λ k. Fine s o k m z → sound s o k z ≡ true)
    (λ f. lt-ltb 2 z (omega (arith, f.size, ltb-true 0 m f.may)))
    (λ f. rw (le-leb 9 z (omega (arith, f.size))) f.listed)
    (λ f. rw (le-leb 10 z (omega (arith, f.size, ltb-true 0 m f.may))) f.listed)
    (λ f. lt-ltb 5 z (omega (arith, f.size, ltb-true 0 m f.may)))
    (λ _. refl)
    (λ f. ⊎_elim (λ q. let n : z ≡ 6 = omega (arith, f.size, eqb-true m 4 q) in rw n) (λ q. let n : z ≡ 18 = omega (arith, f.size, eqb-true m 16 q) in rw n) (or_either (eqb m 4) (eqb m 16) f.may))
    (λ k p _. plain_sound s o k z p)

pub fine : (s : List ℕ) (o m z k : ℕ) → Fine s o k m z → taken_at s o k z ≡ Ok z
unfolding after_fields look
fine s o m z k f =
    let e = own_length m z k f.size f.fixed (λ q. eqb-true (m % 2) 0 (subst (λ (j : ℕ). allowed (after_fields j) m ≡ true) q f.may)) in
    sound_taken s o z k (omega (arith, e, f.inside)) (fine_sound s o m z k f) ∙ ap Ok e
