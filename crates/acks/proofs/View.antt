-- Laws of the numbers below a number, as the marks show them. Assumes nothing.
use mathlib.Core.Path.{◌≡◌, refl, sym, ap, ◌∙◌}
use mathlib.Core.Bool.{Bool, true, false, not, beq, cond}
use mathlib.Core.List.{List, [], ◌∷◌, ◌++◌, map, map-append}
use mathlib.Core.Logic.{⊎_elim}
use Prim.Native.Nat.{ℕ, zero, suc, ◌+◌, ◌-◌, ◌*◌, ◌/◌, ◌%◌, ◌≤◌, ◌<◌, min}
use native.Mathlib.Omega.{arith}
use native.Mathlib.Nat.{eq-zero-or-pos}
use lib.Dec.{eqb}
use lib.ListN.{length, take, drop, get_or, length-map}
use Rattle.std.specs.Prelude.{reverse}
use Rattle.std.specs.List.{prefix_len}
use Rattle.std.proofs.lemmas.List.{reverse-append}
use Rattle.wire.specs.Parts.{part}
use Rattle.wire.proofs.Parts.{part_add, part_one, part_none, part_is}
use Rattle.acks.specs.Window.{falling}
use Rattle.acks.specs.Runs.{leading}
use Rattle.acks.specs.Tracking.{mark}
use Rattle.acks.specs.Reporting.{view}
use Rattle.acks.proofs.Falling.{length_falling, drop_falling, falling_append}
use Rattle.acks.proofs.RunLengths.{drop_map, leading_le, leading_append_stop, leading_append_on}

sub_swap : (a b : ℕ) → a - 1 - b ≡ a - b - 1
sub_swap a b = omega arith

none : (b : Bool) → 0 ≡ leading b []
unfolding leading
none true = refl
none false = refl

counted_one : (want b : Bool) (n : ℕ) (l : List Bool) → n ≡ leading want l → cond (beq b want) (1 + n) 0 ≡ leading want (b ∷ l)
unfolding leading
counted_one true true n l e = omega arith
counted_one true false n l e = refl
counted_one false true n l e = refl
counted_one false false n l e = omega arith

module _ (m : List ℕ) where
  last_one : (k e : ℕ) → suc k ≤ e → e ≤ length m → part m (e - suc k) (suc k) ≡ part m (e - 1 - k) k ++ (get_or m (e - 1) 0 ∷ [])
  last_one k e h g =
      let o : e - suc k ≡ e - 1 - k = omega arith in
      let n : suc k ≡ k + 1 = omega arith in
      let p : e - 1 - k + k ≡ e - 1 = omega arith in
      rw (o, n, part_add m (e - 1 - k) k 1, p, ← part_one m (e - 1) 0 (omega arith))

  pub length_view : (n k : ℕ) → length (view m n k) ≡ k
  unfolding view
  length_view n k = length-map (falling (n - 1) k) (mark m) ∙ length_falling (n - 1) k

  pub view_drop : (j n k : ℕ) → drop j (view m n k) ≡ view m (n - j) (k - j)
  unfolding view
  view_drop j n k =
      let e : n - 1 - j ≡ n - j - 1 = omega arith in
      drop_map (mark m) j (falling (n - 1) k) ∙ ap (map (mark m)) (drop_falling j (n - 1) k) ∙ rw e

  pub view_none : (n : ℕ) → view m n 0 ≡ []
  unfolding view falling
  view_none n = refl

  view_suc : (n k : ℕ) → view m n (suc k) ≡ mark m (n - 1) ∷ view m (n - 1) k
  unfolding view falling
  view_suc n k = refl

  pub view_cons : (n k : ℕ) → 0 < k → view m n k ≡ mark m (n - 1) ∷ view m (n - 1) (k - 1)
  view_cons n zero h = absurd (omega arith)
  view_cons n (suc k) h =
      let e : suc k - 1 ≡ k = omega arith in
      rw e (view_suc n k)

  pub view_append : (n a b : ℕ) → view m n (a + b) ≡ view m n a ++ view m (n - a) b
  unfolding view
  view_append n a b =
      ap (map (mark m)) (falling_append (n - 1) a b)
      ∙ map-append (mark m) (falling (n - 1) a) (falling (n - 1 - a) b)
      ∙ rw (sub_swap n a)

  -- the k marks below place e, counted from the last one down while they are as wanted
  module _ (whole : length m ≡ 255) (want : Bool) where
    pub straight_is : (k e : ℕ) → k ≤ e → e ≤ 255 → prefix_len (λ x. beq (not (eqb x 0)) want) (reverse (part m (e - k) k)) ≡ leading want (view m e k)
    unfolding mark
    straight_is zero e h g = rw (part_none m (e - 0), view_none e) (none want)
    straight_is (suc k) e h g =
        let last : part m (e - suc k) (suc k) ≡ part m (e - 1 - k) k ++ (get_or m (e - 1) 0 ∷ []) = last_one k e h (omega arith) in
        let at : (e - 1) % 255 ≡ e - 1 = omega arith in
        rw (last, reverse-append (part m (e - 1 - k) k) (get_or m (e - 1) 0 ∷ []), view_suc e k, at)
        (counted_one want (not (eqb (get_or m (e - 1) 0) 0)) (prefix_len (λ x. beq (not (eqb x 0)) want) (reverse (part m (e - 1 - k) k))) (view m (e - 1) k) (straight_is k (e - 1) (omega arith) (omega arith)))

    -- the same of a slice from place o to place e
    pub straight_at : (k e o n : ℕ) → k ≤ e → e ≤ 255 → o ≡ e - k → n ≡ k → prefix_len (λ x. beq (not (eqb x 0)) want) (reverse (take n (drop o m))) ≡ leading want (view m e k)
    straight_at k e o n h g p q = rw (q, p, part_is m (e - k) k) (straight_is k e h g)

  -- numbers that are 255 apart share their marks
  same_place : (n e q : ℕ) → n ≡ e + 255 * q → 0 < e → mark m (n - 1) ≡ mark m (e - 1)
  unfolding mark
  same_place n e q h p =
      let z : (n - 1) % 255 ≡ (e - 1) % 255 = omega arith in
      ap (λ i. not (eqb (get_or m i 0) 0)) z

  pub view_ring : (q k n e : ℕ) → n ≡ e + 255 * q → k ≤ e → view m n k ≡ view m e k
  view_ring q zero n e h g = view_none n ∙ sym (view_none e)
  view_ring q (suc k) n e h g =
      view_suc n k
      ∙ ap (λ b. b ∷ view m (n - 1) k) (same_place n e q h (omega arith))
      ∙ ap (λ l. mark m (e - 1) ∷ l) (view_ring q k (n - 1) (e - 1) (omega arith) (omega arith))
      ∙ sym (view_suc e k)

  -- the k numbers below top, k at most 255, are two straight parts of the ring: a marks below place e, then those below 255
  module _ (top k e a : ℕ) (at : e ≡ top % 255) (least : a ≡ min k e) (most : k ≤ top) (small : k ≤ 255) where
    front : view m top a ≡ view m e a
    front = view_ring (top / 255) a top e (omega arith) (omega arith)

    back : view m (top - a) (k - a) ≡ view m 255 (k - a)
    back =
        ⊎_elim
        (λ z. rw z (view_none (top - a) ∙ sym (view_none 255)))
        (λ p. view_ring (top / 255 - 1) (k - a) (top - a) 255 (omega arith) (omega arith))
        (eq-zero-or-pos (k - a))

    split : view m top k ≡ view m e a ++ view m 255 (k - a)
    split =
        let s : k ≡ a + (k - a) = omega arith in
        ap (view m top) s ∙ view_append top a (k - a) ∙ rw (front, back)

    -- the run ends in the first part
    pub ends_in_front : (want : Bool) (r : ℕ) → r ≡ leading want (view m e a) → r < a → r ≡ leading want (view m top k)
    ends_in_front want r h g =
        h
        ∙ sym
        (ap (leading want) split
        ∙ leading_append_stop want (view m e a) (view m 255 (k - a)) (omega (arith, length_view e a)))

    -- or it goes on into the second
    pub goes_on : (want : Bool) (r s : ℕ) → r ≡ leading want (view m e a) → a ≤ r → s ≡ leading want (view m 255 (k - a)) →
        a + s ≡ leading want (view m top k)
    goes_on want r s h g w =
        let z : leading want (view m e a) ≡ length (view m e a) = omega (arith, length_view e a, leading_le want (view m e a)) in
        rw w
        (sym
        (ap (leading want) split
        ∙ leading_append_on want (view m e a) (view m 255 (k - a)) z
        ∙ ap (λ n. n + leading want (view m 255 (k - a))) (length_view e a)))
