-- Laws of parts and splices as slices give them: a range, nothing put, one element more, a range cut to what is there. Assumes nothing.
use mathlib.Core.Path.{◌≡◌, refl, sym, ap, ◌∙◌}
use mathlib.Core.Bool.{Bool, true, false}
use mathlib.Core.List.{List, [], ◌∷◌, ◌++◌, append-nil}
use Prim.Native.Nat.{ℕ, ◌+◌, ◌-◌, ◌≤◌, ◌<◌, min}
use native.Mathlib.Nat.{add-zero}
use native.Mathlib.Omega.{arith}
use lib.Dec.{ltb}
use lib.ListN.{length, take, drop, set, replicate, take-append-drop, length-take, length-drop, length-replicate, get_or-replicate, drop_of_length-le}
use lib.Seq.{take_all, ext_get_or}
use borrow.Author.Tests.{ltb-true, ltb-false}
use Rattle.wire.specs.Parts.{part, splice}
use Rattle.wire.proofs.Parts.{part_is, part_cut, length_part, get_d_part, length_splice, stores_splice, splice_join}

module _ {A : Type 0} where
  -- the slice of n elements from place o on
  pub slice_is : (l : List A) (o n : ℕ) → take (o + n - o) (drop o l) ≡ part l o n
  slice_is l o n =
      let e : o + n - o ≡ n = omega arith in
      ap (λ (k : ℕ). take k (drop o l)) e ∙ part_is l o n

  -- the slice from place o to the end is a part that runs past the end
  pub slice_to_end : (l : List A) (o n : ℕ) → length l ≤ o + n → take (length l - o) (drop o l) ≡ part l o n
  slice_to_end l o n h = take_all (length l - o) (drop o l) (omega (arith, length-drop o l)) ∙ sym (part_cut l o n h)

  -- nothing stands past the end
  pub part_past : (l : List A) (o n : ℕ) → length l ≤ o → part l o n ≡ []
  part_past l o n h = part_cut l o n (omega arith) ∙ drop_of_length-le l {i = o} h

  -- a part is as long as what is there
  pub length_part_min : (l : List A) (o n : ℕ) → length (part l o n) ≡ min n (length l - o)
  unfolding part
  length_part_min l o n = length-take n (drop o l) ∙ ap (min n) (length-drop o l)

  -- a part of elements that are all the same
  pub part_alike : (x : A) (m o n : ℕ) → o + n ≤ m → part (replicate m x) o n ≡ replicate n x
  part_alike x m o n h =
      let lp : length (part (replicate m x) o n) ≡ n = length_part (replicate m x) o n (omega (arith, length-replicate m x)) in
      ext_get_or x (part (replicate m x) o n) (replicate n x) (lp ∙ sym (length-replicate n x))
      (λ i hi. get_d_part (replicate m x) o n i x (omega arith) ∙ get_or-replicate m (o + i) x x (omega arith) ∙ sym (get_or-replicate n i x x (omega arith)))

  -- nothing put
  pub splice_none : (l : List A) (o : ℕ) → splice l o [] ≡ l
  unfolding splice
  splice_none l o =
      ap (λ (z : List A). z ++ drop (o + 0) l) (append-nil (take o l))
      ∙ ap (λ (k : ℕ). take o l ++ drop k l) (add-zero o)
      ∙ take-append-drop o l

  -- one more put after what was put
  pub splice_more : (l : List A) (o : ℕ) (v : List A) (x : A) → o + length v < length l → set (splice l o v) (o + length v) x ≡ splice l o (v ++ (x ∷ []))
  splice_more l o v x h =
      let e : length (splice l o v) ≡ length l = length_splice l o v (omega arith) in
      stores_splice (splice l o v) (o + length v) x [] (omega arith) ∙ splice_join l o v (x ∷ []) (omega arith)

  -- cut to what is there
  pub take_min : (n : ℕ) (l : List A) → take (min n (length l)) l ≡ take n l
  take_min n l = go (ltb n (length l)) refl
    where
      go : (b : Bool) → ltb n (length l) ≡ b → take (min n (length l)) l ≡ take n l
      go true e =
          let h : n < length l = ltb-true n (length l) e in
          let m : min n (length l) ≡ n = omega arith in
          ap (λ (k : ℕ). take k l) m
      go false e =
          let h : length l ≤ n = ltb-false n (length l) e in
          take_all (min n (length l)) l (omega arith) ∙ sym (take_all n l h)

  pub drop_min : (o : ℕ) (l : List A) → drop (min o (length l)) l ≡ drop o l
  drop_min o l = go (ltb o (length l)) refl
    where
      go : (b : Bool) → ltb o (length l) ≡ b → drop (min o (length l)) l ≡ drop o l
      go true e =
          let h : o < length l = ltb-true o (length l) e in
          let m : min o (length l) ≡ o = omega arith in
          ap (λ (k : ℕ). drop k l) m
      go false e =
          let h : length l ≤ o = ltb-false o (length l) e in
          let g : length l ≤ min o (length l) = omega arith in
          drop_of_length-le l g ∙ sym (drop_of_length-le l h)

  pub part_cut_to : (l : List A) (o n f k : ℕ) → f ≡ min o (length l) → k ≡ min n (length l - f) → take (f + k - f) (drop f l) ≡ part l o n
  unfolding part
  part_cut_to l o n f k p q =
      let w : f + k - f ≡ k = omega arith in
      let r : k ≡ min n (length (drop f l)) = q ∙ ap (min n) (sym (length-drop f l)) in
      ap (λ (i : ℕ). take i (drop f l)) (w ∙ r)
      ∙ take_min n (drop f l)
      ∙ ap (take n) (ap (λ (i : ℕ). drop i l) p ∙ drop_min o l)
