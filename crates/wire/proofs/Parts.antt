-- Laws of parts and splices, each once over place and length. Assumes nothing.
use mathlib.Core.Path.{◌≡◌, refl, sym, ap, ◌∙◌}
use mathlib.Core.List.{List, [], ◌∷◌, ◌++◌, append_assoc, append-nil}
use mathlib.Core.Logic.{◌⊎◌, ⊎_elim}
use Prim.Native.Nat.{ℕ, zero, suc, ◌+◌, ◌-◌, ◌≤◌, ◌<◌}
use native.Mathlib.Nat.{sub-zero, zero-sub, suc-sub-suc}
use native.Mathlib.Omega.{arith}
use native.Mathlib.Numerals.{add-one}
use lib.ListN.{length, take, drop, get_or, set, length-append, length-drop, take-append-drop, drop_of_length-le}
use lib.Seq.{sets, sets-eq, take_all, take-nil, length-take-le, take_at, drop_at, take-append-le, drop-append-le, take-take, drop-drop, take-add, drop-append-add, get_or-take, get_or-drop, drop-cons}
use Rattle.wire.specs.Parts.{part, splice}

module _ {A : Type 0} where
  -- past the first of two lists
  drop_right : (a b : List A) (p : ℕ) → length a ≤ p → drop p (a ++ b) ≡ drop (p - length a) b
  drop_right a b p h =
      let e : length a + (p - length a) ≡ p = omega arith in
      ap (λ (k : ℕ). drop k (a ++ b)) (sym e) ∙ drop-append-add a b (p - length a)

  drop_take : (k n : ℕ) (l : List A) → drop k (take n l) ≡ take (n - k) (drop k l)
  drop_take zero n l = rw sub-zero
  drop_take (suc k) zero l = rw zero-sub
  drop_take (suc k) (suc n) [] = sym (take-nil (suc n - suc k))
  drop_take (suc k) (suc n) (x ∷ l) = rw suc-sub-suc (drop_take k n l)

  -- a part is what a slice of its range shows
  pub part_is : (l : List A) (o n : ℕ) → take n (drop o l) ≡ part l o n
  unfolding part
  part_is l o n = refl

  pub length_part : (l : List A) (o n : ℕ) → o + n ≤ length l → length (part l o n) ≡ n
  unfolding part
  length_part l o n h = length-take-le n (drop o l) (omega (arith, length-drop o l))

  -- the part that is all
  pub part_all : (l : List A) (n : ℕ) → length l ≤ n → part l 0 n ≡ l
  unfolding part
  part_all l n h = take_all n l h

  -- the part that is nothing
  pub part_none : (l : List A) (o : ℕ) → part l o 0 ≡ []
  unfolding part
  part_none l o = refl

  -- a part that runs past the end is what is there
  pub part_cut : (l : List A) (o n : ℕ) → length l ≤ o + n → part l o n ≡ drop o l
  unfolding part
  part_cut l o n h = take_all n (drop o l) (omega (arith, length-drop o l))

  -- two parts side by side are one
  pub part_add : (l : List A) (o m n : ℕ) → part l o (m + n) ≡ part l o m ++ part l (o + m) n
  unfolding part
  part_add l o m n = take-add m n (drop o l) ∙ ap (λ (z : List A). take m (drop o l) ++ take n z) (drop-drop m o l)

  -- the same, given where the second starts and how long both are
  pub part_join : (l : List A) (a m b n k : ℕ) → b ≡ a + m → k ≡ m + n → part l a m ++ part l b n ≡ part l a k
  part_join l a m b n k e f = ap (λ (i : ℕ). part l a m ++ part l i n) e ∙ sym (part_add l a m n) ∙ ap (part l a) (sym f)

  -- a part of a part
  pub part_part : (l : List A) (o n p m : ℕ) → p + m ≤ n → part (part l o n) p m ≡ part l (o + p) m
  unfolding part
  part_part l o n p m h =
      ap (take m) (drop_take p n (drop o l))
      ∙ take-take m (n - p) (drop p (drop o l)) (omega arith)
      ∙ ap (take m) (drop-drop p o l)

  -- an element of a part
  pub get_d_part : (l : List A) (o n i : ℕ) (d : A) → i < n → get_or (part l o n) i d ≡ get_or l (o + i) d
  unfolding part
  get_d_part l o n i d h = get_or-take n (drop o l) i d h ∙ get_or-drop o l i d

  -- the first element of a part, and the others
  pub part_cons : (l : List A) (o n : ℕ) (d : A) → o < length l → part l o (suc n) ≡ get_or l o d ∷ part l (suc o) n
  unfolding part
  part_cons l o n d h = ap (take (suc n)) (drop-cons l o d h)

  -- the same, given where the others start and how many all are
  pub part_first : (l : List A) (o p m n : ℕ) (d : A) → o < length l → p ≡ o + 1 → n ≡ 1 + m → get_or l o d ∷ part l p m ≡ part l o n
  part_first l o p m n d h e f =
      let q : p ≡ suc o = omega arith in
      let r : suc m ≡ n = omega arith in
      ap (λ (i : ℕ). get_or l o d ∷ part l i m) q ∙ sym (part_cons l o m d h) ∙ ap (part l o) r

  -- one element is a part
  pub part_one : (l : List A) (o : ℕ) (d : A) → o < length l → get_or l o d ∷ [] ≡ part l o 1
  part_one l o d h = sym (part_cons l o 0 d h ∙ ap (λ (z : List A). get_or l o d ∷ z) (part_none l (suc o)))

  -- a part within the first of two lists
  pub part_left : (a b : List A) (p n : ℕ) → p + n ≤ length a → part (a ++ b) p n ≡ part a p n
  unfolding part
  part_left a b p n h =
      ap (take n) (drop-append-le p a b (omega arith))
      ∙ take-append-le n (drop p a) b (omega (arith, length-drop p a))

  -- a part within the second of two lists
  pub part_right : (a b : List A) (p n : ℕ) → part (a ++ b) (length a + p) n ≡ part b p n
  unfolding part
  part_right a b p n = ap (take n) (drop-append-add a b p)

  -- the middle one of three lists
  pub part_middle : (a v r : List A) (o n : ℕ) → length a ≡ o → length v ≡ n → part (a ++ (v ++ r)) o n ≡ v
  unfolding part
  part_middle a v r o n l m = ap (take n) (drop_at a (v ++ r) o l) ∙ take_at v r n m

  -- a splice in three: what stands before, the n elements that were put, what follows them
  pub splice_pieces : (l : List A) (o n : ℕ) (v : List A) → length v ≡ n → splice l o v ≡ take o l ++ (v ++ drop (o + n) l)
  unfolding splice
  splice_pieces l o n v e =
      append_assoc (take o l) v (drop (o + length v) l) ∙ ap (λ (k : ℕ). take o l ++ (v ++ drop (o + k) l)) e

  module _ (l : List A) (o : ℕ) (v : List A) (fits : o + length v ≤ length l) where
    head_length : length (take o l ++ v) ≡ o + length v
    head_length = simp (length-append, length-take-le o l (omega arith))

    pub length_splice : length (splice l o v) ≡ length l
    unfolding splice
    length_splice = simp (length-append, length-take-le o l (omega arith), length-drop) (omega arith)

    -- what was put is read back
    pub part_same : part (splice l o v) o (length v) ≡ v
    unfolding part splice
    part_same =
        ap (λ (z : List A). take (length v) (drop o z)) (append_assoc (take o l) v (drop (o + length v) l))
        ∙ ap (take (length v)) (drop_at (take o l) (v ++ drop (o + length v) l) o (length-take-le o l (omega arith)))
        ∙ take_at v (drop (o + length v) l) (length v) refl

    -- a part that ends before is as it was
    pub part_before : (p n : ℕ) → p + n ≤ o → part (splice l o v) p n ≡ part l p n
    unfolding splice
    part_before p n h =
        let lt : length (take o l) ≡ o = length-take-le o l (omega arith) in
        ap (λ (z : List A). part z p n) (append_assoc (take o l) v (drop (o + length v) l))
        ∙ part_left (take o l) (v ++ drop (o + length v) l) p n (omega arith)
        ∙ sym (part_left (take o l) (drop o l) p n (omega arith))
        ∙ ap (λ (z : List A). part z p n) (take-append-drop o l)

    -- what follows is as it was
    pub drop_after : (p : ℕ) → o + length v ≤ p → drop p (splice l o v) ≡ drop p l
    unfolding splice
    drop_after p h =
        let e : o + length v + (p - length (take o l ++ v)) ≡ p = omega (arith, head_length) in
        drop_right (take o l ++ v) (drop (o + length v) l) p (omega (arith, head_length))
        ∙ drop-drop (p - length (take o l ++ v)) (o + length v) l
        ∙ ap (λ (k : ℕ). drop k l) e

    -- a part that starts after is as it was
    pub part_after : (p n : ℕ) → o + length v ≤ p → part (splice l o v) p n ≡ part l p n
    unfolding part
    part_after p n h = ap (take n) (drop_after p h)

    -- a part that does not meet what was put is as it was
    pub part_other : (p n : ℕ) → (p + n ≤ o) ⊎ (o + length v ≤ p) → part (splice l o v) p n ≡ part l p n
    part_other p n w = ⊎_elim (part_before p n) (part_after p n) w

    -- a part of what was put
    pub part_within : (p n : ℕ) → p + n ≤ length v → part (splice l o v) (o + p) n ≡ part v p n
    part_within p n h =
        sym (part_part (splice l o v) o (length v) p n h) ∙ ap (λ (z : List A). part z p n) part_same

  -- two that follow each other are one
  pub splice_join : (l : List A) (o : ℕ) (v w : List A) → o + length v + length w ≤ length l → splice (splice l o v) (o + length v) w ≡ splice l o (v ++ w)
  unfolding splice
  splice_join l o v w fits =
      let hl : length (take o l ++ v) ≡ o + length v = head_length l o v (omega arith) in
      let e : o + length v + length w ≡ o + length (v ++ w) = omega (arith, length-append v w) in
      ap (λ (z : List A). z ++ w ++ drop (o + length v + length w) (take o l ++ v ++ drop (o + length v) l))
      (take_at (take o l ++ v) (drop (o + length v) l) (o + length v) hl)
      ∙ ap (λ (z : List A). take o l ++ v ++ w ++ z)
      (drop_after l o v (omega arith) (o + length v + length w) (omega arith) ∙ ap (λ (k : ℕ). drop k l) e)
      ∙ ap (λ (z : List A). z ++ drop (o + length (v ++ w)) l) (append_assoc (take o l) v w)

  -- one more put after a run of puts from o
  pub splice_then : (l : List A) (o : ℕ) (v w : List A) {m n : List A} → o + length v + length w ≤ length l → m ≡ splice l o v → n ≡ splice m (o + length v) w → n ≡ splice l o (v ++ w)
  splice_then l o v w h p q = q ∙ ap (λ (z : List A). splice z (o + length v) w) p ∙ splice_join l o v w h

  -- the same where the run is k long, and how long it is then
  pub puts : (l : List A) (o k j p : ℕ) (v w : List A) {m n : List A} → length v ≡ k → length w ≡ j → p ≡ o + k → o + k + j ≤ length l → m ≡ splice l o v → n ≡ splice m p w → (n ≡ splice l o (v ++ w)) × (length (v ++ w) ≡ k + j)
  puts l o k j p v w {m} {n} hv hw hp fits e f =
      let q : p ≡ o + length v = omega arith in
      (splice_then l o v w (omega arith) e (f ∙ ap (λ (z : ℕ). splice m z w) q), omega (arith, length-append v w))

  -- what was put inside of a part, said of the whole
  pub splice_inside : (l : List A) (a n o : ℕ) (v : List A) → a + n ≤ length l → o + length v ≤ n → splice l a (splice (part l a n) o v) ≡ splice l (a + o) v
  unfolding splice part
  splice_inside l a n o v fits inn =
      let d : List A = drop a l in
      let p : List A = take n (drop a l) in
      let k : ℕ = o + length v in
      let lp : length (take n (drop a l)) ≡ n = length-take-le n (drop a l) (omega (arith, length-drop a l)) in
      let ls : length (take o p ++ v ++ drop k p) ≡ n = length_splice p o v (omega arith) ∙ lp in
      let sum : a + k ≡ a + o + length v = omega arith in
      let rest : drop k p ++ drop (a + n) l ≡ drop (a + o + length v) l =
      ap (λ (z : List A). drop k p ++ z) (sym (drop-drop n a l))
      ∙ sym (drop-append-le k p (drop n d) (omega arith))
      ∙ ap (drop k) (take-append-drop n d)
      ∙ drop-drop k a l
      ∙ ap (λ (z : ℕ). drop z l) sum
      in
      ap (λ (z : ℕ). take a l ++ (take o p ++ v ++ drop k p) ++ drop (a + z) l) ls
      ∙ append_assoc (take a l) (take o p ++ v ++ drop k p) (drop (a + n) l)
      ∙ ap (λ (z : List A). take a l ++ z) (append_assoc (take o p ++ v) (drop k p) (drop (a + n) l))
      ∙ ap (λ (z : List A). take a l ++ (take o p ++ v ++ z)) rest
      ∙ ap (λ (z : List A). take a l ++ (z ++ v ++ drop (a + o + length v) l)) (take-take o n d (omega arith))
      ∙ sym (append_assoc (take a l) (take o d ++ v) (drop (a + o + length v) l))
      ∙ ap (λ (z : List A). z ++ drop (a + o + length v) l) (sym (append_assoc (take a l) (take o d) v))
      ∙ ap (λ (z : List A). z ++ v ++ drop (a + o + length v) l) (sym (take-add a o l))

  -- what was put inside of a part, read as that part
  pub part_inside : (l : List A) (a n o : ℕ) (v : List A) → a + n ≤ length l → o + length v ≤ n → part (splice l (a + o) v) a n ≡ splice (part l a n) o v
  part_inside l a n o v fits inn =
      let x : List A = splice (part l a n) o v in
      let lp : length (part l a n) ≡ n = length_part l a n fits in
      let lx : length (splice (part l a n) o v) ≡ n = length_splice (part l a n) o v (omega arith) ∙ lp in
      ap (λ (z : List A). part z a n) (sym (splice_inside l a n o v fits inn))
      ∙ ap (part (splice l a x) a) (sym lx)
      ∙ part_same l a x (omega arith)

  -- what stands there, put there again
  pub splice_part : (l : List A) (o n : ℕ) → o + n ≤ length l → splice l o (part l o n) ≡ l
  unfolding splice part
  splice_part l o n h =
      let e : length (take n (drop o l)) ≡ n = length-take-le n (drop o l) (omega (arith, length-drop o l)) in
      ap (λ (k : ℕ). take o l ++ take n (drop o l) ++ drop (o + k) l) e
      ∙ append_assoc (take o l) (take n (drop o l)) (drop (o + n) l)
      ∙ ap (λ (z : List A). take o l ++ (take n (drop o l) ++ z)) (sym (drop-drop n o l))
      ∙ ap (λ (z : List A). take o l ++ z) (take-append-drop n (drop o l))
      ∙ take-append-drop o l

  -- what is put in the place of all
  pub splice_all : (l v : List A) → length v ≡ length l → splice l 0 v ≡ v
  unfolding splice
  splice_all l v e =
      let none : drop (0 + length v) l ≡ [] = drop_of_length-le l {i = 0 + length v} (omega arith) in
      rw none (append-nil v)

  -- n elements from a place on, copied over as many others
  pub copied : (o l : List A) {x : List A} (at m n : ℕ) → m ≡ n → at + n ≤ length l → length o ≡ n → x ≡ splice o 0 (take m (drop at l)) → x ≡ part l at n
  unfolding part
  copied o l at m n em h lo e =
      e ∙ ap (λ (z : ℕ). splice o 0 (take z (drop at l))) em ∙ splice_all o (part l at n) (length_part l at n h ∙ sym lo)

  -- put twice at one place: the second stays
  pub splice_over : (l : List A) (o : ℕ) (v w : List A) → o + length v ≤ length l → length w ≡ length v → splice (splice l o v) o w ≡ splice l o w
  unfolding splice
  splice_over l o v w h e =
      let lt : length (take o l) ≡ o = length-take-le o l (omega arith) in
      ap (λ (z : List A). z ++ w ++ drop (o + length w) (splice l o v))
      (ap (take o) (append_assoc (take o l) v (drop (o + length v) l)) ∙ take_at (take o l) (v ++ drop (o + length v) l) o lt)
      ∙ ap (λ (z : List A). take o l ++ w ++ z) (drop_after l o v h (o + length w) (omega arith))

  -- a splice within the first of two lists
  pub splice_left : (a b : List A) (o : ℕ) (v : List A) → o + length v ≤ length a → splice (a ++ b) o v ≡ splice a o v ++ b
  unfolding splice
  splice_left a b o v h =
      ap (λ (z : List A). z ++ v ++ drop (o + length v) (a ++ b)) (take-append-le o a b (omega arith))
      ∙ ap (λ (z : List A). take o a ++ v ++ z) (drop-append-le (o + length v) a b h)
      ∙ sym (append_assoc (take o a ++ v) (drop (o + length v) a) b)

  -- splices side by side, in either order
  pub splice_swap : (l : List A) (o p : ℕ) (v w : List A) → o + length v ≤ p → p + length w ≤ length l → splice (splice l o v) p w ≡ splice (splice l p w) o v
  unfolding splice
  splice_swap l o p v w h g =
      let a = take p l in
      let la : length a ≡ p = length-take-le p l (omega arith) in
      let d = drop (p + length w) l in
      let first : splice l o v ≡ splice a o v ++ drop p l = ap (λ (z : List A). splice z o v) (sym (take-append-drop p l)) ∙ splice_left a (drop p l) o v (omega arith) in
      let ls : length (splice a o v) ≡ p = length_splice a o v (omega arith) ∙ la in
      let front : take p (splice l o v) ≡ splice a o v = ap (take p) first ∙ take_at (splice a o v) (drop p l) p ls in
      let lhs : splice (splice l o v) p w ≡ splice a o v ++ w ++ d = put w (splice l o v) p front ∙ ap (λ (z : List A). splice a o v ++ w ++ z) (drop_after l o v (omega arith) (p + length w) (omega arith)) in
      let rhs : splice (splice l p w) o v ≡ splice a o v ++ w ++ d =
      ap (λ (z : List A). splice z o v) (whole w)
      ∙ splice_left (a ++ w) d o v (omega (arith, length-append a w))
      ∙ ap (λ (z : List A). z ++ d) (splice_left a w o v (omega arith))
      in
      lhs ∙ sym rhs
    where
      put : (w x : List A) (p : ℕ) {f : List A} → take p x ≡ f → splice x p w ≡ f ++ w ++ drop (p + length w) x
      put w x p e = ap (λ (z : List A). z ++ w ++ drop (p + length w) x) e

      whole : (w : List A) → splice l p w ≡ take p l ++ w ++ drop (p + length w) l
      whole w = refl

  -- the first w of another list that goes on in the same way
  pub splice_front : (l m : List A) (w : ℕ) → w ≤ length m → drop w l ≡ drop w m → splice l 0 (part m 0 w) ≡ m
  unfolding splice part
  splice_front l m w h e =
      let lw : 0 + length (take w m) ≡ w = omega (arith, length-take-le w m h) in
      ap (λ (k : ℕ). take w m ++ drop k l) lw
      ∙ ap (λ (z : List A). take w m ++ z) e
      ∙ take-append-drop w m

  -- a run of stores at o, o + 1, o + 2 .. is a splice
  abbrev pub stores : List A → ℕ → ℕ → List A → List A
  stores l o k [] = l
  stores l o k (v ∷ vs) = stores (set l (o + k) v) o (k + 1) vs

  stores_sets : (l : List A) (o k : ℕ) (vs : List A) → stores l o k vs ≡ sets l (o + k) vs
  stores_sets l o k [] = refl
  stores_sets l o k (v ∷ vs) =
      let e : o + (k + 1) ≡ suc (o + k) = omega arith in
      stores_sets (set l (o + k) v) o (k + 1) vs ∙ ap (λ (z : ℕ). sets (set l (o + k) v) z vs) e

  pub stores_splice : (l : List A) (o : ℕ) (v : A) (vs : List A) → o + length (v ∷ vs) ≤ length l → stores (set l o v) o 1 vs ≡ splice l o (v ∷ vs)
  unfolding splice
  stores_splice l o v vs h = stores_sets (set l o v) o 1 vs ∙ ap (λ (z : ℕ). sets (set l o v) z vs) (add-one o) ∙ sets-eq (v ∷ vs) l o h

  -- the elements at o, o + 1, o + 2 .. are a part
  abbrev pub reads : List A → ℕ → ℕ → A → ℕ → List A
  reads l o k d zero = []
  reads l o k d (suc n) = get_or l (o + k) d ∷ reads l o (k + 1) d n

  part_at : (l : List A) (o k : ℕ) (d : A) (n : ℕ) → o + k + n ≤ length l → part l (o + k) n ≡ reads l o k d n
  unfolding part
  part_at l o k d zero h = refl
  part_at l o k d (suc n) h =
      let e : suc (o + k) ≡ o + (k + 1) = omega arith in
      part_cons l (o + k) n d (omega arith)
      ∙ ap (λ (z : ℕ). get_or l (o + k) d ∷ part l z n) e
      ∙ ap (λ (z : List A). get_or l (o + k) d ∷ z) (part_at l o (k + 1) d n (omega arith))

  pub part_reads : (l : List A) (o n : ℕ) (d : A) → o + suc n ≤ length l → part l o (suc n) ≡ get_or l o d ∷ reads l o 1 d n
  part_reads l o n d h =
      part_cons l o n d (omega arith)
      ∙ ap (λ (z : ℕ). get_or l o d ∷ part l z n) (sym (add-one o))
      ∙ ap (λ (z : List A). get_or l o d ∷ z) (part_at l o 1 d n (omega arith))
