-- Where the packet of a number stands: the search for it, whether it is there, and the list without it. Assumes nothing.
use mathlib.Core.Path.{◌≡◌, refl, sym, ap, ◌∙◌}
use mathlib.Core.Bool.{Bool, true, false, cond, ◌||◌}
use mathlib.Core.List.{List, [], ◌∷◌, ◌++◌}
use Prim.Native.Nat.{ℕ, suc, ◌+◌, ◌-◌, ◌≤◌, ◌<◌}
use native.Mathlib.Omega.{arith}
use lib.Dec.{ltb, eqb}
use lib.ListN.{length}
use borrow.Author.Tests.{lt-ltb, le-ltb, ltb-true, ltb-false, eq-eqb, ne_eqb}
use Rattle.wire.specs.Series.{series}
use Rattle.acks.specs.History.{among}
use Rattle.sender.specs.Sender.{Packet, numbers_of, without, place_of, resends_of}

-- it is there where its place is one of the list's
less_suc : (a b : ℕ) → ltb a b ≡ ltb (suc a) (suc b)
less_suc a b = go (ltb a b) refl
  where
    go : (t : Bool) → ltb a b ≡ t → t ≡ ltb (suc a) (suc b)
    go true e = let h : a < b = ltb-true a b e in sym (lt-ltb (suc a) (suc b) (omega arith))
    go false e = let h : b ≤ a = ltb-false a b e in sym (le-ltb (suc a) (suc b) (omega arith))

pub among_place : (n : ℕ) (ps : List Packet) → among (numbers_of ps) n ≡ ltb (place_of n ps) (length ps)
unfolding among numbers_of place_of
among_place n [] = refl
among_place n (p ∷ ps) = go (eqb n p.number) (among_place n ps ∙ less_suc (place_of n ps) (length ps))
  where
    go : (b : Bool) → among (numbers_of ps) n ≡ ltb (suc (place_of n ps)) (suc (length ps)) → (b || among (numbers_of ps) n) ≡ ltb (cond b 0 (suc (place_of n ps))) (suc (length ps))
    go true e = sym (lt-ltb 0 (suc (length ps)) (omega arith))
    go false e = e

-- ---- the search: k were passed by

module _ (n count : ℕ) (f : ℕ → Packet) where
  -- the place is k and what is left to search
  abbrev pub searched : ℕ → Type 0
  searched k = place_of n (series f 0 count) ≡ k + place_of n (series f k (count - k))

  pub search_start : searched 0
  search_start =
      let e : count ≡ count - 0 = omega arith in
      let z : place_of n (series f 0 (count - 0)) ≡ 0 + place_of n (series f 0 (count - 0)) = omega arith in
      ap (λ (m : ℕ). place_of n (series f 0 m)) e ∙ z

  -- the k-th is looked at
  looked : (k : ℕ) → k < count → place_of n (series f k (count - k)) ≡ cond (eqb n (f k).number) 0 (suc (place_of n (series f (k + 1) (count - (k + 1)))))
  unfolding place_of
  looked k h = let e : count - k ≡ suc (count - (k + 1)) = omega arith in ap (λ (m : ℕ). place_of n (series f k m)) e

  pub search_found : (k x : ℕ) → searched k → k < count → x ≡ (f k).number → x ≡ n → k ≡ place_of n (series f 0 count)
  search_found k x s h e q =
      let z : place_of n (series f k (count - k)) ≡ 0 = looked k h ∙ ap (λ (b : Bool). cond b 0 (suc (place_of n (series f (k + 1) (count - (k + 1)))))) (eq-eqb n (f k).number (sym q ∙ e)) in
      omega arith

  pub search_turn : (k x : ℕ) → searched k → k < count → x ≡ (f k).number → (x ≡ n → ⊥) → searched (k + 1)
  search_turn k x s h e q =
      let z : place_of n (series f k (count - k)) ≡ suc (place_of n (series f (k + 1) (count - (k + 1)))) =
      looked k h ∙ ap (λ (b : Bool). cond b 0 (suc (place_of n (series f (k + 1) (count - (k + 1)))))) (ne_eqb n (f k).number (λ w. q (e ∙ sym w)))
      in
      omega arith

  pub search_end : (k : ℕ) → searched k → k ≡ count → count ≡ place_of n (series f 0 count)
  unfolding place_of
  search_end k s e =
      let m : count - k ≡ 0 = omega arith in
      let z : place_of n (series f k (count - k)) ≡ 0 = ap (λ (j : ℕ). place_of n (series f k j)) m in
      omega arith

-- ---- the packet that stands at its number's place, between those before it and those after it

module _ (n : ℕ) (p : Packet) (b : List Packet) where
  pub without_at : (a : List Packet) → place_of n (a ++ (p ∷ b)) ≡ length a → without n (a ++ (p ∷ b)) ≡ a ++ b
  unfolding place_of without
  without_at [] = go (eqb n p.number)
    where
      go : (t : Bool) → cond t 0 (suc (place_of n b)) ≡ 0 → cond t b (p ∷ without n b) ≡ b
      go true e = refl
      go false e = absurd (omega arith)
  without_at (q ∷ a) = go (eqb n q.number) (without_at a)
    where
      go : (t : Bool) → (place_of n (a ++ (p ∷ b)) ≡ length a → without n (a ++ (p ∷ b)) ≡ a ++ b) → cond t 0 (suc (place_of n (a ++ (p ∷ b)))) ≡ suc (length a) → cond t (a ++ (p ∷ b)) (q ∷ without n (a ++ (p ∷ b))) ≡ q ∷ (a ++ b)
      go true rest e = absurd (omega arith)
      go false rest e = ap (λ (z : List Packet). q ∷ z) (rest (omega arith))

  pub resends_at : (a : List Packet) → place_of n (a ++ (p ∷ b)) ≡ length a → resends_of (a ++ (p ∷ b)) n ≡ p.resends
  unfolding place_of resends_of
  resends_at [] = go (eqb n p.number)
    where
      go : (t : Bool) → cond t 0 (suc (place_of n b)) ≡ 0 → cond t p.resends (resends_of b n) ≡ p.resends
      go true e = refl
      go false e = absurd (omega arith)
  resends_at (q ∷ a) = go (eqb n q.number) (resends_at a)
    where
      go : (t : Bool) → (place_of n (a ++ (p ∷ b)) ≡ length a → resends_of (a ++ (p ∷ b)) n ≡ p.resends) → cond t 0 (suc (place_of n (a ++ (p ∷ b)))) ≡ suc (length a) → cond t q.resends (resends_of (a ++ (p ∷ b)) n) ≡ p.resends
      go true rest e = absurd (omega arith)
      go false rest e = rest (omega arith)
