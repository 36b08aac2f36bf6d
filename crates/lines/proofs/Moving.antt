-- Bytes moved to the front of their buffer stay there while more is read after them. Assumes nothing.
use Rattle.std.proofs.Common.{◌≡◌, refl, sym, ap, ◌∙◌, List, ℕ, zero, suc, ◌+◌, ◌-◌, ◌≤◌, min, arith, length, take, drop, zero-add, length-drop}
use Rattle.std.proofs.Math.Seq.{paste}
use Rattle.std.proofs.lemmas.List.Edits.{take-paste}
use borrow.Rule.Slice.PartMut.{put_mid, take_put}
use Rattle.wire.specs.Parts.{part}
use Rattle.wire.proofs.Parts.{part_is, part_none}

module _ (l x ys : List ℕ) (used end start m k : ℕ) where
  -- what was unread stands at the front, and the part after it is lent
  pub move_stays : x ≡ paste l 0 (drop start l) (end - start) → length x ≡ length l → end ≤ length l → start ≡ min used end → m ≡ end - used → part (put_mid (end - start) k x ys) 0 m ≡ part l used m
  move_stays e size room s q = go m refl
    where
      n : ℕ
      n = end - start

      front : n ≤ length x → n ≤ length (drop start l) → take n (put_mid n k x ys) ≡ take n (drop start l)
      front h g =
          let z : 0 + n ≡ n = zero-add n in
          take_put n k x ys h ∙ ap (take n) e ∙ ap (λ (j : ℕ). take j (paste l 0 (drop start l) n)) (sym z) ∙ take-paste l 0 (drop start l) n (omega arith) g

      go : (j : ℕ) → m ≡ j → part (put_mid n k x ys) 0 m ≡ part l used m
      go zero o = ap (part (put_mid n k x ys) 0) o ∙ part_none (put_mid n k x ys) 0 ∙ sym (part_none l used) ∙ ap (part l used) (sym o)
      go (suc j) o =
          let u : start ≡ used = omega arith in
          let w : n ≡ m = omega arith in
          ap (part (put_mid n k x ys) 0) (sym w)
          ∙ sym (part_is (put_mid n k x ys) 0 n)
          ∙ front (omega arith) (omega (arith, length-drop start l))
          ∙ ap (λ (i : ℕ). take n (drop i l)) u
          ∙ ap (λ (i : ℕ). take i (drop used l)) w
          ∙ part_is l used m
