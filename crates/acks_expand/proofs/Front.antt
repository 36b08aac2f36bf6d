-- Bytes taken two by two off the front: rest is what is left from byte i on. Assumes nothing.
use Rattle.std.proofs.Common.{◌≡◌, ℕ, ◌+◌, ◌-◌, ◌<◌, ◌≤◌, List, length, take, drop, get_or, ap, ◌∙◌, arith}
use Rattle.std.proofs.lemmas.List.{get_or-drop, drop-drop, take_rest, length-drop}

pub record Rest (ps : List ℕ) (i : ℕ) (rest : List ℕ) : Type 0 where
  pub rest_is : rest ≡ drop i ps
  pub from_end : i + length rest ≡ length ps

module _ (ps : List ℕ) (i : ℕ) (rest : List ℕ) (s : Rest ps i rest) where
  -- the two bytes of the next pair
  pub first_is : get_or rest 0 0 ≡ get_or ps i 0
  first_is =
      let e : i + 0 ≡ i = omega arith in
      ap (λ (r : List ℕ). get_or r 0 0) s.rest_is ∙ get_or-drop i ps 0 0 ∙ ap (λ (k : ℕ). get_or ps k 0) e

  pub second_is : get_or rest 1 0 ≡ get_or ps (i + 1) 0
  second_is = ap (λ (r : List ℕ). get_or r 1 0) s.rest_is ∙ get_or-drop i ps 1 0

  pub pair_there : 2 ≤ length rest → i + 1 < length ps
  pair_there h = omega (arith, s.from_end)

  -- what is left behind it, as a slice pattern cuts it
  pub two_off : take (length rest - 2) (drop 2 rest) ≡ drop 2 rest
  two_off = take_rest rest 2

  pub two_on : 2 ≤ length rest → length ps - length (drop 2 rest) ≡ i + 2
  two_on h = omega (arith, length-drop 2 rest, s.from_end)

  pub rest_on : 2 ≤ length rest → Rest ps (i + 2) (drop 2 rest)
  rest_on h = record {
    rest_is = ap (drop 2) s.rest_is ∙ drop-drop 2 i ps;
    from_end = omega (arith, length-drop 2 rest, s.from_end);
  }
