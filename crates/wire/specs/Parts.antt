-- A part of a list, a list with a part replaced, and whether two lists are the same.
use Rattle.std.specs.Prelude.{Bool, true, false, ◌&&◌, List, [], ◌∷◌, ◌++◌, ℕ, ◌+◌, eqb, length, take, drop}

-- the n elements of l from place o on
unfoldable pub part : {A : Type 0} → List A → ℕ → ℕ → List A
part l o n = take n (drop o l)

-- l with v standing where as many of its elements stood from place o on
unfoldable pub splice : {A : Type 0} → List A → ℕ → List A → List A
splice l o v = take o l ++ v ++ drop (o + length v) l

-- two lists have the same elements in the same order
unfoldable pub same : List ℕ → List ℕ → Bool
same [] [] = true
same [] (y ∷ ys) = false
same (x ∷ xs) [] = false
same (x ∷ xs) (y ∷ ys) = eqb x y && same xs ys
