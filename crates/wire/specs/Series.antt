-- A function's values in a row.
use Rattle.std.specs.Prelude.{List, [], ◌∷◌, ℕ, zero, suc, ◌+◌}

-- the values of f at n numbers from i on
abbrev pub series : {A : Type 0} → (ℕ → A) → ℕ → ℕ → List A
series f i zero = []
series f i (suc n) = f i ∷ series f (i + 1) n
