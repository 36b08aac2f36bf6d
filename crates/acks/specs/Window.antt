-- The window: the 255 numbers ending at the highest seen, never below 0.
use Rattle.std.specs.Prelude.{Bool, cond, ◌&&◌, List, [], ◌∷◌, ℕ, zero, suc, ◌+◌, ◌-◌, min, leb, ltb}

-- k numbers from n downward
unfoldable pub falling : ℕ → ℕ → List ℕ
falling n zero = []
falling n (suc k) = n ∷ falling (n - 1) k

-- top and the 254 numbers below it, as far as 0
unfoldable pub window : ℕ → List ℕ
window top = falling top (suc (min top 254))

-- whether a number is one of them
unfoldable pub in_window : ℕ → ℕ → Bool
in_window top n = leb n top && ltb top (n + 255)

-- the numbers of a list that a test takes
unfoldable pub keep : (ℕ → Bool) → List ℕ → List ℕ
keep p [] = []
keep p (n ∷ l) = cond (p n) (n ∷ keep p l) (keep p l)
