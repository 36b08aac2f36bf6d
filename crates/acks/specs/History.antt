-- What a history of calls means: the numbers handed to `register`, the first call first. Asking changes nothing and is no part of it.
use Rattle.std.specs.Prelude.{Bool, false, cond, ◌||◌, List, [], ◌∷◌, ℕ, ◌+◌, ◌^◌, ◌<◌, max, leb, ltb, eqb}
use Rattle.acks.specs.Window.{window, keep}

-- packet numbers: four bytes hold each
abbrev pub Packets : List ℕ → Type 0
Packets [] = Unit
Packets (n ∷ calls) = (n < 256 ^ 4) × Packets calls

-- the answer to number n, where top is the highest number seen and got says which were received
unfoldable pub answer_to : ℕ → (ℕ → Bool) → ℕ → ℕ
answer_to top got n = cond (ltb (top + 255) n) 40 (cond (leb (n + 255) top) 42 (cond (got n) 43 0))

-- the highest of some numbers; before any number, 0
unfoldable pub highest_of : List ℕ → ℕ
highest_of [] = 0
highest_of (n ∷ l) = max n (highest_of l)

-- whether number k is among some numbers
unfoldable pub among : List ℕ → ℕ → Bool
among [] k = false
among (n ∷ l) k = eqb k n || among l k

-- n received after the numbers of a list: the first also counts number 0, the SessionConfirmed
unfoldable pub receive : List ℕ → ℕ → List ℕ
receive [] n = n ∷ 0 ∷ []
receive (k ∷ l) n = n ∷ k ∷ l

-- the numbers received, l before it, once n was handed to register: received means answered 0
unfoldable pub noted : List ℕ → ℕ → List ℕ
noted l n = cond (eqb (answer_to (highest_of l) (among l) n) 0) (receive l n) l

-- the numbers received, l before them, in a history of calls
unfoldable pub received_after : List ℕ → List ℕ → List ℕ
received_after l [] = l
received_after l (n ∷ calls) = received_after (noted l n) calls

-- the numbers received in a whole history of calls
unfoldable pub received : List ℕ → List ℕ
received calls = received_after [] calls

-- the highest number seen in it
unfoldable pub highest_seen : List ℕ → ℕ
highest_seen calls = highest_of (received calls)

-- the received numbers of its window, falling
unfoldable pub newest : List ℕ → List ℕ
newest calls = keep (among (received calls)) (window (highest_seen calls))
