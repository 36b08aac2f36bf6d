-- Request P6: packets given out are, at every moment, those outstanding, those settled and those given up, with each number in exactly one of the three, counted from the history of calls.
-- A history h lists the calls to a new sender, the latest first; `given_out`, `settled` and `given_up` are counted from it alone, `outstanding` are the numbers on the sender's list.
use Rattle.std.specs.Prelude.{◌≡◌, cond, List, ◌∷◌, ◌++◌, ℕ, ◌+◌, ◌≤◌, ◌<◌, leb, length}
use Rattle.sender.specs.Sizes.{most_outstanding, last_number}
use Rattle.sender.specs.Sender.{Call, called}
use Rattle.sender.specs.History.{outstanding_in, answer_in, books, given_out, settled, given_up, sender_by, outstanding, times, any_of, Rising}

-- what holds at every moment
pub record Accounted (h : List Call) : Type 0 where
  -- a number is as often outstanding, settled or given up, these three together, as it was given out
  pub one_of_three : (n : ℕ) → times n (outstanding h) + times n (settled h) + times n (given_up h) ≡ times n (given_out h)
  -- and given out were 0 to the highest, each once: so each of them is in exactly one of the three, and no other number in any
  pub given_once : (n : ℕ) → times n (given_out h) ≡ cond (leb n (sender_by h).highest) 1 0
  -- 4,294,967,295 is the last
  pub last_number_lem : (sender_by h).highest ≤ last_number
  -- 0 is settled from the start
  pub zero_settled : times 0 (settled h) ≡ 1
  -- the list has exactly the packets outstanding by the history, with their seconds and resends
  pub listed : (sender_by h).packets ≡ outstanding_in (books h)
  -- their numbers rise, and there are at most 256
  pub rising : Rising (outstanding h)
  pub at_most : length (sender_by h).packets ≤ most_outstanding

-- at every moment packets given out are those outstanding, those settled and those given up, each number in exactly one of the three
abbrev pub ExactlyOne : Type 0
ExactlyOne = (h : List Call) → Accounted h

-- what was settled or given up stays so
abbrev pub Stays : Type 0
Stays =
    (h : List Call) (c : Call) (n : ℕ)
    → (times n (settled h) ≤ times n (settled (c ∷ h))) × (times n (given_up h) ≤ times n (given_up (c ∷ h)))

-- a call after a history
pub record Answered (h : List Call) (c : Call) : Type 0 where
  -- it is answered by what the history says: 70 to 73 and 44, in their order, or 0
  pub by_history : (called (sender_by h) c).answer ≡ answer_in (books h) c
  -- the number that it returns, if any, is the one that the history gives out,
  pub gives : given_out (c ∷ h) ≡ given_out h ++ any_of (called (sender_by h) c).given
  -- the next one, and never one that was given out before
  pub next_number : 0 < (called (sender_by h) c).given → (called (sender_by h) c).given ≡ (sender_by h).highest + 1
  pub never_twice : 0 < (called (sender_by h) c).given → times (called (sender_by h) c).given (given_out h) ≡ 0
  -- the numbers that it tells as settled are those that the history settles
  pub settles : settled (c ∷ h) ≡ (called (sender_by h) c).settled ++ settled h

-- every call is answered by its history
abbrev pub AnsweredByHistory : Type 0
AnsweredByHistory = (h : List Call) (c : Call) → Answered h c
