-- What a history of calls means, counted from the calls alone. A history lists the calls to a new sender, the latest first:
-- so each of its tails is the history of an earlier moment.
use Rattle.std.specs.Prelude.{◌≡◌, Bool, true, not, cond, ◌&&◌, List, [], ◌∷◌, ◌++◌, ℕ, ◌+◌, ◌<◌, eqb}
use Rattle.acks.specs.Window.{keep}
use Rattle.acks.specs.History.{highest_of, among}
use Rattle.acks.specs.Expanding.{ack_numbers}
use Rattle.sender.specs.Sender.{Packet, Sender, new_sender, Call, send, resend, ack, numbers_of, those, resends_of, next_packet, call_answer, called}

-- The books of a history: the packets given out, the first first, and the numbers settled and given up.
pub record Books : Type 0 where
  pub given_out : List Packet
  pub settled : List ℕ
  pub given_up : List ℕ

-- at the start: 0 counts as given out and settled
abbrev pub opening : Books
opening = record { given_out = record { number = 0; second = 0; resends = 0 } ∷ []; settled = 0 ∷ []; given_up = [] }

-- neither settled nor given up
unfoldable pub unclosed : Books → ℕ → Bool
unclosed b n = not (among b.settled n) && not (among b.given_up n)

-- outstanding: given out, and neither settled nor given up
unfoldable pub outstanding_in : Books → List Packet
outstanding_in b = those (unclosed b) b.given_out

-- the highest number given out
unfoldable pub highest_in : Books → ℕ
highest_in b = highest_of (numbers_of b.given_out)

-- what a call answers by the books
unfoldable pub answer_in : Books → Call → ℕ
answer_in b c = call_answer (highest_in b) (among (numbers_of b.given_out)) (numbers_of (outstanding_in b)) c

-- a call that was answered 0: a send gives out the next number; a resend gives up the old one and gives out the next; an ack settles those outstanding that it names
unfoldable pub booked : Books → Call → Books
booked b (send second) = record { given_out = b.given_out ++ (next_packet (highest_in b) second 0 ∷ []); settled = b.settled; given_up = b.given_up }
booked b (resend n second) =
    record {
      given_out = b.given_out ++ (next_packet (highest_in b) second (resends_of b.given_out n + 1) ∷ []);
      settled = b.settled;
      given_up = n ∷ b.given_up;
    }
booked b (ack through count pairs) =
    record {
      given_out = b.given_out;
      settled = keep (among (ack_numbers through count pairs)) (numbers_of (outstanding_in b)) ++ b.settled;
      given_up = b.given_up;
    }

-- a call: one that was refused changes nothing
unfoldable pub entered : Books → Call → Books
entered b c = cond (eqb (answer_in b c) 0) (booked b c) b

-- the books of a history
unfoldable pub books : List Call → Books
books [] = opening
books (c ∷ past) = entered (books past) c

-- the numbers given out in it
unfoldable pub given_out : List Call → List ℕ
given_out h = numbers_of (books h).given_out

-- those settled in it
unfoldable pub settled : List Call → List ℕ
settled h = (books h).settled

-- and those given up
unfoldable pub given_up : List Call → List ℕ
given_up h = (books h).given_up

-- ---- the sender beside it
-- the sender that a history makes
unfoldable pub sender_by : List Call → Sender
sender_by [] = new_sender
sender_by (c ∷ past) = (called (sender_by past) c).sender

-- the numbers on its list
unfoldable pub outstanding : List Call → List ℕ
outstanding h = numbers_of (sender_by h).packets

-- ---- counting
-- how often n stands in a list
unfoldable pub times : ℕ → List ℕ → ℕ
times n [] = 0
times n (k ∷ l) = cond (eqb n k) 1 0 + times n l

-- a number, as a list: none where it is 0
unfoldable pub any_of : ℕ → List ℕ
any_of n = cond (eqb n 0) [] (n ∷ [])

-- each number is below all that follow it
abbrev pub Rising : List ℕ → Type 0
Rising [] = Unit
Rising (n ∷ l) = ((k : ℕ) → among l k ≡ true → n < k) × Rising l
