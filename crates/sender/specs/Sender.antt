-- The sender's list: the packets outstanding, and what the calls `send`, `resend` and `ack` answer and make of it.
use Rattle.std.specs.Prelude.{Bool, false, not, cond, ◌||◌, List, [], ◌∷◌, ◌++◌, ℕ, suc, ◌+◌, leb, eqb, length}
use Rattle.acks.specs.Window.{keep}
use Rattle.acks.specs.History.{among}
use Rattle.acks.specs.Expanding.{ack_numbers, goes_below}
use Rattle.sender.specs.Sizes.{most_outstanding, last_number}

-- A packet: its number, the second it was sent under that number, and how often it had been resent by then.
pub record Packet : Type 0 where
  pub number : ℕ
  pub second : ℕ
  pub resends : ℕ

-- A sender: the highest number given out, and the packets outstanding, the oldest first: their numbers rise.
pub record Sender : Type 0 where
  pub highest : ℕ
  pub packets : List Packet

-- one that has given out nothing but 0, which is settled
abbrev pub new_sender : Sender
new_sender = record { highest = 0; packets = [] }

-- The calls: send a packet; send the packet of a number again; take in an Ack block, with its pair bytes.
pub data Call : Type 0 where
  send : (second : ℕ) → Call
  resend : (number second : ℕ) → Call
  ack : (through count : ℕ) (pairs : List ℕ) → Call

-- ---- lists of packets
-- their numbers
unfoldable pub numbers_of : List Packet → List ℕ
numbers_of [] = []
numbers_of (p ∷ ps) = p.number ∷ numbers_of ps

-- those whose number a test takes
unfoldable pub those : (ℕ → Bool) → List Packet → List Packet
those test [] = []
those test (p ∷ ps) = cond (test p.number) (p ∷ those test ps) (those test ps)

-- the list without the packet of number n
unfoldable pub without : ℕ → List Packet → List Packet
without n [] = []
without n (p ∷ ps) = cond (eqb n p.number) ps (p ∷ without n ps)

-- where it stands; the length of the list where it is not there
unfoldable pub place_of : ℕ → List Packet → ℕ
place_of n [] = 0
place_of n (p ∷ ps) = cond (eqb n p.number) 0 (suc (place_of n ps))

-- how often the packet of number n had been resent
unfoldable pub resends_of : List Packet → ℕ → ℕ
resends_of [] n = 0
resends_of (p ∷ ps) n = cond (eqb n p.number) p.resends (resends_of ps n)

-- the next packet: its number is the one after the highest given out
abbrev pub next_packet : ℕ → ℕ → ℕ → Packet
next_packet highest second resends = record { number = highest + 1; second = second; resends = resends }

-- ---- answers
-- whether a list has a number that a test does not take
unfoldable pub any_outside : (ℕ → Bool) → List ℕ → Bool
any_outside test [] = false
any_outside test (n ∷ l) = not (test n) || any_outside test l

-- what a call answers: the first refusal that holds, else 0. Here highest is the highest number given out, given says which were, and out are the numbers outstanding
unfoldable pub call_answer : ℕ → (ℕ → Bool) → List ℕ → Call → ℕ
call_answer highest given out (send second) = cond (leb last_number highest) 71 (cond (leb most_outstanding (length out)) 70 0)
call_answer highest given out (resend n second) = cond (not (among out n)) 73 (cond (leb last_number highest) 71 0)
call_answer highest given out (ack through count pairs) =
    cond (goes_below through count pairs) 44 (cond (any_outside given (ack_numbers through count pairs)) 72 0)

-- what a sender answers: given out were 0 to the highest
unfoldable pub answer_by : Sender → Call → ℕ
answer_by s c = call_answer s.highest (λ n. leb n s.highest) (numbers_of s.packets) c

-- ---- calls that are answered 0
-- the sender after one: a send adds the next packet, a resend takes out the old one and adds the next, an ack takes out those that it names
unfoldable pub taken : Sender → Call → Sender
taken s (send second) = record { highest = s.highest + 1; packets = s.packets ++ (next_packet s.highest second 0 ∷ []) }
taken s (resend n second) =
    record {
      highest = s.highest + 1;
      packets = without n s.packets ++ (next_packet s.highest second (resends_of s.packets n + 1) ∷ []);
    }
taken s (ack through count pairs) =
    record { highest = s.highest; packets = those (λ n. not (among (ack_numbers through count pairs) n)) s.packets }

-- the number that it gives out; an ack gives out none
unfoldable pub number_given : Sender → Call → ℕ
number_given s (send second) = s.highest + 1
number_given s (resend n second) = s.highest + 1
number_given s (ack through count pairs) = 0

-- the numbers that it settles, the oldest first: an ack those outstanding that it names
unfoldable pub settled_by : Sender → Call → List ℕ
settled_by s (send second) = []
settled_by s (resend n second) = []
settled_by s (ack through count pairs) = keep (among (ack_numbers through count pairs)) (numbers_of s.packets)

-- ---- any call
-- What a call came to: its answer, the number that it gave out (0 for none), the numbers that it settled, and the sender after it.
pub record Called : Type 0 where
  pub answer : ℕ
  pub given : ℕ
  pub settled : List ℕ
  pub sender : Sender

-- one that is taken
abbrev pub taken_call : Sender → Call → Called
taken_call s c = record { answer = 0; given = number_given s c; settled = settled_by s c; sender = taken s c }

-- one that is refused: it gives out nothing, settles nothing and leaves the sender as it was
abbrev pub refused_call : Sender → ℕ → Called
refused_call s n = record { answer = n; given = 0; settled = []; sender = s }

-- a call
unfoldable pub called : Sender → Call → Called
called s c = cond (eqb (answer_by s c) 0) (taken_call s c) (refused_call s (answer_by s c))

-- the numbers that a call may be refused with, in their order; 59 is for a short record
abbrev pub refusals_of : Call → List ℕ
refusals_of (send second) = 59 ∷ 71 ∷ 70 ∷ []
refusals_of (resend n second) = 59 ∷ 73 ∷ 71 ∷ []
refusals_of (ack through count pairs) = 59 ∷ 44 ∷ 72 ∷ []
