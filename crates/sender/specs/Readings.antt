-- The inputs that show how request P6 is read (6.1 to 6.9, 6.11). A history lists the calls, the latest first.
use Rattle.std.specs.Prelude.{◌≡◌, List, [], ◌∷◌, ℕ}
use Rattle.wire.specs.Series.{series}
use Rattle.sender.specs.Sizes.{most_outstanding, last_number}
use Rattle.sender.specs.Sender.{Packet, Sender, new_sender, Call, send, resend, ack, refused_call, called}
use Rattle.sender.specs.History.{given_out, settled, given_up, sender_by, outstanding}

-- a packet
abbrev pub packet : ℕ → ℕ → ℕ → Packet
packet number second resends = record { number = number; second = second; resends = resends }

-- three given out, at second 10
abbrev pub three : List Call
three = send 10 ∷ send 10 ∷ send 10 ∷ []

-- 256 outstanding, from number n on
abbrev pub row_from : ℕ → List Packet
row_from n = series (λ k. packet k 0 0) n most_outstanding

-- they are the first ones,
abbrev pub full : Sender
full = record { highest = most_outstanding; packets = row_from 1 }

-- or the last ones
abbrev pub used_up : Sender
used_up = record { highest = last_number; packets = row_from 4294967040 }

-- a call is refused with n, and nothing changes
abbrev pub Refuses : Sender → Call → ℕ → Type 0
Refuses s c n = called s c ≡ refused_call s n

-- 6.5: an ack names the number that a resend gave up
abbrev pub up_then_ack : List Call
up_then_ack = ack 3 2 [] ∷ resend 2 17 ∷ three

-- 6.11
abbrev pub short : List Call
short = ack 2 0 [] ∷ resend 1 1 ∷ send 0 ∷ send 0 ∷ []

-- What they come to.
pub record Readings : Type 0 where
  -- 6.1: a resend takes the next number, its own second, and one resend more
  pub at_6_1 : (sender_by (resend 2 17 ∷ three)).packets ≡ packet 1 10 0 ∷ packet 3 10 0 ∷ packet 4 17 1 ∷ []
  pub at_6_1_again : (sender_by (resend 4 20 ∷ resend 2 17 ∷ three)).packets ≡ packet 1 10 0 ∷ packet 3 10 0 ∷ packet 5 20 2 ∷ []
  -- 6.2: the last number given out and 256 outstanding: 71 before 70, 73 before 71; a packet that is refused stays outstanding
  pub at_6_2_send : Refuses used_up (send 0) 71
  pub at_6_2_resend : Refuses used_up (resend 4294967100 0) 71
  pub at_6_2_other : Refuses used_up (resend 7 0) 73
  -- 6.3: 72, and nothing is settled
  pub at_6_3 : Refuses (sender_by three) (ack 4 3 []) 72
  pub at_6_3_pairs : Refuses (sender_by three) (ack 4 0 (1 ∷ 1 ∷ [])) 72
  pub at_6_3_stay : outstanding (ack 4 3 [] ∷ three) ≡ 1 ∷ 2 ∷ 3 ∷ []
  -- 6.4: 44 before 72
  pub at_6_4 : Refuses (sender_by three) (ack 4 5 []) 44
  -- 6.5: given up stays given up
  pub at_6_5 : ((called (sender_by (resend 2 17 ∷ three)) (ack 3 2 [])).answer ≡ 0) × ((called (sender_by (resend 2 17 ∷ three)) (ack 3 2 [])).settled ≡ 1 ∷ 3 ∷ [])
  pub at_6_5_stays : (outstanding up_then_ack ≡ 4 ∷ []) × (settled up_then_ack ≡ 1 ∷ 3 ∷ 0 ∷ []) × (given_up up_then_ack ≡ 2 ∷ [])
  -- 6.6: number 0 may be acked at any time, and is never outstanding
  pub at_6_6 : ((called new_sender (ack 0 0 [])).answer ≡ 0) × ((called new_sender (ack 0 0 [])).sender ≡ new_sender)
  pub at_6_6_resend : Refuses new_sender (resend 0 5) 73
  -- 6.7: an odd last byte is dropped
  pub at_6_7 : ((called (sender_by three) (ack 3 0 (1 ∷ 1 ∷ 1 ∷ []))).answer ≡ 0) × (outstanding (ack 3 0 (1 ∷ 1 ∷ 1 ∷ []) ∷ three) ≡ 2 ∷ [])
  -- 6.8: an ack that settles nothing
  pub at_6_8 : ((called (sender_by three) (ack 0 0 [])).answer ≡ 0) × (outstanding (ack 0 0 [] ∷ three) ≡ 1 ∷ 2 ∷ 3 ∷ [])
  -- 6.9: with 256 outstanding a send is refused and a resend is not
  pub at_6_9_send : Refuses full (send 0) 70
  pub at_6_9_resend : ((called full (resend 256 0)).answer ≡ 0) × ((called full (resend 256 0)).given ≡ 257)
  -- 6.11: counted from the history
  pub at_6_11 : (given_out short ≡ 0 ∷ 1 ∷ 2 ∷ 3 ∷ []) × (outstanding short ≡ 3 ∷ []) × (settled short ≡ 2 ∷ 0 ∷ []) × (given_up short ≡ 1 ∷ [])
