-- The sender together with the tracker at the far end, over a channel that loses, repeats and reorders.
use Rattle.std.specs.Prelude.{◌≡◌, Bool, true, false, ◌&&◌, ◌||◌, List, [], ◌∷◌, ◌++◌, ℕ, eqb, drop}
use Rattle.acks.specs.History.{among}
use Rattle.acks.specs.Tracking.{fresh, register_of}
use Rattle.acks.specs.Reporting.{Report, ack_info, pair_bytes}
use Rattle.acks.specs.declared.Tracker.{Tracker}
use Rattle.sender.specs.Sender.{Call, send, resend, ack}
use Rattle.sender.specs.History.{given_out, settled}

-- What happens at the two ends: a call of the sender, or a number arrives and the far tracker registers it.
-- A run lists what happened, the latest first: so each of its tails is the run up to an earlier moment.
pub data Event : Type 0 where
  call : (c : Call) → Event
  arrives : (n : ℕ) → Event

-- the sender's history of calls
unfoldable pub calls_of : List Event → List Call
calls_of [] = []
calls_of (call c ∷ past) = c ∷ calls_of past
calls_of (arrives n ∷ past) = calls_of past

-- the numbers that arrived, the first first
unfoldable pub arrivals : List Event → List ℕ
arrivals [] = []
arrivals (call c ∷ past) = arrivals past
arrivals (arrives n ∷ past) = arrivals past ++ (n ∷ [])

-- the far tracker
unfoldable pub far : List Event → Tracker
far [] = fresh
far (call c ∷ past) = far past
far (arrives n ∷ past) = (register_of (far past) n).tracker

-- whether it had registered n: some registration of n was answered 0
unfoldable pub registered : List Event → ℕ → Bool
registered [] n = false
registered (call c ∷ past) n = registered past n
registered (arrives k ∷ past) n = (eqb n k && eqb (register_of (far past) k).answer 0) || registered past n

-- the far tracker had registered n
abbrev pub Registered : List Event → ℕ → Type 0
Registered run n = registered run n ≡ true

-- the sender's calls settled n
abbrev pub Settled : List Event → ℕ → Type 0
Settled run n = among (settled (calls_of run)) n ≡ true

-- ---- the channel
-- the far tracker registers only numbers that this sender had given out. That all of them arrive, or once, or in turn, is not said
abbrev pub OnlyFromSender : List Event → Type 0
OnlyFromSender [] = Unit
OnlyFromSender (call c ∷ past) = OnlyFromSender past
OnlyFromSender (arrives n ∷ past) = (among (given_out (calls_of past)) n ≡ true) × OnlyFromSender past

-- an Ack block says what a report says
pub record Says (r : Report) (through count : ℕ) (pairs : List ℕ) : Type 0 where
  pub reported : r.number ≡ 0
  pub same_through : through ≡ r.through
  pub same_count : count ≡ r.count
  pub same_pairs : pairs ≡ pair_bytes r

-- it is the far tracker's report of some earlier moment, so many events ago
pub record Reported (past : List Event) (through count : ℕ) (pairs : List ℕ) : Type 0 where
  pub ago : ℕ
  pub says : Says (ack_info (far (drop ago past))) through count pairs

-- every Ack block fed in is a report of the far tracker. That every report comes, or once, or in turn, is not said
abbrev pub AcksAreReports : List Event → Type 0
AcksAreReports [] = Unit
AcksAreReports (arrives n ∷ past) = AcksAreReports past
AcksAreReports (call (send second) ∷ past) = AcksAreReports past
AcksAreReports (call (resend n second) ∷ past) = AcksAreReports past
AcksAreReports (call (ack through count pairs) ∷ past) = Reported past through count pairs × AcksAreReports past
