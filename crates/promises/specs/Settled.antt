-- Request P6, the sender together with the tracker: over a channel that loses, repeats and reorders, a number above 0 is settled only if the far tracker had registered it.
-- A run lists what happened at both ends, the latest first: `calls_of` are the sender's calls, `far` is the far tracker. Reports too may be lost, late and repeated.
use Rattle.std.specs.Prelude.{◌≡◌, List, ℕ, ◌<◌}
use Rattle.acks.specs.History.{Packets}
use Rattle.acks.specs.Tracking.{fresh, register_all}
use Rattle.sender.specs.Sender.{ack, called}
use Rattle.sender.specs.History.{sender_by}
use Rattle.sender.specs.Channel.{Event, calls_of, arrivals, far, Registered, Settled, OnlyFromSender, Reported, AcksAreReports}

-- if the far tracker registers only numbers from this sender and every Ack block fed in is its report, a number above 0 is settled only if that tracker had registered it
abbrev pub SettledOnlyIfRegistered : Type 0
SettledOnlyIfRegistered =
    (run : List Event)
    → OnlyFromSender run
    → AcksAreReports run
    → (n : ℕ) → 0 < n → Settled run n → Registered run n

-- and no report of it is refused, whenever it is fed in
abbrev pub ReportsTaken : Type 0
ReportsTaken =
    (run : List Event)
    → OnlyFromSender run
    → (through count : ℕ) (pairs : List ℕ)
    → Reported run through count pairs → (called (sender_by (calls_of run)) (ack through count pairs)).answer ≡ 0

-- the far tracker is the tracker after that history of calls, with packet numbers of four bytes: what is shown of every such history, by value and in place, holds of it
abbrev pub FarIsTracker : Type 0
FarIsTracker = (run : List Event) → OnlyFromSender run → (far run ≡ register_all fresh (arrivals run)) × Packets (arrivals run)
