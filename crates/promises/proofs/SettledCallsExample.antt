-- The run of SettledExample by the calls, on lent bytes at both ends: it meets every premise, and what was settled was registered. Assumes nothing.
use mathlib.Core.Path.{◌≡◌, ap, ◌∙◌}
use mathlib.Core.Bool.{true}
use mathlib.Core.List.{List}
use Prim.Native.Nat.{ℕ}
use native.Mathlib.Omega.{arith}
use lib.ListN.{replicate}
use Rattle.acks.specs.History.{among}
use Rattle.sender.specs.Channel.{calls_of}
use Rattle.sender.specs.Recorded.{new_sender_record, SecondsInWidth}
use Rattle.numbers_outcomes.specs.Trackers.{new_record}
use Rattle.promises.specs.Demand2Calls.{Fresh}
use Rattle.promises.specs.PartitionCalls.{FreshSender, SenderTells}
use Rattle.promises.specs.SettledCalls.{near_after, told_settled, registered_there, OnlyGivenOut, AcksCarried}
use Rattle.promises.proofs.Demand2Calls.{tracker_starts}
use Rattle.promises.proofs.PartitionCalls.{sender_starts, partition_calls}
use Rattle.promises.proofs.SettledCalls.{only_so, told, carried_so, settled_only_if_registered_calls}
use Rattle.promises.proofs.SettledExample.{run, only_from_sender, acks_are_reports, counted}

-- what strawhub_sender_new leaves of 4,200 bytes of 7, and strawhub_tracker_new of 300
abbrev near : List ℕ
near = new_sender_record (replicate 4200 7)

abbrev there : List ℕ
there = new_record (replicate 300 7)

near_new : FreshSender near
near_new = sender_starts.1 (replicate 4200 7) (omega arith)

there_new : Fresh there
there_new = tracker_starts.1 (replicate 300 7) (omega arith)

seconds : SecondsInWidth (calls_of run)
unfolding calls_of
seconds = (omega arith, (omega arith, (omega arith, (omega arith, (omega arith, tt)))))

-- the record tells what the history says, at the end and so at every moment
pub example_tells : SenderTells near (calls_of run) (near_after near run)
example_tells = partition_calls near (calls_of run) near_new seconds

pub example_given : OnlyGivenOut near run
example_given = only_so near near_new run seconds only_from_sender

pub example_carried : AcksCarried there run
example_carried = carried_so there there_new run only_from_sender acks_are_reports

-- 2 was settled, so it was registered
pub example_settled : told_settled near run 2 ≡ true
unfolding among
example_settled = told near near_new run seconds 2 (omega arith) ∙ ap (λ (l : List ℕ). among l 2) counted.1

pub example_registered : registered_there there run 2 ≡ true
example_registered = settled_only_if_registered_calls near there near_new there_new run seconds example_given example_carried 2 (omega arith) example_settled
