-- What the rules say of a tracker holds over every history of calls. Assumes nothing.
use mathlib.Core.Path.{◌≡◌, sym, ◌∙◌}
use mathlib.Core.List.{List}
use Prim.Native.Nat.{ℕ}
use Rattle.acks.specs.History.{among, received, highest_seen}
use Rattle.acks.specs.Reporting.{report_of}
use Rattle.acks.proofs.Tracks.{held_is}
use Rattle.acks.proofs.Faithful.{report_is}
use Rattle.acks.proofs.Histories.{registered_is, tracked, among_newest, newest_settle}
use Rattle.promises.specs.Acks.{report_after, Answered, Duplicates, DuplicatesAreNewest, SameReport}

pub answered : Answered
answered calls n = registered_is (tracked calls) n

pub duplicates : Duplicates
duplicates calls n = held_is (tracked calls) n

pub duplicates_are_newest : DuplicatesAreNewest
duplicates_are_newest calls n = duplicates calls n ∙ sym (among_newest calls n)

pub reported : (calls : List ℕ) → report_after calls ≡ report_of (highest_seen calls) (among (received calls))
reported calls = report_is (tracked calls)

pub same_reports : SameReport
same_reports a b kept = reported a ∙ newest_settle a b kept ∙ sym (reported b)
