-- Laws of a history of calls: its tracker, by value and in place, and its report, by what was received. Assumes nothing.
use mathlib.Core.Path.{◌≡◌, refl, sym, ap, ◌∙◌}
use mathlib.Core.Bool.{Bool, false, cond, ◌&&◌}
use mathlib.Core.List.{List, []}
use Prim.Native.Nat.{ℕ, ◌≤◌, ◌<◌}
use lib.ListN.{length, get_or}
use Rattle.wire.specs.Parts.{splice}
use Rattle.acks.specs.declared.Tracker.{Tracker}
use Rattle.acks.specs.Window.{window, in_window, keep}
use Rattle.acks.specs.History.{answer_to, among, received, highest_seen, newest}
use Rattle.acks.specs.Tracking.{fresh, is_duplicate, register_of, register_all}
use Rattle.acks.specs.Reporting.{Report, silent, report_of, ack_info, pair_bytes}
use Rattle.acks.specs.Expanding.{expand_of, list_after}
use Rattle.acks.specs.Recorded.{tracker_short, tracker_at, register_there, duplicate_there, report_there}
use Rattle.acks.proofs.Tracks.{Tracks, follows, answer_is}
use Rattle.acks.proofs.Faithful.{Faithful, faithful, unheard, expands}
use Rattle.acks.proofs.Newest.{same_report, highest_among, first_kept, in_window_lem, among_keep}

-- a registration answers by what the tracker holds
pub registered_is : {top : ℕ} {got : ℕ → Bool} {t : Tracker} → Tracks top got t → (n : ℕ) → (register_of t n).answer ≡ answer_to top got n
unfolding register_of
registered_is w n = answer_is w n

-- a record that is not short answers, tells and reports as the tracker there
pub registered_there_lem : (r : List ℕ) → tracker_short r ≡ false → (n : ℕ) → register_there r n ≡ (register_of (tracker_at r) n).answer
unfolding register_there
registered_there_lem r e n = rw e

pub duplicate_there_lem : (r : List ℕ) → tracker_short r ≡ false → (n : ℕ) → duplicate_there r n ≡ cond (is_duplicate (tracker_at r).highest (tracker_at r).marks n) 1 0
unfolding duplicate_there
duplicate_there_lem r e n = rw e

pub reported_there : (r : List ℕ) → tracker_short r ≡ false → report_there r ≡ ack_info (tracker_at r)
unfolding report_there
reported_there r e = rw e

among_none : (n : ℕ) → among [] n ≡ false
unfolding among
among_none n = refl

module _ (calls : List ℕ) where
  -- the tracker holds what was received
  pub tracked : Tracks (highest_seen calls) (among (received calls)) (register_all fresh calls)
  unfolding highest_seen
  tracked = (follows calls).tracks

  -- before any number was received the report is refused
  pub report_before : received calls ≡ [] → report_of (highest_seen calls) (among (received calls)) ≡ silent
  report_before e = unheard (highest_seen calls) (among (received calls)) (ap (λ l. among l (highest_seen calls)) e ∙ among_none (highest_seen calls))

  -- once one was, it is a faithful one,
  pub report_after_lem : 0 < length (received calls) → Faithful (highest_seen calls) (among (received calls)) (report_of (highest_seen calls) (among (received calls)))
  unfolding highest_seen
  report_after_lem some = faithful (highest_seen calls) (among (received calls)) (highest_among (received calls) some)

  -- which, expanded into a list of at least 255 places, names the received numbers of the window
  pub names_newest : (r : Report) → Faithful (highest_seen calls) (among (received calls)) r → (list : List ℕ) → 255 ≤ length list
      → (expand_of r.through r.count (pair_bytes r) (length list) ≡ record { number = 0; count = length (newest calls) })
      × (list_after r.through r.count (pair_bytes r) list ≡ splice list 0 (newest calls))
  unfolding newest
  names_newest r f list big = expands (highest_seen calls) (among (received calls)) r f list big

  -- a number is one of them exactly if it is in the window and received
  pub among_newest : (n : ℕ) → among (newest calls) n ≡ (in_window (highest_seen calls) n && among (received calls) n)
  unfolding newest
  among_newest n =
      among_keep (among (received calls)) (window (highest_seen calls)) n
      ∙ ap (λ b. b && among (received calls) n) (in_window_lem (highest_seen calls) n)

  -- the first of them is the highest number seen
  pub first_newest : get_or (newest calls) 0 0 ≡ highest_seen calls
  unfolding newest highest_seen
  first_newest = first_kept (received calls)

-- they settle the report
pub newest_settle : (a b : List ℕ) → newest a ≡ newest b → report_of (highest_seen a) (among (received a)) ≡ report_of (highest_seen b) (among (received b))
unfolding newest
newest_settle a b kept =
    let high : highest_seen a ≡ highest_seen b = sym (first_newest a) ∙ ap (λ (l : List ℕ). get_or l 0 0) kept ∙ first_newest b in
    let top : keep (among (received b)) (window (highest_seen b)) ≡ keep (among (received b)) (window (highest_seen a)) =
    ap (λ t. keep (among (received b)) (window t)) (sym high) in
    same_report (highest_seen a) (among (received a)) (among (received b)) (kept ∙ top)
    ∙ ap (λ t. report_of t (among (received b))) high
