-- The sender together with the far tracker. Assumes nothing.
use mathlib.Core.Path.{◌≡◌, refl, sym, ap, ◌∙◌}
use mathlib.Core.Bool.{Bool, true, false, cond, ◌&&◌, ◌||◌, or-true, false≢true}
use mathlib.Core.List.{List, [], ◌∷◌}
use mathlib.Core.Logic.{◌⊎◌, ⊎_elim}
use Prim.Native.Nat.{ℕ, zero, suc, ◌^◌, ◌≤◌, ◌<◌}
use native.Mathlib.Omega.{arith}
use lib.Dec.{leb, eqb}
use lib.ListN.{drop}
use borrow.Author.Tests.{le-ltb, ne_eqb}
use Rattle.wire.proofs.Tests.{and_both, or_either}
use Rattle.acks.specs.Window.{window, keep}
use Rattle.acks.specs.History.{Packets, answer_to, highest_of, among, receive, noted, received_after, received}
use Rattle.acks.specs.Tracking.{fresh, register_of, register_all}
use Rattle.acks.specs.Reporting.{Report, ack_info, pair_bytes}
use Rattle.acks.specs.Expanding.{ack_numbers, goes_below}
use Rattle.acks.specs.declared.Tracker.{Tracker}
use Rattle.acks.proofs.Answers.{above_44}
use Rattle.acks.proofs.Faithful.{Faithful, told}
use Rattle.acks.proofs.Histories.{registered_is}
use Rattle.acks.proofs.Newest.{among_keep}
use Rattle.acks.proofs.Members.{among_append}
use Rattle.acks.proofs.Noted.{received_new, highest_noted, register_last, packets_last}
use Rattle.acks.proofs.Tracks.{Follows, follows, follows_step}
use Rattle.sender.specs.Sender.{Call, send, resend, ack, numbers_of, answer_by, called}
use Rattle.sender.specs.History.{books, settled, sender_by}
use Rattle.sender.specs.Channel.{Event, call, arrives, calls_of, arrivals, far, registered, Registered, Settled, OnlyFromSender, Reported, AcksAreReports}
use Rattle.sender.proofs.Calls.{called_answer, send_settles, resend_settles, ack_settles, called_rises}
use Rattle.sender.proofs.Answers.{ack_0, outside_through}
use Rattle.sender.proofs.Histories.{at_most_last, given_below, settles}

-- ---- what the far tracker received
unfoldable pub heard : List Event → List ℕ
heard [] = []
heard (call c ∷ past) = heard past
heard (arrives n ∷ past) = noted (heard past) n

pub heard_follows : (run : List Event) → Follows (heard run) (far run)
unfolding heard far received received_after register_all
heard_follows [] = follows []
heard_follows (call c ∷ past) = heard_follows past
heard_follows (arrives n ∷ past) = follows_step (heard_follows past) n

-- a number above 0 was received only if it was registered with answer 0
pub heard_registered : (run : List Event) (n : ℕ) → 0 < n → among (heard run) n ≡ true → Registered run n
unfolding heard registered noted among
heard_registered [] n h z = absurd (false≢true z)
heard_registered (call c ∷ past) n h z = heard_registered past n h z
heard_registered (arrives k ∷ past) n h z =
    rw (registered_is (heard_follows past).tracks k)
    (go (eqb (answer_to (highest_of (heard past)) (among (heard past)) k) 0) z (heard_registered past n h))
  where
    split : (x y w : Bool) → (x || y) ≡ true → (y ≡ true → w ≡ true) → (x && true || w) ≡ true
    split true y w e more = refl
    split false y w e more = more e

    go :
        (b : Bool) → among (cond b (receive (heard past) k) (heard past)) n ≡ true → (among (heard past) n ≡ true → registered past n ≡ true)
        → (eqb n k && b || registered past n) ≡ true
    go true e more = split (eqb n k) (among (heard past) n) (registered past n) (sym (received_new (heard past) k n h) ∙ e) more
    go false e more = ap (λ x. eqb n k && false || x) (more e) ∙ or-true (eqb n k && false)

-- what was registered stays so
registered_later : (k : ℕ) (run : List Event) (n : ℕ) → Registered (drop k run) n → Registered run n
unfolding registered
registered_later zero run n h = h
registered_later (suc k) [] n h = h
registered_later (suc k) (call c ∷ run) n h = registered_later k run n h
registered_later (suc k) (arrives m ∷ run) n h =
    ap (λ x. eqb n m && eqb (register_of (far run) m).answer 0 || x) (registered_later k run n h)
    ∙ or-true (eqb n m && eqb (register_of (far run) m).answer 0)

-- ---- a report of an earlier moment
module _ (past : List Event) (through count : ℕ) (pairs : List ℕ) (r : Reported past through count pairs) where
  abbrev then : List ℕ
  then = heard (drop r.ago past)

  abbrev report : Report
  report = ack_info (far (drop r.ago past))

  -- it is a faithful one
  faithful_then : Faithful (highest_of then) (among then) report
  faithful_then = told (heard_follows (drop r.ago past)) r.says.reported

  -- and the Ack block says what it says
  said : {A : Type 0} (f : ℕ → ℕ → List ℕ → A) → f through count pairs ≡ f report.through report.count (pair_bytes report)
  said f =
      ap (λ x. f x count pairs) r.says.same_through
      ∙ ap (λ x. f report.through x pairs) r.says.same_count
      ∙ ap (f report.through report.count) r.says.same_pairs

  report_names : ack_numbers through count pairs ≡ keep (among then) (window (highest_of then))
  report_names = said ack_numbers ∙ faithful_then.names_are

  report_through : through ≡ highest_of then
  report_through = r.says.same_through ∙ faithful_then.through_is

  report_above : goes_below through count pairs ≡ false
  report_above =
      said goes_below ∙ above_44 report.through report.count (pair_bytes report) (omega (arith, faithful_then.adds_up, faithful_then.through_is))

  -- what it names was registered
  pub reported_registered : (n : ℕ) → 0 < n → among (ack_numbers through count pairs) n ≡ true → Registered past n
  reported_registered n h z =
      let e : among then n ≡ true =
      (and_both (among (window (highest_of then)) n) (among then n)
      (sym (among_keep (among then) (window (highest_of then)) n) ∙ ap (λ l. among l n) (sym report_names) ∙ z)).1 in
      registered_later r.ago past n (heard_registered (drop r.ago past) n h e)

-- ---- what the sender settles
start_settled : (n : ℕ) → 0 < n → among (settled []) n ≡ true → ⊥
unfolding settled books among
start_settled n h z = false≢true (sym (rw (ne_eqb n 0 (λ e. omega arith))) ∙ z)

-- a number that is settled after a call was so before, or the call settled it
settled_split : (h : List Call) (c : Call) (n : ℕ) → among (settled (c ∷ h)) n ≡ true → (among (called (sender_by h) c).settled n ≡ true) ⊎ (among (settled h) n ≡ true)
settled_split h c n z =
    or_either (among (called (sender_by h) c).settled n) (among (settled h) n)
    (sym (among_append (called (sender_by h) c).settled (settled h) n) ∙ ap (λ l. among l n) (sym (settles h c)) ∙ z)

none_settled : (l : List ℕ) (n : ℕ) → l ≡ [] → among l n ≡ true → ⊥
unfolding among
none_settled l n e z = false≢true (ap (λ m. among m n) (sym e) ∙ z)

-- a number above 0 is settled only if the far tracker had registered it; what arrives may even come from elsewhere
pub settled_registered : (run : List Event) → AcksAreReports run → (n : ℕ) → 0 < n → Settled run n → Registered run n
unfolding calls_of registered
settled_registered [] q n h z = absurd (start_settled n h z)
settled_registered (arrives k ∷ past) q n h z =
    ap (λ x. eqb n k && eqb (register_of (far past) k).answer 0 || x) (settled_registered past q n h z)
    ∙ or-true (eqb n k && eqb (register_of (far past) k).answer 0)
settled_registered (call (send second) ∷ past) q n h z =
    ⊎_elim
    (λ new. absurd (none_settled (called (sender_by (calls_of past)) (send second)).settled n (send_settles (sender_by (calls_of past)) second) new))
    (λ old. settled_registered past q n h old)
    (settled_split (calls_of past) (send second) n z)
settled_registered (call (resend k second) ∷ past) q n h z =
    ⊎_elim
    (λ new. absurd (none_settled (called (sender_by (calls_of past)) (resend k second)).settled n (resend_settles (sender_by (calls_of past)) k second) new))
    (λ old. settled_registered past q n h old)
    (settled_split (calls_of past) (resend k second) n z)
settled_registered (call (ack through count pairs) ∷ past) q n h z =
    ⊎_elim
    (λ new. reported_registered past through count pairs q.0 n h (ack_settles (sender_by (calls_of past)) through count pairs n new))
    (λ old. settled_registered past q.1 n h old)
    (settled_split (calls_of past) (ack through count pairs) n z)

-- ---- no report is refused: it names nothing above what the sender gave out
heard_later : (k : ℕ) (run : List Event) → highest_of (heard (drop k run)) ≤ highest_of (heard run)
unfolding heard
heard_later zero run = omega arith
heard_later (suc k) [] = omega arith
heard_later (suc k) (call c ∷ run) = heard_later k run
heard_later (suc k) (arrives n ∷ run) = omega (arith, heard_later k run, (highest_noted (heard run) n).0)

heard_given : (run : List Event) → OnlyFromSender run → highest_of (heard run) ≤ (sender_by (calls_of run)).highest
unfolding heard calls_of sender_by highest_of
heard_given [] q = omega arith
heard_given (arrives n ∷ past) q = omega (arith, heard_given past q.1, (highest_noted (heard past) n).1, given_below (calls_of past) n q.0)
heard_given (call c ∷ past) q = omega (arith, heard_given past q, called_rises (sender_by (calls_of past)) c)

pub reports_taken : (run : List Event) → OnlyFromSender run → (through count : ℕ) (pairs : List ℕ) → Reported run through count pairs
    → (called (sender_by (calls_of run)) (ack through count pairs)).answer ≡ 0
unfolding answer_by
reports_taken run q through count pairs r =
    let s = sender_by (calls_of run) in
    let low : through ≤ s.highest = omega (arith, report_through run through count pairs r, heard_later r.ago run, heard_given run q) in
    called_answer s (ack through count pairs)
    ∙ ack_0 s.highest (λ n. leb n s.highest) (numbers_of s.packets) through count pairs
    (report_above run through count pairs r)
    (outside_through s.highest through count pairs ∙ le-ltb s.highest through low)

-- ---- the far tracker is the one after the history of what arrived
pub far_is_tracker : (run : List Event) → OnlyFromSender run → (far run ≡ register_all fresh (arrivals run)) × Packets (arrivals run)
unfolding far arrivals register_all
far_is_tracker [] q = (refl, tt)
far_is_tracker (arrives n ∷ past) q =
    let e = far_is_tracker past q.1 in
    let small : n < 256 ^ 4 = omega (arith, given_below (calls_of past) n q.0, at_most_last (calls_of past)) in (
      ap (λ (t : Tracker). (register_of t n).tracker) e.0 ∙ sym (register_last fresh (arrivals past) n),
      packets_last (arrivals past) n e.1 small,
    )
far_is_tracker (call c ∷ past) q = far_is_tracker past q
