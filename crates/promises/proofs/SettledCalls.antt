-- The sender together with the far tracker, of the calls: carried over by the calls' promises at both ends. Assumes nothing.
use Rattle.std.specs.Prelude.{Result, Ok, Err}
use mathlib.Core.Path.{◌≡◌, refl, sym, ap, ap₂, ◌∙◌}
use mathlib.Core.Bool.{Bool, true, false, ◌&&◌, ◌||◌, or-true, false≢true}
use mathlib.Core.List.{List, [], ◌∷◌}
use Prim.Native.Nat.{ℕ, zero, suc, ◌+◌, ◌%◌, ◌^◌, ◌≤◌, ◌<◌}
use native.Mathlib.Omega.{arith}
use lib.Dec.{eqb}
use lib.ListN.{length, drop, get_or, replicate}
use borrow.Author.Tests.{ne_eqb}
use Rattle.wire.specs.Parts.{part}
use Rattle.blocks.specs.declared.Part.{Part}
use Rattle.blocks.specs.Outcomes.{Read}
use Rattle.blocks.specs.Layout.{eight}
use Rattle.blocks.specs.Names.{ack_fields}
use Rattle.blocks.specs.Reading.{bytes_at, block_read, read_at}
use Rattle.acks.specs.History.{among}
use Rattle.acks.specs.Tracking.{fresh, register_of, register_all}
use Rattle.acks.specs.Reporting.{Report, ack_info, pair_bytes}
use Rattle.acks.specs.Recorded.{tracker_short, tracker_at, register_there}
use Rattle.acks.specs.AckBlocks.{ack_writing, ack_room}
use Rattle.acks.specs.declared.Tracker.{Tracker}
use Rattle.acks.proofs.Histories.{registered_there_lem, reported_there}
use Rattle.acks.proofs.InPlace.{in_place, in_place_long, in_place_small}
use Rattle.acks.proofs.Sent.{is_written, is_read, written_is_read}
use Rattle.acks.proofs.Refused.{ack_refused, report_paired, report_fits}
use Rattle.acks.proofs.Members.{among_append}
use Rattle.numbers_outcomes.specs.Outcomes.{write_outcome}
use Rattle.sender.specs.Sender.{send, resend, ack}
use Rattle.sender.specs.History.{given_out, settled, any_of}
use Rattle.sender.specs.Channel.{Event, call, arrives, calls_of, arrivals, far, registered, Registered, OnlyFromSender, Says, Reported, AcksAreReports}
use Rattle.sender.specs.Recorded.{given_there, settled_there, SecondsInWidth}
use Rattle.sender.proofs.Histories.{zero_given, given_first, settled_first, given_more}
use Rattle.sender.proofs.InPlace.{seconds_past}
use Rattle.promises.specs.Demand2Calls.{Fresh}
use Rattle.promises.specs.PartitionCalls.{FreshSender, SenderTells}
use Rattle.promises.specs.SettledCalls.{near_after, far_after, report_at, gave_out, told_settled, registered_there, OnlyGivenOut, Carried, AcksCarried, SettledOnlyIfRegisteredCalls, AckBlocksTaken, ReportsCarried}
use Rattle.promises.proofs.Partition.{answered_by_history}
use Rattle.promises.proofs.PartitionCalls.{partition_calls}
use Rattle.promises.proofs.Settled.{settled_only_if_registered, reports_taken, far_is_tracker}

-- ---- one of two
either : (a b c : Bool) → (a ≡ true → c ≡ true) → (b ≡ true → c ≡ true) → (a || b) ≡ true → c ≡ true
either true b c f g h = f refl
either false b c f g h = g h

left_or : (a b : Bool) → a ≡ true → (a || b) ≡ true
left_or a b e = ap (λ (x : Bool). x || b) e

right_or : (a b : Bool) → b ≡ true → (a || b) ≡ true
right_or a b e = ap (λ (x : Bool). a || x) e ∙ or-true a

-- ---- the near end
module _ (near : List ℕ) (zeros : FreshSender near) where
  near_tells : (run : List Event) → SecondsInWidth (calls_of run) → SenderTells near (calls_of run) (near_after near run)
  near_tells run w = partition_calls near (calls_of run) zeros w

  -- given out by the calls is given out in the history
  pub gave : (run : List Event) → SecondsInWidth (calls_of run) → (n : ℕ) → gave_out near run n ≡ among (given_out (calls_of run)) n
  unfolding gave_out calls_of
  gave [] w n = sym (given_first n)
  gave (arrives k ∷ past) w n = gave past w n
  gave (call c ∷ past) w n =
      let p : SecondsInWidth (calls_of past) = seconds_past c (calls_of past) w in
      let g : ℕ = given_there (near_after near past) c in
      ap (λ (b : Bool). eqb n g || b) (gave past p n)
      ∙ given_more (given_out (calls_of past)) g n (zero_given (calls_of past))
      ∙ sym (among_append (given_out (calls_of past)) (any_of g) n)
      ∙ ap (λ (l : List ℕ). among l n) (sym ((near_tells past p).gives c))

  only : (run : List Event) → SecondsInWidth (calls_of run) → OnlyGivenOut near run → OnlyFromSender run
  unfolding calls_of
  only [] w q = tt
  only (arrives n ∷ past) w q = (sym (gave past w n) ∙ q.0, only past w q.1)
  only (call c ∷ past) w q = only past (seconds_past c (calls_of past) w) q

  pub only_so : (run : List Event) → SecondsInWidth (calls_of run) → OnlyFromSender run → OnlyGivenOut near run
  unfolding calls_of
  only_so [] w q = tt
  only_so (arrives n ∷ past) w q = (gave past w n ∙ q.0, only_so past w q.1)
  only_so (call c ∷ past) w q = only_so past (seconds_past c (calls_of past) w) q

  -- a number above 0 that the acks told as settled is settled in the history
  pub told : (run : List Event) → SecondsInWidth (calls_of run) → (n : ℕ) → 0 < n → told_settled near run n ≡ among (settled (calls_of run)) n
  unfolding told_settled calls_of
  told [] w n h = sym (settled_first n ∙ ne_eqb n 0 (λ e. omega arith))
  told (arrives k ∷ past) w n h = told past w n h
  told (call c ∷ past) w n h =
      let p : SecondsInWidth (calls_of past) = seconds_past c (calls_of past) w in
      let s : List ℕ = settled_there (near_after near past) c in
      ap (λ (b : Bool). among s n || b) (told past p n h)
      ∙ sym (among_append s (settled (calls_of past)) n)
      ∙ ap (λ (l : List ℕ). among l n) (sym ((near_tells past p).settles c))

-- ---- the far end
module _ (there : List ℕ) (zeros : Fresh there) where
  far_holds : (run : List Event) → OnlyFromSender run → tracker_at (far_after there run) ≡ far run
  far_holds run q = let f = far_is_tracker run q in in_place there zeros (arrivals run) f.1 ∙ sym f.0

  far_long : (run : List Event) → OnlyFromSender run → tracker_short (far_after there run) ≡ false
  far_long run q = in_place_long there zeros (arrivals run) (far_is_tracker run q).1

  far_reports : (run : List Event) → OnlyFromSender run → report_at there run ≡ ack_info (far run)
  far_reports run q = reported_there (far_after there run) (far_long run q) ∙ ap ack_info (far_holds run q)

  far_small : (run : List Event) → OnlyFromSender run → (far run).highest < 256 ^ 4
  far_small run q =
      let f = far_is_tracker run q in
      let s : (register_all fresh (arrivals run)).highest < 256 ^ 4 = in_place_small there zeros (arrivals run) f.1 in
      rw f.0 s

  -- what the tracker had registered, its calls had answered 0
  answered_0 : (run : List Event) → OnlyFromSender run → (n : ℕ) → Registered run n → registered_there there run n ≡ true
  unfolding registered registered_there
  answered_0 [] q n e = absurd (false≢true e)
  answered_0 (call c ∷ past) q n e = answered_0 past q n e
  answered_0 (arrives k ∷ past) q n e =
      let a : register_there (far_after there past) k ≡ (register_of (far past) k).answer =
      registered_there_lem (far_after there past) (far_long past q.1) k ∙ ap (λ (t : Tracker). (register_of t k).answer) (far_holds past q.1) in
      either (eqb n k && eqb (register_of (far past) k).answer 0) (registered past n)
      ((eqb n k && eqb (register_there (far_after there past) k) 0) || registered_there there past n)
      (λ z.
      left_or (eqb n k && eqb (register_there (far_after there past) k) 0) (registered_there there past n)
      (ap (λ (x : ℕ). eqb n k && eqb x 0) a ∙ z))
      (λ z. right_or (eqb n k && eqb (register_there (far_after there past) k) 0) (registered_there there past n) (answered_0 past q.1 n z))
      e

  -- an earlier moment
  earlier : (k : ℕ) (run : List Event) → OnlyFromSender run → OnlyFromSender (drop k run)
  earlier zero run q = q
  earlier (suc k) [] q = q
  earlier (suc k) (call c ∷ run) q = earlier k run q
  earlier (suc k) (arrives n ∷ run) q = earlier k run q.1

  -- an Ack block that was written has a length
  length_of : (past : List Event) (room : ℕ) → (write_outcome (ack_writing (report_at there past) room)).number ≡ 0 → (w : Result ℕ ℕ) → ack_writing (report_at there past) room ≡ w → (n : ℕ) × (w ≡ Ok n)
  length_of past room z (Ok n) e = (n, refl)
  length_of past room z (Err m) e =
      let o : m ≡ 0 = sym (ap (λ (w : Result ℕ ℕ). (write_outcome w).number) e) ∙ z in
      absurd (ack_refused (report_at there past) room m e o)

  -- what was read from such a block is a report of that moment
  carried_says : (past : List Event) → OnlyFromSender past → (through count : ℕ) (pairs : List ℕ) → Carried there past through count pairs → Reported past through count pairs
  unfolding eight
  carried_says past q through count pairs c =
      let then : List Event = drop c.ago past in
      let ours : OnlyFromSender then = earlier c.ago past q in
      let r : Report = report_at there then in
      let same : r ≡ ack_info (far then) = far_reports then ours in
      let l = length_of then (length c.room) c.wrote (ack_writing r (length c.room)) refl in
      let w = written_is_read r c.room l.0 l.1 in
      record { ago = c.ago; says = rw (sym same) (says r through count pairs c.room c.at c.size c.next l.0 w.0 w.1 w.2 c.read c.fed) }
    where
      says :
          (r : Report) (through count : ℕ) (pairs room : List ℕ) (at : Part) (size next n : ℕ) → r.number ≡ 0
          → read_at (ack_room r room) 0 ≡ block_read 12 (5 + length (pair_bytes r)) n (ack_fields r.through r.count) (bytes_at 8 (length (pair_bytes r)))
          → part (ack_room r room) 8 (length (pair_bytes r)) ≡ pair_bytes r
          → read_at (ack_room r room) 0 ≡ block_read 12 size next (ack_fields through count) at
          → pairs ≡ part (ack_room r room) at.start at.len
          → Says r through count pairs
      says r through count pairs room at size next n given read shown got fed =
          let e = sym got ∙ read in
          let a : bytes_at 8 (length (pair_bytes r)) ≡ at = sym (ap (λ (x : Read). x.bytes) e) in
          record {
            reported = given;
            same_through = ap (λ (x : Read). get_or x.fields 0 0) e;
            same_count = ap (λ (x : Read). get_or x.fields 1 0) e;
            same_pairs = fed ∙ ap (λ (p : Part). part (ack_room r room) p.start p.len) (sym a) ∙ shown;
          }

  -- and a report of it is carried in a room of 262 bytes
  says_carried : (past : List Event) → OnlyFromSender past → (through count : ℕ) (pairs room : List ℕ) → 262 ≤ length room → Reported past through count pairs → Carried there past through count pairs
  says_carried past q through count pairs room big c =
      let then : List Event = drop c.ago past in
      let ours : OnlyFromSender then = earlier c.ago past q in
      let r : Report = ack_info (far then) in
      let same : report_at there then ≡ r = far_reports then ours in
      let two : (length (pair_bytes r) % 2 ≡ 0) × (length (pair_bytes r) ≤ 254) = report_paired (far then) c.says.reported in
      let holds : 8 + length (pair_bytes r) ≤ length room = omega (arith, two.1, big) in
      let fit = report_fits (far then) c.says.reported (far_small then ours) in
      let w = is_written r room c.says.reported fit two.0 two.1 holds in
      let b = is_read r room c.says.reported fit two.0 two.1 holds in
      record {
        ago = c.ago;
        room = room;
        wrote = ap (λ (x : Report). (write_outcome (ack_writing x (length room))).number) same ∙ ap (λ (x : Result ℕ ℕ). (write_outcome x).number) w;
        at = bytes_at 8 (length (pair_bytes r));
        size = 5 + length (pair_bytes r);
        next = 8 + length (pair_bytes r);
        read =
            ap (λ (x : Report). read_at (ack_room x room) 0) same ∙ b.0
            ∙ ap₂ (λ (t n : ℕ). block_read 12 (5 + length (pair_bytes r)) (8 + length (pair_bytes r)) (ack_fields t n) (bytes_at 8 (length (pair_bytes r)))) (sym c.says.same_through) (sym c.says.same_count);
        fed = c.says.same_pairs ∙ sym b.1 ∙ ap (λ (x : Report). part (ack_room x room) 8 (length (pair_bytes r))) (sym same);
      }

  reports : (run : List Event) → OnlyFromSender run → AcksCarried there run → AcksAreReports run
  reports [] q c = tt
  reports (arrives n ∷ past) q c = reports past q.1 c
  reports (call (send second) ∷ past) q c = reports past q c
  reports (call (resend n second) ∷ past) q c = reports past q c
  reports (call (ack through count pairs) ∷ past) q c = (carried_says past q through count pairs c.0, reports past q c.1)

  pub carried_so : (run : List Event) → OnlyFromSender run → AcksAreReports run → AcksCarried there run
  carried_so [] q c = tt
  carried_so (arrives n ∷ past) q c = carried_so past q.1 c
  carried_so (call (send second) ∷ past) q c = carried_so past q c
  carried_so (call (resend n second) ∷ past) q c = carried_so past q c
  carried_so (call (ack through count pairs) ∷ past) q c =
      (says_carried past q through count pairs (replicate 262 0) (omega arith) c.0, carried_so past q c.1)

-- ---- both ends
pub settled_only_if_registered_calls : SettledOnlyIfRegisteredCalls
settled_only_if_registered_calls near there ours theirs run w given carried n above z =
    let q : OnlyFromSender run = only near ours run w given in
    answered_0 there theirs run q n (settled_only_if_registered run q (reports there theirs run q carried) n above (sym (told near ours run w n above) ∙ z))

pub ack_blocks_taken : AckBlocksTaken
ack_blocks_taken near there ours theirs run w given through count pairs c =
    let q : OnlyFromSender run = only near ours run w given in
    (partition_calls near (calls_of run) ours w).answers (ack through count pairs)
    ∙ sym (answered_by_history (calls_of run) (ack through count pairs)).by_history
    ∙ reports_taken run q through count pairs (carried_says there theirs run q through count pairs c)

pub reports_carried : ReportsCarried
reports_carried near there ours theirs run w given through count pairs room big c =
    says_carried there theirs run (only near ours run w given) through count pairs room big c
