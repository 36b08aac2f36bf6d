-- A run that meets the premises: a number lost, one late, one twice; reports lost, late and twice; a resend; two numbers settled. And reading 6.12. Assumes nothing.
use mathlib.Core.Path.{◌≡◌, refl}
use mathlib.Core.Bool.{true, false}
use mathlib.Core.List.{List, [], ◌∷◌, reverse}
use Prim.Native.Nat.{ℕ}
use native.Mathlib.Omega.{arith}
use Rattle.acks.specs.Window.{falling, in_window, keep}
use Rattle.acks.specs.History.{answer_to, highest_of, among}
use Rattle.acks.specs.Tracking.{fresh, mark, is_duplicate, clear_up, marks_after, accept_of, register_answer, register_of}
use Rattle.acks.specs.Runs.{inc, runs, flags, named, whole_pairs, run_sum}
use Rattle.acks.specs.Reporting.{padded, report_of_runs, report_of, ack_info, pair_bytes}
use Rattle.acks.specs.Expanding.{ack_numbers, goes_below}
use Rattle.sender.specs.Sender.{Call, send, resend, ack, numbers_of, those, without, resends_of, any_outside, call_answer, answer_by, taken, settled_by, called}
use Rattle.sender.specs.History.{unclosed, outstanding_in, highest_in, answer_in, booked, entered, books, given_out, settled, given_up, sender_by, outstanding}
use Rattle.sender.specs.Channel.{Event, call, arrives, calls_of, far, registered, Registered, OnlyFromSender, Reported, AcksAreReports}
use Rattle.promises.proofs.Settled.{settled_only_if_registered}

-- as it happened, the first first
abbrev pub story : List Event
story =
    call (send 10) ∷ call (send 10) ∷ call (send 11)
    -- 1 is lost, 2 is late. The far end reports 3, with 2 and 1 missing and 0 there: A
    ∷ arrives 3
    -- 3 comes again
    ∷ arrives 3
    ∷ call (resend 1 20)
    -- the far end reports 3, 2 and 0: B
    ∷ arrives 2
    -- its report of 4 is lost
    ∷ arrives 4
    ∷ call (send 30)
    -- B comes before A, and A twice
    ∷ call (ack 3 1 (1 ∷ 1 ∷ []))
    ∷ call (ack 3 0 (2 ∷ 1 ∷ []))
    ∷ call (ack 3 0 (2 ∷ 1 ∷ []))
    ∷ []

-- the latest first
abbrev pub run : List Event
run = reverse story

pub only_from_sender : OnlyFromSender run
unfolding calls_of given_out books entered booked answer_in highest_in highest_of outstanding_in unclosed keep call_answer numbers_of those resends_of among goes_below ack_numbers flags named whole_pairs run_sum any_outside
only_from_sender = (refl, (refl, (refl, (refl, tt))))

pub acks_are_reports : AcksAreReports run
unfolding far ack_info report_of report_of_runs padded pair_bytes register_of register_answer answer_to is_duplicate in_window mark accept_of marks_after clear_up fresh runs inc falling
acks_are_reports = (
  record { ago = 7; says = record { reported = refl; same_through = refl; same_count = refl; same_pairs = refl } },
  (
    record { ago = 6; says = record { reported = refl; same_through = refl; same_count = refl; same_pairs = refl } },
    (record { ago = 2; says = record { reported = refl; same_through = refl; same_count = refl; same_pairs = refl } }, tt),
  ),
)

-- 0 to 5 were given out; 2 and 3 are settled, beside 0; 1 is given up; 4 and 5 are outstanding
pub counted : (given_out (calls_of run) ≡ 0 ∷ 1 ∷ 2 ∷ 3 ∷ 4 ∷ 5 ∷ []) × (settled (calls_of run) ≡ 2 ∷ 3 ∷ 0 ∷ []) × (given_up (calls_of run) ≡ 1 ∷ []) × (outstanding (calls_of run) ≡ 4 ∷ 5 ∷ [])
unfolding calls_of given_out settled given_up outstanding sender_by called answer_by taken without books entered booked answer_in highest_in highest_of outstanding_in unclosed keep call_answer numbers_of those resends_of among goes_below ack_numbers flags named whole_pairs run_sum any_outside
counted = (refl, refl, refl, refl)

-- 2 was registered, by the claim
pub two_registered : Registered run 2
unfolding calls_of settled books entered booked answer_in highest_in highest_of outstanding_in unclosed keep call_answer numbers_of those resends_of among goes_below ack_numbers flags named whole_pairs run_sum any_outside
two_registered = settled_only_if_registered run only_from_sender acks_are_reports 2 (omega arith) refl

-- and computed: 2, 3 and 4 were, and 1 was not
pub all_registered : (registered run 1 ≡ false) × (registered run 2 ≡ true) × (registered run 3 ≡ true) × (registered run 4 ≡ true)
unfolding registered far register_of register_answer answer_to is_duplicate in_window mark accept_of marks_after clear_up fresh
all_registered = (refl, refl, refl, refl)

-- what the sender answered, the latest first
abbrev answers : List Call → List ℕ
answers [] = []
answers (c ∷ past) = (called (sender_by past) c).answer ∷ answers past

-- what it told as settled
abbrev told : List Call → List (List ℕ)
told [] = []
told (c ∷ past) = (called (sender_by past) c).settled ∷ told past

-- none was refused, and only B settled anything
pub none_refused : (answers (calls_of run) ≡ 0 ∷ 0 ∷ 0 ∷ 0 ∷ 0 ∷ 0 ∷ 0 ∷ 0 ∷ []) × (told (calls_of run) ≡ [] ∷ [] ∷ (2 ∷ 3 ∷ []) ∷ [] ∷ [] ∷ [] ∷ [] ∷ [] ∷ [])
unfolding calls_of sender_by called answer_by taken settled_by without keep call_answer numbers_of those resends_of among goes_below ack_numbers flags named whole_pairs run_sum any_outside
none_refused = (refl, refl)

-- 6.12: the far tracker registers 1, report A, registers 2, report B; fed in B, A, A: 0 each, and 1 and 2 are settled
abbrev pub twice : List Event
twice = reverse (call (send 0) ∷ call (send 0) ∷ arrives 1 ∷ arrives 2 ∷ call (ack 2 2 []) ∷ call (ack 1 1 []) ∷ call (ack 1 1 []) ∷ [])

pub twice_from_sender : OnlyFromSender twice
unfolding calls_of given_out books entered booked answer_in highest_in highest_of outstanding_in unclosed keep call_answer numbers_of those resends_of among goes_below ack_numbers flags named whole_pairs run_sum any_outside
twice_from_sender = (refl, (refl, tt))

pub twice_reports : AcksAreReports twice
unfolding far ack_info report_of report_of_runs padded pair_bytes register_of register_answer answer_to is_duplicate in_window mark accept_of marks_after clear_up fresh runs inc falling
twice_reports = (
  record { ago = 3; says = record { reported = refl; same_through = refl; same_count = refl; same_pairs = refl } },
  (
    record { ago = 2; says = record { reported = refl; same_through = refl; same_count = refl; same_pairs = refl } },
    (record { ago = 0; says = record { reported = refl; same_through = refl; same_count = refl; same_pairs = refl } }, tt),
  ),
)

pub twice_settled : (answers (calls_of twice) ≡ 0 ∷ 0 ∷ 0 ∷ 0 ∷ 0 ∷ []) × (settled (calls_of twice) ≡ 1 ∷ 2 ∷ 0 ∷ []) × (outstanding (calls_of twice) ≡ [])
unfolding calls_of outstanding settled books entered booked answer_in highest_in highest_of outstanding_in unclosed sender_by called answer_by taken without keep call_answer numbers_of those resends_of among goes_below ack_numbers flags named whole_pairs run_sum any_outside
twice_settled = (refl, refl, refl)

-- ---- without its premises the claim would be false
-- an Ack block that no report says settles 1, which never arrived
abbrev forged : List Event
forged = call (ack 1 0 []) ∷ call (send 0) ∷ []

pub reports_needed : (settled (calls_of forged) ≡ 1 ∷ 0 ∷ []) × (registered forged 1 ≡ false)
unfolding calls_of settled books entered booked answer_in highest_in highest_of outstanding_in unclosed keep call_answer numbers_of those resends_of among goes_below ack_numbers flags named whole_pairs run_sum any_outside registered
reports_needed = (refl, refl)

-- 0 is settled from the start, and was not registered
pub above_zero_needed : (settled (calls_of []) ≡ 0 ∷ []) × (registered [] 0 ≡ false)
unfolding calls_of settled books registered
above_zero_needed = (refl, refl)

-- a report of what came from elsewhere is refused with 72
abbrev elsewhere : List Event
elsewhere = arrives 5 ∷ []

pub elsewhere_report : Reported elsewhere 5 0 (4 ∷ 1 ∷ [])
unfolding far ack_info report_of report_of_runs padded pair_bytes register_of register_answer answer_to is_duplicate in_window mark accept_of marks_after clear_up fresh runs inc falling
elsewhere_report = record { ago = 0; says = record { reported = refl; same_through = refl; same_count = refl; same_pairs = refl } }

pub elsewhere_refused : (called (sender_by (calls_of elsewhere)) (ack 5 0 (4 ∷ 1 ∷ []))).answer ≡ 72
unfolding calls_of sender_by called answer_by call_answer numbers_of among goes_below ack_numbers flags named whole_pairs run_sum any_outside
elsewhere_refused = refl
