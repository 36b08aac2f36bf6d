-- The marked cases that speak of a tracker, its report and what an acknowledgement names, (c) and (h) to (k), computed. Assumes nothing.
use mathlib.Core.Path.{◌≡◌, refl}
use mathlib.Core.Bool.{true}
use mathlib.Core.List.{[], ◌∷◌}
use Rattle.acks.specs.Window.{falling, in_window}
use Rattle.acks.specs.History.{answer_to}
use Rattle.acks.specs.Tracking.{fresh, mark, is_duplicate, clear_up, marks_after, accept_of, register_answer, register_of, register_all}
use Rattle.acks.specs.Runs.{inc, runs, flags, named, whole_pairs}
use Rattle.acks.specs.Reporting.{report_of_runs, report_of, ack_info}
use Rattle.acks.specs.Expanding.{ack_numbers}

-- (c)
pub case_c_lem : ack_numbers 10 2 (1 ∷ 3 ∷ []) ≡ 10 ∷ 9 ∷ 8 ∷ 6 ∷ 5 ∷ 4 ∷ []
unfolding ack_numbers named flags whole_pairs
case_c_lem = refl

-- (h)
pub case_h_lem : ack_info (register_all fresh (5 ∷ [])) ≡ report_of_runs 5 (0 ∷ 4 ∷ 1 ∷ [])
unfolding ack_info report_of register_all register_of register_answer answer_to is_duplicate in_window mark accept_of marks_after clear_up fresh runs inc falling
case_h_lem = refl

-- (i)
pub case_i_lem : ack_info (register_all fresh (4 ∷ 2 ∷ [])) ≡ report_of_runs 4 (0 ∷ 1 ∷ 1 ∷ 1 ∷ 1 ∷ [])
unfolding ack_info report_of register_all register_of register_answer answer_to is_duplicate in_window mark accept_of marks_after clear_up fresh runs inc falling
case_i_lem = refl

-- (j)
pub case_j_lem : (register_of fresh 256).answer ≡ 40
unfolding register_of register_answer answer_to fresh
case_j_lem = refl

-- where both hold, 42 is given: 45 was received, and the window that ends at 300 begins at 46
pub late_first : answer_to 300 (λ k. true) 45 ≡ 42
unfolding answer_to
late_first = refl

-- (k)
pub case_k_lem : ack_info (register_all fresh (255 ∷ [])) ≡ report_of_runs 255 (0 ∷ 254 ∷ 0 ∷ [])
unfolding ack_info report_of register_all register_of register_answer answer_to is_duplicate in_window mark accept_of marks_after clear_up fresh runs inc falling
case_k_lem = refl
