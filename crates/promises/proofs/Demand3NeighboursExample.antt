-- Two fair neighbours that use one id at the same time, beside one that floods its slots and one with the number 9: the premises of demand 3 hold of both, and what
-- comes of it. Assumes nothing.
use mathlib.Core.Path.{◌≡◌, refl}
use mathlib.Core.Bool.{true}
use mathlib.Core.List.{List, [], ◌∷◌}
use Prim.Native.Nat.{ℕ, ◌<◌}
use native.Mathlib.Omega.{arith}
use lib.ListN.{length, get_or}
use Rattle.wire.specs.Parts.{same}
use Rattle.reassembly.specs.Sizes.{message_size, most_remembered}
use Rattle.reassembly.specs.Memory.{remembers, remember, is_due, forget}
use Rattle.reassembly.specs.Store.{first, follow, new_store, id_of, number_of, final_of, piece_bytes, find_id, find_free, slot_of, message_or, plus, bad_length, bad_number, repeats, clashes, too_much, complete, rebuilt_of, too_short, slots_refuse, answer, slots_step, step, swept_one, slots_sweep}
use Rattle.reassembly.specs.Neighbours.{Neighbours, store_of, is_open_in, recounted, answer_from, step_from, sweep_all}
use Rattle.reassembly.specs.Acts.{Act, sends, sweeps, act_answer, act_said, acts_said, acts_left, heard}
use Rattle.promises.specs.Demand3.{Cut, Within, piece_of, no_cut, Event, deliver, sweep_at, begun, done, is_open, marked, untouched, tallied, start, note, Schedule}
use Rattle.promises.specs.Demand3Neighbours.{call_of, Sends, Begins, FulfilledFor}
use Rattle.promises.proofs.Demand3Neighbours.{demand3}
use Rattle.promises.proofs.Demand3Tests.{all_below_lem, within_test, within_of, allowed_test, own_test, orderly_test, schedule_test, schedule_of}
use Rattle.promises.proofs.Demand3Example.{says, brings, remembering}

-- Neighbour 2 remembers a message that finished before.
abbrev before : Neighbours
before = record { stores = new_store ∷ new_store ∷ remembering (record { id = 5; second = 90 } ∷ []) ∷ new_store ∷ []; summary = 0 ∷ 0 ∷ 0 ∷ 0 ∷ [] }

-- neighbour 1's message
abbrev pub ones : List Cut
ones = record { id = 7; kind = 20; expires = 900; pieces = (1 ∷ 2 ∷ []) ∷ (3 ∷ []) ∷ (4 ∷ 5 ∷ []) ∷ [] } ∷ []

-- neighbour 2's, the first with the same id
abbrev pub twos : List Cut
twos =
    record { id = 7; kind = 1; expires = 901; pieces = (6 ∷ []) ∷ (7 ∷ []) ∷ [] }
    ∷ record { id = 8; kind = 2; expires = 902; pieces = (8 ∷ []) ∷ (9 ∷ []) ∷ [] }
    ∷ []

-- their pieces, each with a repeat, a late repeat and the sweep
abbrev pub ones_come : List Event
ones_come = deliver 0 0 100 ∷ deliver 0 2 102 ∷ deliver 0 0 104 ∷ deliver 0 1 106 ∷ sweep_at 131 ∷ deliver 0 1 132 ∷ []

abbrev pub twos_come : List Event
twos_come = deliver 0 1 100 ∷ deliver 1 0 103 ∷ deliver 0 1 103 ∷ deliver 0 0 105 ∷ sweep_at 131 ∷ deliver 0 0 132 ∷ deliver 1 1 133 ∷ []

-- a piece of theirs
abbrev one : ℕ → ℕ → Act
one i second = sends 1 message_size (piece_of (get_or ones 0 no_cut) i) second

abbrev two : ℕ → ℕ → ℕ → Act
two c i second = sends 2 message_size (piece_of (get_or twos c no_cut) i) second

-- a piece of the neighbour that floods: it opens the message `id`
abbrev flood : ℕ → ℕ → Act
flood id second = sends 0 0 (first id 1 9 (id ∷ [])) second

-- What all four send, and number 9.
abbrev all : List Act
all =
    flood 1 99 ∷ one 0 100 ∷ two 0 1 100 ∷ flood 2 101 ∷ flood 3 101 ∷ flood 4 101 ∷ flood 7 101 ∷ one 2 102
    ∷ sends 9 message_size (follow 7 1 true (9 ∷ [])) 102 ∷ two 1 0 103 ∷ two 0 1 103 ∷ flood 8 103 ∷ one 0 104
    ∷ sends 0 message_size (follow 7 1 true (9 ∷ [])) 104 ∷ two 0 0 105 ∷ one 1 106 ∷ sweeps 131 ∷ flood 7 131 ∷ one 1 132 ∷ two 0 0 132 ∷ two 1 1 133 ∷ []

-- ---- the premises

ones_sent : Sends 1 message_size ones all ones_come
unfolding call_of
ones_sent = refl

twos_sent : Sends 2 message_size twos all twos_come
unfolding call_of
twos_sent = refl

ones_begin : Begins 1 before
ones_begin = record { stores_four = refl; numbers_four = refl; begins_empty = refl; begins_zero = refl }

twos_begin : Begins 2 before
twos_begin = record { stores_four = refl; numbers_four = refl; begins_empty = refl; begins_zero = refl }

pub ones_within : (c : ℕ) → c < length ones → Within (get_or ones c no_cut)
unfolding within_test
ones_within c h = within_of (get_or ones c no_cut) (all_below_lem 1 (λ c. within_test (get_or ones c no_cut)) refl c h)

pub twos_within : (c : ℕ) → c < length twos → Within (get_or twos c no_cut)
unfolding within_test
twos_within c h = within_of (get_or twos c no_cut) (all_below_lem 2 (λ c. within_test (get_or twos c no_cut)) refl c h)

pub ones_keep_rules : Schedule 4 most_remembered ones (start ones (store_of before 1).remembered) ones_come
unfolding schedule_test allowed_test orderly_test own_test untouched tallied note marked begun done is_open remembers remember is_due forget
ones_keep_rules = schedule_of 4 most_remembered ones ones_come (start ones (store_of before 1).remembered) refl

twos_keep_rules : Schedule 4 most_remembered twos (start twos (store_of before 2).remembered) twos_come
unfolding schedule_test allowed_test orderly_test own_test untouched tallied note marked begun done is_open remembers remember is_due forget
twos_keep_rules = schedule_of 4 most_remembered twos twos_come (start twos (store_of before 2).remembered) refl

-- ---- what comes of them

pub example_one : FulfilledFor 1 ones before all ones_come
example_one = demand3 message_size (omega arith) 1 (omega arith) ones ones_within before ones_begin ones_come ones_keep_rules all ones_sent

pub example_two : FulfilledFor 2 twos before all twos_come
example_two = demand3 message_size (omega arith) 2 (omega arith) twos twos_within before twos_begin twos_come twos_keep_rules all twos_sent

-- and what all hear, computed
pub example_heard :
    (heard 1 all (acts_said before all) ≡ says 0 ∷ says 0 ∷ says 54 ∷ brings 20 900 (1 ∷ 2 ∷ 3 ∷ 4 ∷ 5 ∷ []) ∷ says 0 ∷ says 57 ∷ [])
    × (heard 2 all (acts_said before all) ≡ says 0 ∷ says 0 ∷ says 54 ∷ brings 1 901 (6 ∷ 7 ∷ []) ∷ says 0 ∷ says 57 ∷ brings 2 902 (8 ∷ 9 ∷ []) ∷ [])
    -- who floods meets 52, of others' ids too, until the sweep
    × (heard 0 all (acts_said before all) ≡ says 0 ∷ says 0 ∷ says 0 ∷ says 0 ∷ says 52 ∷ says 52 ∷ says 52 ∷ says 0 ∷ says 0 ∷ [])
    × (heard 9 all (acts_said before all) ≡ says 58 ∷ says 0 ∷ [])
    × ((acts_left before all).summary ≡ 1 ∷ 0 ∷ 0 ∷ 0 ∷ [])
unfolding act_answer act_said step_from answer_from recounted is_open_in sweep_all step remembers remember is_due forget slots_step answer slots_refuse slot_of find_id find_free message_or plus bad_length bad_number repeats clashes too_much complete rebuilt_of too_short id_of number_of final_of piece_bytes slots_sweep swept_one same
example_heard = (refl, refl, refl, refl, refl)
