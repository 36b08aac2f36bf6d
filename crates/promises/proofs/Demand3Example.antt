-- Schedules that keep the rules of demand 3, found so by computation, and what comes of them. Assumes nothing.
use mathlib.Core.Path.{◌≡◌, refl}
use mathlib.Core.List.{List, [], ◌∷◌, ◌++◌}
use mathlib.Core.Option.{none, some}
use Prim.Native.Nat.{ℕ, zero, suc, ◌<◌}
use native.Mathlib.Omega.{arith}
use lib.ListN.{length, get_or, drop, replicate}
use Rattle.wire.specs.Parts.{same}
use Rattle.reassembly.specs.Sizes.{message_size, most_remembered}
use Rattle.wire.specs.Series.{series}
use Rattle.reassembly.specs.Memory.{Memory, remembers, remember, is_due, forget}
use Rattle.reassembly.specs.Store.{Store, empty, new_store, id_of, number_of, final_of, piece_bytes, find_id, find_free, slot_of, message_or, plus, bad_length, bad_number, repeats, clashes, too_much, complete, rebuilt_of, too_short, slots_refuse, answer, slots_step, step, swept_one, slots_sweep}
use Rattle.reassembly.specs.Runs.{Said, said_of}
use Rattle.promises.specs.Demand3.{Cut, Within, no_cut, Event, deliver, sweep_at, begun, done, is_open, marked, untouched, tallied, start, note, Schedule, act, said, store_after, Fulfilled}
use Rattle.promises.proofs.Demand3.{demand3_for}
use Rattle.promises.proofs.Demand3Tests.{all_below_lem, within_test, within_of, allowed_test, own_test, orderly_test, schedule_test, schedule_of}

-- a number, and no message
abbrev pub says : ℕ → Said
says n = record { number = n; out = none }

-- a message comes out
abbrev pub brings : ℕ → ℕ → List ℕ → Said
brings kind expires bytes = record { number = 60; out = some (record { kind = kind; expires = expires; bytes = bytes }) }

-- a store in which no message is open
abbrev pub remembering : Memory → Store
remembering fs = record { slots = empty; remembered = fs }

-- ---- 4 slots, 16 remembered

-- Three messages, the third with the id of the first.
abbrev pub three_cuts : List Cut
three_cuts =
    record { id = 7; kind = 20; expires = 900; pieces = (1 ∷ 2 ∷ []) ∷ (3 ∷ []) ∷ (4 ∷ 5 ∷ []) ∷ [] }
    ∷ record { id = 9; kind = 1; expires = 901; pieces = (6 ∷ []) ∷ (7 ∷ []) ∷ [] }
    ∷ record { id = 7; kind = 2; expires = 902; pieces = (8 ∷ []) ∷ (9 ∷ []) ∷ [] }
    ∷ []

-- They are mixed, with a repeat, pieces out of order, late repeats, and a sweep at 170 that forgets 7, so that it may be used anew.
abbrev pub mixture : List Event
mixture =
    deliver 0 0 100 ∷ deliver 0 2 101 ∷ deliver 1 1 120 ∷ deliver 0 0 121 ∷ sweep_at 129 ∷ deliver 0 1 140 ∷ deliver 0 2 141
    ∷ sweep_at 149 ∷ deliver 1 0 150 ∷ sweep_at 170 ∷ deliver 2 0 171 ∷ deliver 1 1 172 ∷ deliver 2 1 173 ∷ deliver 0 0 174 ∷ []

-- What is remembered after them.
abbrev pub left_behind : Memory
left_behind = record { id = 9; second = 150 } ∷ record { id = 7; second = 173 } ∷ []

pub within_limits : (c : ℕ) → c < length three_cuts → Within (get_or three_cuts c no_cut)
unfolding within_test
within_limits c h = within_of (get_or three_cuts c no_cut) (all_below_lem 3 (λ c. within_test (get_or three_cuts c no_cut)) refl c h)

-- The rules are kept from a new store on, and once more on what was left, after a sweep that forgets it.
pub keeps_rules : Schedule 4 most_remembered three_cuts (start three_cuts []) mixture
unfolding schedule_test allowed_test orderly_test own_test untouched tallied note marked begun done is_open remembers remember is_due forget
keeps_rules = schedule_of 4 most_remembered three_cuts mixture (start three_cuts []) refl

pub keeps_rules_again : Schedule 4 most_remembered three_cuts (start three_cuts left_behind) (sweep_at 300 ∷ mixture)
unfolding schedule_test allowed_test orderly_test own_test untouched tallied note marked begun done is_open remembers remember is_due forget
keeps_rules_again = schedule_of 4 most_remembered three_cuts (sweep_at 300 ∷ mixture) (start three_cuts left_behind) refl

pub example : Fulfilled 4 most_remembered message_size three_cuts new_store mixture
example = demand3_for 4 most_remembered message_size (omega arith) three_cuts within_limits new_store refl mixture keeps_rules

pub example_again : Fulfilled 4 most_remembered message_size three_cuts (remembering left_behind) (sweep_at 300 ∷ mixture)
example_again = demand3_for 4 most_remembered message_size (omega arith) three_cuts within_limits (remembering left_behind) refl (sweep_at 300 ∷ mixture) keeps_rules_again

-- and what the store says of it, and remembers, computed
pub example_said :
    (said most_remembered message_size three_cuts new_store mixture
    ≡ says 0 ∷ says 0 ∷ says 0 ∷ says 54 ∷ says 0 ∷ brings 20 900 (1 ∷ 2 ∷ 3 ∷ 4 ∷ 5 ∷ []) ∷ says 57
    ∷ says 0 ∷ brings 1 901 (6 ∷ 7 ∷ []) ∷ says 0 ∷ says 0 ∷ says 57 ∷ brings 2 902 (8 ∷ 9 ∷ []) ∷ says 57 ∷ [])
    × (store_after most_remembered message_size three_cuts new_store mixture ≡ remembering left_behind)
unfolding act said_of step remembers remember is_due forget slots_step answer slots_refuse slot_of find_id find_free message_or plus bad_length bad_number repeats clashes too_much complete rebuilt_of too_short id_of number_of final_of piece_bytes slots_sweep swept_one same
example_said = (refl, refl)

-- ---- 4 slots, 2 remembered

-- Five messages, of which 7 and 9 come twice.
abbrev five_cuts : List Cut
five_cuts =
    record { id = 7; kind = 20; expires = 900; pieces = (1 ∷ 2 ∷ []) ∷ (3 ∷ []) ∷ [] }
    ∷ record { id = 8; kind = 1; expires = 901; pieces = (4 ∷ []) ∷ (5 ∷ []) ∷ [] }
    ∷ record { id = 9; kind = 2; expires = 902; pieces = (6 ∷ []) ∷ (7 ∷ []) ∷ [] }
    ∷ record { id = 7; kind = 3; expires = 903; pieces = (8 ∷ []) ∷ (9 ∷ []) ∷ [] }
    ∷ record { id = 9; kind = 4; expires = 904; pieces = (10 ∷ []) ∷ (11 ∷ []) ∷ [] }
    ∷ []

-- 5 was finished before.
abbrev finished_before : Memory
finished_before = record { id = 5; second = 50 } ∷ []

-- 8 pushes out 5; 9 finishes by a clock that went back, and pushes out 7; the sweep at 121 forgets 9 and keeps 8.
abbrev pushing_out : List Event
pushing_out =
    deliver 0 1 100 ∷ deliver 0 1 100 ∷ deliver 0 0 100 ∷ deliver 0 0 101 ∷ deliver 1 0 102 ∷ deliver 0 1 103 ∷ deliver 1 1 104
    ∷ deliver 2 0 90 ∷ deliver 2 1 91 ∷ deliver 3 0 105 ∷ deliver 1 0 106 ∷ sweep_at 121 ∷ deliver 1 1 122
    ∷ deliver 4 0 123 ∷ deliver 3 1 124 ∷ deliver 4 1 125 ∷ deliver 4 0 126 ∷ []

five_within : (c : ℕ) → c < length five_cuts → Within (get_or five_cuts c no_cut)
unfolding within_test
five_within c h = within_of (get_or five_cuts c no_cut) (all_below_lem 5 (λ c. within_test (get_or five_cuts c no_cut)) refl c h)

five_keep_rules : Schedule 4 2 five_cuts (start five_cuts finished_before) pushing_out
unfolding schedule_test allowed_test orderly_test own_test untouched tallied note marked begun done is_open remembers remember is_due forget
five_keep_rules = schedule_of 4 2 five_cuts pushing_out (start five_cuts finished_before) refl

pub example_two : Fulfilled 4 2 message_size five_cuts (remembering finished_before) pushing_out
example_two = demand3_for 4 2 message_size (omega arith) five_cuts five_within (remembering finished_before) refl pushing_out five_keep_rules

pub example_two_said :
    (said 2 message_size five_cuts (remembering finished_before) pushing_out
    ≡ says 0 ∷ says 54 ∷ brings 20 900 (1 ∷ 2 ∷ 3 ∷ []) ∷ says 57 ∷ says 0 ∷ says 57 ∷ brings 1 901 (4 ∷ 5 ∷ [])
    ∷ says 0 ∷ brings 2 902 (6 ∷ 7 ∷ []) ∷ says 0 ∷ says 57 ∷ says 0 ∷ says 57
    ∷ says 0 ∷ brings 3 903 (8 ∷ 9 ∷ []) ∷ brings 4 904 (10 ∷ 11 ∷ []) ∷ says 57 ∷ [])
    × (store_after 2 message_size five_cuts (remembering finished_before) pushing_out ≡ remembering (record { id = 7; second = 124 } ∷ record { id = 9; second = 125 } ∷ []))
unfolding act said_of step remembers remember is_due forget slots_step answer slots_refuse slot_of find_id find_free message_or plus bad_length bad_number repeats clashes too_much complete rebuilt_of too_short id_of number_of final_of piece_bytes slots_sweep swept_one same
example_two_said = (refl, refl)

-- ---- 4 slots, 16 remembered, 17 messages and two more

-- a message of two pieces
abbrev two_pieces : ℕ → Cut
two_pieces id = record { id = id; kind = 1; expires = 9; pieces = (id ∷ []) ∷ (id ∷ []) ∷ [] }

-- ids from 0 to 16, then 0 and 5 once more
abbrev pub many_cuts : List Cut
many_cuts = series two_pieces 0 17 ++ (two_pieces 0 ∷ two_pieces 5 ∷ [])

-- n messages of the list come, from c on
abbrev in_turn : ℕ → ℕ → List Event
in_turn zero c = []
in_turn (suc n) c = deliver c 0 0 ∷ deliver c 1 0 ∷ in_turn n (suc c)

-- The 17th pushes out 0, and no other: a piece of 1 is a late repeat still, and 0 may be used anew. The sweep forgets all of them, so that 5 may be, too.
abbrev pub seventeen : List Event
seventeen =
    in_turn 17 0
    ++ (deliver 1 0 0 ∷ deliver 17 0 0 ∷ deliver 17 1 0 ∷ deliver 5 1 29 ∷ sweep_at 30 ∷ deliver 18 0 30 ∷ deliver 18 1 30 ∷ deliver 5 1 31 ∷ [])

pub many_within : (c : ℕ) → c < length many_cuts → Within (get_or many_cuts c no_cut)
unfolding within_test
many_within c h = within_of (get_or many_cuts c no_cut) (all_below_lem 19 (λ c. within_test (get_or many_cuts c no_cut)) refl c h)

pub many_keep_rules : Schedule 4 most_remembered many_cuts (start many_cuts []) seventeen
unfolding schedule_test allowed_test orderly_test own_test untouched tallied note marked begun done is_open remembers remember is_due forget
many_keep_rules = schedule_of 4 most_remembered many_cuts seventeen (start many_cuts []) refl

pub example_many : Fulfilled 4 most_remembered message_size many_cuts new_store seventeen
example_many = demand3_for 4 most_remembered message_size (omega arith) many_cuts many_within new_store refl seventeen many_keep_rules

pub example_many_said : drop 34 (said most_remembered message_size many_cuts new_store seventeen) ≡ says 57 ∷ says 0 ∷ brings 1 9 (0 ∷ 0 ∷ []) ∷ says 57 ∷ says 0 ∷ says 0 ∷ brings 1 9 (5 ∷ 5 ∷ []) ∷ says 57 ∷ []
unfolding act said_of step remembers remember is_due forget slots_step answer slots_refuse slot_of find_id find_free message_or plus bad_length bad_number repeats clashes too_much complete rebuilt_of too_short id_of number_of final_of piece_bytes slots_sweep swept_one same
example_many_said = refl

-- ---- without its premises demand 3 would be false

abbrev one_id : List Cut
one_id =
    record { id = 7; kind = 20; expires = 900; pieces = (1 ∷ []) ∷ (2 ∷ []) ∷ [] }
    ∷ record { id = 7; kind = 1; expires = 900; pieces = (3 ∷ []) ∷ (4 ∷ []) ∷ [] }
    ∷ []

pub premises_needed :
    -- two open messages with one id: the second's first piece is 55, where 0 is due
    (said most_remembered message_size one_id new_store (deliver 0 0 100 ∷ deliver 1 0 101 ∷ []) ≡ says 0 ∷ says 55 ∷ [])
    -- an id is used anew while it is remembered: 57, where 0 is due
    × (said most_remembered message_size one_id new_store (deliver 0 0 100 ∷ deliver 0 1 101 ∷ deliver 1 0 102 ∷ []) ≡ says 0 ∷ brings 20 900 (1 ∷ 2 ∷ []) ∷ says 57 ∷ [])
    -- a late repeat when its id is forgotten: it is kept, and a ghost is open, where 57 is due
    × (said most_remembered message_size one_id new_store (deliver 0 0 100 ∷ deliver 0 1 101 ∷ sweep_at 131 ∷ deliver 0 1 132 ∷ []) ≡ says 0 ∷ brings 20 900 (1 ∷ 2 ∷ []) ∷ says 0 ∷ says 0 ∷ [])
    -- one more open than there are slots: 52, where 0 is due
    × (said most_remembered message_size many_cuts (record { slots = replicate 2 none; remembered = [] }) (deliver 0 0 0 ∷ deliver 1 0 0 ∷ deliver 2 0 0 ∷ []) ≡ says 0 ∷ says 0 ∷ says 52 ∷ [])
unfolding act said_of step remembers remember is_due forget slots_step answer slots_refuse slot_of find_id find_free message_or plus bad_length bad_number repeats clashes too_much complete rebuilt_of too_short id_of number_of final_of piece_bytes slots_sweep swept_one same
premises_needed = (refl, refl, refl, refl)
