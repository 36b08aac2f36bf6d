-- Case (l) of document 01, computed. Assumes nothing.
use mathlib.Core.Path.{◌≡◌, refl}
use mathlib.Core.Bool.{true, false}
use mathlib.Core.List.{[], ◌∷◌}
use Rattle.wire.specs.Parts.{same}
use Rattle.reassembly.specs.Memory.{remembers, remember}
use Rattle.reassembly.specs.Store.{first, follow, new_store, step_numbers, id_of, number_of, final_of, piece_bytes, find_id, find_free, slot_of, message_or, plus, bad_length, bad_number, repeats, clashes, too_much, complete, rebuilt_of, too_short, slots_refuse, answer, slots_step, step}

-- Pieces 0, 2 last, 5, 1: 0, 0, 55, 60
pub case_l_lem :
    step_numbers new_store (first 1 20 9 (10 ∷ []) ∷ follow 1 2 true (12 ∷ []) ∷ follow 1 5 false (15 ∷ []) ∷ follow 1 1 false (11 ∷ []) ∷ [])
    ≡ 0 ∷ 0 ∷ 55 ∷ 60 ∷ []
unfolding step remembers remember slots_step answer slot_of find_id find_free message_or plus bad_length bad_number repeats clashes too_much complete rebuilt_of too_short slots_refuse id_of number_of final_of piece_bytes same
case_l_lem = refl
