-- The inputs that show how request P12 is read, computed. Assumes nothing.
use mathlib.Core.Path.{refl}
use Rattle.wire.specs.Parts.{same}
use Rattle.reassembly.specs.Memory.{remembers, remember, is_due, forget}
use Rattle.reassembly.specs.Store.{id_of, number_of, final_of, piece_bytes, find_id, find_free, slot_of, message_or, plus, bad_length, bad_number, repeats, clashes, too_much, complete, rebuilt_of, too_short, slots_refuse, answer, slots_step, step, swept_one, slots_sweep}
use Rattle.reassembly.specs.Neighbours.{is_open_in, recounted, answer_from, step_from, sweep_all}
use Rattle.reassembly.specs.Acts.{act_answer, act_said}
use Rattle.reassembly.specs.FairReadings.{FairReadings}

pub fair_readings : FairReadings
unfolding act_answer act_said step_from answer_from recounted is_open_in sweep_all step remembers remember is_due forget slots_step answer slots_refuse slot_of find_id find_free message_or plus bad_length bad_number repeats clashes too_much complete rebuilt_of too_short id_of number_of final_of piece_bytes slots_sweep swept_one same
fair_readings =
    record {
      at_12_1 = refl;
      at_12_2 = refl;
      at_12_3 = refl;
      at_12_4 = refl;
      at_12_6 = refl;
      at_12_10 = refl;
      at_12_10_left = refl;
    }
