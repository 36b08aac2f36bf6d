-- The inputs that show how request P5 is read, computed. Assumes nothing.
use mathlib.Core.Path.{refl}
use Rattle.wire.specs.Parts.{same}
use Rattle.reassembly.specs.Memory.{remembers, remember, is_due, forget}
use Rattle.reassembly.specs.Store.{id_of, number_of, final_of, piece_bytes, find_id, find_free, slot_of, message_or, plus, bad_length, bad_number, repeats, clashes, too_much, complete, rebuilt_of, too_short, slots_refuse, answer, slots_step, step, swept_one, slots_sweep}
use Rattle.reassembly.specs.Runs.{answered}
use Rattle.reassembly.specs.Readings.{Readings}

pub readings : Readings
unfolding answered step remembers remember is_due forget slots_step answer slots_refuse slot_of find_id find_free message_or plus bad_length bad_number repeats clashes too_much complete rebuilt_of too_short id_of number_of final_of piece_bytes slots_sweep swept_one same
readings =
    record {
      at_5_1 = refl;
      at_5_1_full = refl;
      at_5_2 = refl;
      at_5_3 = refl;
      at_5_4 = refl;
      at_5_5 = refl;
      at_5_6 = refl;
      at_5_7 = refl;
      at_5_8 = refl;
      at_5_9 = refl;
      at_5_10 = refl;
      at_5_13 = refl;
      at_5_14 = refl;
      at_5_15 = refl;
    }
