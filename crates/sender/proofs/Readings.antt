-- The inputs that show how request P6 is read, computed. Assumes nothing.
use mathlib.Core.Path.{refl}
use Rattle.acks.specs.Window.{keep}
use Rattle.acks.specs.History.{highest_of, among}
use Rattle.acks.specs.Runs.{flags, named, whole_pairs, run_sum}
use Rattle.acks.specs.Expanding.{ack_numbers, goes_below}
use Rattle.sender.specs.Sender.{numbers_of, those, without, resends_of, any_outside, call_answer, answer_by, taken, number_given, settled_by, called}
use Rattle.sender.specs.History.{unclosed, outstanding_in, highest_in, answer_in, booked, entered, books, given_out, settled, given_up, sender_by, outstanding}
use Rattle.sender.specs.Readings.{Readings}

pub readings : Readings
unfolding sender_by called answer_by call_answer taken number_given settled_by numbers_of those without resends_of any_outside among keep ack_numbers goes_below flags named whole_pairs run_sum outstanding given_out settled given_up books entered booked answer_in highest_in highest_of outstanding_in unclosed
readings =
    record {
      at_6_1 = refl;
      at_6_1_again = refl;
      at_6_2_send = refl;
      at_6_2_resend = refl;
      at_6_2_other = refl;
      at_6_3 = refl;
      at_6_3_pairs = refl;
      at_6_3_stay = refl;
      at_6_4 = refl;
      at_6_5 = (refl, refl);
      at_6_5_stays = (refl, refl, refl);
      at_6_6 = (refl, refl);
      at_6_6_resend = refl;
      at_6_7 = (refl, refl);
      at_6_8 = (refl, refl);
      at_6_9_send = refl;
      at_6_9_resend = (refl, refl);
      at_6_11 = (refl, refl, refl, refl);
    }
