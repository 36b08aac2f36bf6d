-- Packets given out are outstanding, settled or given up, each number in exactly one of the three; proved. Assumes nothing.
use Rattle.promises.specs.Partition.{ExactlyOne, Stays, AnsweredByHistory}
use Rattle.sender.proofs.Histories as Histories

pub exactly_one : ExactlyOne
exactly_one h =
    record {
      one_of_three = Histories.one_of_three h;
      given_once = Histories.given_once h;
      last_number_lem = Histories.at_most_last h;
      zero_settled = Histories.zero_settled h;
      listed = Histories.packets_are h;
      rising = Histories.out_rise h;
      at_most = Histories.at_most h;
    }

pub stays : Stays
stays h c n = Histories.stays h c n

pub answered_by_history : AnsweredByHistory
answered_by_history h c =
    record {
      by_history = Histories.answered h c;
      gives = Histories.returned h c;
      next_number = Histories.next_number h c;
      never_twice = Histories.never_twice h c;
      settles = Histories.settles h c;
    }
