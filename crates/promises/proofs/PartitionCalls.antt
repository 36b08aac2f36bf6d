-- The partition of the calls, carried over from the sender by the calls' promises. Assumes nothing.
use mathlib.Core.Path.{◌≡◌, sym, ap, ◌∙◌}
use mathlib.Core.List.{List, ◌++◌}
use Prim.Native.Nat.{ℕ}
use native.Mathlib.Omega.{arith}
use lib.ListN.{length, get_or}
use Rattle.wire.proofs.Slices.{part_alike}
use Rattle.sender.specs.Sizes.{sender_size}
use Rattle.sender.specs.Sender.{Packet, Sender, Call, called}
use Rattle.sender.specs.History.{outstanding_in, books, given_out, settled, sender_by, any_of}
use Rattle.sender.specs.Recorded.{no_packet, sender_at, packet_row, record_by}
use Rattle.sender.proofs.InPlace.{Holds, held, new_zeros, answer_there_lem, given_there_lem, settled_there_lem, count_there, row_there}
use Rattle.promises.specs.PartitionCalls.{SenderStarts, SenderTells, PartitionCalls}
use Rattle.promises.proofs.Partition.{exactly_one, answered_by_history}

pub sender_starts : SenderStarts
sender_starts = (part_alike 0 sender_size 0 sender_size (omega arith), λ rec long. new_zeros rec (omega arith))

-- a record that holds the sender of a history
module _ (rec : List ℕ) (h : List Call) (left : List ℕ) (k : Holds rec left (sender_by h)) where
  out : (sender_at left).packets ≡ outstanding_in (books h)
  out = ap (λ (s : Sender). s.packets) k.is ∙ (exactly_one h).listed

  tells : SenderTells rec h left
  tells =
      record {
        accounted = exactly_one h;
        listed = out;
        count = count_there left k.long ∙ ap length out;
        reads = λ i row b.
            row_there left k.long i row (rw out b) ∙ ap (λ (ps : List Packet). packet_row (get_or ps i no_packet)) out;
        answers = λ c. answer_there_lem left k.long c ∙ ap (λ (s : Sender). (called s c).answer) k.is ∙ (answered_by_history h c).by_history;
        gives = λ c.
            (answered_by_history h c).gives
            ∙ ap (λ (n : ℕ). given_out h ++ any_of n) (sym (given_there_lem left k.long c ∙ ap (λ (s : Sender). (called s c).given) k.is));
        settles = λ c.
            (answered_by_history h c).settles
            ∙ ap (λ (l : List ℕ). l ++ settled h) (sym (settled_there_lem left k.long c ∙ ap (λ (s : Sender). (called s c).settled) k.is));
        behind = (k.size, k.behind);
      }

pub partition_calls : PartitionCalls
partition_calls rec h zeros w = tells rec h (record_by rec h) (held rec zeros h w)
