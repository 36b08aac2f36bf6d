-- One turn of the loop that fills a list with what the pairs name, for pairs taken off the front. Assumes nothing.
use Rattle.std.proofs.Common.{◌≡◌, ℕ, ◌+◌, ◌-◌, ◌<◌, ◌≤◌, List, length, take, drop, get_or, ◌∙◌, arith}
use Rattle.wire.specs.Parts.{splice}
use Rattle.acks.specs.Window.{falling}
use Rattle.acks.proofs.Named.{left}
use Rattle.acks.proofs.Filling.{Wrote, spends, room_left_lem, wrote_step}
use Rattle.acks_expand.proofs.Front.{Rest, first_is, second_is, pair_there, two_off, two_on, rest_on}

-- the next pair's numbers stay above 0 and in the list, and it is written with them
module _ (ps l0 : List ℕ) (place top : ℕ) (big : place + length (left ps 0 (top - 1)) ≤ length l0) (l : List ℕ) (at above i : ℕ) (rest : List ℕ)
    (s : Wrote ps l0 place top l at above i × Rest ps i rest) (h : 2 ≤ length rest)
    (nack ack : ℕ) (n : nack ≡ get_or rest 0 0) (a : ack ≡ get_or rest 1 0) where
  nack_is : nack ≡ get_or ps i 0
  nack_is = n ∙ first_is ps i rest s.1

  ack_is : ack ≡ get_or ps (i + 1) 0
  ack_is = a ∙ second_is ps i rest s.1

  there : i + 1 < length ps
  there = pair_there ps i rest s.1 h

  pub pair_spends : nack + ack ≤ above
  pair_spends = omega (arith, nack_is, ack_is, spends ps l0 place top big l at above i s.0 there)

  pub pair_fits : at + ack ≤ length l
  pair_fits = omega (arith, ack_is, room_left_lem ps l0 place top big l at above i s.0 there)

  -- what is left behind the pair, as the slice pattern cuts it
  abbrev after : List ℕ
  after = take (length rest - 2) (drop 2 rest)

  pub pair_written : (w : List ℕ) → w ≡ splice l at (falling (above - nack - 1) ack)
      → Wrote ps l0 place top w (at + ack) (above - nack - ack) (length ps - length after) × Rest ps (length ps - length after) after
  pair_written w q =
      rw (two_off ps i rest s.1, two_on ps i rest s.1 h, q, nack_is, ack_is)
      (wrote_step ps l0 place top big l at above i s.0 there, rest_on ps i rest s.1 h)
