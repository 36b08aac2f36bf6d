-- Packets that an Ack block does not name.
use Rattle.std.specs.Prelude.{◌≡◌, false, List, ℕ, ◌<◌}
use Rattle.acks.specs.History.{among}
use Rattle.acks.specs.Expanding.{ack_numbers}
use Rattle.sender.specs.Recorded.{packet_at}

-- none of the first k packets of a record is named
abbrev pub Unnamed : ℕ → ℕ → List ℕ → List ℕ → ℕ → Type 0
Unnamed through count pairs rec k = (j : ℕ) → j < k → among (ack_numbers through count pairs) (packet_at rec j).number ≡ false
