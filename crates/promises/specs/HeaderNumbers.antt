-- Reading and writing a header by numbers are inverse: what strawhub_header_read lends can be handed to strawhub_header_write, and the other way.
use Rattle.std.specs.Prelude.{◌≡◌, List, ℕ, ◌≤◌, length}
use Rattle.wire.specs.Numbers.{Bytes}
use Rattle.header.specs.Kinds.{need_of}
use Rattle.header.specs.Unmasking.{packet_kind}
use Rattle.header.specs.Reading.{header_answer, packet_after_read}
use Rattle.header.specs.Writing.{write_number, plain, packet_after_write}
use Rattle.header.specs.RoundTrip.{UnnamedBitsZero, own}
use Rattle.numbers.specs.Headers.{answer_number, answer_numbers, fields_from, numbers_of, NumbersInWidth}

-- what strawhub_header_read answers
abbrev pub read_answer : List ℕ → List ℕ → List ℕ → ℕ
read_answer k1 k2 p = answer_number (header_answer k1 k2 p)

-- the numbers lent to it, afterwards
abbrev pub lent_numbers : List ℕ → List ℕ → List ℕ → List ℕ → List ℕ
lent_numbers k1 k2 p out = answer_numbers (header_answer k1 k2 p) out

-- what strawhub_header_write answers for eleven numbers
abbrev pub write_answer : List ℕ → List ℕ → ℕ
write_answer n p = write_number (fields_from n) (length p)

-- the packet afterwards
abbrev pub write_packet : List ℕ → List ℕ → List ℕ → List ℕ → List ℕ
write_packet k1 k2 n p = packet_after_write k1 k2 (fields_from n) p

-- both ways, and that what is read can be handed over
pub record HeaderNumbers : Type 0 where
  -- each number of a packet that was read fits its parameter of the writing call
  pub in_width : (k1 k2 p out : List ℕ) → Bytes p → read_answer k1 k2 p ≡ 0 → NumbersInWidth (lent_numbers k1 k2 p out)
  -- these numbers, written over the packet that reading left, give 0 and the packet that came, where no unnamed bit is set and writing has its length
  pub read_written :
      (k1 k2 p out : List ℕ) → Bytes p → read_answer k1 k2 p ≡ 0 → UnnamedBitsZero (packet_after_read k1 k2 p) → need_of (packet_kind (packet_after_read k1 k2 p)) ≤ length p
      → (write_answer (lent_numbers k1 k2 p out) (packet_after_read k1 k2 p) ≡ 0) × (write_packet k1 k2 (lent_numbers k1 k2 p out) (packet_after_read k1 k2 p) ≡ p)
  -- numbers that were written, read again: those that the type has, the others 0, the key's place; and the plain packet
  pub written_read :
      (k1 k2 n p out : List ℕ) → NumbersInWidth n → write_answer n p ≡ 0
      → (read_answer k1 k2 (write_packet k1 k2 n p) ≡ 0)
      × (lent_numbers k1 k2 (write_packet k1 k2 n p) out ≡ numbers_of (own (fields_from n)))
      × (packet_after_read k1 k2 (write_packet k1 k2 n p) ≡ plain (fields_from n) p)
