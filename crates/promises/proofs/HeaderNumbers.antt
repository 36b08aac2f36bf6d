-- Reading and writing a header by numbers are inverse. Assumes nothing.
use mathlib.Core.Path.{◌≡◌, sym, ap, ap₂, ◌∙◌, subst}
use mathlib.Core.List.{List}
use Prim.Native.Nat.{ℕ, ◌≤◌}
use lib.ListN.{length}
use Rattle.wire.specs.Numbers.{Bytes}
use Rattle.std.specs.Prelude.{Result}
use Rattle.header.specs.declared.HeaderKind.{HeaderKind}
use Rattle.header.specs.declared.Fields.{Fields}
use Rattle.header.specs.Kinds.{need_of}
use Rattle.header.specs.Unmasking.{packet_kind, unmasked}
use Rattle.header.specs.Reading.{header_at, header_answer, packet_after_read}
use Rattle.header.specs.Writing.{write_number, plain, packet_after_write}
use Rattle.header.specs.RoundTrip.{UnnamedBitsZero, own, header_fields}
use Rattle.header.proofs.Refusals.{write_given}
use Rattle.header.proofs.RoundTrip.{written_is_read, read_is_written}
use Rattle.header.proofs.Widths.{read_fits, read_left, length_left, write_left}
use Rattle.numbers.specs.Headers.{answer_number, answer_numbers, fields_from, numbers_of, NumbersInWidth}
use Rattle.numbers.proofs.HeaderLaws.{fields_from_lem, numbers_shown, in_width_long, kind_in_width, answer_number_lem, answer_numbers_lem}
use Rattle.promises.specs.HeaderNumbers.{read_answer, lent_numbers, write_answer, write_packet, HeaderNumbers}

module _ (k1 k2 p out : List ℕ) (bytes : Bytes p) (taken : read_answer k1 k2 p ≡ 0) where
  passes : NumbersInWidth (lent_numbers k1 k2 p out)
  passes =
      let e = sym (answer_number_lem k1 k2 p) ∙ taken in
      let w = read_fits k1 k2 p e bytes in
      rw (answer_numbers_lem k1 k2 p out e) (kind_in_width (header_at (unmasked k1 k2 p)) w.0 w.1)

  writes :
      UnnamedBitsZero (packet_after_read k1 k2 p) → need_of (packet_kind (packet_after_read k1 k2 p)) ≤ length p
      → (write_answer (lent_numbers k1 k2 p out) (packet_after_read k1 k2 p) ≡ 0) × (write_packet k1 k2 (lent_numbers k1 k2 p out) (packet_after_read k1 k2 p) ≡ p)
  writes others need =
      let e = sym (answer_number_lem k1 k2 p) ∙ taken in
      let u = unmasked k1 k2 p in
      let left = read_left k1 k2 p e in
      let long = length_left k1 k2 p e in
      let fields : fields_from (lent_numbers k1 k2 p out) ≡ header_fields (header_at u) = ap fields_from (answer_numbers_lem k1 k2 p out e) ∙ fields_from_lem (header_at u) in
      let both = read_is_written k1 k2 p bytes e (subst UnnamedBitsZero left others) (subst (λ (q : List ℕ). need_of (packet_kind q) ≤ length p) left need) in
      let number : write_number (header_fields (header_at u)) (length u) ≡ 0 = ap (λ (m : ℕ). write_number (header_fields (header_at u)) m) (ap length (sym left) ∙ long) ∙ both.0 in (
        ap₂ (λ (f : Fields) (q : List ℕ). write_number f (length q)) fields left ∙ number,
        ap₂ (λ (f : Fields) (q : List ℕ). packet_after_write k1 k2 f q) fields left ∙ write_left k1 k2 (header_fields (header_at u)) u number ∙ both.1,
      )

module _ (k1 k2 n p out : List ℕ) (fit : NumbersInWidth n) (given : write_answer n p ≡ 0) where
  reads :
      (read_answer k1 k2 (write_packet k1 k2 n p) ≡ 0)
      × (lent_numbers k1 k2 (write_packet k1 k2 n p) out ≡ numbers_of (own (fields_from n)))
      × (packet_after_read k1 k2 (write_packet k1 k2 n p) ≡ plain (fields_from n) p)
  reads =
      let f : Fields = fields_from n in
      let packet = write_left k1 k2 f p given in
      let both = written_is_read k1 k2 f p (in_width_long n fit) given in
      let answer = ap (header_answer k1 k2) packet ∙ both.0 in (
        ap answer_number answer,
        ap (λ (a : Result HeaderKind ℕ). answer_numbers a out) answer ∙ numbers_shown f (write_given f (length p) given).listed,
        ap (packet_after_read k1 k2) packet ∙ both.1,
      )

pub header_numbers : HeaderNumbers
header_numbers = record { in_width = passes; read_written = writes; written_read = reads }
