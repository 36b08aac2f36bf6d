-- A header by numbers, written and read: the premises of specs/HeaderNumbers.antt hold of it, whatever the keys. Assumes nothing.
use mathlib.Core.Path.{◌≡◌, refl, sym, ap, ◌∙◌, subst}
use mathlib.Core.Bool.{Bool, true, ◌&&◌, false≢true}
use mathlib.Core.List.{List, [], ◌∷◌}
use Prim.Native.Nat.{ℕ, zero, suc, ◌≤◌}
use native.Mathlib.Omega.{arith}
use lib.Dec.{ltb}
use lib.ListN.{length, replicate}
use borrow.Author.Tests.{ltb-true}
use Rattle.wire.specs.Parts.{splice}
use Rattle.wire.specs.Numbers.{Bytes, little_bytes, big_bytes}
use Rattle.wire.proofs.Tests.{and_both}
use Rattle.header.specs.Kinds.{is_listed, is_version, need_of}
use Rattle.header.specs.Unmasking.{packet_kind}
use Rattle.header.specs.Reading.{packet_after_read}
use Rattle.header.specs.Writing.{write_number, byte13, byte14, front_bytes, id_bytes, header_bytes, plain}
use Rattle.header.specs.RoundTrip.{UnnamedBitsZero, own}
use Rattle.header.proofs.RoundTrip.{bytes_written}
use Rattle.header.proofs.Widths.{length_left, write_left}
use Rattle.numbers.specs.Headers.{fields_from, NumbersInWidth}
use Rattle.numbers.proofs.HeaderLaws.{answer_number_lem}
use Rattle.promises.specs.HeaderNumbers.{read_answer, lent_numbers, write_answer, write_packet}
use Rattle.promises.proofs.HeaderNumbers.{header_numbers}

-- a Retry of version 2 in network 2: packet number 5, destination id 6, source id 7, token 8
abbrev numbers : List ℕ
numbers = 9 ∷ 2 ∷ 2 ∷ 0 ∷ 0 ∷ 0 ∷ 5 ∷ 6 ∷ 7 ∷ 8 ∷ 0 ∷ []

-- the shortest packet that takes it
abbrev empty : List ℕ
empty = replicate 56 0

pub fitting : NumbersInWidth numbers
fitting =
    record {
      kind = omega arith;
      version = omega arith;
      network = omega arith;
      fragment = omega arith;
      count = omega arith;
      immediate = omega arith;
      number = omega arith;
      destination = omega arith;
      source = omega arith;
      token = omega arith;
    }

pub given : write_answer numbers empty ≡ 0
unfolding write_number is_listed is_version need_of
given = refl

-- the packet with its plain header
pub head : List ℕ
head = 6 ∷ 0 ∷ 0 ∷ 0 ∷ 0 ∷ 0 ∷ 0 ∷ 0 ∷ 0 ∷ 0 ∷ 0 ∷ 5 ∷ 9 ∷ 2 ∷ 2 ∷ 0 ∷ 7 ∷ 0 ∷ 0 ∷ 0 ∷ 0 ∷ 0 ∷ 0 ∷ 0 ∷ 8 ∷ replicate 31 0

plain_is : plain (fields_from numbers) empty ≡ head
unfolding plain splice header_bytes front_bytes id_bytes byte13 byte14 little_bytes big_bytes head
plain_is = refl

below : List ℕ → Bool
below [] = true
below (b ∷ l) = ltb b 256 && below l

below_bytes : (l : List ℕ) → below l ≡ true → Bytes l
unfolding below
below_bytes [] e i = omega arith
below_bytes (b ∷ l) e zero = ltb-true b 256 (and_both (ltb b 256) (below l) e).0
below_bytes (b ∷ l) e (suc i) = below_bytes l (and_both (ltb b 256) (below l) e).1 i

head_bytes_lem : Bytes head
unfolding below head
head_bytes_lem = below_bytes head refl

no_others : UnnamedBitsZero head
unfolding head
no_others = record { last = refl; short = λ e. absurd (false≢true e); flags = λ e. omega arith }

head_need : need_of (packet_kind head) ≤ length head
unfolding head need_of
head_need = omega arith

module _ (k1 k2 out : List ℕ) where
  abbrev packet : List ℕ
  packet = write_packet k1 k2 numbers empty

  -- what was written is read, with the numbers that it was written by
  pub read : (read_answer k1 k2 packet ≡ 0) × (lent_numbers k1 k2 packet out ≡ numbers) × (packet_after_read k1 k2 packet ≡ head)
  unfolding own
  read =
      let r = header_numbers.written_read k1 k2 numbers empty out fitting given in
      (r.0, r.1, r.2 ∙ plain_is)

  packet_bytes_lem : Bytes packet
  packet_bytes_lem =
      subst Bytes (sym (write_left k1 k2 (fields_from numbers) empty given))
      (bytes_written k1 k2 (fields_from numbers) empty (subst Bytes (sym plain_is) head_bytes_lem))

  packet_length : length packet ≡ length head
  packet_length = sym (length_left k1 k2 packet (sym (answer_number_lem k1 k2 packet) ∙ read.0)) ∙ ap length read.2

  -- so it meets what writing it again asks for, and is written again
  pub again : (write_answer (lent_numbers k1 k2 packet out) (packet_after_read k1 k2 packet) ≡ 0) × (write_packet k1 k2 (lent_numbers k1 k2 packet out) (packet_after_read k1 k2 packet) ≡ packet)
  again =
      let need : need_of (packet_kind (packet_after_read k1 k2 packet)) ≤ length packet = rw (read.2, packet_length) head_need in
      header_numbers.read_written k1 k2 packet out packet_bytes_lem read.0 (subst UnnamedBitsZero (sym read.2) no_others) need
