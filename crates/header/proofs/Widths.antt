-- What reading gives is within the widths of the fields, and the calls' answers where nothing is refused. Assumes nothing.
use mathlib.Core.Path.{◌≡◌, refl, ap, ◌∙◌}
use mathlib.Core.Bool.{Bool, true, false}
use mathlib.Core.List.{List}
use Prim.Native.Nat.{ℕ, ◌/◌, ◌%◌, ◌≤◌, ◌<◌}
use native.Mathlib.Omega.{arith}
use lib.Dec.{eqb}
use lib.ListN.{length, get_or}
use Rattle.wire.specs.Numbers.{Bytes, little_at, big_at}
use Rattle.wire.proofs.Numbers.{little_at_lt, big_at_lt}
use Rattle.header.specs.declared.Fields.{Fields}
use Rattle.header.specs.declared.HeaderKind.TheVariants.{SessionConfirmed, Data}
use Rattle.std.specs.Prelude.{Ok, Err}
use Rattle.header.specs.Kinds.{is_listed}
use Rattle.header.specs.Unmasking.{packet_kind, unmasked}
use Rattle.header.specs.Reading.{read_number, long_at, long_header, header_at, header_answer, packet_after_read}
use Rattle.header.specs.Writing.{write_number, written_packet, packet_after_write}
use Rattle.header.specs.RoundTrip.{WordsInWidth, BytesInWidth, header_fields}
use Rattle.header.proofs.RoundTrip.{long_fields, bytes_unmasked, read_passed, length_unmasked, taken_unmasked}

abbrev Within : Fields → Type 0
Within f = WordsInWidth f × BytesInWidth f

-- the fields of an unmasked header
module _ (u : List ℕ) (h : 32 ≤ length u) (bytes : Bytes u) (listed : is_listed (packet_kind u) ≡ true) where
  fits_confirmed : Within (header_fields (SessionConfirmed (little_at 8 u 0) (big_at 4 u 8) (get_or u 13 0 / 16) (get_or u 13 0 % 16)))
  fits_confirmed =
      let b : get_or u 13 0 < 256 = bytes 13 in (
        record { destination = little_at_lt 8 u 0 (omega arith) bytes; number = big_at_lt 4 u 8 (omega arith) bytes; source = omega arith; token = omega arith },
        record { kind = omega arith; version = omega arith; network = omega arith; fragment = omega arith; count = omega arith },
      )

  fits_data : Within (header_fields (Data (little_at 8 u 0) (big_at 4 u 8) (eqb (get_or u 13 0 % 2) 1)))
  fits_data = (
    record { destination = little_at_lt 8 u 0 (omega arith) bytes; number = big_at_lt 4 u 8 (omega arith) bytes; source = omega arith; token = omega arith },
    record { kind = omega arith; version = omega arith; network = omega arith; fragment = omega arith; count = omega arith },
  )

  fits_long : eqb (packet_kind u) 2 ≡ false → eqb (packet_kind u) 6 ≡ false → Within (header_fields (long_header (packet_kind u) (long_at u)))
  unfolding long_at
  fits_long e g =
      rw (long_fields (packet_kind u) (long_at u) listed e g) (
        record {
          destination = little_at_lt 8 u 0 (omega arith) bytes;
          number = big_at_lt 4 u 8 (omega arith) bytes;
          source = little_at_lt 8 u 16 (omega arith) bytes;
          token = little_at_lt 8 u 24 (omega arith) bytes;
        },
        record { kind = bytes 12; version = bytes 13; network = bytes 14; fragment = omega arith; count = omega arith },
      )

  kind_fits : Within (header_fields (header_at u))
  unfolding header_at
  kind_fits = go (eqb (packet_kind u) 2) (eqb (packet_kind u) 6) refl refl
    where
      go : (x y : Bool) → eqb (packet_kind u) 2 ≡ x → eqb (packet_kind u) 6 ≡ y → Within (header_fields (header_at u))
      go true y ex ey = rw ex fits_confirmed
      go false true ex ey = rw (ex, ey) fits_data
      go false false ex ey = rw (ex, ey) (fits_long ex ey)

module _ (k1 k2 p : List ℕ) (e : read_number k1 k2 p ≡ 0) where
  -- the fields that reading gives fit what writing takes
  pub read_fits : Bytes p → WordsInWidth (header_fields (header_at (unmasked k1 k2 p))) × BytesInWidth (header_fields (header_at (unmasked k1 k2 p)))
  read_fits b =
      let passed = read_passed k1 k2 p e in
      let long = length_unmasked k1 k2 p passed.0 passed.1 in
      kind_fits (unmasked k1 k2 p) (omega (arith, passed.0)) (bytes_unmasked k1 k2 p b) (taken_unmasked k1 k2 p passed.0 passed.1).listed

  -- taken, a packet is answered by its header and left unmasked, as long as it was
  pub read_answer_lem : header_answer k1 k2 p ≡ Ok (header_at (unmasked k1 k2 p))
  unfolding header_answer
  read_answer_lem = rw e

  pub read_left : packet_after_read k1 k2 p ≡ unmasked k1 k2 p
  unfolding packet_after_read
  read_left = rw e

  pub length_left : length (packet_after_read k1 k2 p) ≡ length p
  length_left = let passed = read_passed k1 k2 p e in ap length read_left ∙ length_unmasked k1 k2 p passed.0 passed.1

-- else it is refused by its number
pub read_refusal : (k1 k2 p : List ℕ) → eqb (read_number k1 k2 p) 0 ≡ false → header_answer k1 k2 p ≡ Err (read_number k1 k2 p)
unfolding header_answer
read_refusal k1 k2 p e = rw e

-- fields that are taken leave the written packet
pub write_left : (k1 k2 : List ℕ) (f : Fields) (p : List ℕ) → write_number f (length p) ≡ 0 → packet_after_write k1 k2 f p ≡ written_packet k1 k2 f p
unfolding packet_after_write
write_left k1 k2 f p e = rw e
