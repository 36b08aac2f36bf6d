-- What reading a packet answers and leaves.
use Rattle.std.specs.Prelude.{Result, Ok, Err, cond, ◌&&◌, not, List, ℕ, ◌/◌, ◌%◌, eqb, ltb, length, get_or}
use Rattle.wire.specs.Numbers.{little_at, big_at}
use Rattle.header.specs.declared.Long.{Long}
use Rattle.header.specs.declared.HeaderKind.{HeaderKind}
use Rattle.header.specs.declared.HeaderKind.TheVariants.{SessionRequest, SessionCreated, SessionConfirmed, Data, PeerTest, Retry, TokenRequest, HolePunch}
use Rattle.header.specs.Kinds.{is_keyed, is_short, is_listed, is_version}
use Rattle.header.specs.Unmasking.{front, packet_kind, unmasked}

-- the refusal of a packet of n bytes whose first 16 are unmasked in q, 21 to 24: by type, version, 64 bytes for types 0 and 1, number; 0 is none
unfoldable pub front_refusal : List ℕ → ℕ → ℕ
front_refusal q n =
    cond (not (is_listed (packet_kind q))) 21
    (cond (not (is_short (packet_kind q)) && not (is_version (get_or q 13 0))) 22
    (cond (is_keyed (packet_kind q) && ltb n 64) 23
    (cond (eqb (packet_kind q) 2 && not (eqb (big_at 4 q 8) 0)) 24
    0)))

-- the number that reading gives: 20 to 24 in this order, or 0
unfoldable pub read_number : List ℕ → List ℕ → List ℕ → ℕ
read_number k1 k2 p = cond (ltb (length p) 40) 20 (front_refusal (front k1 k2 p) (length p))

-- the fields of an unmasked header of 32 or 64 bytes
unfoldable pub long_at : List ℕ → Long
long_at u =
    record {
      destination = little_at 8 u 0;
      number = big_at 4 u 8;
      version = get_or u 13 0;
      network = get_or u 14 0;
      source = little_at 8 u 16;
      token = little_at 8 u 24;
    }

-- a header of 32 or 64 bytes by its type
unfoldable pub long_header : ℕ → Long → HeaderKind
long_header t l =
    cond (eqb t 0) (SessionRequest l)
    (cond (eqb t 1) (SessionCreated l)
    (cond (eqb t 7) (PeerTest l)
    (cond (eqb t 9) (Retry l)
    (cond (eqb t 10) (TokenRequest l)
    (HolePunch l)))))

-- the fields of an unmasked header: SessionConfirmed has destination, number, fragment (the high nibble of byte 13) and count (the low one), Data its flag in bit 0 of byte 13
unfoldable pub header_at : List ℕ → HeaderKind
header_at u =
    cond (eqb (packet_kind u) 2) (SessionConfirmed (little_at 8 u 0) (big_at 4 u 8) (get_or u 13 0 / 16) (get_or u 13 0 % 16))
    (cond (eqb (packet_kind u) 6) (Data (little_at 8 u 0) (big_at 4 u 8) (eqb (get_or u 13 0 % 2) 1))
    (long_header (packet_kind u) (long_at u)))

-- the answer: the refusal, or the fields of the type at hand
unfoldable pub header_answer : List ℕ → List ℕ → List ℕ → Result HeaderKind ℕ
header_answer k1 k2 p = cond (eqb (read_number k1 k2 p) 0) (Ok (header_at (unmasked k1 k2 p))) (Err (read_number k1 k2 p))

-- the packet afterwards: unmasked, or as it came
unfoldable pub packet_after_read : List ℕ → List ℕ → List ℕ → List ℕ
packet_after_read k1 k2 p = cond (eqb (read_number k1 k2 p) 0) (unmasked k1 k2 p) p
