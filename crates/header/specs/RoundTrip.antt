-- Reading what was written, and writing what was read.
use Rattle.std.specs.Prelude.{Ok, ◌≡◌, true, false, cond, ◌&&◌, List, ℕ, ◌≤◌, ◌<◌, ◌^◌, eqb, length, get_or}
use Rattle.wire.specs.Numbers.{Bytes}
use Rattle.header.specs.declared.Long.{Long}
use Rattle.header.specs.declared.Fields.{Fields}
use Rattle.header.specs.declared.HeaderKind.{HeaderKind}
use Rattle.header.specs.declared.HeaderKind.TheVariants.{SessionRequest, SessionCreated, SessionConfirmed, Data, PeerTest, Retry, TokenRequest, HolePunch}
use Rattle.header.specs.Kinds.{is_short, need_of}
use Rattle.header.specs.Unmasking.{packet_kind, unmasked}
use Rattle.header.specs.Reading.{read_number, long_header, header_at, header_answer, packet_after_read}
use Rattle.header.specs.Writing.{write_number, plain, written_packet}

-- the fields of more than a byte within their widths, as every call has them
pub record WordsInWidth (f : Fields) : Type 0 where
  pub destination : f.destination < 2 ^ 64
  pub number : f.number < 2 ^ 32
  pub source : f.source < 2 ^ 64
  pub token : f.token < 2 ^ 64

-- the fields of a byte within it, as every call has them
pub record BytesInWidth (f : Fields) : Type 0 where
  pub kind : f.kind < 2 ^ 8
  pub version : f.version < 2 ^ 8
  pub network : f.network < 2 ^ 8
  pub fragment : f.fragment < 2 ^ 8
  pub count : f.count < 2 ^ 8

-- the fields that the type has; the others are 0
unfoldable pub own : Fields → Fields
own f =
    record {
      kind = f.kind;
      destination = f.destination;
      number = f.number;
      version = cond (is_short f.kind) 0 f.version;
      network = cond (is_short f.kind) 0 f.network;
      source = cond (is_short f.kind) 0 f.source;
      token = cond (is_short f.kind) 0 f.token;
      fragment = cond (eqb f.kind 2) f.fragment 0;
      count = cond (eqb f.kind 2) f.count 0;
      immediate = eqb f.kind 6 && f.immediate;
    }

-- the header that fields stand for
unfoldable pub header_of : Fields → HeaderKind
header_of f =
    cond (eqb f.kind 2) (SessionConfirmed f.destination f.number f.fragment f.count)
    (cond (eqb f.kind 6) (Data f.destination f.number f.immediate)
    (long_header f.kind
    (record { destination = f.destination; number = f.number; version = f.version; network = f.network; source = f.source; token = f.token })))

-- the fields of a header of 32 or 64 bytes, with its type; those that it does not have are 0
abbrev pub of_long : ℕ → Long → Fields
of_long t l =
    record {
      kind = t;
      destination = l.destination;
      number = l.number;
      version = l.version;
      network = l.network;
      source = l.source;
      token = l.token;
      fragment = 0;
      count = 0;
      immediate = false;
    }

-- the fields of a header that was read
abbrev pub header_fields : HeaderKind → Fields
header_fields (SessionRequest l) = of_long 0 l
header_fields (SessionCreated l) = of_long 1 l
header_fields (SessionConfirmed d n i k) =
    record { kind = 2; destination = d; number = n; version = 0; network = 0; source = 0; token = 0; fragment = i; count = k; immediate = false }
header_fields (Data d n a) =
    record { kind = 6; destination = d; number = n; version = 0; network = 0; source = 0; token = 0; fragment = 0; count = 0; immediate = a }
header_fields (PeerTest l) = of_long 7 l
header_fields (Retry l) = of_long 9 l
header_fields (TokenRequest l) = of_long 10 l
header_fields (HolePunch l) = of_long 11 l

-- the bits of an unmasked header that no field names are 0
pub record UnnamedBitsZero (u : List ℕ) : Type 0 where
  pub last : get_or u 15 0 ≡ 0
  pub short : is_short (packet_kind u) ≡ true → get_or u 14 0 ≡ 0
  pub flags : packet_kind u ≡ 6 → get_or u 13 0 < 2

-- reading what was written gives the same fields and the plain packet
abbrev pub WrittenIsRead : Type 0
WrittenIsRead =
    (k1 k2 : List ℕ) (f : Fields) (p : List ℕ) → WordsInWidth f → write_number f (length p) ≡ 0
    → (header_answer k1 k2 (written_packet k1 k2 f p) ≡ Ok (header_of f)) × (packet_after_read k1 k2 (written_packet k1 k2 f p) ≡ plain f p)

-- what reading took, written again over the unmasked packet, is the packet
abbrev pub ReadIsWritten : Type 0
ReadIsWritten =
    (k1 k2 p : List ℕ) → Bytes p → read_number k1 k2 p ≡ 0 → UnnamedBitsZero (unmasked k1 k2 p) → need_of (packet_kind (unmasked k1 k2 p)) ≤ length p
    → (write_number (header_fields (header_at (unmasked k1 k2 p))) (length p) ≡ 0) × (written_packet k1 k2 (header_fields (header_at (unmasked k1 k2 p))) (unmasked k1 k2 p) ≡ p)
