-- What writing a header answers and leaves.
use Rattle.std.specs.Prelude.{cond, ◌&&◌, ◌||◌, not, List, [], ◌∷◌, ◌++◌, ℕ, ◌+◌, ◌*◌, ◌%◌, eqb, ltb, length}
use Rattle.wire.specs.Parts.{splice}
use Rattle.wire.specs.Numbers.{little_bytes, big_bytes}
use Rattle.header.specs.declared.Fields.{Fields}
use Rattle.header.specs.Kinds.{is_short, is_listed, is_version, need_of}
use Rattle.header.specs.Unmasking.{front, rest}

-- the number that writing into n bytes gives: 21, 22, 24, 25, 20 in this order, or 0
unfoldable pub write_number : Fields → ℕ → ℕ
write_number f n =
    cond (not (is_listed f.kind)) 21
    (cond (not (is_short f.kind) && not (is_version f.version)) 22
    (cond (eqb f.kind 2 && not (eqb f.number 0)) 24
    (cond (eqb f.kind 2 && (ltb 15 f.fragment || ltb 15 f.count)) 25
    (cond (ltb n (need_of f.kind)) 20
    0))))

-- byte 13: the version; for SessionConfirmed fragment and count, for Data the flag
unfoldable pub byte13 : Fields → ℕ
byte13 f =
    cond (eqb f.kind 2) (f.fragment % 16 * 16 + f.count % 16)
    (cond (eqb f.kind 6) (cond f.immediate 1 0)
    f.version)

-- byte 14: the network id, which the short headers do not have
unfoldable pub byte14 : Fields → ℕ
byte14 f = cond (is_short f.kind) 0 f.network

-- the first 16 bytes of the plain header; byte 15 is 0
unfoldable pub front_bytes : Fields → List ℕ
front_bytes f = little_bytes 8 f.destination ++ big_bytes 4 f.number ++ (f.kind ∷ byte13 f ∷ byte14 f ∷ 0 ∷ [])

-- the next 16: source id and token
unfoldable pub id_bytes : Fields → List ℕ
id_bytes f = little_bytes 8 f.source ++ little_bytes 8 f.token

-- what is written of the plain header: 16 bytes for the short ones, else 32. The key of types 0 and 1 already stands at 32, and is only masked
unfoldable pub header_bytes : Fields → List ℕ
header_bytes f = cond (is_short f.kind) (front_bytes f) (front_bytes f ++ id_bytes f)

-- the packet with its plain header
unfoldable pub plain : Fields → List ℕ → List ℕ
plain f p = splice p 0 (header_bytes f)

-- the packet with its header written and masked
unfoldable pub written_packet : List ℕ → List ℕ → Fields → List ℕ → List ℕ
written_packet k1 k2 f p = front k1 k2 (rest k2 f.kind (plain f p))

-- the packet afterwards: written, or as it came
unfoldable pub packet_after_write : List ℕ → List ℕ → Fields → List ℕ → List ℕ
packet_after_write k1 k2 f p = cond (eqb (write_number f (length p)) 0) (written_packet k1 k2 f p) p
