-- How a header is masked: three ranges, each XORed with the start of a keystream. Unmasking is the same again.
use Rattle.std.specs.Prelude.{List, ℕ, ◌-◌, length, get_or, replicate}
use Rattle.wire.specs.Parts.{part}
use Rattle.keystream.specs.Chacha.{block}
use Rattle.keystream.specs.Mask.{masked}
use Rattle.header.specs.Kinds.{masked_length}

-- the keystream of a key and a nonce: its first block counter is 1 (docs/DECISIONS.md says how that is known)
unfoldable pub stream : List ℕ → List ℕ → List ℕ
stream key nonce = block key 1 nonce

-- the first nonce: the 12 bytes before the last 12 of a packet
unfoldable pub nonce1 : List ℕ → List ℕ
nonce1 p = part p (length p - 24) 12

-- the second nonce: its last 12 bytes
unfoldable pub nonce2 : List ℕ → List ℕ
nonce2 p = part p (length p - 12) 12

-- the packet with bytes 0 to 7 masked under key 1 and 8 to 15 under key 2, with the nonces of the packet as it came
unfoldable pub front : List ℕ → List ℕ → List ℕ → List ℕ
front k1 k2 p = masked (masked p 0 8 (stream k1 (nonce1 p))) 8 8 (stream k2 (nonce2 p))

-- the packet with the bytes from 16 on that its type has masked, under key 2 and a zero nonce
unfoldable pub rest : List ℕ → ℕ → List ℕ → List ℕ
rest k2 t p = masked p 16 (masked_length t) (stream k2 (replicate 12 0))

-- the type of an unmasked packet
abbrev pub packet_kind : List ℕ → ℕ
packet_kind q = get_or q 12 0

-- the whole packet unmasked
unfoldable pub unmasked : List ℕ → List ℕ → List ℕ → List ℕ
unmasked k1 k2 p = rest k2 (packet_kind (front k1 k2 p)) (front k1 k2 p)
