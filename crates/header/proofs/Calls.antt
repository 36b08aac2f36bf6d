-- What the two calls answer and leave, from what their steps gave. Assumes nothing.
use mathlib.Core.Path.{◌≡◌, refl, sym, ap, ap₂, ◌∙◌}
use mathlib.Core.List.{List}
use Prim.Native.Nat.{ℕ, ◌+◌, ◌≤◌, ◌<◌}
use native.Mathlib.Omega.{arith}
use lib.ListN.{length, get_or}
use borrow.Author.Tests.{lt-ltb, le-ltb, ne_eqb}
use Rattle.wire.specs.Parts.{part, splice}
use Rattle.wire.proofs.Parts.{get_d_part}
use Rattle.wire.proofs.Numbers.{little_at_part, big_at_part}
use Rattle.header.specs.declared.Fields.{Fields}
use Rattle.header.specs.declared.HeaderKind.{HeaderKind}
use Rattle.std.specs.Prelude.{Ok, Err}
use Rattle.header.specs.Kinds.{masked_length, need_of}
use Rattle.header.specs.Unmasking.{front, rest, packet_kind, unmasked}
use Rattle.header.specs.Reading.{front_refusal, read_number, long_at, header_at, header_answer, packet_after_read}
use Rattle.header.specs.Writing.{write_number, plain, written_packet, packet_after_write}
use Rattle.header.proofs.Fronts.{length_front, front_kept, front_type, length_rest, type_rest}
use Rattle.header.proofs.Refusals.{refusal_front, read_room, write_room, need_enough}

-- the first 32 bytes are enough to read the fields from
pub header_front : (u : List ℕ) {w : List ℕ} {x : HeaderKind} → w ≡ part u 0 32 → x ≡ header_at w → x ≡ header_at u
unfolding header_at long_at
header_front u ew ex =
    ex ∙ rw (
      ew,
      get_d_part u 0 32 12 0 (omega arith),
      get_d_part u 0 32 13 0 (omega arith),
      get_d_part u 0 32 14 0 (omega arith),
      little_at_part 8 u 0 32 0 (omega arith),
      big_at_part 4 u 0 32 8 (omega arith),
      little_at_part 8 u 0 32 16 (omega arith),
      little_at_part 8 u 0 32 24 (omega arith),
    )

pub type_front : (u : List ℕ) {w : List ℕ} {t : ℕ} → w ≡ part u 0 32 → t ≡ packet_kind u → t ≡ packet_kind w
type_front u ew et = et ∙ sym (ap packet_kind ew ∙ get_d_part u 0 32 12 0 (omega arith))

module _ (k1 k2 p : List ℕ) where
  -- too short
  pub read_short : length p < 40 → (Err 20 ≡ header_answer k1 k2 p) × (p ≡ packet_after_read k1 k2 p)
  unfolding header_answer packet_after_read read_number
  read_short h = rw (lt-ltb (length p) 40 h) (refl, refl)

  module _ (h : 40 ≤ length p) {head : List ℕ} (eh : head ≡ part (front k1 k2 p) 0 16) where
    -- the number that reading gives is that of the first 16 bytes
    number_is : {r : ℕ} → r ≡ front_refusal head (length p) → read_number k1 k2 p ≡ r
    unfolding read_number
    number_is er =
        rw (le-ltb (length p) 40 h)
        (sym (er ∙ ap (λ (z : List ℕ). front_refusal z (length p)) eh ∙ refusal_front (front k1 k2 p) (length p)))

    pub read_refused_lem : {r : ℕ} → (r ≡ front_refusal head (length p)) × (front_refusal head (length p) ≡ 0 → ⊥) → (Err r ≡ header_answer k1 k2 p) × (p ≡ packet_after_read k1 k2 p)
    unfolding header_answer packet_after_read
    read_refused_lem {r} (er, ne) = rw (number_is er, ne_eqb r 0 (λ z. ne (sym er ∙ z))) (refl, refl)

    -- not refused, the rest can be unmasked as its type t says
    module _ {t : ℕ} (taken : (t ≡ get_or head 12 0) × (front_refusal head (length p) ≡ 0)) where
      type_is : t ≡ packet_kind (front k1 k2 p)
      type_is = taken.0 ∙ front_type k1 k2 p h head eh

      room_is : 16 + masked_length t ≤ length (front k1 k2 p)
      room_is =
          let e : front_refusal (front k1 k2 p) (length p) ≡ 0 = sym (refusal_front (front k1 k2 p) (length p)) ∙ ap (λ (x : List ℕ). front_refusal x (length p)) (sym eh) ∙ taken.1 in
          rw (type_is, length_front k1 k2 p h) (read_room (front k1 k2 p) (length p) h e)

      pub unmask_room : 16 + masked_length t ≤ length p
      unmask_room = omega (arith, room_is, length_front k1 k2 p h)

      whole_is : {u : List ℕ} → u ≡ rest k2 t (splice p 0 head) → u ≡ unmasked k1 k2 p
      unfolding unmasked
      whole_is eu = eu ∙ ap₂ (λ (x : ℕ) (q : List ℕ). rest k2 x q) type_is (front_kept k1 k2 p h head eh)

      -- unmasked, the packet has its type
      pub type_left : {u : List ℕ} → u ≡ rest k2 t (splice p 0 head) → t ≡ packet_kind u
      type_left eu = type_is ∙ sym (ap packet_kind (eu ∙ ap (rest k2 t) (front_kept k1 k2 p h head eh)) ∙ type_rest k2 t (front k1 k2 p) room_is)

      pub length_left : {u : List ℕ} → u ≡ rest k2 t (splice p 0 head) → length u ≡ length p
      length_left eu = ap length (eu ∙ ap (rest k2 t) (front_kept k1 k2 p h head eh)) ∙ length_rest k2 t (front k1 k2 p) room_is ∙ length_front k1 k2 p h

      pub read_header : {u : List ℕ} {x : HeaderKind} → u ≡ rest k2 t (splice p 0 head) → x ≡ header_at u
          → (Ok x ≡ header_answer k1 k2 p) × (u ≡ packet_after_read k1 k2 p)
      unfolding header_answer packet_after_read
      read_header {u} {x} eu ex = rw (number_is (sym taken.1)) (ap Ok (ex ∙ ap header_at (whole_is eu)), whole_is eu)

module _ (k1 k2 : List ℕ) (f : Fields) (p : List ℕ) where
  pub write_refused : {r : ℕ} → r ≡ write_number f (length p) → (r ≡ 0 → ⊥) → (r ≡ write_number f (length p)) × (p ≡ packet_after_write k1 k2 f p)
  unfolding packet_after_write
  write_refused {r} er ne = (er, rw (← er, ne_eqb r 0 ne))

  -- not refused, header and nonces have room
  module _ {t : ℕ} (taken : (t ≡ f.kind) × (write_number f (length p) ≡ 0)) where
    pub write_rooms : (40 ≤ length p) × (16 + masked_length t ≤ length p)
    write_rooms =
        let need : need_of f.kind ≤ length p = write_room f (length p) taken.1 in
        rw taken.0 (omega (arith, need_enough f.kind), omega (arith, need_enough f.kind))

    pub write_done : {m w : List ℕ} → m ≡ plain f p → w ≡ front k1 k2 (rest k2 t m) → (0 ≡ write_number f (length p)) × (w ≡ packet_after_write k1 k2 f p)
    unfolding packet_after_write written_packet
    write_done em ew =
        (sym taken.1, rw taken.1 (ew ∙ ap₂ (λ (x : ℕ) (q : List ℕ). front k1 k2 (rest k2 x q)) taken.0 em))
