-- The piece that a block brings to the store, and what the block delivers: made of the store's reply to the piece, or of the block alone. Assumes nothing.
use mathlib.Core.Path.{◌≡◌, refl, sym, ap, ◌∙◌}
use mathlib.Core.Bool.{cond}
use mathlib.Core.List.{List, []}
use mathlib.Core.Option.{Option, none, some}
use Prim.Native.Nat.{ℕ}
use lib.Dec.{eqb}
use Rattle.wire.specs.Parts.{part}
use Rattle.blocks.specs.declared.Part.{Part}
use Rattle.blocks.specs.Outcomes.{Extent}
use Rattle.blocks.specs.Outcomes as End
use Rattle.blocks.specs.Outcomes.{Read}
use Rattle.blocks.specs.Names.{message_type, message_id, message_expiration, follow_on_number, follow_on_last, follow_on_id}
use Rattle.blocks.specs.Reading.{block_read}
use Rattle.reassembly.specs.Store.{Piece, first, follow, Rebuilt}
use Rattle.reassembly.specs.Calls.{Lent, lent, After}
use Rattle.reassembly.specs.Shares.{first_call, follow_on_call}
use Rattle.reassembly.specs.Stands.{label_of, reply_for, laid_out}
use Rattle.reassembly.proofs.Brought.{Sober, reply_number, reply_some}
use Rattle.reassembly.proofs.OwnShare.{first_label_lem, follow_label}
use Rattle.messages.specs.Received.{Received}
use Rattle.messages.specs.Delivery.{Delivery, delivery_with, rebuilt_by, rebuilt, delivered_by, delivered}
use Rattle.messages.specs.OfStore.{received_for}
use Rattle.messages.proofs.Deliveries.{by_kind, other_is}
use Rattle.messages.proofs.OfStore.{from_none, from_some}

-- the piece of a block of a type, with its fields and its bytes; none where it is no fragment
abbrev pub block_piece : List ℕ → ℕ → List ℕ → Part → Option Piece
block_piece s kind f p =
    cond (eqb kind 4) (some (first (message_id f) (message_type f) (message_expiration f) (part s p.start p.len)))
    (cond (eqb kind 5) (some (follow (follow_on_id f) (follow_on_number f) (follow_on_last f) (part s p.start p.len)))
    none)

-- of a block that ends, or is refused
abbrev pub piece_end : List ℕ → Extent → List ℕ → Part → Option Piece
piece_end s (End.Ends kind size next) f p = block_piece s kind f p
piece_end s (End.Refused number place) f p = none

-- of what was read
abbrev pub piece_in : List ℕ → Read → Option Piece
piece_in s r = piece_end s r.extent r.fields r.bytes

-- what is received where no piece comes to the store
abbrev pub quietly : List ℕ → ℕ → Read → Received
quietly s at r = (delivered s at (lent [] [] []) 0 0 r).received

-- what the store's call for a piece of message id delivers
abbrev pub piece_delivers : ℕ → ℕ → After → Delivery
piece_delivers at id y = delivery_with (rebuilt_by at y.reply id) y.left

-- what is delivered, by the piece
abbrev pub Delivers : List ℕ → ℕ → Read → Option Piece → Type 0
Delivers s at r none = (x : Lent) (n second : ℕ) → delivered s at x n second r ≡ delivery_with (quietly s at r) x
Delivers s at r (some (first i k e v)) = (x : Lent) (n second : ℕ) → delivered s at x n second r ≡ piece_delivers at i (first_call x n (label_of (first i k e v)) second v)
Delivers s at r (some (follow i m l v)) = (x : Lent) (n second : ℕ) → delivered s at x n second r ≡ piece_delivers at i (follow_on_call x n (label_of (follow i m l v)) second v)

block_delivers : (s : List ℕ) (at kind size next : ℕ) (f : List ℕ) (p : Part) → Delivers s at (block_read kind size next f p) (block_piece s kind f p)
unfolding delivered delivered_by rebuilt
block_delivers s at kind size next f p =
    by_kind (λ k. Delivers s at (block_read k size next f p) (block_piece s k f p))
    (λ x n second. refl)
    (λ x n second. rw (first_label_lem _ _ _ _) refl)
    (λ x n second. rw (follow_label _ _ _ _) refl)
    (λ k h. rw (h.1, h.2) (λ x n second. other_is s at x n second k f p h ∙ sym (ap (λ (d : Delivery). delivery_with d.received x) (other_is s at (lent [] [] []) 0 0 k f p h))))
    kind

pub delivers : (s : List ℕ) (at : ℕ) (r : Read) → Delivers s at r (piece_in s r)
delivers s at r = go r.extent r.fields r.bytes
  where
    go : (x : Extent) (f : List ℕ) (p : Part) → Delivers s at (record { extent = x; fields = f; bytes = p }) (piece_end s x f p)
    go (End.Ends kind size next) f p = block_delivers s at kind size next f p
    go (End.Refused number place) f p = λ x n second. unfold delivered in refl

-- what is received by a piece, from what the store answers to it
pub received_is : (at id cap n : ℕ) (o : Option Rebuilt) (y : After) (out : List ℕ) → y.reply ≡ reply_for n o → y.left.out ≡ laid_out out o → Sober cap n o
    → rebuilt_by at y.reply id ≡ received_for at id n o
received_is at id cap n o y out e f b = go o refl
  where
    go : (o' : Option Rebuilt) → o ≡ o' → rebuilt_by at y.reply id ≡ received_for at id n o
    go none q = from_none at y.reply id n (reply_number out y n o e f) (b.none_out q) ∙ ap (received_for at id n) (sym q)
    go (some w) q = from_some at y.reply id n w (b.some_out w q).0 (reply_some out y n o e f w q) ∙ ap (received_for at id n) (sym q)
