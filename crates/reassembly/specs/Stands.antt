-- What a neighbour's share of record and room stands for: a store of specs/Store.antt. Then the invariant of shares that calls made (`Fine` for a slot, `Made` for
-- all), and what it means that a call does on them what the store does and keeps the invariant. `rec` and `room` are the shares.
use Rattle.std.specs.Prelude.{◌≡◌, true, false, cond, List, [], ◌∷◌, ℕ, ◌+◌, ◌≤◌, ◌<◌, length, get_or}
use Rattle.std.proofs.Math.Option.{Option, none, some}
use Rattle.wire.specs.Parts.{splice}
use Rattle.reassembly.specs.Sizes.{share_room, most_remembered, share_size}
use Rattle.reassembly.specs.declared.Head.{Head}
use Rattle.reassembly.specs.declared.Label.{Label}
use Rattle.reassembly.specs.declared.Reply.{Reply}
use Rattle.wire.specs.Series.{series}
use Rattle.reassembly.specs.Store.{Piece, first, follow, Message, Slots, Store, Rebuilt, Answer, is_held, total}
use Rattle.reassembly.specs.Record.{head_at, entry_at, piece_at}
use Rattle.reassembly.specs.Slots.{is_free}
use Rattle.reassembly.specs.Remembered.{memory_of}
use Rattle.reassembly.specs.Apart.{Apart}
use Rattle.reassembly.specs.Neighbours.{open_of}
use Rattle.reassembly.specs.Summary.{open_count}
use Rattle.reassembly.specs.Calls.{After, bare}

-- the bytes held of each number of slot i
unfoldable pub table_at : List ℕ → List ℕ → ℕ → List (List ℕ)
table_at rec room i = series (piece_at rec room i) 0 128

-- the message of slot i, whose head is h
unfoldable pub message_with : Head → List ℕ → List ℕ → ℕ → Message
message_with h rec room i = record { id = h.id; opened = h.opened; kind = h.kind; expires = h.expires; last = h.last; table = table_at rec room i }

-- a slot that holds no piece is free
unfoldable pub slot_at : List ℕ → List ℕ → ℕ → Option Message
slot_at rec room i = cond (is_free rec i) none (some (message_with (head_at rec i) rec room i))

-- the slots that they stand for
unfoldable pub slots_of : List ℕ → List ℕ → Slots
slots_of rec room = series (slot_at rec room) 0 4

-- the store that they stand for
abbrev pub stands : List ℕ → List ℕ → Store
stands rec room = record { slots = slots_of rec room; remembered = memory_of rec }

-- how many of some numbers are held
abbrev pub held_of : List (List ℕ) → ℕ
held_of [] = 0
held_of (x ∷ xs) = cond (is_held x) 1 0 + held_of xs

-- The invariant of a slot in use, whose head is h: the head agrees with the slot's entries. The pieces lie in the first `total` bytes of the slot's room
-- and are as long together; `count` numbers are held, `top` is the highest; none is above a known last.
pub record Fine (h : Head) (rec room : List ℕ) (i : ℕ) : Type 0 where
  pub id : h.id < 4294967296
  pub opened : h.opened < 18446744073709551616
  pub expires : h.expires < 4294967296
  pub small : h.total < 65536
  pub inside : (k : ℕ) → k < 128 → (entry_at rec i k).place + (entry_at rec i k).len ≤ h.total
  pub filled : h.total ≡ total (table_at rec room i)
  pub counted : h.count ≡ held_of (table_at rec room i)
  pub top_held : 0 < h.top → is_held (get_or (table_at rec room i) h.top []) ≡ true
  pub topmost : (k : ℕ) → is_held (get_or (table_at rec room i) k []) ≡ true → k ≤ h.top
  pub last_small : h.last < 128
  pub lastmost : 0 < h.last → (k : ℕ) → is_held (get_or (table_at rec room i) k []) ≡ true → k ≤ h.last

-- The invariant of the slots: record and room have their lengths, and every slot in use meets its own.
pub record SlotsMade (rec room : List ℕ) : Type 0 where
  pub record_long : share_size ≤ length rec
  pub room_long : share_room ≤ length room
  pub slots : (i : ℕ) → i < 4 → is_free rec i ≡ false → Fine (head_at rec i) rec room i

-- The invariant of a share: that of its slots, its ids are apart, and the summary is a count over the slots. Zeros meet it, and a piece or a sweep that comes to
-- such a share leaves such a one (`Agrees`): "a share that calls made" means this.
pub record Made (rec room : List ℕ) : Type 0 where
  pub slots_made : SlotsMade rec room
  pub apart : Apart most_remembered (stands rec room)
  pub counted : open_count rec ≡ open_of (slots_of rec room)

-- what a piece of the store is to a call: a label beside the bytes
unfoldable pub label_of : Piece → Label
label_of (first id kind expires bytes) = record { id = id; number = 0; last = false; kind = kind; expires = expires }
label_of (follow id number final bytes) = record { id = id; number = number; last = final; kind = 0; expires = 0 }

-- the store's answer as a call's reply
unfoldable pub reply_for : ℕ → Option Rebuilt → Reply
reply_for n none = bare n
reply_for n (some w) = record { number = n; kind = w.kind; expires = w.expires; length = length w.bytes }

-- a message that came out stands at the start of the assembly buffer; the rest stays
unfoldable pub laid_out : List ℕ → Option Rebuilt → List ℕ
laid_out out none = out
laid_out out (some w) = splice out 0 w.bytes

-- A call did to the share and the assembly buffer what the store's answer says, and left what a call may be lent again.
pub record Agrees (out : List ℕ) (x : After) (a : Answer) : Type 0 where
  pub reply : x.reply ≡ reply_for a.number a.out
  pub delivered : x.left.out ≡ laid_out out a.out
  pub store : stands x.left.rec x.left.room ≡ a.store
  pub made : Made x.left.rec x.left.room
