-- The store's answer to a piece, read off the head, the entries and the pieces of its slot. Assumes nothing.
use mathlib.Core.Path.{◌≡◌, refl, sym, ap, ◌∙◌}
use mathlib.Core.Bool.{Bool, true, false, cond, ◌&&◌, beq}
use mathlib.Core.List.{List, []}
use Prim.Native.Nat.{ℕ, suc, ◌+◌, ◌≤◌, ◌<◌}
use native.Mathlib.Omega.{arith}
use lib.Dec.{eqb, ltb}
use lib.ListN.{length, get_or, set, drop}
use borrow.Author.Tests.{ltb-false}
use Rattle.wire.specs.Parts.{same}
use Rattle.wire.proofs.Tests.{or_neither}
use Rattle.reassembly.specs.Sizes.{message_size, share_room}
use Rattle.reassembly.specs.declared.Head.{Head}
use Rattle.reassembly.specs.Store.{Piece, first, follow, id_of, number_of, final_of, piece_bytes, is_held, some_held, plus, bad_length, bad_number, repeats, clashes, too_much}
use Rattle.reassembly.specs.Record.{piece_at}
use Rattle.reassembly.specs.Judge.{pick, same_label, misfits, grown_by}
use Rattle.reassembly.specs.Calls.{bad_size}
use Rattle.reassembly.specs.Stands.{table_at, message_with, Fine, label_of}
use Rattle.reassembly.proofs.Held.{some_above}
use Rattle.reassembly.proofs.Kept.{table_at_lem}

-- ---- a piece and its label

pub label_id : (p : Piece) → (label_of p).id ≡ id_of p
unfolding label_of id_of
label_id (first id kind expires bytes) = refl
label_id (follow id number final bytes) = refl

pub label_number : (p : Piece) → (label_of p).number ≡ number_of p
unfolding label_of number_of
label_number (first id kind expires bytes) = refl
label_number (follow id number final bytes) = refl

pub label_last : (p : Piece) → (label_of p).last ≡ final_of p
unfolding label_of final_of
label_last (first id kind expires bytes) = refl
label_last (follow id number final bytes) = refl

-- a number that is not refused is below 128
pub number_small : (p : Piece) → bad_number p ≡ false → (label_of p).number < 128
unfolding label_of bad_number
number_small (first id kind expires bytes) e = omega arith
number_small (follow id number final bytes) e = let q : number ≤ 127 = ltb-false 127 number (or_neither (eqb number 0) (ltb 127 number) e).1 in omega arith

-- ---- the tests of a piece whose slot has the head h

module _ (h : Head) (rec room : List ℕ) (i : ℕ) (f : Fine h rec room i) (long : share_room ≤ length room) (hi : i < 4) (p : Piece) (gn : bad_number p ≡ false) where
  swap₁ : (s a b : Bool) → (((true && s) && a) && b) ≡ ((a && b) && s)
  swap₁ true true true = refl
  swap₁ true true false = refl
  swap₁ true false b = refl
  swap₁ false true true = refl
  swap₁ false true false = refl
  swap₁ false false b = refl

  swap₂ : (s a : Bool) → ((true && s) && a) ≡ (a && s)
  swap₂ true true = refl
  swap₂ true false = refl
  swap₂ false true = refl
  swap₂ false false = refl

  pub repeats_held : is_held (get_or (table_at rec room i) (label_of p).number []) ≡ true
      → repeats (message_with h rec room i) p ≡ (same_label h (label_of p) && same (piece_at rec room i (label_of p).number) (piece_bytes p))
  unfolding repeats message_with label_of same_label piece_bytes bad_number
  repeats_held = go p gn
    where
      go : (p : Piece) → bad_number p ≡ false → is_held (get_or (table_at rec room i) (label_of p).number []) ≡ true
          → repeats (message_with h rec room i) p ≡ (same_label h (label_of p) && same (piece_at rec room i (label_of p).number) (piece_bytes p))
      go (first id kind expires bytes) g e = rw (e, table_at_lem rec room i 0 (omega arith)) (swap₁ (same (piece_at rec room i 0) bytes) (eqb h.kind kind) (eqb h.expires expires))
      go (follow id number final bytes) g e =
          let z : eqb number 0 ≡ false = (or_neither (eqb number 0) (ltb 127 number) g).0 in
          let s : number ≤ 127 = ltb-false 127 number (or_neither (eqb number 0) (ltb 127 number) g).1 in
          rw (e, table_at_lem rec room i number (omega arith), z) (swap₂ (same (piece_at rec room i number) bytes) (beq (eqb h.last number) final))

  pub repeats_free : is_held (get_or (table_at rec room i) (label_of p).number []) ≡ false → repeats (message_with h rec room i) p ≡ false
  unfolding repeats message_with label_of
  repeats_free = go p
    where
      go : (p : Piece) → is_held (get_or (table_at rec room i) (label_of p).number []) ≡ false → repeats (message_with h rec room i) p ≡ false
      go (first id kind expires bytes) e = rw e refl
      go (follow id number final bytes) e = rw e refl

  pub clashes_held : is_held (get_or (table_at rec room i) (label_of p).number []) ≡ true → clashes (message_with h rec room i) p ≡ true
  unfolding clashes message_with
  clashes_held e =
      let e' : is_held (get_or (table_at rec room i) (number_of p) []) ≡ true = ap (λ (n : ℕ). is_held (get_or (table_at rec room i) n [])) (sym (label_number p)) ∙ e in
      rw e' refl

  pub clashes_free : is_held (get_or (table_at rec room i) (label_of p).number []) ≡ false → clashes (message_with h rec room i) p ≡ misfits h (label_of p)
  unfolding clashes message_with misfits
  clashes_free e =
      let s : some_held (drop (suc (label_of p).number) (table_at rec room i)) ≡ ltb (label_of p).number h.top = some_above (table_at rec room i) (label_of p).number h.top f.top_held f.topmost in
      rw (← label_number p, ← label_last p, e, s) refl

  pub too_much_lem : too_much (message_with h rec room i) p ≡ ltb message_size (h.total + length (piece_bytes p))
  unfolding too_much message_with
  too_much_lem = rw f.filled refl

pub good_length : (p : Piece) → bad_length p ≡ bad_size (length (piece_bytes p))
unfolding bad_length bad_size
good_length p = refl

-- the message with the piece is what the slot stands for once the piece is kept
pub plus_is : (h : Head) (rec room rec' room' : List ℕ) (i : ℕ) (p : Piece) → bad_number p ≡ false
    → table_at rec' room' i ≡ set (table_at rec room i) (label_of p).number (piece_bytes p)
    → plus (message_with h rec room i) p ≡ message_with (grown_by h (label_of p) (length (piece_bytes p))) rec' room' i
unfolding plus message_with grown_by label_of piece_bytes bad_number
plus_is h rec room rec' room' i (first id kind expires bytes) g t =
    λ j. record { id = h.id; opened = h.opened; kind = kind; expires = expires; last = h.last; table = sym t j }
plus_is h rec room rec' room' i (follow id number final bytes) g t =
    let z : eqb number 0 ≡ false = (or_neither (eqb number 0) (ltb 127 number) g).0 in
    λ j. record {
      id = h.id;
      opened = h.opened;
      kind = pick (sym z j) 0 h.kind;
      expires = pick (sym z j) 0 h.expires;
      last = last_is final j;
      table = sym t j;
    }
  where
    last_is : (b : Bool) → cond b number h.last ≡ pick b number h.last
    last_is true = refl
    last_is false = refl
