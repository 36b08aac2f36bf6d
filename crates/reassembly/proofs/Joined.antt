-- Laws of a slot's pieces, and of a loop that lays them down. Assumes nothing.
use mathlib.Core.Path.{◌≡◌, refl, sym, ap, ◌∙◌}
use mathlib.Core.Bool.{Bool, true, false, ◌||◌, or-true}
use mathlib.Core.List.{List}
use mathlib.Core.Logic.{⊎_elim}
use Prim.Native.Nat.{ℕ, zero, suc, ◌+◌, ◌*◌, ◌≤◌, ◌<◌}
use native.Mathlib.Decide.{ℕ_discrete}
use native.Mathlib.Nat.{eq-or-lt_of_le}
use native.Mathlib.Numerals.{add-one}
use native.Mathlib.Omega.{arith}
use lib.ListN.{length, length-append}
use borrow.Author.Tests.{eq-eqb, ne_eqb, le-ltb, ltb-false}
use Rattle.wire.specs.Parts.{splice}
use Rattle.wire.proofs.Parts.{length_part, splice_join}
use Rattle.wire.proofs.Tests.{or_neither}
use Rattle.reassembly.specs.Sizes.{slot_size, share_room}
use Rattle.reassembly.specs.declared.Entry.{Entry}
use Rattle.reassembly.specs.Record.{room_of, entry_at, outside, piece_at}
use Rattle.reassembly.specs.Joining.{piece_or, joined_below, message_of, outside_or, some_of, joins_outside, length_or, sum_of}

pub length_room : (room : List ℕ) (i : ℕ) → share_room ≤ length room → i < 4 → length (room_of room i) ≡ slot_size
unfolding room_of
length_room room i h k = length_part room (i * slot_size) slot_size (omega arith)

-- bytes that are not outside
pub inside_le : (e : Entry) → outside e ≡ false → e.place + e.len ≤ slot_size
unfolding outside
inside_le e q = ltb-false slot_size (e.place + e.len) q

pub le_inside : (e : Entry) → e.place + e.len ≤ slot_size → outside e ≡ false
unfolding outside
le_inside e h = le-ltb slot_size (e.place + e.len) h

-- a piece that is not outside is as long as its entry says
pub inside_length : (rec room : List ℕ) (i k : ℕ) → share_room ≤ length room → i < 4 → outside (entry_at rec i k) ≡ false → length (piece_at rec room i k) ≡ (entry_at rec i k).len
unfolding piece_at
inside_length rec room i k long hi q =
    length_part (room_of room i) (entry_at rec i k).place (entry_at rec i k).len (omega (arith, inside_le (entry_at rec i k) q, length_room room i long hi))

pub piece_given : (rec room : List ℕ) (i m : ℕ) (v : List ℕ) (k : ℕ) → k ≡ m → piece_or rec room i m v k ≡ v
unfolding piece_or
piece_given rec room i m v k e = rw (eq-eqb k m e)

pub piece_held : (rec room : List ℕ) (i m : ℕ) (v : List ℕ) (k : ℕ) → (k ≡ m → ⊥) → piece_or rec room i m v k ≡ piece_at rec room i k
unfolding piece_or
piece_held rec room i m v k ne = rw (ne_eqb k m ne)

pub outside_given : (rec : List ℕ) (i m k : ℕ) → k ≡ m → outside_or rec i m k ≡ false
unfolding outside_or
outside_given rec i m k e = rw (eq-eqb k m e) refl

pub outside_held : (rec : List ℕ) (i m k : ℕ) → (k ≡ m → ⊥) → outside_or rec i m k ≡ outside (entry_at rec i k)
unfolding outside_or
outside_held rec i m k ne = rw (ne_eqb k m ne) refl

pub length_given : (rec : List ℕ) (i m n k : ℕ) → k ≡ m → length_or rec i m n k ≡ n
unfolding length_or
length_given rec i m n k e = rw (eq-eqb k m e) refl

pub length_held : (rec : List ℕ) (i m n k : ℕ) → (k ≡ m → ⊥) → length_or rec i m n k ≡ (entry_at rec i k).len
unfolding length_or
length_held rec i m n k ne = rw (ne_eqb k m ne) refl

-- none of some, and one of some
pub none_of : (p : ℕ → Bool) (n k : ℕ) → k < n → some_of p n ≡ false → p k ≡ false
none_of p zero k h e = absurd (omega arith)
none_of p (suc n) k h e =
    ⊎_elim (λ (q : k ≡ n). ap p q ∙ (or_neither (some_of p n) (p n) e).1) (λ (q : k < n). none_of p n k q (or_neither (some_of p n) (p n) e).0) (eq-or-lt_of_le (below k n h))
  where
    below : (k n : ℕ) → k < suc n → k ≤ n
    below k n h = omega arith

pub some_at : (p : ℕ → Bool) (n k : ℕ) → k < n → p k ≡ true → some_of p n ≡ true
some_at p zero k h e = absurd (omega arith)
some_at p (suc n) k h e = go (ℕ_discrete k n) (λ below. some_at p n k below e)
  where
    go : Dec (k ≡ n) → (k < n → some_of p n ≡ true) → (some_of p n || p n) ≡ true
    go (yes q) ih = rw (ap p (sym q) ∙ e) (or-true (some_of p n))
    go (no q) ih = rw (ih (omega arith)) refl

pub none_all : (p : ℕ → Bool) (n : ℕ) → ((k : ℕ) → k < n → p k ≡ false) → some_of p n ≡ false
none_all p zero f = refl
none_all p (suc n) f = rw (none_all p n (λ k h. f k (omega arith)), f n (omega arith)) refl

-- one piece more
pub more_length : (f : ℕ → List ℕ) (n : ℕ) → length (joined_below f (n + 1)) ≡ length (joined_below f n) + length (f n)
more_length f n = rw add-one (length-append (joined_below f n) (f n))

pub more_mono : (f : ℕ → List ℕ) (m n : ℕ) → m ≤ n → length (joined_below f m) ≤ length (joined_below f n)
more_mono f m zero h = rw (m_zero m h) (omega arith)
  where
    m_zero : (m : ℕ) → m ≤ 0 → m ≡ 0
    m_zero m h = omega arith
more_mono f m (suc n) h =
    ⊎_elim (λ (q : m ≡ suc n). rw q (omega arith)) (λ (q : m < suc n). omega (arith, more_mono f m n (omega arith), length-append (joined_below f n) (f n))) (eq-or-lt_of_le h)

-- where none is outside, the lengths of the entries add up to the message's
lengths : (rec room : List ℕ) (i m : ℕ) (v : List ℕ) → share_room ≤ length room → i < 4 → (n : ℕ) → some_of (outside_or rec i m) n ≡ false
    → sum_of (length_or rec i m (length v)) n ≡ length (joined_below (piece_or rec room i m v) n)
lengths rec room i m v long hi zero e = refl
lengths rec room i m v long hi (suc n) e =
    let q = or_neither (some_of (outside_or rec i m) n) (outside_or rec i m n) e in
    let f : ℕ → List ℕ = piece_or rec room i m v in
    let a : sum_of (length_or rec i m (length v)) n ≡ length (joined_below f n) = lengths rec room i m v long hi n q.0 in
    let b : length_or rec i m (length v) n ≡ length (f n) = one (ℕ_discrete n m) q.1 in
    omega (arith, length-append (joined_below f n) (f n))
  where
    one : Dec (n ≡ m) → outside_or rec i m n ≡ false → length_or rec i m (length v) n ≡ length (piece_or rec room i m v n)
    one (yes y) o = length_given rec i m (length v) n y ∙ sym (ap length (piece_given rec room i m v n y))
    one (no y) o =
        length_held rec i m (length v) n y
        ∙ sym (ap length (piece_held rec room i m v n y) ∙ inside_length rec room i n long hi (sym (outside_held rec i m n y) ∙ o))

pub measured : (rec room : List ℕ) (i m : ℕ) (v : List ℕ) (n : ℕ) (o : Bool) (size : ℕ) → share_room ≤ length room → i < 4
    → o ≡ joins_outside rec i m n → size ≡ sum_of (length_or rec i m (length v)) n → o ≡ false → size ≡ length (message_of rec room i m v n)
unfolding joins_outside message_of
measured rec room i m v n o size long hi eo es f = es ∙ lengths rec room i m v long hi n (sym eo ∙ f)

-- a turn of a loop that lays pieces down
pub laid_turn : (f : ℕ → List ℕ) (d : List ℕ) (k : ℕ) → length (joined_below f (k + 1)) ≤ length d → splice (splice d 0 (joined_below f k)) (length (joined_below f k)) (f k) ≡ splice d 0 (joined_below f (k + 1))
laid_turn f d k h =
    let e : length (joined_below f k) ≡ 0 + length (joined_below f k) = omega arith in
    ap (λ (z : ℕ). splice (splice d 0 (joined_below f k)) z (f k)) e
    ∙ splice_join d 0 (joined_below f k) (f k) (omega (arith, more_length f k))
    ∙ ap (λ (z : ℕ). splice d 0 (joined_below f z)) (sym (add-one k))
