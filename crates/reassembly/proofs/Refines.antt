-- A piece that is taken: record, room and assembly buffer afterwards stand for the store's step. Assumes nothing.
use mathlib.Core.Path.{◌≡◌, refl, sym, ap, ◌∙◌, subst}
use mathlib.Core.Bool.{Bool, true, false, cond, true≢false}
use mathlib.Core.List.{List, []}
use mathlib.Core.Option.{Option, none, some}
use Prim.Native.Nat.{ℕ, suc, ◌+◌, ◌≤◌, ◌<◌}
use native.Mathlib.Omega.{arith}
use native.Mathlib.Numerals.{add-one}
use lib.Dec.{eqb, ltb}
use lib.ListN.{length, get_or, set, take}
use borrow.Author.Tests.{ne_eqb, lt-ltb, le-ltb, ltb-false, lt-leb}
use Rattle.reassembly.specs.Sizes.{message_size, share_room, share_size}
use Rattle.reassembly.specs.declared.Head.{Head}
use Rattle.reassembly.specs.declared.Label.{Label}
use Rattle.wire.specs.Series.{series}
use Rattle.reassembly.specs.Store.{Piece, piece_bytes, Message, Slots, Rebuilt, SlotsAnswer, is_held, joined, plus, bad_length, bad_number, repeats, clashes, too_much, complete, rebuilt_of, too_short, slots_refuse, answer}
use Rattle.reassembly.specs.Record.{head_at, with_head, piece_at}
use Rattle.reassembly.specs.Slots.{is_free}
use Rattle.reassembly.specs.Judge.{misfits, more_of, grown_by, is_complete, no_head}
use Rattle.reassembly.specs.Joining.{piece_or, joined_below, message_of, joins_outside}
use Rattle.reassembly.specs.Calls.{lent, After, after, bare, kept_rec, kept_room, finished}
use Rattle.reassembly.specs.Stands.{table_at, message_with, slot_at, slots_of, Fine, SlotsMade, label_of, reply_for, laid_out}
use Rattle.reassembly.proofs.Branches.{good_size}
use Rattle.reassembly.proofs.Joined.{piece_given, piece_held}
use Rattle.wire.proofs.Series.{series_set}
use Rattle.reassembly.proofs.Held.{joined_series}
use Rattle.reassembly.proofs.Written.{length_head, length_kept}
use Rattle.reassembly.proofs.Kept.{joins_inside, complete_is, kept_long, kept_head, kept_fine, table_kept}
use Rattle.reassembly.proofs.Others.{Others, others_both, others_head, others_kept, stands_with, made_with, freed_slot, freed_free}
use Rattle.reassembly.proofs.Answers.{number_small, repeats_free, clashes_free, too_much_lem, good_length, plus_is}
use Rattle.reassembly.proofs.Stores as Stores

-- A call did to record, room and assembly buffer what the slots' answer says, and left slots that meet their invariant.
pub record SlotsAgree (out : List ℕ) (x : After) (a : SlotsAnswer) : Type 0 where
  pub reply : x.reply ≡ reply_for a.number a.out
  pub delivered : x.left.out ≡ laid_out out a.out
  pub slots : slots_of x.left.rec x.left.room ≡ a.slots
  pub made : SlotsMade x.left.rec x.left.room

-- a reply has the answer's number
pub number_of : (n : ℕ) (o : Option Rebuilt) → (reply_for n o).number ≡ n
unfolding reply_for bare
number_of n none = refl
number_of n (some w) = refl

-- a refusal changes nothing
pub refusal : (rec room out : List ℕ) (n : ℕ) → SlotsMade rec room → SlotsAgree out (after (bare n) (lent rec room out)) (slots_refuse n (slots_of rec room))
unfolding slots_refuse reply_for laid_out
refusal rec room out n m = record { reply = refl; delivered = refl; slots = refl; made = m }

more_positive : (c : ℕ) → eqb (more_of c) 0 ≡ false
unfolding more_of
more_positive c = go (ltb c 255) refl
  where
    go : (b : Bool) → ltb c 255 ≡ b → eqb (cond (ltb c 255) (c + 1) c) 0 ≡ false
    go true e = rw e (ne_eqb (c + 1) 0 (λ z. omega arith))
    go false e = let l : 255 ≤ c = ltb-false c 255 e in rw e (ne_eqb c 0 (λ z. omega arith))

-- the bytes 1 to 1,500 of a piece that is not refused
pub size_of : (p : Piece) → bad_length p ≡ false → (1 ≤ length (piece_bytes p)) × (length (piece_bytes p) ≤ 1500)
size_of p e = let q = good_size (length (piece_bytes p)) (sym (good_length p) ∙ e) in (omega (arith, q.0), q.1)

-- A piece that fits a slot whose head is h.
module _ (h : Head) (rec room : List ℕ) (i : ℕ) (f : Fine h rec room i) (rlong : share_size ≤ length rec) (long : share_room ≤ length room) (hi : i < 4)
    (p : Piece) (gl : bad_length p ≡ false) (gn : bad_number p ≡ false) (lx : (label_of p).expires < 4294967296)
    (free : is_held (get_or (table_at rec room i) (label_of p).number []) ≡ false) (ok : misfits h (label_of p) ≡ false)
    (out : List ℕ) (s : Slots) (in-s : i < length s) where
  abbrev l : Label
  l = label_of p

  abbrev v : List ℕ
  v = piece_bytes p

  abbrev g : Head
  g = grown_by h l (length v)

  abbrev m : Message
  m = message_with h rec room i

  abbrev rec' : List ℕ
  rec' = kept_rec rec i l.number h.total (length v) g

  abbrev room' : List ℕ
  room' = kept_room room i h.total v

  pub answer_53 : message_size < h.total + length v → answer (length out) s p i m ≡ slots_refuse 53 s
  unfolding answer
  answer_53 t =
      rw (
        repeats_free h rec room i f long hi p gn free,
        clashes_free h rec room i f long hi p gn free ∙ ok,
        lt-leb (length s) i in-s,
        too_much_lem h rec room i f long hi p gn ∙ lt-ltb message_size (h.total + length v) t,
      ) refl

  module _ (fits : h.total + length v ≤ message_size) where
    table_is : table_at rec' room' i ≡ set (table_at rec room i) l.number v
    table_is = table_kept h rec room i f rlong long hi l v (number_small p gn) (size_of p gl).0 (size_of p gl).1 fits lx free ok

    fine' : Fine g rec' room' i
    fine' = kept_fine h rec room i f rlong long hi l v (number_small p gn) (size_of p gl).0 (size_of p gl).1 fits lx free ok

    head' : head_at rec' i ≡ g
    head' = kept_head h rec room i f rlong long hi l v (number_small p gn) (size_of p gl).0 (size_of p gl).1 fits lx free ok

    long_rec' : share_size ≤ length rec'
    long_rec' = omega (arith, kept_long h rec room i f rlong long hi l v (number_small p gn) (size_of p gl).0 (size_of p gl).1 fits lx free ok)

    long_room' : share_room ≤ length room'
    long_room' = omega (arith, length_kept room long i hi h.total v fits)

    with_piece : plus m p ≡ message_with g rec' room' i
    with_piece = plus_is h rec room rec' room' i p gn table_is

    whole_is : complete (plus m p) ≡ is_complete g
    whole_is = ap complete with_piece ∙ complete_is g rec' room' i fine' long_room' hi

    -- the pieces up to the last number, the new one among them, one after the other
    bytes_are : (rebuilt_of (plus m p)).bytes ≡ message_of rec room i l.number v (g.last + 1)
    unfolding rebuilt_of message_with message_of table_at
    bytes_are =
        ap (λ (x : Message). joined (take (suc x.last) x.table)) with_piece
        ∙ ap (λ (t : List (List ℕ)). joined (take (suc g.last) t)) (table_is ∙ sym series_is)
        ∙ joined_series (piece_or rec room i l.number v) 128 (suc g.last) (omega (arith, fine'.last_small))
        ∙ ap (joined_below (piece_or rec room i l.number v)) (sym (add-one g.last))
      where
        series_is : series (piece_or rec room i l.number v) 0 128 ≡ set (series (piece_at rec room i) 0 128) l.number v
        series_is = series_set (piece_at rec room i) (piece_or rec room i l.number v) 128 l.number v [] (number_small p gn)
            (piece_given rec room i l.number v l.number refl) (λ j hj q. piece_held rec room i l.number v j q)

    whole_of : rebuilt_of (plus m p) ≡ record { kind = g.kind; expires = g.expires; bytes = message_of rec room i l.number v (g.last + 1) }
    whole_of = λ j. record { kind = typ_is j; expires = expires_is j; bytes = bytes_are j }
      where
        typ_is : (rebuilt_of (plus m p)).kind ≡ g.kind
        typ_is = unfold rebuilt_of message_with in ap (λ (x : Message). x.kind) with_piece

        expires_is : (rebuilt_of (plus m p)).expires ≡ g.expires
        expires_is = unfold rebuilt_of message_with in ap (λ (x : Message). x.expires) with_piece

    -- the tests that the piece has passed
    no_repeat : repeats m p ≡ false
    no_repeat = repeats_free h rec room i f long hi p gn free

    no_clash : clashes m p ≡ false
    no_clash = clashes_free h rec room i f long hi p gn free ∙ ok

    few : too_much m p ≡ false
    few = too_much_lem h rec room i f long hi p gn ∙ le-ltb message_size (h.total + length v) fits

    pub answer_kept : is_complete g ≡ false → answer (length out) s p i m ≡ record { number = 0; out = none; slots = set s i (some (plus m p)) }
    answer_kept w = Stores.answer_kept (length out) s p i m no_repeat no_clash in-s few (whole_is ∙ w)

    answer_whole : is_complete g ≡ true → answer (length out) s p i m
        ≡ cond (too_short (length out) (plus m p)) (slots_refuse 56 s) (record { number = 60; out = some (rebuilt_of (plus m p)); slots = set s i none })
    answer_whole w = Stores.answer_whole (length out) s p i m no_repeat no_clash in-s few (whole_is ∙ w)

    short_is : too_short (length out) (plus m p) ≡ ltb (length out) (length (message_of rec room i l.number v (g.last + 1)))
    unfolding too_short
    short_is = ap (λ (z : List ℕ). ltb (length out) (length z)) bytes_are

    slot_kept : slot_at rec' room' i ≡ some (plus m p)
    unfolding slot_at is_free
    slot_kept =
        ap (λ (x : Head). cond (eqb x.count 0) none (some (message_with x rec' room' i))) head'
        ∙ ap (λ (b : Bool). cond b none (some (message_with g rec' room' i))) count_is
        ∙ ap {B = Option Message} some (sym with_piece)
      where
        count_is : eqb g.count 0 ≡ false
        count_is = unfold grown_by in more_positive h.count

    -- the piece is kept, in a record that differs from one that calls made in slot i alone
    pub kept_agrees : (rec₀ : List ℕ) → SlotsMade rec₀ room → Others rec₀ room rec room i
        → SlotsAgree out (after (bare 0) (lent rec' room' out)) (record { number = 0; out = none; slots = set (slots_of rec₀ room) i (some (plus m p)) })
    unfolding reply_for laid_out
    kept_agrees rec₀ made o =
        let o' : Others rec₀ room rec' room' i = others_both rec₀ room rec room rec' room' i o (others_kept rec room i l.number h.total v g rlong long hi (number_small p gn) fits) in
        record {
          reply = refl;
          delivered = refl;
          slots = stands_with rec₀ room rec' room' i made long_rec' long_room' hi o' (some (plus m p)) slot_kept;
          made = made_with rec₀ room rec' room' i made long_rec' long_room' hi o' (λ e. subst (λ (x : Head). Fine x rec' room' i) (sym head') fine');
        }

    -- no piece that is joined lies outside
    joins : joins_outside rec i l.number (g.last + 1) ≡ false
    joins = joins_inside h rec room i f long hi l.number (g.last + 1) (omega (arith, fine'.last_small))

    -- the message is finished
    pub finished_agrees : SlotsMade rec room → is_complete g ≡ true → s ≡ slots_of rec room → SlotsAgree out (finished (lent rec room out) i l g v) (answer (length out) s p i m)
    finished_agrees made w es = subst (λ (a : SlotsAnswer). SlotsAgree out (finished (lent rec room out) i l g v) a) (sym (answer_whole w)) (go (ltb (length out) (length (message_of rec room i l.number v (g.last + 1)))) refl)
      where
        go : (b : Bool) → ltb (length out) (length (message_of rec room i l.number v (g.last + 1))) ≡ b
            → SlotsAgree out (finished (lent rec room out) i l g v) (cond (too_short (length out) (plus m p)) (slots_refuse 56 s) (record { number = 60; out = some (rebuilt_of (plus m p)); slots = set s i none }))
        go true e = unfold finished in rw (joins, short_is, e, es) (refusal rec room out 56 made)
        go false e = unfold finished in rw (joins, short_is, e, es, whole_of)
            (record {
              reply = unfold reply_for in refl;
              delivered = unfold laid_out in refl;
              slots = stands_with rec room (with_head rec i no_head) room i made (omega (arith, length_head rec rlong i hi no_head)) long hi (others_head rec room i no_head rlong hi) none (freed_slot rec room i rlong hi);
              made = made_with rec room (with_head rec i no_head) room i made (omega (arith, length_head rec rlong i hi no_head)) long hi (others_head rec room i no_head rlong hi)
                  (λ q. absurd (true≢false (sym (freed_free rec i rlong hi) ∙ q)));
            })
