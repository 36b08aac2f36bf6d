-- One message: what a slot holds when some of a cut message's pieces were delivered, and what it does with one more of them. Assumes nothing.
use mathlib.Core.Path.{◌≡◌, refl, sym, ap, ◌∙◌}
use mathlib.Core.Logic.{◌≢◌}
use mathlib.Core.Bool.{Bool, true, false, cond, false≢true}
use mathlib.Core.List.{List, []}
use mathlib.Core.Option.{none}
use Prim.Native.Nat.{ℕ, zero, suc, ◌-◌, ◌≤◌, ◌<◌}
use native.Mathlib.Omega.{arith}
use lib.ListN.{length, get_or, set, length-set, get_or-eq_default}
use lib.Seq.{get_or-set_same, get_or-set_other}
use lib.Dec.{eqb}
use native.Mathlib.Decide.{ℕ_discrete}
use borrow.Author.Tests.{eq-eqb, ne_eqb, eqb-true, eqb-false}
use Rattle.reassembly.specs.Sizes.{message_size}
use Rattle.reassembly.specs.Store.{Message, Rebuilt, id_of, number_of, final_of, piece_bytes, is_held, total, joined, message_or, plus, bad_length, bad_number, repeats, clashes, too_much, complete, rebuilt_of, too_short}
use Rattle.reassembly.proofs.Table.{held_of_length, total_le, length_joined}
use Rattle.reassembly.proofs.Stores as Stores
use Rattle.reassembly.proofs.Stores.{first_parts, follow_parts, Blank, message_new, plus_id, plus_opened, plus_last, plus_table, plus_first, plus_follow, length_good, first_good, follow_good, first_repeats, follow_repeats, complete_known, complete_unknown, whole_is, not_too_short}
use Rattle.promises.specs.Demand3.{Cut, Within, piece_of, cut_from, any_mark, all_marks}
use Rattle.promises.proofs.Demand3Marks.{all_at, not_all_at, none_at, all_held_lem}

-- The last number of a cut message
abbrev pub top : Cut → ℕ
top c = length c.pieces - 1

-- m holds exactly the marked pieces of c.
pub record Holds (c : Cut) (marks : List Bool) (began : ℕ) (m : Message) : Type 0 where
  pub id : m.id ≡ c.id
  pub opened : m.opened ≡ began
  pub kind : get_or marks 0 false ≡ true → m.kind ≡ c.kind
  pub expires : get_or marks 0 false ≡ true → m.expires ≡ c.expires
  pub last : m.last ≡ cond (get_or marks (top c) false) (top c) 0
  pub size : length m.table ≡ 128
  pub held : (i : ℕ) → get_or m.table i [] ≡ cond (get_or marks i false) (get_or c.pieces i []) []

-- The parts of a piece
pub id_piece : (c : Cut) (i : ℕ) → id_of (piece_of c i) ≡ c.id
id_piece c zero = (first_parts _ _ _ _).0
id_piece c (suc i) = (follow_parts _ _ _ _).0

pub number_piece : (c : Cut) (i : ℕ) → number_of (piece_of c i) ≡ i
number_piece c zero = (first_parts _ _ _ _).1
number_piece c (suc i) = (follow_parts _ _ _ _).1

pub bytes_piece : (c : Cut) (i : ℕ) → piece_bytes (piece_of c i) ≡ get_or c.pieces i []
bytes_piece c zero = (first_parts _ _ _ _).3
bytes_piece c (suc i) = (follow_parts _ _ _ _).3

pub final_piece : (c : Cut) (i : ℕ) → 2 ≤ length c.pieces → final_of (piece_of c i) ≡ eqb (suc i) (length c.pieces)
final_piece c zero h = (first_parts _ _ _ _).2 ∙ sym (ne_eqb 1 (length c.pieces) (λ e. omega arith))
final_piece c (suc i) h = (follow_parts _ _ _ _).2

-- A message of which no piece was marked: the new one holds it
pub holds_new : (c : Cut) (marks : List Bool) (second : ℕ) → any_mark marks ≡ false → Holds c marks second (message_or none c.id second)
holds_new c marks second e =
    let b : Blank c.id second (message_or none c.id second) = message_new c.id second in
    record {
      id = b.its_id;
      opened = b.opened;
      kind = λ h. absurd (false≢true (sym (none_at marks 0 e) ∙ h));
      expires = λ h. absurd (false≢true (sym (none_at marks 0 e) ∙ h));
      last = rw (none_at marks (top c) e) b.last;
      size = b.size;
      held = λ i. rw (none_at marks i e) (b.none_there i);
    }

module _ (c : Cut) (w : Within c) (marks : List Bool) (ml : length marks ≡ length c.pieces) (began : ℕ) (m : Message) (h : Holds c marks began m) where
  held_eq : (i : ℕ) → i < length marks → is_held (get_or m.table i []) ≡ get_or marks i false
  held_eq i k = go (get_or marks i false) refl
    where
      go : (b : Bool) → get_or marks i false ≡ b → is_held (get_or m.table i []) ≡ get_or marks i false
      go true e = rw (h.held i, e) (held_of_length (get_or c.pieces i []) (w.some_bytes i (omega arith)))
      go false e = rw (h.held i, e) refl

  pub total_holds : total m.table ≤ total c.pieces
  total_holds = total_le m.table c.pieces (λ i. go i (get_or marks i false) refl)
    where
      go : (i : ℕ) (b : Bool) → get_or marks i false ≡ b → length (get_or m.table i []) ≤ length (get_or c.pieces i [])
      go i true e = rw (h.held i, e) (omega arith)
      go i false e = rw (h.held i, e) (omega arith)

  -- the completeness test is the question whether all are marked
  pub complete_holds : complete m ≡ all_marks marks
  complete_holds = go (get_or marks (top c) false) refl
    where
      go : (b : Bool) → get_or marks (top c) false ≡ b → complete m ≡ all_marks marks
      go true e =
          let l : m.last ≡ top c = h.last ∙ rw e refl in
          let two : 2 ≤ length c.pieces = w.two in
          let n : suc m.last ≡ length marks = omega arith in
          complete_known m (omega arith) ∙ rw n (all_held_lem m.table marks (omega (arith, h.size, w.most)) held_eq)
      go false e =
          let two : 2 ≤ length c.pieces = w.two in
          complete_unknown m (h.last ∙ rw e refl) ∙ sym (not_all_at marks (top c) e (omega arith))

  -- and then what comes out is what was cut
  pub whole_holds : all_marks marks ≡ true → rebuilt_of m ≡ cut_from c
  unfolding cut_from
  whole_holds a =
      whole_is m c.pieces (omega (arith, l, two)) (omega (arith, h.size, w.most)) (λ i k. h.held i ∙ rw (all_at marks i a (omega arith)) refl)
      ∙ λ i. record { kind = h.kind (all_at marks 0 a (omega (arith, two))) i; expires = h.expires (all_at marks 0 a (omega (arith, two))) i; bytes = joined c.pieces }
    where
      two : 2 ≤ length c.pieces
      two = w.two

      l : m.last ≡ top c
      l = h.last ∙ rw (all_at marks (top c) a (omega (arith, two))) refl

  pub long_enough : (cap : ℕ) → message_size ≤ cap → all_marks marks ≡ true → too_short cap m ≡ false
  unfolding cut_from
  long_enough cap k a =
      let e : length (rebuilt_of m).bytes ≡ total c.pieces = ap (λ (x : Rebuilt). length x.bytes) (whole_holds a) ∙ length_joined c.pieces in
      not_too_short cap m (omega (arith, w.in_all))

-- A piece of c arrives.
module _ (c : Cut) (w : Within c) where
  pub good_length : (i : ℕ) → i < length c.pieces → bad_length (piece_of c i) ≡ false
  good_length i ic = length_good (piece_of c i) (rw (bytes_piece c i) (w.some_bytes i ic)) (rw (bytes_piece c i) (w.few_bytes i ic))

  pub good_number : (i : ℕ) → i < length c.pieces → bad_number (piece_of c i) ≡ false
  good_number zero ic = first_good _ _ _ _
  good_number (suc i) ic = follow_good _ (suc i) _ _ (omega arith) (omega (arith, w.most))

module _ (c : Cut) (w : Within c) (marks : List Bool) (ml : length marks ≡ length c.pieces) (began : ℕ) (m : Message) (h : Holds c marks began m) where
  -- the flag that the slot shows of a number
  flag_shown : (i : ℕ) → suc i < length c.pieces → get_or marks (suc i) false ≡ true → eqb m.last (suc i) ≡ eqb (suc (suc i)) (length c.pieces)
  flag_shown i ic e = go (ℕ_discrete (suc i) (top c))
    where
      go : Dec (suc i ≡ top c) → eqb m.last (suc i) ≡ eqb (suc (suc i)) (length c.pieces)
      go (yes q) =
          let l : m.last ≡ top c = h.last ∙ rw (ap (λ (k : ℕ). get_or marks k false) (sym q) ∙ e) refl in
          eq-eqb m.last (suc i) (omega arith) ∙ sym (eq-eqb (suc (suc i)) (length c.pieces) (omega arith))
      go (no q) = apart (get_or marks (top c) false) refl ∙ sym (ne_eqb (suc (suc i)) (length c.pieces) (λ e'. q (omega arith)))
        where
          apart : (b : Bool) → get_or marks (top c) false ≡ b → eqb m.last (suc i) ≡ false
          apart true e' = let l : m.last ≡ top c = h.last ∙ rw e' refl in ne_eqb m.last (suc i) (λ z. q (omega arith))
          apart false e' = let l : m.last ≡ 0 = h.last ∙ rw e' refl in ne_eqb m.last (suc i) (λ z. omega arith)

  pub repeats_marked : (i : ℕ) → i < length c.pieces → get_or marks i false ≡ true → repeats m (piece_of c i) ≡ true
  repeats_marked zero ic e = first_repeats m _ _ _ _ (w.some_bytes 0 ic) (h.held 0 ∙ rw e refl) (h.kind e) (h.expires e)
  repeats_marked (suc i) ic e = follow_repeats m _ (suc i) _ _ (w.some_bytes (suc i) ic) (h.held (suc i) ∙ rw e refl) (flag_shown i ic e)

  -- The table with piece i in it
  table_is : (i : ℕ) → (plus m (piece_of c i)).table ≡ set m.table i (get_or c.pieces i [])
  table_is i = plus_table m (piece_of c i) ∙ rw (number_piece c i, bytes_piece c i) refl

  table_plus : (i : ℕ) → i < length c.pieces → (j : ℕ) → get_or (set m.table i (get_or c.pieces i [])) j [] ≡ cond (get_or (set marks i true) j false) (get_or c.pieces j []) []
  table_plus i ic j = go (ℕ_discrete j i)
    where
      go : Dec (j ≡ i) → get_or (set m.table i (get_or c.pieces i [])) j [] ≡ cond (get_or (set marks i true) j false) (get_or c.pieces j []) []
      go (yes q) = rw q
          (rw (get_or-set_same m.table i (get_or c.pieces i []) [] (omega (arith, h.size, w.most)), get_or-set_same marks i true false (omega arith)) refl)
      go (no q) =
          rw (get_or-set_other m.table i j (get_or c.pieces i []) [] q, get_or-set_other marks i j true false q) (h.held j)

  last_plus : (i : ℕ) → i < length c.pieces → cond (eqb (suc i) (length c.pieces)) i m.last ≡ cond (get_or (set marks i true) (top c) false) (top c) 0
  last_plus i ic = go (eqb (suc i) (length c.pieces)) refl
    where
      go : (b : Bool) → eqb (suc i) (length c.pieces) ≡ b → cond (eqb (suc i) (length c.pieces)) i m.last ≡ cond (get_or (set marks i true) (top c) false) (top c) 0
      go true q =
          let n : suc i ≡ length c.pieces = eqb-true (suc i) (length c.pieces) q in
          let t : top c ≡ i = omega arith in
          rw (q, t, get_or-set_same marks i true false (omega arith)) refl
      go false q =
          let t : top c ≢ i = λ e. eqb-false (suc i) (length c.pieces) q (omega arith) in
          rw (q, get_or-set_other marks i (top c) true false t) h.last

  head_plus : (i : ℕ) → get_or (set marks i true) 0 false ≡ true → ((plus m (piece_of c i)).kind ≡ c.kind) × ((plus m (piece_of c i)).expires ≡ c.expires)
  head_plus zero e = plus_first m _ _ _ _
  head_plus (suc i) e =
      let z : get_or marks 0 false ≡ true = sym (get_or-set_other marks (suc i) 0 true false (λ z. omega arith)) ∙ e in
      ((plus_follow m _ _ _ _).0 ∙ h.kind z, (plus_follow m _ _ _ _).1 ∙ h.expires z)

  pub holds_plus : (i : ℕ) → i < length c.pieces → Holds c (set marks i true) began (plus m (piece_of c i))
  holds_plus i ic =
      record {
        id = plus_id m (piece_of c i) ∙ h.id;
        opened = plus_opened m (piece_of c i) ∙ h.opened;
        kind = λ e. (head_plus i e).0;
        expires = λ e. (head_plus i e).1;
        last = plus_last m (piece_of c i) ∙ rw (number_piece c i, final_piece c i w.two) (last_plus i ic);
        size = ap length (table_is i) ∙ length-set m.table i (get_or c.pieces i []) ∙ h.size;
        held = λ j. ap (λ (t : List (List ℕ)). get_or t j []) (table_is i) ∙ table_plus i ic j;
      }

  module _ (i : ℕ) (ic : i < length c.pieces) (e : get_or marks i false ≡ false) where
    free_place : get_or m.table (number_of (piece_of c i)) [] ≡ []
    free_place = rw (number_piece c i) (h.held i ∙ rw e refl)

    pub no_repeat : repeats m (piece_of c i) ≡ false
    no_repeat = Stores.no_repeat m (piece_of c i) free_place

    pub no_clash : clashes m (piece_of c i) ≡ false
    no_clash = Stores.no_clash m (piece_of c i) free_place (λ z. rw (number_piece c i) (below (get_or marks (top c) false) refl z)) lasts
      where
        below : (b : Bool) → get_or marks (top c) false ≡ b → 0 < m.last → i ≤ m.last
        below true q z = let l : m.last ≡ top c = h.last ∙ rw q refl in omega arith
        below false q z = let l : m.last ≡ 0 = h.last ∙ rw q refl in omega arith

        lasts : final_of (piece_of c i) ≡ true → (m.last ≡ 0) × ((k : ℕ) → number_of (piece_of c i) < k → get_or m.table k [] ≡ [])
        lasts q =
            let n : suc i ≡ length c.pieces = eqb-true (suc i) (length c.pieces) (sym (final_piece c i w.two) ∙ q) in
            let t : top c ≡ i = omega arith in (
              h.last ∙ rw (ap (λ (k : ℕ). get_or marks k false) t ∙ e) refl,
              λ k z. let a : i < k = rw (number_piece c i) at z in h.held k ∙ rw (get_or-eq_default marks false {n = k} (omega arith)) refl,
            )

    pub not_too_much : too_much m (piece_of c i) ≡ false
    not_too_much =
        let a : total (plus m (piece_of c i)).table ≤ total c.pieces = total_holds c w (set marks i true) (length-set marks i true ∙ ml) began (plus m (piece_of c i)) (holds_plus i ic) in
        Stores.not_too_much m (piece_of c i) (rw (number_piece c i) (omega (arith, h.size, w.most))) free_place (omega (arith, w.in_all))
