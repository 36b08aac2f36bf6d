-- The round trips, each for every type at once: a block that was written, read where it stands, is that block; one that was read, written with its fields and the bytes that it shows, is the same bytes again. Assumes nothing.
use Rattle.std.specs.Prelude.{Result, Ok, Err}
use mathlib.Core.Path.{◌≡◌, refl, sym, ap, ◌∙◌, subst}
use mathlib.Core.Bool.{Bool, true, false, cond, not, ◌&&◌, ◌||◌, false≢true}
use mathlib.Core.List.{List, [], ◌∷◌, ◌++◌, append_assoc, append-nil}
use Prim.Native.Nat.{ℕ, suc, ◌+◌, ◌-◌, ◌≤◌, ◌<◌}
use native.Mathlib.Omega.{arith}
use lib.Dec.{ltb, eqb}
use lib.ListN.{length, take, drop, get_or, length-append}
use borrow.Author.Tests.{ltb-false, eqb-true}
use Rattle.wire.specs.Parts.{part, splice}
use Rattle.wire.specs.Numbers.{Bytes, big_at, big_bytes}
use Rattle.wire.proofs.Tests.{and_both}
use Rattle.wire.proofs.Parts.{part_middle, length_splice, splice_pieces, length_part, part_first, part_join}
use Rattle.wire.proofs.Numbers.{length_big, big_at_back, big_at_again, big_at_lt}
use Rattle.blocks.specs.declared.After.{After}
use Rattle.blocks.specs.declared.After.TheVariants.{Nothing, Any, Some, Pairs, Ip}
use Rattle.blocks.specs.Outcomes as End
use Rattle.blocks.specs.Outcomes.{Read}
use Rattle.blocks.specs.Layout.{sum, fields_at, field_bytes, fits, eight}
use Rattle.blocks.specs.Table.{look, widths, after_fields, typed, field_length, carries, allowed}
use Rattle.blocks.specs.Extent.{is_i2np_type, kind_at, size_at, extent_at}
use Rattle.blocks.specs.Reading.{bytes_after, block_read, read_at, bytes_at, reading}
use Rattle.blocks.specs.Writing.{carried_bytes, size_of, block_bytes, is_proper, writing, room_after, stored}
use Rattle.blocks.specs.Claims.{own_fields, WriteThenRead, shown_bytes, ReadThenWrite}
use Rattle.blocks.specs.Sound.{body_length}
use Rattle.blocks.proofs.Tables.{at}
use Rattle.blocks.proofs.Ends.{ended, Bounded, bounded}
use Rattle.blocks.proofs.Laws.{fits_length, length_bytes, fields_back, length_fields, eight_bytes, fields_again}
use Rattle.blocks.proofs.Rows.{number_one}
use Rattle.blocks.proofs.Answers.{reads_block, is_length}
use Rattle.blocks.proofs.Takes.{Fine, fine, Good, taken_good, fixed_length}
use Rattle.blocks.proofs.ReadExtents.{read_extent, fields_fit_there}

-- ---- a message's type is the first byte of its body

first_wide : ℕ → Bool
first_wide k = not (typed k) || eqb (get_or (widths k) 0 0) 1

a_byte : (k : ℕ) → k < 256 → typed k ≡ true → get_or (widths k) 0 0 ≡ 1
unfolding first_wide typed widths look
a_byte k h t = eqb-true (get_or (widths k) 0 0) 1 (sym (ap (λ (b : Bool). not b || eqb (get_or (widths k) 0 0) 1) t) ∙ at first_wide 256 refl k h)

first_field : (ws s : List ℕ) (o : ℕ) → get_or ws 0 0 ≡ 1 → o + sum ws ≤ length s → get_or (fields_at ws s o) 0 0 ≡ get_or s o 0
unfolding fields_at sum
first_field [] s o e h = absurd (omega arith)
first_field (w ∷ ws) s o e h = ap (λ (n : ℕ). big_at n s o) e ∙ sym (number_one s o (omega (arith, e)))

first_taken_lem : (ws vs : List ℕ) → get_or ws 0 0 ≡ 1 → get_or (take (length ws) vs) 0 0 ≡ get_or vs 0 0
first_taken_lem [] vs e = absurd (omega arith)
first_taken_lem (w ∷ ws) [] e = refl
first_taken_lem (w ∷ ws) (v ∷ vs) e = refl

first_eight : (vs : List ℕ) → get_or (eight vs) 0 0 ≡ get_or vs 0 0
unfolding eight
first_eight [] = refl
first_eight (v ∷ vs) = refl

-- the same test of the first field and of the first byte
same_test : (s fields : List ℕ) (o k : ℕ) → (typed k ≡ true → get_or fields 0 0 ≡ get_or s o 0) → cond (typed k) (is_i2np_type (get_or fields 0 0)) true ≡ cond (typed k) (is_i2np_type (get_or s o 0)) true
same_test s fields o k h = go (typed k) refl
  where
    go : (b : Bool) → typed k ≡ b → cond b (is_i2np_type (get_or fields 0 0)) true ≡ cond b (is_i2np_type (get_or s o 0)) true
    go true e = ap is_i2np_type (h e)
    go false e = refl

-- ---- what may follow

-- what may be lent may follow
may_follow : (a : After) (body : List ℕ) → allowed a (length body) ≡ true → allowed a (length (cond (carries a) body [])) ≡ true
may_follow Nothing body e = refl
may_follow Any body e = refl
may_follow Some body e = e
may_follow Pairs body e = e
may_follow Ip body e = e

-- where nothing follows, anything may be lent
may_lend : (a : After) (n : ℕ) → carries a ≡ false → allowed a n ≡ true
may_lend Nothing n e = refl
may_lend Any n e = refl
may_lend Some n e = absurd (false≢true (sym e))
may_lend Pairs n e = absurd (false≢true (sym e))
may_lend Ip n e = absurd (false≢true (sym e))

-- ---- written, then read

module _ (kind : ℕ) (fields body room : List ℕ) where
  abbrev z : ℕ
  z = size_of kind body

  pub taken_by : (n : ℕ) → writing kind fields body (length room) ≡ Ok n → (is_proper kind fields (length body) ≡ true) × (size_of kind body ≤ 65535) × (3 + size_of kind body ≤ length room) × (n ≡ 3 + size_of kind body)
  unfolding writing
  taken_by n e = go (is_proper kind fields (length body)) (ltb 65535 (size_of kind body)) (ltb (length room) (3 + size_of kind body)) refl refl refl e
    where
      go : (x y t : Bool) → is_proper kind fields (length body) ≡ x → ltb 65535 (size_of kind body) ≡ y → ltb (length room) (3 + size_of kind body) ≡ t
          → cond {A = Result ℕ ℕ} x (cond y (Err 31) (cond t (Err 30) (Ok (3 + size_of kind body)))) (Err 32) ≡ Ok n
          → (is_proper kind fields (length body) ≡ true) × (size_of kind body ≤ 65535) × (3 + size_of kind body ≤ length room) × (n ≡ 3 + size_of kind body)
      go true false false p q r f = let o : 3 + size_of kind body ≡ n = cc in (p, ltb-false 65535 (size_of kind body) q, ltb-false (length room) (3 + size_of kind body) r, sym o)
      go true true t p q r f = let o : ◌≡◌ {A = ℕ} 0 1 = cc in absurd (omega arith)
      go true false true p q r f = let o : ◌≡◌ {A = ℕ} 0 1 = cc in absurd (omega arith)
      go false y t p q r f = let o : ◌≡◌ {A = ℕ} 0 1 = cc in absurd (omega arith)

  abbrev w : List ℕ
  w = splice room 0 (block_bytes kind fields body)

  abbrev tail : List ℕ
  tail = carried_bytes kind body ++ drop (0 + length (block_bytes kind fields body)) room

  starts : w ≡ (kind ∷ big_bytes 2 z) ++ (field_bytes (widths kind) fields ++ tail)
  unfolding block_bytes
  starts = splice_pieces room 0 (length (block_bytes kind fields body)) (block_bytes kind fields body) refl ∙ simp append_assoc

  three : length (kind ∷ big_bytes 2 z) ≡ 3
  three = ap suc (length_big 2 z)

  module _ (k256 : kind < 256) (p : is_proper kind fields (length body) ≡ true) (small : z ≤ 65535) (roomy : 3 + z ≤ length room) where
    fit : fits (widths kind) fields ≡ true
    unfolding is_proper
    fit = (and_both (fits (widths kind) fields) (allowed (after_fields kind) (length body) && cond (typed kind) (is_i2np_type (get_or fields 0 0)) true) p).0

    rest : (allowed (after_fields kind) (length body) ≡ true) × (cond (typed kind) (is_i2np_type (get_or fields 0 0)) true ≡ true)
    unfolding is_proper
    rest = and_both _ _ (and_both (fits (widths kind) fields) (allowed (after_fields kind) (length body) && cond (typed kind) (is_i2np_type (get_or fields 0 0)) true) p).1

    field_length_lem : length (field_bytes (widths kind) fields) ≡ field_length kind
    unfolding field_length
    field_length_lem = length_bytes (widths kind) fields (fits_length (widths kind) fields fit)

    written_length : length (block_bytes kind fields body) ≡ 3 + z
    unfolding block_bytes size_of
    written_length = simp (length-append, length_big) (omega (arith, field_length_lem))

    long : length w ≡ length room
    long = length_splice room 0 (block_bytes kind fields body) (omega (arith, written_length))

    -- the fields and the bytes stand after the head
    has_fields : part w 3 (field_length kind) ≡ field_bytes (widths kind) fields
    has_fields =
        ap (λ (l : List ℕ). part l 3 (field_length kind)) starts
        ∙ part_middle (kind ∷ big_bytes 2 z) (field_bytes (widths kind) fields) tail 3 (field_length kind) three field_length_lem

    has_bytes : part w (3 + field_length kind) (length (carried_bytes kind body)) ≡ carried_bytes kind body
    has_bytes =
        let H = (kind ∷ big_bytes 2 z) ++ field_bytes (widths kind) fields in
        ap (λ (l : List ℕ). part l (3 + field_length kind) (length (carried_bytes kind body))) (starts ∙ sym (append_assoc (kind ∷ big_bytes 2 z) (field_bytes (widths kind) fields) tail))
        ∙ part_middle H (carried_bytes kind body) (drop (0 + length (block_bytes kind fields body)) room) (3 + field_length kind) (length (carried_bytes kind body)) (length-append (kind ∷ big_bytes 2 z) (field_bytes (widths kind) fields) ∙ omega (arith, three, field_length_lem)) refl

    back : fields_at (widths kind) w 3 ≡ take (length (widths kind)) fields
    unfolding field_length
    back = fields_back (widths kind) fields w 3 fit has_fields

    has_kind : kind_at w 0 ≡ kind
    has_kind = ap (λ (l : List ℕ). get_or l 0 0) starts

    has_size : size_at w 0 ≡ z
    has_size =
        big_at_back 2 z w 1 (omega arith)
        (ap (λ (l : List ℕ). part l 1 2) starts ∙ part_middle (kind ∷ []) (big_bytes 2 z) (field_bytes (widths kind) fields ++ tail) 1 2 refl (length_big 2 z))

    first : typed kind ≡ true → get_or fields 0 0 ≡ get_or w 3 0
    unfolding field_length size_of
    first t =
        let b : get_or (widths kind) 0 0 ≡ 1 = a_byte kind k256 t in
        sym (first_taken_lem (widths kind) fields b)
        ∙ ap (λ (l : List ℕ). get_or l 0 0) (sym back)
        ∙ first_field (widths kind) w 3 b (omega (arith, long))

    is_fine : Fine w 3 kind (length (carried_bytes kind body)) z
    unfolding size_of carried_bytes
    is_fine =
        record {
          size = refl;
          fixed = λ c. ap (λ (t : Bool). length (cond t body [])) c;
          may = may_follow (after_fields kind) body rest.0;
          listed = sym (same_test w fields 3 kind first) ∙ rest.1;
          inside = omega (arith, long);
        }

    has_extent : extent_at w 0 ≡ End.Ends kind z (3 + z)
    has_extent =
        sym (ended w 0 (record { kind = kind; size = z }) (Ok z) (record { there = omega (arith, long); is_kind = sym has_kind; is_size = sym has_size }) (fine w 3 (length (carried_bytes kind body)) z kind is_fine))

    reads : read_at w 0 ≡ block_read kind z (3 + z) (own_fields kind fields) (bytes_after kind 3 z)
    unfolding own_fields
    reads =
        let n : 3 + z - 3 ≡ z = omega arith in
        sym (reads_block w 0 has_extent (ap eight (sym back)) (ap (bytes_after kind 3) (sym n)))

pub write_then_read : WriteThenRead
unfolding room_after
write_then_read kind fields body room n h e =
    let t = taken_by kind fields body room n e in
    rw (e, t.3) (reads kind fields body room h t.0 t.1 t.2, has_bytes kind fields body room h t.0 t.1 t.2)

-- ---- read, then written

module _ (s : List ℕ) (bytes : Bytes s) (at kind size next : ℕ) (e : extent_at s at ≡ End.Ends kind size next) where
  abbrev n : ℕ
  n = next - (at + 3)

  abbrev G : List ℕ
  G = fields_at (widths kind) s (at + 3)

  abbrev F : List ℕ
  F = eight G

  abbrev Y : List ℕ
  Y = part s (bytes_after kind (at + 3) n).start (bytes_after kind (at + 3) n).len

  record Same : Type 0 where
    is_size : size_of kind Y ≡ n
    is_body : field_bytes (widths kind) F ++ carried_bytes kind Y ≡ part s (at + 3) n
    may : allowed (after_fields kind) (length Y) ≡ true

  d : Bounded s at kind size next
  d = bounded s at kind size next e

  k256 : kind < 256
  k256 = subst (λ (k : ℕ). k < 256) d.is_kind (bytes at)

  fields_same : field_bytes (widths kind) F ≡ part s (at + 3) (field_length kind)
  unfolding field_length
  fields_same = eight_bytes (widths kind) G (omega (arith, length_fields (widths kind) s (at + 3))) ∙ fields_again (widths kind) s (at + 3) bytes (omega (arith, d.fields, d.inside))

  is_good : Good s (at + 3) size kind n
  is_good = taken_good s (at + 3) size kind n k256 d.took

  -- bytes follow
  some : carries (after_fields kind) ≡ true → Same
  unfolding bytes_after carried_bytes size_of
  some c =
      let S = field_length kind in
      let y : Y ≡ part s (at + 3 + S) (n - S) = ap (λ (t : Bool). part s (cond t (bytes_at (at + 3 + S) (n - S)) (bytes_at 0 0)).start (cond t (bytes_at (at + 3 + S) (n - S)) (bytes_at 0 0)).len) c in
      let o : carried_bytes kind Y ≡ Y = ap (λ (t : Bool). cond t Y []) c in
      let l : length Y ≡ n - field_length kind = ap length y ∙ length_part s (at + 3 + S) (n - S) (omega (arith, d.fields, d.inside)) in
      record {
        is_size = omega (arith, ap length o, l, d.fields);
        is_body =
            ap (λ (x : List ℕ). x ++ carried_bytes kind Y) fields_same
            ∙ ap (λ (x : List ℕ). part s (at + 3) S ++ x) (o ∙ y)
            ∙ part_join s (at + 3) S (at + 3 + S) (n - S) n refl (omega (arith, d.fields));
        may = ap (allowed (after_fields kind)) l ∙ is_good.0;
      }

  -- nothing follows
  none : carries (after_fields kind) ≡ false → size ≡ size_of kind Y → Same
  unfolding carried_bytes size_of
  none c q =
      let S = field_length kind in
      let o : carried_bytes kind Y ≡ [] = ap (λ (t : Bool). cond t Y []) c in
      let z : size ≡ field_length kind = omega (arith, q, ap length o) in
      let b : body_length kind size ≡ field_length kind = ap (body_length kind) z ∙ fixed_length kind in
      let m : field_length kind ≡ n = omega (arith, d.length_is, b) in
      record {
        is_size = omega (arith, ap length o, m);
        is_body =
            ap (λ (x : List ℕ). field_bytes (widths kind) F ++ x) o
            ∙ append-nil (field_bytes (widths kind) F)
            ∙ fields_same
            ∙ ap (part s (at + 3)) m;
        may = may_lend (after_fields kind) (length Y) c;
      }

  same : size ≡ size_of kind Y → Same
  same q = go (carries (after_fields kind)) refl
    where
      go : (b : Bool) → carries (after_fields kind) ≡ b → Same
      go true c = some c
      go false c = none c q

  first_read : typed kind ≡ true → get_or F 0 0 ≡ get_or s (at + 3) 0
  unfolding field_length
  first_read t = first_eight G ∙ first_field (widths kind) s (at + 3) (a_byte kind k256 t) (omega (arith, d.fields, d.inside))

  is_proper_lem : allowed (after_fields kind) (length Y) ≡ true → is_proper kind F (length Y) ≡ true
  unfolding is_proper
  is_proper_lem m = rw (fields_fit_there s at kind size next bytes e, m) (same_test s F (at + 3) kind first_read ∙ is_good.1)

  again : (room : List ℕ) → size ≡ size_of kind Y → next - at ≤ length room
      → (writing kind F Y (length room) ≡ Ok (next - at)) × (room_after kind F Y room ≡ splice room 0 (part s at (next - at)))
  unfolding room_after block_bytes
  again room q roomy =
      let x = same q in
      let small : size < 65536 = subst (λ (i : ℕ). i < 65536) d.is_size (big_at_lt 2 s (at + 1) (omega (arith, d.fields, d.inside)) bytes) in
      let long : 3 + size_of kind Y ≡ next - at = omega (arith, x.is_size, d.fields) in
      let a : writing kind F Y (length room) ≡ Ok (3 + size_of kind Y) = is_length kind F Y room (is_proper_lem x.may) (omega (arith, q)) (omega arith) in
      let B = field_bytes (widths kind) F in
      let all : (kind ∷ []) ++ big_bytes 2 (size_of kind Y) ++ B ++ carried_bytes kind Y ≡ part s at (next - at) =
      ap (λ (l : List ℕ). kind ∷ l) (append_assoc (big_bytes 2 (size_of kind Y)) B (carried_bytes kind Y))
      ∙ ap (λ (l : List ℕ). kind ∷ (big_bytes 2 (size_of kind Y) ++ l)) x.is_body
      ∙ ap (λ (k : ℕ). k ∷ (big_bytes 2 (size_of kind Y) ++ part s (at + 3) n)) (sym d.is_kind)
      ∙ ap (λ (i : ℕ). get_or s at 0 ∷ (big_bytes 2 i ++ part s (at + 3) n)) (sym q ∙ sym d.is_size)
      ∙ ap (λ (l : List ℕ). get_or s at 0 ∷ (l ++ part s (at + 3) n)) (big_at_again 2 s (at + 1) (omega (arith, d.fields, d.inside)) bytes)
      ∙ ap (λ (l : List ℕ). get_or s at 0 ∷ l) (part_join s (at + 1) 2 (at + 3) n (2 + n) (omega arith) refl)
      ∙ part_first s at (at + 1) (2 + n) (next - at) 0 (omega (arith, d.fields, d.inside)) refl (omega (arith, d.fields))
      in
      (a ∙ ap Ok long, ap (λ (v : Result ℕ ℕ). stored v kind F Y room) a ∙ ap (splice room 0) all)

pub read_then_write : ReadThenWrite
unfolding read_at
read_then_write s room at kind size next b e q fits =
    let x : extent_at s at ≡ End.Ends kind size next = sym (read_extent s at) ∙ e in
    let r : read_at s at ≡ reading s at (End.Ends kind size next) = ap (reading s at) x in
    subst
    (λ (v : Read). size ≡ size_of kind (shown_bytes s v) → (writing kind v.fields (shown_bytes s v) (length room) ≡ Ok (next - at)) × (room_after kind v.fields (shown_bytes s v) room ≡ splice room 0 (part s at (next - at))))
    (sym r) (λ z. again s b at kind size next x room z fits) q
