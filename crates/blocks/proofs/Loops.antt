-- The loops over a row: what holds at each turn, its start, a turn and its end. Assumes nothing.
use mathlib.Core.Path.{◌≡◌, refl, sym, ap, ◌∙◌, subst}
use mathlib.Core.Bool.{Bool, true, false, cond, ◌&&◌, and-true, and_assoc}
use mathlib.Core.List.{List, [], ◌∷◌, ◌++◌, append_assoc, append-nil}
use Prim.Native.Nat.{ℕ, zero, suc, ◌+◌, ◌-◌, ◌*◌, ◌/◌, ◌%◌, ◌^◌, ◌≤◌, ◌<◌}
use native.Mathlib.Nat.{pow-suc, div-lt_iff_lt-mul, lt_of_not-le}
use native.Mathlib.Omega.{arith}
use native.Mathlib.Numerals.{add-one}
use lib.Dec.{ltb, eqb}
use borrow.Author.Tests.{ne_eqb}
use lib.ListN.{length, drop, get_or, set, replicate, length-append, length-drop}
use lib.Seq.{set_at, drop-cons}
use Rattle.wire.specs.Parts.{splice}
use Rattle.wire.specs.Numbers.{big_at, big_bytes}
use Rattle.wire.proofs.Parts.{puts, length_splice}
use Rattle.wire.proofs.Numbers.{length_big}
use Rattle.wire.proofs.Slices.{splice_none}
use Rattle.blocks.specs.Layout.{sum, fields_at, field_bytes, fits, eight}
use Rattle.blocks.specs.Packed.{width_of, unpacked}
use Rattle.blocks.proofs.Laws.{length_bytes}

-- ---- digits

none_left : (n left : ℕ) → left ≡ 0 → unpacked n left ≡ []
unfolding unpacked
none_left zero left e = refl
none_left (suc n) left e = rw e

pub few_widths : (n r : ℕ) → length (unpacked n r) ≤ n
unfolding unpacked
few_widths zero r = omega arith
few_widths (suc n) r = go (eqb r 0) (few_widths n (r / 16))
  where
    go : (b : Bool) → length (unpacked n (r / 16)) ≤ n → length (cond b [] (width_of (r % 16) ∷ unpacked n (r / 16))) ≤ suc n
    go true h = omega arith
    go false h = omega arith

-- what is left of a row of eight digits at the ith of them; the fields of these, from a place on, end within n bytes
pub record Left (n left at i : ℕ) : Type 0 where
  pub small : left < 16 ^ (8 - i)
  pub there : at + sum (unpacked (8 - i) left) ≤ n

module _ {n left at i : ℕ} (l : Left n left at i) (some : left ≡ 0 → ⊥) where
  -- no digit is left after the eighth
  pub place : i < 8
  place =
      lt_of_not-le (λ h. let z : 8 - i ≡ 0 = omega (arith, h) in let f : left < 1 = subst (λ (m : ℕ). left < 16 ^ m) z l.small in some (omega (arith, f)))

  turn : 8 - i ≡ suc (8 - (i + 1))
  turn = omega (arith, place)

  next : unpacked (8 - i) left ≡ width_of (left % 16) ∷ unpacked (8 - (i + 1)) (left / 16)
  unfolding unpacked
  next = rw (turn, ne_eqb left 0 some)

  -- the field of the next digit is there, and those after it
  pub there_next : at + width_of (left % 16) + sum (unpacked (8 - (i + 1)) (left / 16)) ≤ n
  unfolding sum
  there_next =
      let t : at + sum (width_of (left % 16) ∷ unpacked (8 - (i + 1)) (left / 16)) ≤ n = subst (λ (ws : List ℕ). at + sum ws ≤ n) next l.there in
      omega arith

  left_turn : Left n (left / 16) (at + width_of (left % 16)) (i + 1)
  left_turn =
      let f : left < 16 ^ (8 - (i + 1)) * 16 = subst (λ (z : ℕ). left < z) (ap (λ (m : ℕ). 16 ^ m) turn ∙ pow-suc 16 (8 - (i + 1))) l.small in
      let p : 0 < 16 = omega arith in
      record { small = (div-lt_iff_lt-mul p).1 f; there = there_next }

  -- the next number, of eight
  number : (fields : List ℕ) → length fields ≡ 8 → drop i fields ≡ get_or fields i 0 ∷ drop (i + 1) fields
  number fields e = drop-cons fields i 0 (omega (arith, place)) ∙ ap (λ (n : ℕ). get_or fields i 0 ∷ drop n fields) (sym (add-one i))

-- ---- reading

pub record Reads (s : List ℕ) (body row : ℕ) (fields : List ℕ) (left at i : ℕ) : Type 0 where
  pub rest : Left (length s) left at i
  pub got : List ℕ
  pub many : length got ≡ i
  pub filled : fields ≡ got ++ replicate (8 - i) 0
  pub done : got ++ fields_at (unpacked (8 - i) left) s at ≡ fields_at (unpacked 8 row) s body

module _ {s : List ℕ} {body row : ℕ} where
  pub reads_start : (fields : List ℕ) → fields ≡ eight [] → row < 4294967296 → body + sum (unpacked 8 row) ≤ length s → Reads s body row fields row body 0
  unfolding eight
  reads_start fields e h g = record { rest = record { small = h; there = g }; got = []; many = refl; filled = e; done = refl }

  pub reads_turn : {fields : List ℕ} {left at i : ℕ} (v w : ℕ) → Reads s body row fields left at i → (left ≡ 0 → ⊥) → v ≡ big_at (width_of (left % 16)) s at → w ≡ width_of (left % 16) → Reads s body row (set fields i v) (left / 16) (at + w) (i + 1)
  unfolding fields_at
  reads_turn {fields} {left} {at} {i} v w r some e f =
      let b = big_at (width_of (left % 16)) s at in
      rw (e, f) (record {
        rest = left_turn r.rest some;
        got = r.got ++ (b ∷ []);
        many = length-append r.got (b ∷ []) ∙ ap (λ (n : ℕ). n + 1) r.many;
        filled =
            ap (λ (l : List ℕ). set l i b) (r.filled ∙ ap (λ (n : ℕ). r.got ++ replicate n 0) (turn r.rest some))
            ∙ set_at r.got 0 _ b i r.many
            ∙ sym (append_assoc r.got (b ∷ []) _);
        done =
            append_assoc r.got (b ∷ []) _
            ∙ ap (λ (ws : List ℕ). r.got ++ fields_at ws s at) (sym (next r.rest some))
            ∙ r.done;
      })

  pub reads_end : (fields : List ℕ) (left at i : ℕ) → left ≡ 0 → Reads s body row fields left at i → fields ≡ eight (fields_at (unpacked 8 row) s body)
  unfolding eight fields_at
  reads_end fields left at i e r =
      r.filled
      ∙ ap (λ (n : ℕ). r.got ++ replicate (8 - n) 0) (sym r.many)
      ∙ ap eight (sym (append-nil r.got) ∙ ap (λ (ws : List ℕ). r.got ++ fields_at ws s at) (sym (none_left (8 - i) left e)) ∙ r.done)

-- ---- judging

pub record Judges (row : ℕ) (fields : List ℕ) (ok : Bool) (left i : ℕ) : Type 0 where
  pub at : ℕ
  pub rest : Left (sum (unpacked 8 row)) left at i
  pub long : length fields ≡ 8
  pub done : (ok && fits (unpacked (8 - i) left) (drop i fields)) ≡ fits (unpacked 8 row) fields

module _ {row : ℕ} {fields : List ℕ} where
  pub judges_start : length fields ≡ 8 → row < 4294967296 → Judges row fields true row 0
  judges_start e h = record { at = 0; rest = record { small = h; there = omega arith }; long = e; done = refl }

  pub judges_turn : {ok : Bool} {left i : ℕ} (t : Bool) → Judges row fields ok left i → (left ≡ 0 → ⊥) → t ≡ ltb (get_or fields i 0) (256 ^ width_of (left % 16)) → Judges row fields (ok && t) (left / 16) (i + 1)
  unfolding fits
  judges_turn {ok} {left} {i} t j some e =
      let F = fits (unpacked (8 - (i + 1)) (left / 16)) (drop (i + 1) fields) in
      record {
        at = _;
        rest = left_turn j.rest some;
        long = j.long;
        done =
            and_assoc ok t F
            ∙ ap (λ (b : Bool). ok && (b && F)) e
            ∙ ap (λ (vs : List ℕ). ok && fits (width_of (left % 16) ∷ unpacked (8 - (i + 1)) (left / 16)) vs) (sym (number j.rest some fields j.long))
            ∙ ap (λ (ws : List ℕ). ok && fits ws (drop i fields)) (sym (next j.rest some))
            ∙ j.done;
      }

  pub judges_end : (ok : Bool) (left i : ℕ) → left ≡ 0 → Judges row fields ok left i → ok ≡ fits (unpacked 8 row) fields
  unfolding fits
  judges_end ok left i e j =
      sym (and-true ok)
      ∙ ap (λ (ws : List ℕ). ok && fits ws (drop i fields)) (sym (none_left (8 - i) left e))
      ∙ j.done

-- ---- putting

pub record Puts (room₀ : List ℕ) (body row : ℕ) (fields room : List ℕ) (left at i : ℕ) : Type 0 where
  pub rest : Left (length room₀) left at i
  pub long : length fields ≡ 8
  pub as_long : length room ≡ length room₀
  pub done : splice room at (field_bytes (unpacked (8 - i) left) (drop i fields)) ≡ splice room₀ body (field_bytes (unpacked 8 row) fields)

module _ {room₀ : List ℕ} {body row : ℕ} {fields : List ℕ} where
  pub puts_start : length fields ≡ 8 → row < 4294967296 → body + sum (unpacked 8 row) ≤ length room₀ → Puts room₀ body row fields room₀ row body 0
  puts_start e h g = record { rest = record { small = h; there = g }; long = e; as_long = refl; done = refl }

  pub puts_turn : {room : List ℕ} {left at i : ℕ} (room' : List ℕ) (w : ℕ) → Puts room₀ body row fields room left at i → (left ≡ 0 → ⊥) → room' ≡ splice room at (big_bytes (width_of (left % 16)) (get_or fields i 0)) → w ≡ width_of (left % 16) → Puts room₀ body row fields room' (left / 16) (at + w) (i + 1)
  unfolding field_bytes
  puts_turn {room} {left} {at} {i} room' w p some e f =
      let b = big_bytes (width_of (left % 16)) (get_or fields i 0) in
      let lb = length_big (width_of (left % 16)) (get_or fields i 0) in
      let ws = unpacked (8 - (i + 1)) (left / 16) in
      let us = drop (i + 1) fields in
      let lF = length_bytes ws us (omega (arith, length-drop (i + 1) fields, p.long, few_widths (8 - (i + 1)) (left / 16))) in
      let g : at + width_of (left % 16) + sum ws ≤ length room = omega (arith, there_next p.rest some, p.as_long) in
      rw f (record {
        rest = left_turn p.rest some;
        long = p.long;
        as_long = ap length e ∙ length_splice room at b (omega (arith, lb, g)) ∙ p.as_long;
        done =
            (puts room at _ (sum ws) _ b (field_bytes ws us) lb lF refl g e refl).0
            ∙ ap (λ (vs : List ℕ). splice room at (field_bytes (width_of (left % 16) ∷ ws) vs)) (sym (number p.rest some fields p.long))
            ∙ ap (λ (z : List ℕ). splice room at (field_bytes z (drop i fields))) (sym (next p.rest some))
            ∙ p.done;
      })

  pub puts_end : (room : List ℕ) (left at i : ℕ) → left ≡ 0 → Puts room₀ body row fields room left at i → room ≡ splice room₀ body (field_bytes (unpacked 8 row) fields)
  unfolding field_bytes
  puts_end room left at i e p =
      sym (splice_none room at)
      ∙ ap (λ (ws : List ℕ). splice room at (field_bytes ws (drop i fields))) (sym (none_left (8 - i) left e))
      ∙ p.done
