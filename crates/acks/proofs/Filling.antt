-- Filling a list with the numbers that an acknowledgement names: what was put from place on, pair by pair. Assumes nothing.
use mathlib.Core.Path.{◌≡◌, refl, sym, ap, ◌∙◌}
use mathlib.Core.List.{List, [], ◌∷◌, ◌++◌, append_assoc, append-nil}
use Prim.Native.Nat.{ℕ, ◌+◌, ◌-◌, ◌≤◌, ◌<◌}
use native.Mathlib.Omega.{arith}
use lib.ListN.{length, drop, set, get_or, length-append}
use Rattle.wire.specs.Parts.{splice}
use Rattle.wire.proofs.Parts.{length_splice, splice_then, stores_splice}
use Rattle.acks.specs.Window.{falling}
use Rattle.acks.specs.Runs.{whole_pairs, run_sum}
use Rattle.acks.specs.Expanding.{ack_numbers}
use Rattle.acks.proofs.Falling.{length_falling}
use Rattle.wire.proofs.Slices.{splice_none, splice_more}
use Rattle.acks.proofs.Named.{falling_snoc, left, left_step, left_end, total_step, numbers_start, length_numbers}

-- one more number put
pub falls_more : (l : List ℕ) (at n j : ℕ) → at + j < length l → set (splice l at (falling n j)) (at + j) (n - j) ≡ splice l at (falling n (j + 1))
falls_more l at n j h =
    let e : length (falling n j) ≡ j = length_falling n j in
    ap (λ (i : ℕ). set (splice l at (falling n j)) (at + i) (n - j)) (sym e)
    ∙ splice_more l at (falling n j) (n - j) (omega arith)
    ∙ ap (splice l at) (sym (falling_snoc n j))

-- l0 is the list as it was; w is what was put from place up to at
pub record Wrote (ps l0 : List ℕ) (place top : ℕ) (l : List ℕ) (at above i : ℕ) : Type 0 where
  pub w : List ℕ
  pub all : left ps 0 (top - 1) ≡ w ++ left ps i (above - 1)
  pub counted : at ≡ place + length w
  pub now_is : l ≡ splice l0 place w
  pub inside : run_sum (whole_pairs (drop i ps)) ≤ above
  pub low : above ≤ top
  pub same : length l ≡ length l0
  pub at_in : i ≤ length ps

module _ (ps l0 : List ℕ) (place top : ℕ) (big : place + length (left ps 0 (top - 1)) ≤ length l0) where
  pub wrote_start : run_sum (whole_pairs ps) ≤ top → Wrote ps l0 place top l0 place top 0
  wrote_start h =
      record {
        w = [];
        all = refl;
        counted = omega arith;
        now_is = sym (splice_none l0 place);
        inside = h;
        low = omega arith;
        same = refl;
        at_in = omega arith;
      }

  module _ (l : List ℕ) (at above i : ℕ) (s : Wrote ps l0 place top l at above i) (h : i + 1 < length ps) where
    pub spends : get_or ps i 0 + get_or ps (i + 1) 0 ≤ above
    spends = omega (arith, s.inside, total_step ps i h)

    sub_third : (x y z : ℕ) → x - 1 - y - z ≡ x - y - z - 1
    sub_third x y z = omega arith

    sub_first : (x y : ℕ) → x - 1 - y ≡ x - y - 1
    sub_first x y = omega arith

    next : left ps i (above - 1) ≡
        falling (above - get_or ps i 0 - 1) (get_or ps (i + 1) 0) ++ left ps (i + 2) (above - get_or ps i 0 - get_or ps (i + 1) 0 - 1)
    next = left_step ps i (above - 1) h ∙ rw (sub_third above (get_or ps i 0) (get_or ps (i + 1) 0), sub_first above (get_or ps i 0))

    length_all : length (left ps 0 (top - 1)) ≡ length s.w + (get_or ps (i + 1) 0 + length (left ps (i + 2) (above - get_or ps i 0 - get_or ps (i + 1) 0 - 1)))
    length_all =
        ap length (s.all ∙ ap (λ x. s.w ++ x) next)
        ∙ length-append s.w _
        ∙ ap (λ x. length s.w + x)
        (length-append (falling (above - get_or ps i 0 - 1) (get_or ps (i + 1) 0)) (left ps (i + 2) (above - get_or ps i 0 - get_or ps (i + 1) 0 - 1))
        ∙ rw (length_falling (above - get_or ps i 0 - 1) (get_or ps (i + 1) 0)))

    pub room_left_lem : at + get_or ps (i + 1) 0 ≤ length l
    room_left_lem = omega (arith, length_all, s.counted, s.same)

    pub wrote_step :
        Wrote ps l0 place top (splice l at (falling (above - get_or ps i 0 - 1) (get_or ps (i + 1) 0)))
        (at + get_or ps (i + 1) 0) (above - get_or ps i 0 - get_or ps (i + 1) 0) (i + 2)
    wrote_step =
        record {
          w = s.w ++ f;
          all = s.all ∙ ap (λ x. s.w ++ x) next ∙ sym (append_assoc s.w f (left ps (i + 2) (above - a - b - 1)));
          counted = omega (arith, s.counted, length-append s.w f, fb);
          now_is = splice_then l0 place s.w f (omega (arith, room_left_lem, s.counted, s.same, fb)) s.now_is (ap (λ (k : ℕ). splice l k f) s.counted);
          inside = less (run_sum (whole_pairs (drop i ps))) a b (run_sum (whole_pairs (drop (i + 2) ps))) above (total_step ps i h) s.inside;
          low = lower above a b top s.low;
          same = length_splice l at f (omega (arith, room_left_lem, fb)) ∙ s.same;
          at_in = omega arith;
        }
      where
        a : ℕ
        a = get_or ps i 0

        b : ℕ
        b = get_or ps (i + 1) 0

        f : List ℕ
        f = falling (above - a - 1) b

        fb : length f ≡ b
        fb = length_falling (above - a - 1) b

        less : (t x y r n : ℕ) → t ≡ x + (y + r) → t ≤ n → r ≤ n - x - y
        less t x y r n e q = omega arith

        lower : (n x y m : ℕ) → n ≤ m → n - x - y ≤ m
        lower n x y m q = omega arith

  pub wrote_end : (l : List ℕ) (at above i : ℕ) → Wrote ps l0 place top l at above i → length ps ≤ i + 1 → l ≡ splice l0 place (left ps 0 (top - 1))
  wrote_end l at above i s h =
      let e : left ps 0 (top - 1) ≡ s.w =
      s.all ∙ ap (λ x. s.w ++ x) (left_end ps i (above - 1) h) ∙ append-nil s.w in
      s.now_is ∙ ap (splice l0 place) (sym e)

-- the through number, the count numbers below it and what the pairs name are all the numbers
pub filled_in : (through count : ℕ) (ps l l2 l3 : List ℕ) → length (ack_numbers through count ps) ≤ length l →
    l2 ≡ splice (set l 0 through) 1 (falling (through - 1) count) →
    l3 ≡ splice l2 (1 + count) (left ps 0 (through - count - 1)) →
    l3 ≡ splice l 0 (ack_numbers through count ps)
filled_in through count ps l l2 l3 h e f =
    let n = length_numbers through count ps in
    let fc : length (falling (through - 1) count) ≡ count = length_falling (through - 1) count in
    let one : set l 0 through ≡ splice l 0 (through ∷ []) = stores_splice l 0 through [] (omega arith) in
    let two : l2 ≡ splice l 0 (through ∷ falling (through - 1) count) =
    splice_then l 0 (through ∷ []) (falling (through - 1) count) (omega arith) one e in
    let at : 1 + count ≡ 0 + length (through ∷ falling (through - 1) count) = omega arith in
    splice_then l 0 (through ∷ falling (through - 1) count) (left ps 0 (through - count - 1)) (omega arith) two
    (f ∙ ap (λ (k : ℕ). splice l2 k (left ps 0 (through - count - 1))) at)
    ∙ ap (splice l 0) (sym (numbers_start through count ps))
