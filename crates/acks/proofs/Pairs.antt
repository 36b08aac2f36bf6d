-- One turn of the loop that writes a report's pairs. Assumes nothing.
use mathlib.Core.Path.{◌≡◌, sym, ap, ◌∙◌}
use mathlib.Core.Bool.{Bool, true, false}
use mathlib.Core.List.{List, [], ◌∷◌, ◌++◌, append_assoc}
use Prim.Native.Nat.{ℕ, suc, ◌+◌, ◌-◌, ◌≤◌, ◌<◌, ◌%◌, min}
use native.Mathlib.Omega.{arith}
use lib.ListN.{length, drop, set, replicate, length-append}
use lib.Seq.{set-append_seam}
use Rattle.acks.specs.Runs.{leading, later_runs}
use Rattle.acks.specs.Reporting.{view, padded, report_of, report_of_runs, silent}
use Rattle.acks.specs.Tracking.{mark}
use Rattle.acks.proofs.RunLengths.{runs_leading, rest_true, rest_false, leading_drop, leading_le, leading_other}
use Rattle.acks.proofs.View.{length_view, view_drop}

pub leading_view_le : (b : Bool) (m : List ℕ) (n k : ℕ) → leading b (view m n k) ≤ k
leading_view_le b m n k = omega (arith, leading_le b (view m n k), length_view m n k)

sub_sub : (a b c : ℕ) → a - b - c ≡ a - (b + c)
sub_sub a b c = omega arith

sub_left : (a b c : ℕ) → b + c ≤ a → c ≤ a - b
sub_left a b c h = omega arith

left_pos : (a b : ℕ) → b < a → 0 < a - b
left_pos a b h = omega arith

-- after j of the k numbers below top
abbrev pub from : List ℕ → ℕ → ℕ → ℕ → List Bool
from m top k j = view m (top - j) (k - j)

from_drop : (m : List ℕ) (top k j i : ℕ) → drop i (from m top k j) ≡ from m top k (j + i)
from_drop m top k j i = view_drop m i (top - j) (k - j) ∙ rw (sub_sub top j i, sub_sub k j i)

pub record Turn (m : List ℕ) (top k used nack ack : ℕ) : Type 0 where
  pub some : 0 < nack
  pub within : used + nack + ack ≤ k
  pub more : used + nack < k → 0 < ack
  pub shows : later_runs true (from m top k used) ≡ nack ∷ (ack ∷ later_runs true (from m top k (used + nack + ack)))
  pub next : leading true (from m top k (used + nack + ack)) ≡ 0

module _ (m : List ℕ) (top k used nack ack : ℕ) (h : used < k) (e : leading true (from m top k used) ≡ 0)
    (n : nack ≡ leading false (from m top k used)) (a : ack ≡ leading true (from m top k (used + nack))) where
  long : (j : ℕ) → j < k → 0 < length (from m top k j)
  long j l = rw (length_view m (top - j) (k - j)) (left_pos k j l)

  nack_le : nack ≤ k - used
  nack_le = rw n (leading_view_le false m (top - used) (k - used))

  ack_le : ack ≤ k - (used + nack)
  ack_le = rw a (leading_view_le true m (top - (used + nack)) (k - (used + nack)))

  after_nack : drop (leading false (from m top k used)) (from m top k used) ≡ from m top k (used + nack)
  after_nack = rw (← n) (from_drop m top k used nack)

  after_ack : drop (leading true (from m top k (used + nack))) (from m top k (used + nack)) ≡ from m top k (used + nack + ack)
  after_ack = rw (← a) (from_drop m top k (used + nack) ack)

  pub turn : Turn m top k used nack ack
  turn =
      record {
        some = rw n (leading_other true (from m top k used) e (long used h));
        within = omega (arith, nack_le, ack_le);
        more =
            λ l. rw a
            (leading_other false (from m top k (used + nack))
            (rw after_nack at (leading_drop false (from m top k used)))
            (long (used + nack) l));
        shows =
            rest_true (from m top k used) (long used h)
            ∙ rw (after_nack, ← n)
            (ap (λ l. nack ∷ l)
            (rest_false (from m top k (used + nack)) ∙ rw (after_ack, ← a)));
        next = rw after_ack at (leading_drop true (from m top k (used + nack)));
      }

-- bytes at the front of 254
more_room : (n : ℕ) → n < 254 → 254 - n ≡ suc (254 - (n + 1))
more_room n h = omega arith

filled_one : (w : List ℕ) (v : ℕ) → length w < 254 → set (padded w) (length w) v ≡ padded (w ++ (v ∷ []))
unfolding padded
filled_one w v h =
    rw (more_room (length w) h)
    (set-append_seam w 0 (replicate (254 - (length w + 1)) 0) v
    ∙ rw (length-append w (v ∷ [])) (sym (append_assoc w (v ∷ []) (replicate (254 - (length w + 1)) 0))))

pub filled_two : (w : List ℕ) (a b : ℕ) → length w + 1 < 254 → set (set (padded w) (length w) a) (length w + 1) b ≡ padded (w ++ (a ∷ (b ∷ [])))
filled_two w a b h =
    let l : length (w ++ (a ∷ [])) ≡ length w + 1 = length-append w (a ∷ []) in
    let q : length w < 254 = omega arith in
    let p : length (w ++ (a ∷ [])) < 254 = omega arith in
    ap (λ x. set x (length w + 1) b) (filled_one w a q)
    ∙ ap (λ i. set (padded (w ++ (a ∷ []))) i b) (sym l)
    ∙ filled_one (w ++ (a ∷ [])) b p
    ∙ ap padded (append_assoc w (a ∷ []) (b ∷ []))

-- what the loop has written, and what is left
pub record Sofar (m : List ℕ) (top k : ℕ) (bytes : List ℕ) (len used : ℕ) : Type 0 where
  pub w : List ℕ
  pub below : used ≤ k
  pub written : bytes ≡ padded w
  pub counted : len ≡ length w
  pub whole : later_runs true (view m top k) ≡ w ++ later_runs true (from m top k used)
  pub missing : leading true (from m top k used) ≡ 0
  pub even : len % 2 ≡ 0
  pub short : used < k → len ≤ used
  pub fits : len ≤ 254

module _ (m : List ℕ) (top k : ℕ) (bytes : List ℕ) (len used nack ack : ℕ) (s : Sofar m top k bytes len used)
    (h : used < k) (small : k ≤ 254) (t : Turn m top k used nack ack) where
  pub room : len + 1 < 254
  room = omega (arith, s.short h, s.even)

  pub sofar : Sofar m top k (set (set bytes len nack) (len + 1) ack) (len + 2) (used + nack + ack)
  sofar =
      record {
        w = s.w ++ (nack ∷ (ack ∷ []));
        below = t.within;
        written =
            rw (s.written, s.counted)
            (filled_two s.w nack ack (let q : length s.w + 1 < 254 = omega (arith, room, s.counted) in q));
        counted = omega (arith, s.counted, length-append s.w (nack ∷ (ack ∷ [])));
        whole =
            s.whole ∙ ap (λ l. s.w ++ l) t.shows ∙ sym (append_assoc s.w (nack ∷ (ack ∷ [])) (later_runs true (from m top k (used + nack + ack))));
        missing = t.next;
        even = omega (arith, s.even);
        short = λ l. (let q : used + nack < k = omega arith in omega (arith, t.more q, t.some, s.short h));
        fits = omega (arith, room);
      }

-- what stands below the count of received numbers starts with a missing one
pub after_count : (m : List ℕ) (top k c : ℕ) → c ≡ leading true (view m top k) → leading true (view m (top - c) (k - c)) ≡ 0
after_count m top k c e = rw (← view_drop m c top k, e) (leading_drop true (view m top k))

-- a report by its parts
pub reported : (m : List ℕ) (h k c : ℕ) → mark m h ≡ true → k ≡ min h 254 → c ≡ leading true (view m h k) →
    report_of h (mark m) ≡ report_of_runs h (c ∷ later_runs true (view m (h - c) (k - c)))
unfolding report_of view
reported m h k c e q l =
    rw (e, ← q)
    (ap (report_of_runs h) (runs_leading true (view m h k) ∙ rw (← l) (ap (λ x. c ∷ later_runs true x) (view_drop m c h k))))

pub quiet : (m : List ℕ) (h : ℕ) → mark m h ≡ false → report_of h (mark m) ≡ silent
unfolding report_of
quiet m h e = rw e
