-- What a taken call does to the books. Assumes nothing.
use mathlib.Core.Path.{◌≡◌, refl, sym, ap, ◌∙◌}
use mathlib.Core.Bool.{Bool, true, false, not, cond, ◌&&◌, ◌||◌, false≢true}
use mathlib.Core.List.{List, [], ◌∷◌, ◌++◌}
use mathlib.Core.Logic.{⊎_elim}
use Prim.Native.Nat.{ℕ, ◌+◌, ◌≤◌, ◌<◌, max}
use native.Mathlib.Omega.{arith}
use lib.Dec.{leb, ltb, eqb}
use lib.ListN.{length, length-append}
use borrow.Author.Tests.{eq-eqb, ne_eqb, eqb-true, le-leb, lt-leb}
use Rattle.wire.proofs.Tests.{and_both}
use Rattle.acks.specs.Window.{keep}
use Rattle.acks.specs.History.{highest_of, among}
use Rattle.acks.specs.Expanding.{ack_numbers}
use Rattle.acks.proofs.Falling.{length_keep}
use Rattle.acks.proofs.Newest.{among_keep}
use Rattle.acks.proofs.Ring.{split}
use Rattle.acks.proofs.Members.{among_append, highest_append, below_highest, fewer_kept}
use Rattle.sender.specs.Sizes.{most_outstanding, last_number}
use Rattle.sender.specs.Sender.{Packet, Call, send, resend, ack, numbers_of, those, without, resends_of, next_packet}
use Rattle.sender.specs.History.{Books, opening, unclosed, outstanding_in, highest_in, answer_in, booked, entered, times, Rising}
use Rattle.sender.proofs.Answers.{send_taken, resend_taken}
use Rattle.sender.proofs.Lists.{times_append, times_one_lem, times_keep, among_times, some_times, no_times, times_none, rising_keep, rising_append, numbers_append, length_numbers, numbers_those, those_append, those_one, those_those, those_same, without_those}

-- ---- the packets given out
abbrev pub top_of : List Packet → ℕ
top_of ps = highest_of (numbers_of ps)

pub record Issued (ps : List Packet) : Type 0 where
  pub given_once : (n : ℕ) → times n (numbers_of ps) ≡ cond (leb n (top_of ps)) 1 0
  pub all_rise : Rising (numbers_of ps)
  pub last_number_lem : top_of ps ≤ last_number

module _ (ps : List Packet) (second resends : ℕ) where
  pub numbers_next : numbers_of (ps ++ (next_packet (top_of ps) second resends ∷ [])) ≡ numbers_of ps ++ ((top_of ps + 1) ∷ [])
  unfolding numbers_of
  numbers_next = numbers_append ps (next_packet (top_of ps) second resends ∷ [])

  pub top_next : top_of (ps ++ (next_packet (top_of ps) second resends ∷ [])) ≡ top_of ps + 1
  top_next =
      let e : max (top_of ps) (top_of ps + 1) ≡ top_of ps + 1 = omega arith in
      ap highest_of numbers_next ∙ highest_append (numbers_of ps) (top_of ps + 1) ∙ e

  pub times_next : (n : ℕ) → times n (numbers_of (ps ++ (next_packet (top_of ps) second resends ∷ []))) ≡ times n (numbers_of ps) + cond (eqb n (top_of ps + 1)) 1 0
  times_next n =
      ap (times n) numbers_next
      ∙ times_append n (numbers_of ps) ((top_of ps + 1) ∷ [])
      ∙ ap (λ (x : ℕ). times n (numbers_of ps) + x) (times_one_lem n (top_of ps + 1))

  pub issue : Issued ps → top_of ps < last_number → Issued (ps ++ (next_packet (top_of ps) second resends ∷ []))
  issue i h =
      record {
        given_once = λ n.
            times_next n
            ∙ ap (λ (x : ℕ). x + cond (eqb n (top_of ps + 1)) 1 0) (i.given_once n)
            ∙ one_more n (top_of ps)
            ∙ ap (λ (x : ℕ). cond (leb n x) 1 0) (sym top_next);
        all_rise =
            rw numbers_next
            (rising_append (numbers_of ps) (top_of ps + 1) i.all_rise (λ k z. let q = below_highest (numbers_of ps) k z in omega arith));
        last_number_lem = rw top_next (omega arith);
      }
    where
      one_more : (n m : ℕ) → cond (leb n m) 1 0 + cond (eqb n (m + 1)) 1 0 ≡ cond (leb n (m + 1)) 1 0
      one_more n m =
          ⊎_elim
          (λ (q : m < n).
          ⊎_elim
          (λ (r : m + 1 < n). rw (lt-leb n m q, ne_eqb n (m + 1) (λ e. omega arith), lt-leb n (m + 1) r))
          (λ (r : n ≤ m + 1). rw (lt-leb n m q, eq-eqb n (m + 1) (omega arith), le-leb n (m + 1) r))
          (split (m + 1) n))
          (λ (q : n ≤ m). rw (le-leb n m q, ne_eqb n (m + 1) (λ e. omega arith), le-leb n (m + 1) (omega arith)))
          (split m n)

-- ---- the books
pub record Sound (b : Books) : Type 0 where
  pub issued : Issued b.given_out
  -- what is settled or given up was given out, and is in one of the two only
  pub closed_once : (n : ℕ) → times n b.settled + times n b.given_up ≤ times n (numbers_of b.given_out)
  pub zero_settled : 0 < times 0 b.settled
  pub at_most : length (outstanding_in b) ≤ most_outstanding

pub out_numbers : (b : Books) → numbers_of (outstanding_in b) ≡ keep (unclosed b) (numbers_of b.given_out)
unfolding outstanding_in
out_numbers b = numbers_those (unclosed b) b.given_out

pub out_times : (b : Books) (n : ℕ) → times n (numbers_of (outstanding_in b)) ≡ cond (unclosed b n) (times n (numbers_of b.given_out)) 0
out_times b n = ap (times n) (out_numbers b) ∙ times_keep (unclosed b) n (numbers_of b.given_out)

pub out_among : (b : Books) (n : ℕ) → among (numbers_of (outstanding_in b)) n ≡ (among (numbers_of b.given_out) n && unclosed b n)
out_among b n = ap (λ l. among l n) (out_numbers b) ∙ among_keep (unclosed b) (numbers_of b.given_out) n

bit : (b : Bool) → cond b 1 0 ≤ 1
bit true = omega arith
bit false = omega arith

module _ (b : Books) (s : Sound b) where
  pub at_most_once : (n : ℕ) → times n (numbers_of b.given_out) ≤ 1
  at_most_once n = let e = s.issued.given_once n in let h = bit (leb n (highest_of (numbers_of b.given_out))) in omega arith

  -- given out were 0 to the highest
  pub given_is : (n : ℕ) → leb n (highest_in b) ≡ among (numbers_of b.given_out) n
  unfolding highest_in
  given_is n =
      some (leb n (top_of b.given_out))
      ∙ ap (λ (x : ℕ). ltb 0 x) (sym (s.issued.given_once n))
      ∙ sym (among_times (numbers_of b.given_out) n)
    where
      some : (x : Bool) → x ≡ ltb 0 (cond x 1 0)
      some true = refl
      some false = refl

  -- a number is outstanding, settled or given up as often as it was given out
  pub counted : (n : ℕ) → times n (numbers_of (outstanding_in b)) + times n b.settled + times n b.given_up ≡ times n (numbers_of b.given_out)
  unfolding unclosed
  counted n = go (among b.settled n) refl (among b.given_up n) refl (out_times b n)
    where
      go :
          (x : Bool) → among b.settled n ≡ x → (y : Bool) → among b.given_up n ≡ y
          → times n (numbers_of (outstanding_in b)) ≡ cond (not (among b.settled n) && not (among b.given_up n)) (times n (numbers_of b.given_out)) 0
          → times n (numbers_of (outstanding_in b)) + times n b.settled + times n b.given_up ≡ times n (numbers_of b.given_out)
      go true e y f o =
          let none : times n (numbers_of (outstanding_in b)) ≡ 0 = rw e at o in
          omega (arith, some_times b.settled n e, s.closed_once n, at_most_once n)
      go false e true f o =
          let none : times n (numbers_of (outstanding_in b)) ≡ 0 = rw (e, f) at o in
          omega (arith, some_times b.given_up n f, s.closed_once n, at_most_once n)
      go false e false f o =
          let all : times n (numbers_of (outstanding_in b)) ≡ times n (numbers_of b.given_out) = rw (e, f) at o in
          omega (arith, no_times b.settled n e, no_times b.given_up n f)

  -- the next number is neither settled nor given up
  next_new : times (highest_in b + 1) (numbers_of b.given_out) ≡ 0
  unfolding highest_in
  next_new = s.issued.given_once (highest_in b + 1) ∙ rw (lt-leb (top_of b.given_out + 1) (top_of b.given_out) (omega arith))

  next_settled : among b.settled (highest_in b + 1) ≡ false
  next_settled = times_none b.settled (highest_in b + 1) (omega (arith, next_new, s.closed_once (highest_in b + 1)))

  next_given_up : among b.given_up (highest_in b + 1) ≡ false
  next_given_up = times_none b.given_up (highest_in b + 1) (omega (arith, next_new, s.closed_once (highest_in b + 1)))

  -- one that is outstanding was given out
  pub out_given : (n : ℕ) → among (numbers_of (outstanding_in b)) n ≡ true → (among (numbers_of b.given_out) n ≡ true) × (unclosed b n ≡ true)
  out_given n h = and_both (among (numbers_of b.given_out) n) (unclosed b n) (sym (out_among b n) ∙ h)

  pub below_top : (n : ℕ) → among (numbers_of (outstanding_in b)) n ≡ true → n ≤ highest_in b
  unfolding highest_in
  below_top n h = below_highest (numbers_of b.given_out) n (out_given n h).0

  -- ---- the packets outstanding after a call
  pub out_send : (second : ℕ) → outstanding_in (booked b (send second)) ≡ outstanding_in b ++ (next_packet (highest_in b) second 0 ∷ [])
  unfolding outstanding_in booked unclosed
  out_send second =
      those_append (unclosed b) b.given_out (next_packet (highest_in b) second 0 ∷ [])
      ∙ ap (λ l. outstanding_in b ++ l) (those_one (unclosed b) (next_packet (highest_in b) second 0) (rw (next_settled, next_given_up)))

  -- numbers rise there too
  pub out_rises : Rising (numbers_of (outstanding_in b))
  out_rises = rw (out_numbers b) (rising_keep (unclosed b) (numbers_of b.given_out) s.issued.all_rise)

  -- without the packet of number n: those of the others
  out_without : (n : ℕ) → without n (outstanding_in b) ≡ those (λ k. not (eqb k n)) (outstanding_in b)
  out_without n = without_those n (outstanding_in b) out_rises

  pub out_resend : (n second : ℕ) → among (numbers_of (outstanding_in b)) n ≡ true
      → outstanding_in (booked b (resend n second)) ≡ without n (outstanding_in b) ++ (next_packet (highest_in b) second (resends_of b.given_out n + 1) ∷ [])
  unfolding outstanding_in booked unclosed among
  out_resend n second h =
      those_append t b.given_out (next_packet (highest_in b) second (resends_of b.given_out n + 1) ∷ [])
      ∙ ap (λ l. l ++ those t (next_packet (highest_in b) second (resends_of b.given_out n + 1) ∷ [])) (old ∙ sym (out_without n))
      ∙ ap (λ l. without n (outstanding_in b) ++ l)
      (those_one t (next_packet (highest_in b) second (resends_of b.given_out n + 1)) (rw (next_settled, ne_eqb (highest_in b + 1) n apart, next_given_up)))
    where
      t : ℕ → Bool
      t k = not (among b.settled k) && not (eqb k n || among b.given_up k)

      apart : highest_in b + 1 ≡ n → ⊥
      apart e = let q = below_top n h in omega arith

      both : (x y z : Bool) → (not x && not (y || z)) ≡ (not x && not z && not y)
      both true y z = refl
      both false true true = refl
      both false true false = refl
      both false false true = refl
      both false false false = refl

      old : those t b.given_out ≡ those (λ k. not (eqb k n)) (outstanding_in b)
      old =
          those_same t (λ k. unclosed b k && not (eqb k n)) b.given_out (λ k z. both (among b.settled k) (eqb k n) (among b.given_up k))
          ∙ sym (those_those (λ k. not (eqb k n)) (unclosed b) b.given_out)

  -- an ack settles those outstanding that it names, and no other
  settled_ack : (through count : ℕ) (pairs : List ℕ) (k : ℕ)
      → among (booked b (ack through count pairs)).settled k
      ≡ (among (numbers_of (outstanding_in b)) k && among (ack_numbers through count pairs) k || among b.settled k)
  unfolding booked
  settled_ack through count pairs k =
      among_append (keep (among (ack_numbers through count pairs)) (numbers_of (outstanding_in b))) b.settled k
      ∙ ap (λ x. x || among b.settled k) (among_keep (among (ack_numbers through count pairs)) (numbers_of (outstanding_in b)) k)

  pub out_ack : (through count : ℕ) (pairs : List ℕ) → outstanding_in (booked b (ack through count pairs)) ≡ those (λ n. not (among (ack_numbers through count pairs) n)) (outstanding_in b)
  unfolding outstanding_in unclosed booked
  out_ack through count pairs =
      those_same (unclosed (booked b (ack through count pairs))) (λ k. unclosed b k && not (named k)) b.given_out same
      ∙ sym (those_those (λ k. not (named k)) (unclosed b) b.given_out)
    where
      named : ℕ → Bool
      named k = among (ack_numbers through count pairs) k

      both : (x y z : Bool) → (not (true && (not x && not z) && y || x) && not z) ≡ (not x && not z && not y)
      both true y true = refl
      both true y false = refl
      both false true true = refl
      both false true false = refl
      both false false true = refl
      both false false false = refl

      same : (k : ℕ) → among (numbers_of b.given_out) k ≡ true → unclosed (booked b (ack through count pairs)) k ≡ (unclosed b k && not (named k))
      same k h =
          let o : among (numbers_of (outstanding_in b)) k ≡ (true && unclosed b k) = out_among b k ∙ ap (λ x. x && unclosed b k) h in
          ap (λ x. not x && not (among b.given_up k)) (settled_ack through count pairs k ∙ ap (λ x. x && named k || among b.settled k) o)
          ∙ both (among b.settled k) (named k) (among b.given_up k)

  -- ---- the books stay sound
  abbrev out : List ℕ
  out = numbers_of (outstanding_in b)

  abbrev given : ℕ → Bool
  given = among (numbers_of b.given_out)

  sound_send : (second : ℕ) → answer_in b (send second) ≡ 0 → Sound (booked b (send second))
  unfolding booked answer_in highest_in
  sound_send second h =
      let t = send_taken (highest_in b) given out second h in
      record {
        issued = issue b.given_out second 0 s.issued t.0;
        closed_once = λ n. omega (arith, times_next b.given_out second 0 n, s.closed_once n);
        zero_settled = s.zero_settled;
        at_most =
            rw (out_send second)
            (omega (arith, length-append (outstanding_in b) (next_packet (highest_in b) second 0 ∷ []), length_numbers (outstanding_in b), t.1));
      }

  sound_resend : (n second : ℕ) → answer_in b (resend n second) ≡ 0 → Sound (booked b (resend n second))
  unfolding booked answer_in highest_in times
  sound_resend n second h =
      let t = resend_taken (highest_in b) given out n second h in
      record {
        issued = issue b.given_out second (resends_of b.given_out n + 1) s.issued t.0;
        closed_once = λ k. omega (arith, times_next b.given_out second (resends_of b.given_out n + 1) k, given_up_lem t.1 k (eqb k n) refl);
        zero_settled = s.zero_settled;
        at_most =
            rw (out_resend n second t.1, out_without n)
            (omega (
              arith,
              length-append (those others (outstanding_in b)) (next_packet (highest_in b) second (resends_of b.given_out n + 1) ∷ []),
              length_numbers (those others (outstanding_in b)),
              ap length (numbers_those others (outstanding_in b)),
              fewer_kept others out n t.1 (rw (eq-eqb n n refl)),
              length_numbers (outstanding_in b),
              s.at_most,
            ));
      }
    where
      others : ℕ → Bool
      others k = not (eqb k n)

      given_up_lem : among out n ≡ true → (k : ℕ) (x : Bool) → eqb k n ≡ x
          → times k b.settled + (cond x 1 0 + times k b.given_up) ≤ times k (numbers_of b.given_out)
      given_up_lem o k true e =
          let q : k ≡ n = eqb-true k n e in
          let c : among out k ≡ true = rw q o in
          omega (arith, counted k, some_times out k c)
      given_up_lem o k false e = omega (arith, s.closed_once k)

  sound_ack : (through count : ℕ) (pairs : List ℕ) → Sound (booked b (ack through count pairs))
  unfolding booked
  sound_ack through count pairs =
      record {
        issued = s.issued;
        closed_once = λ n.
            omega (
              arith,
              times_append n (keep named out) b.settled,
              times_keep named n out,
              part (named n) (times n out),
              counted n,
            );
        zero_settled = omega (arith, times_append 0 (keep named out) b.settled, s.zero_settled);
        at_most =
            rw (out_ack through count pairs)
            (omega (
              arith,
              length_numbers (those (λ k. not (named k)) (outstanding_in b)),
              ap length (numbers_those (λ k. not (named k)) (outstanding_in b)),
              length_keep (λ k. not (named k)) out,
              length_numbers (outstanding_in b),
              s.at_most,
            ));
      }
    where
      named : ℕ → Bool
      named k = among (ack_numbers through count pairs) k

      part : (x : Bool) (t : ℕ) → cond x t 0 ≤ t
      part true t = omega arith
      part false t = omega arith

  sound_booked : (c : Call) → answer_in b c ≡ 0 → Sound (booked b c)
  sound_booked (send second) h = sound_send second h
  sound_booked (resend n second) h = sound_resend n second h
  sound_booked (ack through count pairs) h = sound_ack through count pairs

  pub sound_entered : (c : Call) → Sound (entered b c)
  unfolding entered
  sound_entered c = go (eqb (answer_in b c) 0) refl
    where
      go : (x : Bool) → eqb (answer_in b c) 0 ≡ x → Sound (cond x (booked b c) b)
      go true e = sound_booked c (eqb-true (answer_in b c) 0 e)
      go false e = s

pub sound_opening : Sound opening
unfolding outstanding_in those unclosed among numbers_of times highest_of
sound_opening =
    record {
      issued =
          record {
            given_once = λ n. first n;
            all_rise = (λ k h. absurd (false≢true h), tt);
            last_number_lem = omega arith;
          };
      closed_once = λ n. omega arith;
      zero_settled = omega arith;
      at_most = omega arith;
    }
  where
    first : (n : ℕ) → cond (eqb n 0) 1 0 + 0 ≡ cond (leb n 0) 1 0
    first n =
        ⊎_elim
        (λ (q : 0 < n). rw (ne_eqb n 0 (λ e. omega arith), lt-leb n 0 q))
        (λ (q : n ≤ 0). rw (eq-eqb n 0 (omega arith), le-leb n 0 q))
        (split 0 n)
