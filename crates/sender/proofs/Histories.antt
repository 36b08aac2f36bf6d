-- What holds after every history of calls: the sender is what the books say, and so are its answers. Assumes nothing.
use mathlib.Core.Path.{◌≡◌, refl, sym, ap, ◌∙◌}
use mathlib.Core.Bool.{Bool, true, false, cond, ◌||◌, false≢true}
use mathlib.Core.List.{List, [], ◌∷◌, ◌++◌, append-nil}
use Prim.Native.Nat.{ℕ, zero, suc, ◌+◌, ◌≤◌, ◌<◌}
use native.Mathlib.Omega.{arith}
use lib.Dec.{leb, eqb}
use lib.ListN.{length}
use borrow.Author.Tests.{ne_eqb, eqb-true, lt-ltb, leb-true, le-leb, lt-leb}
use Rattle.acks.specs.Window.{keep}
use Rattle.acks.specs.History.{highest_of, among}
use Rattle.acks.specs.Expanding.{ack_numbers}
use Rattle.sender.specs.Sizes.{most_outstanding, last_number}
use Rattle.sender.specs.Sender.{Sender, Call, send, resend, ack, numbers_of, those, without, resends_of, next_packet, call_answer, answer_by, taken, number_given, settled_by, called}
use Rattle.sender.specs.History.{Books, unclosed, outstanding_in, highest_in, answer_in, booked, entered, books, given_out, settled, given_up, sender_by, outstanding, times, any_of, Rising}
use Rattle.sender.proofs.Lists.{times_append, among_times, some_times, resends_those}
use Rattle.sender.proofs.Answers.{resend_taken}
use Rattle.sender.proofs.Calls.{called_answer, called_given, called_settled, called_sender}
use Rattle.sender.proofs.Books.{Sound, given_is, counted, at_most_once, out_given, out_rises, out_send, out_resend, out_ack, top_of, numbers_next, top_next, sound_opening, sound_entered}

-- ---- the sender is what the books say
unfoldable pub sender_of : Books → Sender
sender_of b = record { highest = highest_in b; packets = outstanding_in b }

resends_out : (b : Books) (n : ℕ) → unclosed b n ≡ true → resends_of (outstanding_in b) n ≡ resends_of b.given_out n
unfolding outstanding_in
resends_out b n h = resends_those (unclosed b) b.given_out n h

taken_is : (b : Books) → Sound b → (c : Call) → answer_in b c ≡ 0 → taken (sender_of b) c ≡ sender_of (booked b c)
unfolding taken sender_of booked answer_in highest_in
taken_is b s (send second) h = λ i. record { highest = sym (top_next b.given_out second 0) i; packets = sym (out_send b s second) i }
taken_is b s (resend n second) h =
    let o : among (numbers_of (outstanding_in b)) n ≡ true = (resend_taken (highest_in b) (among (numbers_of b.given_out)) (numbers_of (outstanding_in b)) n second h).1 in
    let same : resends_of (outstanding_in b) n ≡ resends_of b.given_out n = resends_out b n (out_given b s n o).1 in
    let list : without n (outstanding_in b) ++ (next_packet (highest_in b) second (resends_of (outstanding_in b) n + 1) ∷ [])
    ≡ outstanding_in (booked b (resend n second)) =
    ap (λ (k : ℕ). without n (outstanding_in b) ++ (next_packet (highest_in b) second (k + 1) ∷ [])) same ∙ sym (out_resend b s n second o) in
    λ i. record { highest = sym (top_next b.given_out second (resends_of b.given_out n + 1)) i; packets = list i }
taken_is b s (ack through count pairs) h = λ i. record { highest = highest_in b; packets = sym (out_ack b s through count pairs) i }

answer_is : (b : Books) → Sound b → (c : Call) → answer_by (sender_of b) c ≡ answer_in b c
unfolding answer_by sender_of answer_in
answer_is b s c =
    let e : (λ n. leb n (highest_in b)) ≡ among (numbers_of b.given_out) = λ i n. given_is b s n i in
    ap (λ (g : ℕ → Bool). call_answer (highest_in b) g (numbers_of (outstanding_in b)) c) e

entered_is : (b : Books) → Sound b → (c : Call) → (called (sender_of b) c).sender ≡ sender_of (entered b c)
unfolding entered
entered_is b s c = rw (called_sender (sender_of b) c, answer_is b s c) (go (eqb (answer_in b c) 0) refl)
  where
    go : (x : Bool) → eqb (answer_in b c) 0 ≡ x → cond x (taken (sender_of b) c) (sender_of b) ≡ sender_of (cond x (booked b c) b)
    go true e = taken_is b s c (eqb-true (answer_in b c) 0 e)
    go false e = refl

pub sound : (h : List Call) → Sound (books h)
unfolding books
sound [] = sound_opening
sound (c ∷ past) = sound_entered (books past) (sound past) c

pub sender_is : (h : List Call) → sender_by h ≡ sender_of (books h)
unfolding sender_by books sender_of outstanding_in those unclosed among highest_in numbers_of highest_of
sender_is [] = refl
sender_is (c ∷ past) = ap (λ (x : Sender). (called x c).sender) (sender_is past) ∙ entered_is (books past) (sound past) c

highest_is : (h : List Call) → (sender_by h).highest ≡ highest_in (books h)
unfolding sender_of
highest_is h = ap (λ (x : Sender). x.highest) (sender_is h)

-- the list has exactly the packets outstanding by the books
pub packets_are : (h : List Call) → (sender_by h).packets ≡ outstanding_in (books h)
unfolding sender_of
packets_are h = ap (λ (x : Sender). x.packets) (sender_is h)

-- ---- at every moment
module _ (h : List Call) where
  pub one_of_three : (n : ℕ) → times n (outstanding h) + times n (settled h) + times n (given_up h) ≡ times n (given_out h)
  unfolding outstanding settled given_up given_out
  one_of_three n = rw (packets_are h) (counted (books h) (sound h) n)

  pub given_once : (n : ℕ) → times n (given_out h) ≡ cond (leb n (sender_by h).highest) 1 0
  unfolding given_out highest_in
  given_once n = (sound h).issued.given_once n ∙ ap (λ (x : ℕ). cond (leb n x) 1 0) (sym (highest_is h))

  pub at_most_last : (sender_by h).highest ≤ last_number
  unfolding highest_in
  at_most_last = rw (highest_is h) (sound h).issued.last_number_lem

  pub zero_settled : times 0 (settled h) ≡ 1
  unfolding settled
  zero_settled = omega (arith, (sound h).zero_settled, (sound h).closed_once 0, at_most_once (books h) (sound h) 0)

  pub out_rise : Rising (outstanding h)
  unfolding outstanding
  out_rise = rw (packets_are h) (out_rises (books h) (sound h))

  pub at_most : length (sender_by h).packets ≤ most_outstanding
  at_most = rw (packets_are h) (sound h).at_most

  -- given out are 0 to the highest
  pub given_below : (n : ℕ) → among (given_out h) n ≡ true → n ≤ (sender_by h).highest
  given_below n z = go (leb n (sender_by h).highest) refl (sym (given_once n)) (some_times (given_out h) n z)
    where
      go : (b : Bool) → leb n (sender_by h).highest ≡ b → cond b 1 0 ≡ times n (given_out h) → 0 < times n (given_out h) → n ≤ (sender_by h).highest
      go true e f some = leb-true n (sender_by h).highest e
      go false e f some = absurd (omega arith)

-- ---- which numbers are among those given out and settled
-- 0 is given out, and at the start alone
pub zero_given : (h : List Call) → among (given_out h) 0 ≡ true
zero_given h =
    among_times (given_out h) 0
    ∙ lt-ltb 0 (times 0 (given_out h)) (rw (given_once h 0, le-leb 0 (sender_by h).highest (omega arith)) (omega arith))

zero_alone : (n : ℕ) → among (0 ∷ []) n ≡ eqb n 0
unfolding among
zero_alone n = go (eqb n 0)
  where
    go : (b : Bool) → (b || false) ≡ b
    go true = refl
    go false = refl

pub given_first : (n : ℕ) → among (given_out []) n ≡ eqb n 0
unfolding given_out books numbers_of
given_first n = zero_alone n

pub settled_first : (n : ℕ) → among (settled []) n ≡ eqb n 0
unfolding settled books
settled_first n = zero_alone n

-- a number that is returned is one more; 0 is none
pub given_more : (l : List ℕ) (g n : ℕ) → among l 0 ≡ true → (eqb n g || among l n) ≡ (among l n || among (any_of g) n)
unfolding among any_of
given_more l zero n z = go (eqb n 0) refl (among l n) refl
  where
    go : (a : Bool) → eqb n 0 ≡ a → (b : Bool) → among l n ≡ b → (a || b) ≡ (b || false)
    go true e true f = refl
    go true e false f = absurd (false≢true (sym f ∙ ap (among l) (eqb-true n 0 e) ∙ z))
    go false e true f = refl
    go false e false f = refl
given_more l (suc g) n z = rw (ne_eqb (suc g) 0 (λ e. omega arith)) (go (eqb n (suc g)) (among l n))
  where
    go : (a b : Bool) → (a || b) ≡ (b || (a || false))
    go true true = refl
    go true false = refl
    go false true = refl
    go false false = refl

-- ---- what a call does to the books
stays_booked : (b : Books) (c : Call) (n : ℕ)
    → (times n b.settled ≤ times n (booked b c).settled) × (times n b.given_up ≤ times n (booked b c).given_up)
unfolding booked times
stays_booked b (send second) n = (omega arith, omega arith)
stays_booked b (resend k second) n = (omega arith, omega arith)
stays_booked b (ack through count pairs) n =
    (omega (arith, times_append n (keep (among (ack_numbers through count pairs)) (numbers_of (outstanding_in b))) b.settled), omega arith)

-- a number that is given out is the one after the highest
given_next : (s : Sender) (c : Call) → 0 < number_given s c → number_given s c ≡ s.highest + 1
unfolding number_given
given_next s (send second) h = refl
given_next s (resend n second) h = refl
given_next s (ack through count pairs) h = absurd (omega arith)

number_next : (s : Sender) (c : Call) → 0 < (called s c).given → (called s c).given ≡ s.highest + 1
number_next s c h = go (eqb (answer_by s c) 0) (called_given s c)
  where
    go : (x : Bool) → (called s c).given ≡ cond x (number_given s c) 0 → (called s c).given ≡ s.highest + 1
    go true e = e ∙ given_next s c (rw (sym e) h)
    go false e = absurd (omega arith)

-- the books give out the number that the call returns
given_booked : (b : Books) (c : Call) → numbers_of (booked b c).given_out ≡ numbers_of b.given_out ++ any_of (number_given (sender_of b) c)
unfolding booked number_given sender_of any_of highest_in
given_booked b (send second) = numbers_next b.given_out second 0 ∙ rw (ne_eqb (top_of b.given_out + 1) 0 (λ e. omega arith))
given_booked b (resend n second) =
    numbers_next b.given_out second (resends_of b.given_out n + 1) ∙ rw (ne_eqb (top_of b.given_out + 1) 0 (λ e. omega arith))
given_booked b (ack through count pairs) = sym (append-nil (numbers_of b.given_out))

given_entered : (b : Books) → Sound b → (c : Call) → numbers_of (entered b c).given_out ≡ numbers_of b.given_out ++ any_of (called (sender_of b) c).given
unfolding entered any_of
given_entered b s c = rw (called_given (sender_of b) c, answer_is b s c) (go (eqb (answer_in b c) 0))
  where
    go : (x : Bool) → numbers_of (cond x (booked b c) b).given_out ≡ numbers_of b.given_out ++ any_of (cond x (number_given (sender_of b) c) 0)
    go true = given_booked b c
    go false = sym (append-nil (numbers_of b.given_out))

-- and settle the numbers that it tells
settled_booked : (b : Books) (c : Call) → (booked b c).settled ≡ settled_by (sender_of b) c ++ b.settled
unfolding booked settled_by sender_of
settled_booked b (send second) = refl
settled_booked b (resend n second) = refl
settled_booked b (ack through count pairs) = refl

settled_entered : (b : Books) → Sound b → (c : Call) → (entered b c).settled ≡ (called (sender_of b) c).settled ++ b.settled
unfolding entered
settled_entered b s c = rw (called_settled (sender_of b) c, answer_is b s c) (go (eqb (answer_in b c) 0))
  where
    go : (x : Bool) → (cond x (booked b c) b).settled ≡ cond x (settled_by (sender_of b) c) [] ++ b.settled
    go true = settled_booked b c
    go false = refl

-- ---- a call after every history
module _ (h : List Call) (c : Call) where
  -- what was settled or given up stays so
  pub stays : (n : ℕ) → (times n (settled h) ≤ times n (settled (c ∷ h))) × (times n (given_up h) ≤ times n (given_up (c ∷ h)))
  unfolding settled given_up books entered
  stays n = go (eqb (answer_in (books h) c) 0)
    where
      go :
          (x : Bool)
          → (times n (books h).settled ≤ times n (cond x (booked (books h) c) (books h)).settled)
          × (times n (books h).given_up ≤ times n (cond x (booked (books h) c) (books h)).given_up)
      go true = stays_booked (books h) c n
      go false = (omega arith, omega arith)

  pub answered : (called (sender_by h) c).answer ≡ answer_in (books h) c
  answered = called_answer (sender_by h) c ∙ ap (λ (x : Sender). answer_by x c) (sender_is h) ∙ answer_is (books h) (sound h) c

  pub returned : given_out (c ∷ h) ≡ given_out h ++ any_of (called (sender_by h) c).given
  unfolding given_out books
  returned = given_entered (books h) (sound h) c ∙ ap (λ (x : Sender). given_out h ++ any_of (called x c).given) (sym (sender_is h))

  pub next_number : 0 < (called (sender_by h) c).given → (called (sender_by h) c).given ≡ (sender_by h).highest + 1
  next_number = number_next (sender_by h) c

  pub never_twice : 0 < (called (sender_by h) c).given → times (called (sender_by h) c).given (given_out h) ≡ 0
  never_twice some =
      ap (λ (x : ℕ). times x (given_out h)) (next_number some)
      ∙ given_once h ((sender_by h).highest + 1)
      ∙ rw (lt-leb ((sender_by h).highest + 1) (sender_by h).highest (omega arith))

  pub settles : settled (c ∷ h) ≡ (called (sender_by h) c).settled ++ settled h
  unfolding settled books
  settles = settled_entered (books h) (sound h) c ∙ ap (λ (x : Sender). (called x c).settled ++ settled h) (sym (sender_is h))
