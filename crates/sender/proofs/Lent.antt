-- What each call answers on a lent record, test by test; and what a refused and a taken call are. Assumes nothing.
use mathlib.Core.Path.{◌≡◌, refl, sym, ap, ◌∙◌}
use mathlib.Core.Bool.{Bool, true, false}
use mathlib.Core.List.{List}
use Prim.Native.Nat.{ℕ, ◌≤◌, ◌<◌}
use native.Mathlib.Omega.{arith}
use lib.Dec.{ltb, leb, eqb}
use lib.ListN.{length, take, replicate}
use lib.Seq.{length-take-le}
use borrow.Author.Tests.{lt-ltb, le-ltb, ne_eqb}
use Rattle.wire.specs.Parts.{splice}
use Rattle.wire.specs.Numbers.{little_at}
use Rattle.acks.specs.History.{among}
use Rattle.sender.specs.Outcomes.{Told}
use Rattle.sender.specs.Sizes.{most_outstanding, last_number, sender_size}
use Rattle.sender.specs.Sender.{Call, send, resend, numbers_of, place_of, call_answer, answer_by, taken, number_given}
use Rattle.sender.specs.Recorded.{sender_short, outstanding_count, sender_at, sender_bytes, lent_answer, new_sender_record, answer_there, given_there, sender_after}
use Rattle.sender.proofs.Counts.{length_outstanding}
use Rattle.sender.proofs.Lists.{length_numbers}
use Rattle.sender.proofs.Places.{among_place}
use Rattle.sender.proofs.Answers as Answers

-- n numbers in front, each put to 0
pub cleared : (r f : List ℕ) (n : ℕ) → n ≤ length r → f ≡ replicate (length (take n r)) 0 → f ≡ replicate n 0
cleared r f n h e = e ∙ ap (λ (k : ℕ). replicate k 0) (length-take-le n r h)

module _ (r : List ℕ) where
  pub is_short_lem : length r < sender_size → sender_short r ≡ true
  unfolding sender_short
  is_short_lem h = lt-ltb (length r) sender_size h

  pub is_long : sender_size ≤ length r → sender_short r ≡ false
  unfolding sender_short
  is_long h = le-ltb (length r) sender_size h

  pub lent_59 : length r < sender_size → lent_answer r ≡ 59
  unfolding lent_answer
  lent_59 h = rw (is_short_lem h) refl

  pub lent_0 : sender_size ≤ length r → lent_answer r ≡ 0
  unfolding lent_answer
  lent_0 h = rw (is_long h) refl

  -- ---- a new sender

  pub new_short : length r < sender_size → (59 ≡ lent_answer r) × (r ≡ new_sender_record r)
  unfolding new_sender_record
  new_short h = (sym (lent_59 h), rw (is_short_lem h) refl)

  pub new_long : (z : List ℕ) → sender_size ≤ length r → z ≡ splice r 0 (replicate sender_size 0) → (0 ≡ lent_answer r) × (z ≡ new_sender_record r)
  unfolding new_sender_record
  new_long z h e = (sym (lent_0 h), rw (is_long h) e)

  -- ---- any call

  pub short_59 : (c : Call) → length r < sender_size → answer_there r c ≡ 59
  unfolding answer_there
  short_59 c h = rw (is_short_lem h) refl

  -- a refused call answers its number, gives out 0, and leaves every byte
  pub refused_call_lem : (c : Call) (a : ℕ) → answer_there r c ≡ a → 0 < a → ◌≡◌ {A = Told} (record { answer = a; value = 0 }) (record { answer = answer_there r c; value = given_there r c }) × (r ≡ sender_after r c)
  unfolding given_there sender_after
  refused_call_lem c a f h =
      let ne : eqb a 0 ≡ false = ne_eqb a 0 (λ z. omega arith) in
      (rw (f, ne) refl, rw (f, ne) refl)

  -- a taken one answers 0, gives out the next number, and leaves the sender after it
  pub taken_call_lem : (c : Call) (n : ℕ) (z : List ℕ) → n ≡ number_given (sender_at r) c → z ≡ splice r 0 (sender_bytes (taken (sender_at r) c)) → answer_there r c ≡ 0
      → ◌≡◌ {A = Told} (record { answer = 0; value = n }) (record { answer = answer_there r c; value = given_there r c }) × (z ≡ sender_after r c)
  unfolding given_there sender_after
  taken_call_lem c n z m w f = (rw (f, ← m) refl, rw f w)

  -- ---- a send and a resend of a record that is long enough

  module _ (highest count : ℕ) (is-highest : highest ≡ little_at 4 r 0) (is-count : count ≡ outstanding_count r) (long : sender_size ≤ length r) where
    -- where the record is long enough, the sender there answers
    there : (c : Call) (a : ℕ) → call_answer (sender_at r).highest (λ n. leb n (sender_at r).highest) (numbers_of (sender_at r).packets) c ≡ a → answer_there r c ≡ a
    unfolding answer_there answer_by
    there c a e = rw (is_long long) e

    so_many : length (numbers_of (sender_at r).packets) ≡ count
    so_many = length_numbers (sender_at r).packets ∙ length_outstanding r ∙ sym is-count

    so_high : (sender_at r).highest ≡ highest
    unfolding sender_at
    so_high = sym is-highest

    pub send_71 : (second : ℕ) → last_number ≤ highest → answer_there r (send second) ≡ 71
    send_71 second h = there (send second) 71 (Answers.send_71 _ _ _ second (omega (arith, so_high)))

    pub send_70 : (second : ℕ) → highest < last_number → most_outstanding ≤ count → answer_there r (send second) ≡ 70
    send_70 second h full = there (send second) 70 (Answers.send_70 _ _ _ second (omega (arith, so_high)) (omega (arith, so_many)))

    pub send_0 : (second : ℕ) → highest < last_number → count < most_outstanding → answer_there r (send second) ≡ 0
    send_0 second h room = there (send second) 0 (Answers.send_0 _ _ _ second (omega (arith, so_high)) (omega (arith, so_many)))

    module _ (n k : ℕ) (is-place : k ≡ place_of n (sender_at r).packets) where
      is_there : (b : Bool) → ltb k count ≡ b → among (numbers_of (sender_at r).packets) n ≡ b
      is_there b e =
          among_place n (sender_at r).packets
          ∙ ap (ltb (place_of n (sender_at r).packets)) (length_outstanding r ∙ sym is-count)
          ∙ ap (λ (j : ℕ). ltb j count) (sym is-place)
          ∙ e

      pub resend_73 : (second : ℕ) → count ≤ k → answer_there r (resend n second) ≡ 73
      resend_73 second h = there (resend n second) 73 (Answers.resend_73 _ _ _ n second (is_there false (le-ltb k count h)))

      pub resend_71 : (second : ℕ) → k < count → last_number ≤ highest → answer_there r (resend n second) ≡ 71
      resend_71 second h u = there (resend n second) 71 (Answers.resend_71 _ _ _ n second (is_there true (lt-ltb k count h)) (omega (arith, so_high)))

      pub resend_0 : (second : ℕ) → k < count → highest < last_number → answer_there r (resend n second) ≡ 0
      resend_0 second h u = there (resend n second) 0 (Answers.resend_0 _ _ _ n second (is_there true (lt-ltb k count h)) (omega (arith, so_high)))
