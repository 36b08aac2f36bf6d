-- What a call answers, case by case. Assumes nothing.
use mathlib.Core.Path.{◌≡◌, refl}
use mathlib.Core.Bool.{Bool, true, false}
use mathlib.Core.List.{List, [], ◌∷◌}
use mathlib.Core.Logic.{⊎_elim}
use Prim.Native.Nat.{ℕ, ◌-◌, ◌≤◌, ◌<◌}
use native.Mathlib.Omega.{arith}
use lib.Dec.{leb, ltb}
use lib.ListN.{length}
use borrow.Author.Tests.{lt-ltb, le-ltb, lt-leb, le-leb}
use Rattle.acks.specs.History.{among}
use Rattle.acks.specs.Runs.{flags, named, whole_pairs}
use Rattle.acks.specs.Expanding.{ack_numbers, goes_below}
use Rattle.acks.proofs.Ring.{split}
use Rattle.sender.specs.Sizes.{most_outstanding, last_number}
use Rattle.sender.specs.Sender.{send, resend, ack, any_outside, call_answer}

module _ (highest : ℕ) (given : ℕ → Bool) (out : List ℕ) where
  -- ---- a send: 71 before 70
  pub send_71 : (second : ℕ) → last_number ≤ highest → call_answer highest given out (send second) ≡ 71
  unfolding call_answer
  send_71 second h = rw (le-leb last_number highest h)

  pub send_70 : (second : ℕ) → highest < last_number → most_outstanding ≤ length out → call_answer highest given out (send second) ≡ 70
  unfolding call_answer
  send_70 second h g = rw (lt-leb last_number highest h, le-leb most_outstanding (length out) g)

  pub send_0 : (second : ℕ) → highest < last_number → length out < most_outstanding → call_answer highest given out (send second) ≡ 0
  unfolding call_answer
  send_0 second h g = rw (lt-leb last_number highest h, lt-leb most_outstanding (length out) g)

  -- ---- a resend: 73 before 71, and never 70
  pub resend_73 : (n second : ℕ) → among out n ≡ false → call_answer highest given out (resend n second) ≡ 73
  unfolding call_answer
  resend_73 n second e = rw e

  pub resend_71 : (n second : ℕ) → among out n ≡ true → last_number ≤ highest → call_answer highest given out (resend n second) ≡ 71
  unfolding call_answer
  resend_71 n second e h = rw (e, le-leb last_number highest h)

  pub resend_0 : (n second : ℕ) → among out n ≡ true → highest < last_number → call_answer highest given out (resend n second) ≡ 0
  unfolding call_answer
  resend_0 n second e h = rw (e, lt-leb last_number highest h)

  -- ---- an ack: 44 before 72
  pub ack_44 : (through count : ℕ) (pairs : List ℕ) → goes_below through count pairs ≡ true → call_answer highest given out (ack through count pairs) ≡ 44
  unfolding call_answer
  ack_44 through count pairs e = rw e

  pub ack_72 : (through count : ℕ) (pairs : List ℕ) → goes_below through count pairs ≡ false → any_outside given (ack_numbers through count pairs) ≡ true
      → call_answer highest given out (ack through count pairs) ≡ 72
  unfolding call_answer
  ack_72 through count pairs e f = rw (e, f)

  pub ack_0 : (through count : ℕ) (pairs : List ℕ) → goes_below through count pairs ≡ false → any_outside given (ack_numbers through count pairs) ≡ false
      → call_answer highest given out (ack through count pairs) ≡ 0
  unfolding call_answer
  ack_0 through count pairs e f = rw (e, f)

  -- ---- what an answer of 0 says
  pub send_taken : (second : ℕ) → call_answer highest given out (send second) ≡ 0 → (highest < last_number) × (length out < most_outstanding)
  send_taken second z =
      ⊎_elim
      (λ (h : highest < last_number).
      ⊎_elim
      (λ (g : length out < most_outstanding). (h, g))
      (λ (g : most_outstanding ≤ length out). absurd (omega (arith, z, send_70 second h g)))
      (split (length out) most_outstanding))
      (λ (h : last_number ≤ highest). absurd (omega (arith, z, send_71 second h)))
      (split highest last_number)

  pub resend_taken : (n second : ℕ) → call_answer highest given out (resend n second) ≡ 0 → (highest < last_number) × (among out n ≡ true)
  resend_taken n second z = go (among out n) refl
    where
      go : (b : Bool) → among out n ≡ b → (highest < last_number) × (b ≡ true)
      go false e = absurd (omega (arith, z, resend_73 n second e))
      go true e =
          ⊎_elim
          (λ (h : highest < last_number). (h, refl))
          (λ (h : last_number ≤ highest). absurd (omega (arith, z, resend_71 n second e h)))
          (split highest last_number)

-- ---- 72: through is named, and is the largest
named_below : (top n : ℕ) (l : List Bool) → n ≤ top → any_outside (λ k. leb k top) (named n l) ≡ false
unfolding any_outside named
named_below top n [] h = refl
named_below top n (true ∷ l) h = rw (le-leb n top h) (named_below top (n - 1) l (omega arith))
named_below top n (false ∷ l) h = named_below top (n - 1) l (omega arith)

pub outside_through : (top through count : ℕ) (ps : List ℕ) → any_outside (λ k. leb k top) (ack_numbers through count ps) ≡ ltb top through
unfolding ack_numbers named any_outside
outside_through top through count ps =
    ⊎_elim
    (λ (q : top < through). rw (lt-ltb top through q, lt-leb through top q))
    (λ (q : through ≤ top).
    rw (le-ltb top through q, le-leb through top q) (named_below top (through - 1) (flags true (count ∷ whole_pairs ps)) (omega arith)))
    (split top through)
