-- What a call comes to, part by part. Assumes nothing.
use mathlib.Core.Path.{◌≡◌, refl, sym, ap, ◌∙◌}
use mathlib.Core.Bool.{Bool, true, false, cond, false≢true}
use mathlib.Core.List.{List, []}
use Prim.Native.Nat.{ℕ, ◌≤◌}
use native.Mathlib.Omega.{arith}
use lib.Dec.{eqb}
use borrow.Author.Tests.{eq-eqb, ne_eqb, eqb-true, eqb-false}
use Rattle.wire.proofs.Tests.{and_both}
use Rattle.acks.specs.Window.{keep}
use Rattle.acks.specs.History.{among}
use Rattle.acks.specs.Expanding.{ack_numbers}
use Rattle.acks.proofs.Newest.{among_keep}
use Rattle.sender.specs.Sender.{Sender, Call, send, resend, ack, numbers_of, answer_by, taken, number_given, settled_by, Called, taken_call, refused_call, called}

-- ---- the parts
module _ (s : Sender) (c : Call) where
  pub called_taken : answer_by s c ≡ 0 → called s c ≡ taken_call s c
  unfolding called
  called_taken e = rw (eq-eqb (answer_by s c) 0 e)

  pub called_refused : (answer_by s c ≡ 0 → ⊥) → called s c ≡ refused_call s (answer_by s c)
  unfolding called
  called_refused ne = rw (ne_eqb (answer_by s c) 0 ne)

  pub called_answer : (called s c).answer ≡ answer_by s c
  called_answer = go (eqb (answer_by s c) 0) refl
    where
      go : (b : Bool) → eqb (answer_by s c) 0 ≡ b → (called s c).answer ≡ answer_by s c
      go true e = let z = eqb-true (answer_by s c) 0 e in ap (λ (x : Called). x.answer) (called_taken z) ∙ sym z
      go false e = ap (λ (x : Called). x.answer) (called_refused (eqb-false (answer_by s c) 0 e))

  pub called_given : (called s c).given ≡ cond (eqb (answer_by s c) 0) (number_given s c) 0
  called_given = go (eqb (answer_by s c) 0) refl
    where
      go : (b : Bool) → eqb (answer_by s c) 0 ≡ b → (called s c).given ≡ cond b (number_given s c) 0
      go true e = ap (λ (x : Called). x.given) (called_taken (eqb-true (answer_by s c) 0 e))
      go false e = ap (λ (x : Called). x.given) (called_refused (eqb-false (answer_by s c) 0 e))

  pub called_settled : (called s c).settled ≡ cond (eqb (answer_by s c) 0) (settled_by s c) []
  called_settled = go (eqb (answer_by s c) 0) refl
    where
      go : (b : Bool) → eqb (answer_by s c) 0 ≡ b → (called s c).settled ≡ cond b (settled_by s c) []
      go true e = ap (λ (x : Called). x.settled) (called_taken (eqb-true (answer_by s c) 0 e))
      go false e = ap (λ (x : Called). x.settled) (called_refused (eqb-false (answer_by s c) 0 e))

  pub called_sender : (called s c).sender ≡ cond (eqb (answer_by s c) 0) (taken s c) s
  called_sender = go (eqb (answer_by s c) 0) refl
    where
      go : (b : Bool) → eqb (answer_by s c) 0 ≡ b → (called s c).sender ≡ cond b (taken s c) s
      go true e = ap (λ (x : Called). x.sender) (called_taken (eqb-true (answer_by s c) 0 e))
      go false e = ap (λ (x : Called). x.sender) (called_refused (eqb-false (answer_by s c) 0 e))

-- ---- what a call settles
-- only an ack settles
pub send_settles : (s : Sender) (second : ℕ) → (called s (send second)).settled ≡ []
unfolding settled_by
send_settles s second = called_settled s (send second) ∙ go (eqb (answer_by s (send second)) 0)
  where
    go : (x : Bool) → ◌≡◌ {A = List ℕ} (cond x [] []) []
    go true = refl
    go false = refl

pub resend_settles : (s : Sender) (n second : ℕ) → (called s (resend n second)).settled ≡ []
unfolding settled_by
resend_settles s n second = called_settled s (resend n second) ∙ go (eqb (answer_by s (resend n second)) 0)
  where
    go : (x : Bool) → ◌≡◌ {A = List ℕ} (cond x [] []) []
    go true = refl
    go false = refl

-- and only what it names
pub ack_settles : (s : Sender) (through count : ℕ) (pairs : List ℕ) (n : ℕ)
    → among (called s (ack through count pairs)).settled n ≡ true → among (ack_numbers through count pairs) n ≡ true
unfolding settled_by among
ack_settles s through count pairs n z =
    go (eqb (answer_by s (ack through count pairs)) 0) (ap (λ l. among l n) (sym (called_settled s (ack through count pairs))) ∙ z)
  where
    go : (x : Bool) → among (cond x (keep (among (ack_numbers through count pairs)) (numbers_of s.packets)) []) n ≡ true → among (ack_numbers through count pairs) n ≡ true
    go true z =
        (and_both (among (numbers_of s.packets) n) (among (ack_numbers through count pairs) n)
        (sym (among_keep (among (ack_numbers through count pairs)) (numbers_of s.packets) n) ∙ z)).1
    go false z = absurd (false≢true z)

-- ---- the highest number never falls
taken_rises : (s : Sender) (c : Call) → s.highest ≤ (taken s c).highest
unfolding taken
taken_rises s (send second) = omega arith
taken_rises s (resend n second) = omega arith
taken_rises s (ack through count pairs) = omega arith

pub called_rises : (s : Sender) (c : Call) → s.highest ≤ (called s c).sender.highest
called_rises s c = rw (called_sender s c) (go (eqb (answer_by s c) 0))
  where
    go : (x : Bool) → s.highest ≤ (cond x (taken s c) s).highest
    go true = taken_rises s c
    go false = omega arith
