-- Each branch, from what the calls and tests on the way say. Assumes nothing.
use mathlib.Core.Path.{◌≡◌, refl, sym, ap, ◌∙◌, subst}
use mathlib.Core.Bool.{Bool, true, false, cond}
use mathlib.Core.Logic.{◌⊎◌, inl, inr}
use mathlib.Core.List.{List, ◌++◌}
use Prim.Native.Nat.{ℕ, zero, suc, ◌+◌, ◌-◌, ◌*◌, ◌≤◌, ◌<◌}
use native.Mathlib.Omega.{arith}
use lib.Dec.{ltb, eqb}
use lib.ListN.{length, set}
use borrow.Author.Tests.{lt-ltb, le-ltb}
use Rattle.wire.specs.Parts.{part, splice}
use Rattle.wire.specs.Numbers.{Bytes, little_at, little_bytes}
use Rattle.wire.proofs.Parts.{splice_part}
use Rattle.wire.proofs.Slices.{splice_none}
use Rattle.acks.specs.Expanding.{goes_below}
use Rattle.sender.specs.Sizes.{most_outstanding, packets_at, packet_size, sender_size}
use Rattle.sender.specs.Sender.{Call, ack, call_answer, answer_by, settled_by}
use Rattle.sender.specs.Recorded.{outstanding_count, packet_at, sender_at, answer_there, sender_after, settled_there}
use Rattle.sender.specs.Settling.{Passed, Walked}
use Rattle.sender.specs.Outcomes.{Told}
use Rattle.sender.proofs.Answers.{outside_through}
use Rattle.sender.proofs.Lent.{is_long, short_59}
use Rattle.acks.proofs.Ring.{split}
use Rattle.sender.proofs.Settling.{Settling, settling_start, settling_turn, walked_saved}

-- a packet that moves to where it stands
pub stays_there : (rec : List ℕ) (kept k : ℕ) → sender_size ≤ length rec → k < most_outstanding → kept ≡ k → rec ≡ splice rec (packets_at + kept * packet_size) (part rec (packets_at + k * packet_size) packet_size)
stays_there rec kept k long few e = rw e (sym (splice_part rec (packets_at + k * packet_size) packet_size (omega arith)))

-- the k-th packet is named, or it is not
module _ (test : ℕ → Bool) (rec settled : List ℕ) (kept k number : ℕ) (named : Bool) (en : number ≡ (packet_at rec k).number) (et : named ≡ test number) where
  names_it : test (packet_at rec k).number ≡ named
  names_it = sym (et ∙ ap test en)

  pub passed_named : (next at : ℕ) → next ≡ kept → at ≡ k - kept → named ≡ true → Passed (test (packet_at rec k).number) k kept next rec rec settled (set settled at number)
  passed_named next at e f t = record { counts = rw (names_it, t) e; moves = rw (names_it, t) refl; tells = rw (names_it, t, en, f) refl }

  pub passed_kept : (next : ℕ) (after : List ℕ) → next ≡ kept + 1 → named ≡ false → after ≡ splice rec (packets_at + kept * packet_size) (part rec (packets_at + k * packet_size) packet_size) → Passed (test (packet_at rec k).number) k kept next rec after settled settled
  passed_kept next after f t e = record { counts = rw (names_it, t) f; moves = rw (names_it, t, e) refl; tells = rw (names_it, t) refl }

-- ---- the packets in front that are not named
-- one more
pub unnamed_more : (test : ℕ → Bool) (rec : List ℕ) (k number : ℕ) (named : Bool) → ((j : ℕ) → j < k → test (packet_at rec j).number ≡ false) → number ≡ (packet_at rec k).number → named ≡ test number → named ≡ false
    → (j : ℕ) → j < k + 1 → test (packet_at rec j).number ≡ false
unnamed_more test rec k number named all en et f j h = go (split j k)
  where
    go : (j < k) ⊎ (k ≤ j) → test (packet_at rec j).number ≡ false
    go (inl b) = all j b
    go (inr b) =
        let e : j ≡ k = omega arith in
        ap (λ (i : ℕ). test (packet_at rec i).number) e ∙ sym (et ∙ ap test en) ∙ f

-- they stay where they stand, and no number is told
pub settling_prefix : (test : ℕ → Bool) (rec settled : List ℕ) → sender_size ≤ length rec → most_outstanding ≤ length settled → Bytes rec
    → (k : ℕ) → k ≤ most_outstanding → ((j : ℕ) → j < k → test (packet_at rec j).number ≡ false) → Settling test rec settled k rec settled k
settling_prefix test rec settled long room bytes zero few none = settling_start test rec settled
settling_prefix test rec settled long room bytes (suc k) few none =
    let s : Settling test rec settled k rec settled k = settling_prefix test rec settled long room bytes k (omega arith) (λ j h. none j (omega arith)) in
    let f : test (packet_at rec k).number ≡ false = none k (omega arith) in
    let p : Passed (test (packet_at rec k).number) k k (k + 1) rec rec settled settled =
    passed_kept test rec settled k k (packet_at rec k).number false refl (sym f) (k + 1) rec refl refl (stays_there rec k k long (omega arith) refl) in
    let t : Settling test rec settled (k + 1) rec settled (k + 1) = settling_turn s long room (omega arith) bytes p in
    let e : k + 1 ≡ suc k = omega arith in
    subst (λ (n : ℕ). Settling test rec settled n rec settled n) e t

-- what a call answers and leaves, as `ack_in` says it
abbrev pub Answered : List ℕ → Call → List ℕ → Told → List ℕ → List ℕ → Type 0
Answered r c settled a after told =
    (a ≡ record { answer = answer_there r c; value = length (settled_there r c) }) × (after ≡ sender_after r c) × (told ≡ splice settled 0 (settled_there r c))

-- refused: nothing changes
refused : (r : List ℕ) (c : Call) (settled : List ℕ) (n : ℕ) → answer_there r c ≡ n → eqb n 0 ≡ false → Answered r c settled (record { answer = n; value = 0 }) r settled
unfolding sender_after settled_there
refused r c settled n e f =
    rw (e, f) (refl, refl, sym (splice_none settled 0))

module _ (r settled : List ℕ) (through count : ℕ) (pairs : List ℕ) where
  pub too_short_lem : length r < sender_size → Answered r (ack through count pairs) settled (record { answer = 59; value = 0 }) r settled
  too_short_lem h = refused r (ack through count pairs) settled 59 (short_59 r (ack through count pairs) h) refl

  module _ (long : sender_size ≤ length r) where
    judged : (b d : Bool) → goes_below through count pairs ≡ b → ltb (little_at 4 r 0) through ≡ d → answer_there r (ack through count pairs) ≡ cond b 44 (cond d 72 0)
    unfolding answer_there answer_by call_answer sender_at
    judged b d t e = rw (is_long r long, outside_through (little_at 4 r 0) through count pairs, e, t) refl

    pub goes_below_lem : goes_below through count pairs ≡ true → Answered r (ack through count pairs) settled (record { answer = 44; value = 0 }) r settled
    goes_below_lem t = refused r (ack through count pairs) settled 44 (judged true (ltb (little_at 4 r 0) through) t refl) refl

    module _ (t : goes_below through count pairs ≡ false) (highest : ℕ) (eh : highest ≡ little_at 4 r 0) where
      pub never_given : highest < through → Answered r (ack through count pairs) settled (record { answer = 72; value = 0 }) r settled
      never_given h =
          refused r (ack through count pairs) settled 72
          (judged false true t (lt-ltb (little_at 4 r 0) through (omega arith))) refl

      -- all packets are passed, and the highest number and the count are put in front
      pub acked : (outstanding kept : ℕ) (after told saved : List ℕ) → through ≤ highest → outstanding ≡ outstanding_count r → outstanding ≤ most_outstanding
          → Walked (ack through count pairs) kept r after settled told → saved ≡ splice after 0 (little_bytes 4 highest ++ little_bytes 4 kept)
          → Answered r (ack through count pairs) settled (record { answer = 0; value = outstanding - kept }) saved told
      unfolding sender_after settled_there
      acked outstanding kept after told saved h eo few w e =
          let q : answer_there r (ack through count pairs) ≡ 0 = judged false false t (le-ltb (little_at 4 r 0) through (omega arith)) in
          let n : outstanding - kept ≡ length (settled_by (sender_at r) (ack through count pairs)) = omega (arith, w.adds_up) in
          rw (q, n) (
            refl,
            e ∙ ap (λ (x : ℕ). splice after 0 (little_bytes 4 x ++ little_bytes 4 kept)) eh ∙ walked_saved r settled through count pairs w long (omega arith),
            w.tells,
          )
