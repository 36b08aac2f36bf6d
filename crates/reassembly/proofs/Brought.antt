-- What the store's answer brings out, and what a call that agrees with it says of that. Assumes nothing.
use mathlib.Core.Path.{◌≡◌, refl, ap, ◌∙◌, subst}
use mathlib.Core.Bool.{Bool, true, false, cond}
use mathlib.Core.List.{List}
use mathlib.Core.Option.{Option, none, some, none-ne-some, some-ne-none}
use Prim.Native.Nat.{ℕ, ◌≤◌}
use native.Mathlib.Omega.{arith}
use lib.Dec.{ltb, leb}
use lib.ListN.{length}
use borrow.Author.Tests.{ltb-false}
use Rattle.wire.specs.Parts.{splice}
use Rattle.reassembly.specs.Memory.{remembers}
use Rattle.reassembly.specs.Store.{Piece, Message, Slots, Store, Rebuilt, Answer, SlotsAnswer, id_of, slot_of, plus, bad_length, bad_number, repeats, clashes, too_much, complete, rebuilt_of, too_short, slots_refuse, answer, slots_step, refused, answer_by_slots, step}
use Rattle.reassembly.specs.Sizes.{most_remembered}
use Rattle.reassembly.specs.Neighbours.{Neighbours, store_of, is_open_in, NeighboursAnswer, answer_from, step_from}
use Rattle.reassembly.specs.Calls.{After}
use Rattle.reassembly.specs.Stands.{reply_for, laid_out}
use Rattle.reassembly.proofs.Refines.{number_of}

-- An answer brings a message out exactly with 60, and one that the assembly buffer holds.
pub record Sober (cap number : ℕ) (out : Option Rebuilt) : Type 0 where
  pub none_out : out ≡ none → (number ≡ 60 → ⊥)
  pub some_out : (w : Rebuilt) → out ≡ some w → (number ≡ 60) × (length w.bytes ≤ cap)

quiet : (cap n : ℕ) → (n ≡ 60 → ⊥) → Sober cap n none
quiet cap n h = record { none_out = λ e. h; some_out = λ w e. absurd (none-ne-some w e) }

module _ (cap : ℕ) where
  abbrev SoberSlots : SlotsAnswer → Type 0
  SoberSlots a = Sober cap a.number a.out

  -- a test decides between two
  both : (b : Bool) (x y : SlotsAnswer) → SoberSlots x → (b ≡ false → SoberSlots y) → SoberSlots (cond b x y)
  both true x y p q = p
  both false x y p q = q refl

  sober : (s : Slots) (p : Piece) (k : ℕ) (m : Message) → SoberSlots (answer cap s p k m)
  unfolding answer slots_refuse too_short
  sober s p k m =
      both (repeats m p) _ _ (quiet cap 54 (λ e. omega arith)) (λ e.
      both (clashes m p) _ _ (quiet cap 55 (λ e. omega arith)) (λ e.
      both (leb (length s) k) _ _ (quiet cap 52 (λ e. omega arith)) (λ e.
      both (too_much m p) _ _ (quiet cap 53 (λ e. omega arith)) (λ e.
      both (complete (plus m p)) _ _
      (both (ltb cap (length (rebuilt_of (plus m p)).bytes)) _ _ (quiet cap 56 (λ e. omega arith))
      (λ e. record {
        none_out = λ q. absurd (some-ne-none (rebuilt_of (plus m p)) q);
        some_out = λ w q. (refl, fits w q (ltb-false cap (length (rebuilt_of (plus m p)).bytes) e));
      })) (λ e.
      quiet cap 0 (λ e. omega arith))))))
    where
      fits : (w : Rebuilt) → some (rebuilt_of (plus m p)) ≡ some w → length (rebuilt_of (plus m p)).bytes ≤ cap → length w.bytes ≤ cap
      fits w q h = let e : rebuilt_of (plus m p) ≡ w = cc in subst (λ (z : Rebuilt). length z.bytes ≤ cap) e h

pub step_sober : (keep cap : ℕ) (s : Store) (p : Piece) (second : ℕ) → Sober cap (step keep cap s p second).number (step keep cap s p second).out
unfolding step slots_step
step_sober keep cap s p second = go (bad_length p) (bad_number p) (remembers s.remembered (id_of p))
  where
    go : (b c d : Bool) → let x : Answer = cond b (refused 50 s) (cond c (refused 51 s) (cond d (refused 57 s) (answer_by_slots keep s (id_of p) second (slots_step cap s.slots p second)))) in
        Sober cap x.number x.out
    go true c d = quiet cap 50 (λ e. omega arith)
    go false true d = quiet cap 51 (λ e. omega arith)
    go false false true = quiet cap 57 (λ e. omega arith)
    go false false false = sober cap s.slots p (slot_of (id_of p) s.slots) _

-- so is the answer to a neighbour's piece
pub from_sober : (cap : ℕ) (s : Neighbours) (n : ℕ) (p : Piece) (second : ℕ) → Sober cap (step_from cap s n p second).number (step_from cap s n p second).out
unfolding step_from answer_from
from_sober cap s n p second = go (ltb 3 n)
  where
    go : (b : Bool) → let x : NeighboursAnswer = cond b (record { number = 58; out = none; left = s }) (answer_from s n (is_open_in (id_of p) (store_of s n).slots) (step most_remembered cap (store_of s n) p second)) in
        Sober cap x.number x.out
    go true = quiet cap 58 (λ e. omega arith)
    go false = step_sober most_remembered cap (store_of s n) p second

-- a call's reply and assembly buffer are those of an answer with a number and a message that came out, or none
module _ (out : List ℕ) (x : After) (n : ℕ) (o : Option Rebuilt) (reply : x.reply ≡ reply_for n o) (delivered : x.left.out ≡ laid_out out o) where
  -- the reply has the answer's number
  pub reply_number : x.reply.number ≡ n
  reply_number = ap (λ r. r.number) reply ∙ number_of n o

  -- and the head and the length of a message that came out
  pub reply_some : (w : Rebuilt) → o ≡ some w → x.reply ≡ record { number = n; kind = w.kind; expires = w.expires; length = length w.bytes }
  unfolding reply_for
  reply_some w e = reply ∙ ap (reply_for n) e

  -- whose bytes stand at the start of the assembly buffer
  pub laid_some : (w : Rebuilt) → o ≡ some w → x.left.out ≡ splice out 0 w.bytes
  unfolding laid_out
  laid_some w e = delivered ∙ ap (laid_out out) e
