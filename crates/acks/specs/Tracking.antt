-- The tracker's record, and what registering makes of it.
use Rattle.std.specs.Prelude.{Bool, not, cond, ◌&&◌, Result, Ok, Err, List, [], ◌∷◌, ℕ, zero, suc, ◌+◌, ◌-◌, ◌%◌, max, eqb, replicate, get_or, set}
use Rattle.acks.specs.Window.{in_window}
use Rattle.acks.specs.History.{answer_to}
use Rattle.acks.specs.declared.Tracker.{Tracker}
use Rattle.refusals.specs.declared.Refusal.{Refusal}
use Rattle.refusals.specs.Numbers.{number_of}

-- What a registration answers (0, 40, 42 or 43), and the tracker after it.
pub record Registered : Type 0 where
  pub answer : ℕ
  pub tracker : Tracker

-- a tracker as it starts: 255 marks, all unset
unfoldable pub fresh : Tracker
fresh = record { highest = 0; marks = replicate 255 0 }

-- whether number n is marked: its mark stands at n % 255, and is set where it is not 0
unfoldable pub mark : List ℕ → ℕ → Bool
mark m n = not (eqb (get_or m (n % 255) 0) 0)

-- a duplicate: in the window and marked; that this is in the window and received is promises `Duplicates`
unfoldable pub is_duplicate : ℕ → List ℕ → ℕ → Bool
is_duplicate top m n = in_window top n && mark m n

-- the marks with those of d numbers, from a upward, unset
unfoldable pub clear_up : List ℕ → ℕ → ℕ → List ℕ
clear_up m a zero = m
clear_up m a (suc d) = set (clear_up m a d) ((a + d) % 255) 0

-- the marks once n was accepted: set for top (which is 0 before any number), unset between top and n, set for n
unfoldable pub marks_after : List ℕ → ℕ → ℕ → List ℕ
marks_after m top n = set (clear_up (set m (top % 255) 1) (top + 1) (n - top - 1)) (n % 255) 1

-- the tracker once n was accepted
unfoldable pub accept_of : Tracker → ℕ → Tracker
accept_of t n = record { highest = max t.highest n; marks = marks_after t.marks t.highest n }

-- what a registration answers
unfoldable pub register_answer : Tracker → ℕ → ℕ
register_answer t n = answer_to t.highest (is_duplicate t.highest t.marks) n

-- a registration: the answer, and the tracker, unchanged by a refusal
unfoldable pub register_of : Tracker → ℕ → Registered
register_of t n = record { answer = register_answer t n; tracker = cond (eqb (register_answer t n) 0) (accept_of t n) t }

-- a tracker after calls of register, the first call first
unfoldable pub register_all : Tracker → List ℕ → Tracker
register_all t [] = t
register_all t (n ∷ calls) = register_all (register_of t n).tracker calls

-- a registration that the code made: its answer, and the tracker that it left
abbrev pub registered_as : {T : Type 0} → Result T Refusal → Tracker → Registered
registered_as r t = record { answer = number_of r; tracker = t }

-- the highest number once a registration gave the new one; refused, as it was
abbrev pub raised : ℕ → Result ℕ Refusal → ℕ
raised top (Ok h) = h
raised top (Err r) = top
