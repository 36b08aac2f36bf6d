-- Laws of run lengths. Assumes nothing.
use mathlib.Core.Path.{◌≡◌, refl, sym, ap, ◌∙◌}
use mathlib.Core.Bool.{Bool, true, false, not}
use mathlib.Core.List.{List, [], ◌∷◌, ◌++◌, map}
use Prim.Native.Nat.{ℕ, zero, suc, ◌+◌, ◌≤◌, ◌<◌, suc-le-suc}
use native.Mathlib.Omega.{arith}
use native.Mathlib.Nat.{suc-add, zero-add}
use lib.ListN.{length, drop}
use Rattle.acks.specs.Runs.{inc, runs, flags, leading, later_runs}

pub flags_inc : (b : Bool) (r : List ℕ) → flags b (inc r) ≡ b ∷ flags b r
unfolding flags inc
flags_inc b [] = refl
flags_inc b (n ∷ ns) = refl

-- what the run lengths of a list stand for is the list
pub flags_runs : (b : Bool) (l : List Bool) → flags b (runs b l) ≡ l
unfolding flags runs
flags_runs true [] = refl
flags_runs false [] = refl
flags_runs true (true ∷ l) = flags_inc true (runs true l) ∙ ap (λ x. true ∷ x) (flags_runs true l)
flags_runs true (false ∷ l) = flags_inc false (runs false l) ∙ ap (λ x. false ∷ x) (flags_runs false l)
flags_runs false (false ∷ l) = flags_inc false (runs false l) ∙ ap (λ x. false ∷ x) (flags_runs false l)
flags_runs false (true ∷ l) = flags_inc true (runs true l) ∙ ap (λ x. true ∷ x) (flags_runs true l)

pub runs_leading : (b : Bool) (l : List Bool) → runs b l ≡ leading b l ∷ later_runs b (drop (leading b l) l)
unfolding runs leading later_runs inc
runs_leading true [] = refl
runs_leading false [] = refl
runs_leading true (true ∷ l) = ap inc (runs_leading true l)
runs_leading true (false ∷ l) = refl
runs_leading false (false ∷ l) = ap inc (runs_leading false l)
runs_leading false (true ∷ l) = refl

pub rest_false : (l : List Bool) → later_runs false l ≡ leading true l ∷ later_runs true (drop (leading true l) l)
unfolding later_runs leading
rest_false [] = refl
rest_false (x ∷ l) = runs_leading true (x ∷ l)

pub rest_true : (l : List Bool) → 0 < length l → later_runs true l ≡ leading false l ∷ later_runs false (drop (leading false l) l)
unfolding later_runs
rest_true [] h = absurd (omega arith)
rest_true (x ∷ l) h = runs_leading false (x ∷ l)

pub leading_drop : (b : Bool) (l : List Bool) → leading b (drop (leading b l) l) ≡ 0
unfolding leading
leading_drop true [] = refl
leading_drop false [] = refl
leading_drop true (true ∷ l) = leading_drop true l
leading_drop true (false ∷ l) = refl
leading_drop false (false ∷ l) = leading_drop false l
leading_drop false (true ∷ l) = refl

pub leading_le : (b : Bool) (l : List Bool) → leading b l ≤ length l
unfolding leading
leading_le true [] = omega arith
leading_le false [] = omega arith
leading_le true (true ∷ l) = suc-le-suc (leading_le true l)
leading_le true (false ∷ l) = omega arith
leading_le false (false ∷ l) = suc-le-suc (leading_le false l)
leading_le false (true ∷ l) = omega arith

-- a list that is not empty starts with a run of one kind or the other
pub leading_other : (b : Bool) (l : List Bool) → leading b l ≡ 0 → 0 < length l → 0 < leading (not b) l
unfolding leading
leading_other b [] e h = absurd (omega arith)
leading_other true (true ∷ l) e h = absurd (omega arith)
leading_other true (false ∷ l) e h = omega arith
leading_other false (false ∷ l) e h = absurd (omega arith)
leading_other false (true ∷ l) e h = omega arith

-- a run that ends in the first of two lists, and one that fills it
pub leading_append_stop : (b : Bool) (x y : List Bool) → leading b x < length x → leading b (x ++ y) ≡ leading b x
unfolding leading
leading_append_stop b [] y h = absurd (omega arith)
leading_append_stop true (true ∷ x) y h = ap suc (leading_append_stop true x y (omega arith))
leading_append_stop true (false ∷ x) y h = refl
leading_append_stop false (false ∷ x) y h = ap suc (leading_append_stop false x y (omega arith))
leading_append_stop false (true ∷ x) y h = refl

pub leading_append_on : (b : Bool) (x y : List Bool) → leading b x ≡ length x → leading b (x ++ y) ≡ length x + leading b y
unfolding leading
leading_append_on b [] y h = sym (zero-add (leading b y))
leading_append_on true (true ∷ x) y h = ap suc (leading_append_on true x y (omega arith)) ∙ sym (suc-add (length x) (leading true y))
leading_append_on true (false ∷ x) y h = absurd (omega arith)
leading_append_on false (false ∷ x) y h = ap suc (leading_append_on false x y (omega arith)) ∙ sym (suc-add (length x) (leading false y))
leading_append_on false (true ∷ x) y h = absurd (omega arith)

pub drop_map : {A B : Type 0} (f : A → B) (j : ℕ) (l : List A) → drop j (map f l) ≡ map f (drop j l)
drop_map f zero l = refl
drop_map f (suc j) [] = refl
drop_map f (suc j) (x ∷ l) = drop_map f j l
