-- Laws of what is remembered. Assumes nothing.
use mathlib.Core.Path.{◌≡◌, refl, sym, ap, ◌∙◌}
use mathlib.Core.Logic.{◌≢◌}
use mathlib.Core.Bool.{Bool, true, false, cond, ◌||◌, or-true, or-false, or_assoc}
use mathlib.Core.List.{[], ◌∷◌, ◌++◌}
use Prim.Native.Nat.{ℕ, suc, ◌≤◌, ◌<◌}
use native.Mathlib.Omega.{arith}
use lib.ListN.{length, drop, length-append, length-drop}
use lib.Dec.{ltb, eqb}
use borrow.Author.Tests.{eq-eqb, ne_eqb, eqb-false, le-ltb, ltb-true}
use Rattle.wire.proofs.Tests.{or_neither}
use Rattle.reassembly.specs.Memory.{Finished, Memory, remembers, remember, is_due, forget}
use Rattle.reassembly.specs.Apart.{Distinct}

-- one more at the end
pub remembers_more : (fs : Memory) (f : Finished) (id : ℕ) → remembers (fs ++ (f ∷ [])) id ≡ (remembers fs id || eqb f.id id)
unfolding remembers
remembers_more [] f id = or-false (eqb f.id id)
remembers_more (g ∷ fs) f id =
    ap (λ (b : Bool). eqb g.id id || b) (remembers_more fs f id)
    ∙ sym (or_assoc (eqb g.id id) (remembers fs id) (eqb f.id id))

pub forget_more : (second : ℕ) (fs : Memory) (f : Finished) → forget second (fs ++ (f ∷ [])) ≡ forget second fs ++ cond (is_due second f) [] (f ∷ [])
unfolding forget
forget_more second [] f = refl
forget_more second (g ∷ fs) f = go (is_due second g) (forget_more second fs f)
  where
    go : (b : Bool) → forget second (fs ++ (f ∷ [])) ≡ forget second fs ++ cond (is_due second f) [] (f ∷ [])
        → cond b (forget second (fs ++ (f ∷ []))) (g ∷ forget second (fs ++ (f ∷ []))) ≡ cond b (forget second fs) (g ∷ forget second fs) ++ cond (is_due second f) [] (f ∷ [])
    go true ih = ih
    go false ih = ap (λ (z : Memory). g ∷ z) ih

-- Never more are remembered than may be.
pub remember_most : (keep : ℕ) (fs : Memory) (f : Finished) → 1 ≤ keep → length fs ≤ keep → length (remember keep fs f) ≤ keep
unfolding remember
remember_most keep fs f k h = go (ltb (length fs) keep) refl
  where
    go : (b : Bool) → ltb (length fs) keep ≡ b → length (cond b fs (drop 1 fs) ++ (f ∷ [])) ≤ keep
    go true e = let l : length fs < keep = ltb-true (length fs) keep e in omega (arith, length-append fs (f ∷ []))
    go false e = omega (arith, length-append (drop 1 fs) (f ∷ []), length-drop 1 fs)

-- A message that finishes pushes out the first at most: the others stay remembered.
pub others_stay : (keep : ℕ) (fs : Memory) (f : Finished) (id : ℕ) → remembers (drop 1 fs) id ≡ true → remembers (remember keep fs f) id ≡ true
unfolding remember remembers
others_stay keep fs f id e = remembers_more (cond (ltb (length fs) _) fs (drop 1 fs)) f id ∙ rw (go (ltb (length fs) _) fs e) refl
  where
    go : (b : Bool) (fs : Memory) → remembers (drop 1 fs) id ≡ true → remembers (cond b fs (drop 1 fs)) id ≡ true
    go false fs e = e
    go true [] e = e
    go true (g ∷ fs) e = rw e (or-true (eqb g.id id))

-- It is remembered itself.
pub remember_self : (keep : ℕ) (fs : Memory) (f : Finished) → remembers (remember keep fs f) f.id ≡ true
unfolding remember
remember_self keep fs f = remembers_more (cond (ltb (length fs) _) fs (drop 1 fs)) f f.id ∙ rw (eq-eqb f.id f.id refl) (or-true (remembers (cond (ltb (length fs) _) fs (drop 1 fs)) f.id))

-- what is remembered of no message of an id, by parts
first_not : (f : Finished) (fs : Memory) (id : ℕ) → remembers (f ∷ fs) id ≡ false → (eqb f.id id ≡ false) × (remembers fs id ≡ false)
unfolding remembers
first_not f fs id e = or_neither (eqb f.id id) (remembers fs id) e

drop_remembers : (fs : Memory) (id : ℕ) → remembers fs id ≡ false → remembers (drop 1 fs) id ≡ false
drop_remembers [] id e = e
drop_remembers (f ∷ fs) id e = (first_not f fs id e).1

append_remembers : (fs : Memory) (f : Finished) (id : ℕ) → remembers fs id ≡ false → f.id ≢ id → remembers (fs ++ (f ∷ [])) id ≡ false
append_remembers fs f id e q = remembers_more fs f id ∙ rw (e, ne_eqb f.id id q) refl

-- Finishing another message does not make an id remembered,
pub remember_other : (keep : ℕ) (fs : Memory) (f : Finished) (id : ℕ) → remembers fs id ≡ false → f.id ≢ id → remembers (remember keep fs f) id ≡ false
unfolding remember
remember_other keep fs f id e q = go (ltb (length fs) keep)
  where
    go : (b : Bool) → remembers (cond b fs (drop 1 fs) ++ (f ∷ [])) id ≡ false
    go true = append_remembers fs f id e q
    go false = append_remembers (drop 1 fs) f id (drop_remembers fs id e) q

-- nor does a sweep.
pub forget_remembers : (second : ℕ) (fs : Memory) (id : ℕ) → remembers fs id ≡ false → remembers (forget second fs) id ≡ false
unfolding remembers forget
forget_remembers second [] id e = e
forget_remembers second (f ∷ fs) id e = go (is_due second f) (first_not f fs id e) (forget_remembers second fs id)
  where
    go : (b : Bool) → (eqb f.id id ≡ false) × (remembers fs id ≡ false) → (remembers fs id ≡ false → remembers (forget second fs) id ≡ false)
        → remembers (cond b (forget second fs) (f ∷ forget second fs)) id ≡ false
    go true p ih = ih p.1
    go false p ih = rw p.0 (ih p.1)

-- A sweep leaves no more than were remembered.
pub forget_most : (second : ℕ) (fs : Memory) → length (forget second fs) ≤ length fs
unfolding forget
forget_most second [] = omega arith
forget_most second (f ∷ fs) = go (is_due second f) (forget_most second fs)
  where
    go : (b : Bool) → length (forget second fs) ≤ length fs → length (cond b (forget second fs) (f ∷ forget second fs)) ≤ suc (length fs)
    go true ih = omega arith
    go false ih = omega arith

-- No id is remembered twice;
append_distinct : (fs : Memory) (f : Finished) → remembers fs f.id ≡ false → Distinct fs → Distinct (fs ++ (f ∷ []))
unfolding remembers
append_distinct [] f e d = (refl, tt)
append_distinct (g ∷ fs) f e d =
    let p : (eqb g.id f.id ≡ false) × (remembers fs f.id ≡ false) = first_not g fs f.id e in
    (append_remembers fs f g.id d.0 (λ q. eqb-false g.id f.id p.0 (sym q)), append_distinct fs f p.1 d.1)

pub remember_distinct : (keep : ℕ) (fs : Memory) (f : Finished) → remembers fs f.id ≡ false → Distinct fs → Distinct (remember keep fs f)
unfolding remember
remember_distinct keep fs f e d = go (ltb (length fs) keep)
  where
    less : (fs : Memory) → Distinct fs → Distinct (drop 1 fs)
    less [] d = tt
    less (g ∷ fs) d = d.1

    go : (b : Bool) → Distinct (cond b fs (drop 1 fs) ++ (f ∷ []))
    go true = append_distinct fs f e d
    go false = append_distinct (drop 1 fs) f (drop_remembers fs f.id e) (less fs d)

pub forget_distinct : (second : ℕ) (fs : Memory) → Distinct fs → Distinct (forget second fs)
unfolding forget
forget_distinct second [] d = tt
forget_distinct second (f ∷ fs) d = go (is_due second f) (forget_distinct second fs d.1)
  where
    go : (b : Bool) → Distinct (forget second fs) → Distinct (cond b (forget second fs) (f ∷ forget second fs))
    go true ih = ih
    go false ih = (forget_remembers second fs f.id d.0, ih)

-- and the first that is pushed out is forgotten.
pub pushed_out : (keep : ℕ) (fs : Memory) (g f : Finished) → keep ≤ suc (length fs) → Distinct (g ∷ fs) → f.id ≢ g.id → remembers (remember keep (g ∷ fs) f) g.id ≡ false
unfolding remember
pushed_out keep fs g f k d q = rw (le-ltb (suc (length fs)) keep k) (append_remembers fs f g.id d.0 q)
