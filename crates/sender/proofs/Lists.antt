-- Laws of lists of numbers and of packets. Assumes nothing.
use mathlib.Core.Path.{◌≡◌, refl, sym, ap, ◌∙◌}
use mathlib.Core.Bool.{Bool, true, false, not, cond, ◌&&◌, ◌||◌, or-true, false≢true}
use mathlib.Core.List.{List, [], ◌∷◌, ◌++◌}
use Prim.Native.Nat.{ℕ, suc, ◌+◌, ◌<◌}
use native.Mathlib.Omega.{arith}
use lib.Dec.{ltb, eqb}
use lib.ListN.{length}
use borrow.Author.Tests.{eq-eqb, ne_eqb, eqb-true, eqb-false, lt-ltb, le-ltb, ltb-true, ltb-false}
use Rattle.wire.proofs.Tests.{and_both}
use Rattle.acks.specs.Window.{keep}
use Rattle.acks.specs.History.{among}
use Rattle.acks.proofs.Newest.{among_keep}
use Rattle.acks.proofs.Members.{among_append}
use Rattle.sender.specs.Sender.{Packet, numbers_of, those, without, resends_of}
use Rattle.sender.specs.History.{times, Rising}

-- ---- how often a number is there
pub times_append : (n : ℕ) (l m : List ℕ) → times n (l ++ m) ≡ times n l + times n m
unfolding times
times_append n [] m = omega arith
times_append n (k ∷ l) m = let e = times_append n l m in omega arith

pub times_one_lem : (n k : ℕ) → times n (k ∷ []) ≡ cond (eqb n k) 1 0
unfolding times
times_one_lem n k = omega arith

pub times_keep : (p : ℕ → Bool) (n : ℕ) (l : List ℕ) → times n (keep p l) ≡ cond (p n) (times n l) 0
unfolding times keep
times_keep p n [] = none (p n)
  where
    none : (b : Bool) → ◌≡◌ {A = ℕ} 0 (cond b 0 0)
    none true = refl
    none false = refl
times_keep p n (k ∷ l) = go (p k) refl (eqb n k) refl (times_keep p n l)
  where
    past : (c : Bool) (t : ℕ) → 0 + cond c t 0 ≡ cond c (0 + t) 0
    past true t = refl
    past false t = refl

    skip : (c : Bool) (t : ℕ) → cond c t 0 ≡ cond c (0 + t) 0
    skip true t = omega arith
    skip false t = refl

    go :
        (a : Bool) → p k ≡ a → (b : Bool) → eqb n k ≡ b → times n (keep p l) ≡ cond (p n) (times n l) 0
        → times n (cond a (k ∷ keep p l) (keep p l)) ≡ cond (p n) (cond b 1 0 + times n l) 0
    go true e true f more =
        let z : p n ≡ true = ap p (eqb-true n k f) ∙ e in
        rw (f, more, z)
    go true e false f more = rw (f, more) (past (p n) (times n l))
    go false e true f more =
        let z : p n ≡ false = ap p (eqb-true n k f) ∙ e in
        rw (more, z)
    go false e false f more = more ∙ skip (p n) (times n l)

pub among_times : (l : List ℕ) (n : ℕ) → among l n ≡ ltb 0 (times n l)
unfolding among times
among_times [] n = refl
among_times (k ∷ l) n = go (eqb n k) (among_times l n)
  where
    go : (b : Bool) → among l n ≡ ltb 0 (times n l) → (b || among l n) ≡ ltb 0 (cond b 1 0 + times n l)
    go true more = sym (lt-ltb 0 (1 + times n l) (omega arith))
    go false more =
        let e : 0 + times n l ≡ times n l = omega arith in
        rw e more

pub some_times : (l : List ℕ) (n : ℕ) → among l n ≡ true → 0 < times n l
some_times l n h = ltb-true 0 (times n l) (sym (among_times l n) ∙ h)

pub no_times : (l : List ℕ) (n : ℕ) → among l n ≡ false → times n l ≡ 0
no_times l n h = let z = ltb-false 0 (times n l) (sym (among_times l n) ∙ h) in omega arith

pub times_none : (l : List ℕ) (n : ℕ) → times n l ≡ 0 → among l n ≡ false
times_none l n h = among_times l n ∙ le-ltb 0 (times n l) (omega arith)

-- ---- rising numbers
pub rising_keep : (p : ℕ → Bool) (l : List ℕ) → Rising l → Rising (keep p l)
unfolding keep
rising_keep p [] r = tt
rising_keep p (n ∷ l) r = go (p n) (rising_keep p l r.1)
  where
    go : (b : Bool) → Rising (keep p l) → Rising (cond b (n ∷ keep p l) (keep p l))
    go true more = (λ k h. r.0 k (and_both (among l k) (p k) (sym (among_keep p l k) ∙ h)).0, more)
    go false more = more

pub rising_append : (l : List ℕ) (m : ℕ) → Rising l → ((k : ℕ) → among l k ≡ true → k < m) → Rising (l ++ (m ∷ []))
unfolding among
rising_append [] m r h = (λ k z. absurd (false≢true z), tt)
rising_append (n ∷ l) m r h =
    (λ k z. go k (among l k) refl z, rising_append l m r.1 (λ k z. h k (ap (λ b. eqb k n || b) z ∙ or-true (eqb k n))))
  where
    first : n < m
    first = h n (ap (λ b. b || among l n) (eq-eqb n n refl))

    new : (k : ℕ) (b : Bool) → eqb k m ≡ b → (b || false) ≡ true → n < k
    new k true e z = let q = eqb-true k m e in let f = first in omega arith
    new k false e z = absurd (false≢true z)

    go : (k : ℕ) (b : Bool) → among l k ≡ b → among (l ++ (m ∷ [])) k ≡ true → n < k
    go k true e z = r.0 k e
    go k false e z = new k (eqb k m) refl (sym (among_append l (m ∷ []) k ∙ ap (λ b. b || (eqb k m || false)) e) ∙ z)

-- ---- packets
pub numbers_append : (l m : List Packet) → numbers_of (l ++ m) ≡ numbers_of l ++ numbers_of m
unfolding numbers_of
numbers_append [] m = refl
numbers_append (p ∷ l) m = ap (λ x. p.number ∷ x) (numbers_append l m)

pub length_numbers : (l : List Packet) → length (numbers_of l) ≡ length l
unfolding numbers_of
length_numbers [] = refl
length_numbers (p ∷ l) = ap suc (length_numbers l)

pub numbers_those : (t : ℕ → Bool) (l : List Packet) → numbers_of (those t l) ≡ keep t (numbers_of l)
unfolding numbers_of those keep
numbers_those t [] = refl
numbers_those t (p ∷ l) = go (t p.number) (numbers_those t l)
  where
    go :
        (b : Bool) → numbers_of (those t l) ≡ keep t (numbers_of l)
        → numbers_of (cond b (p ∷ those t l) (those t l)) ≡ cond b (p.number ∷ keep t (numbers_of l)) (keep t (numbers_of l))
    go true more = ap (λ x. p.number ∷ x) more
    go false more = more

pub those_append : (t : ℕ → Bool) (l m : List Packet) → those t (l ++ m) ≡ those t l ++ those t m
unfolding those
those_append t [] m = refl
those_append t (p ∷ l) m = go (t p.number) (those_append t l m)
  where
    go :
        (b : Bool) → those t (l ++ m) ≡ those t l ++ those t m
        → cond b (p ∷ those t (l ++ m)) (those t (l ++ m)) ≡ cond b (p ∷ those t l) (those t l) ++ those t m
    go true more = ap (λ x. p ∷ x) more
    go false more = more

pub those_one : (t : ℕ → Bool) (p : Packet) → t p.number ≡ true → those t (p ∷ []) ≡ p ∷ []
unfolding those
those_one t p h = rw h

-- those of those: both tests take them
pub those_those : (t u : ℕ → Bool) (l : List Packet) → those t (those u l) ≡ those (λ k. u k && t k) l
unfolding those
those_those t u [] = refl
those_those t u (p ∷ l) = go (u p.number) (t p.number) refl (those_those t u l)
  where
    go :
        (a b : Bool) → t p.number ≡ b → those t (those u l) ≡ those (λ k. u k && t k) l
        → those t (cond a (p ∷ those u l) (those u l)) ≡ cond (a && b) (p ∷ those (λ k. u k && t k) l) (those (λ k. u k && t k) l)
    go true true e more = rw e (ap (λ x. p ∷ x) more)
    go true false e more = rw e more
    go false b e more = more

-- two tests that agree on the numbers there
pub those_same : (t u : ℕ → Bool) (l : List Packet) → ((k : ℕ) → among (numbers_of l) k ≡ true → t k ≡ u k) → those t l ≡ those u l
unfolding those numbers_of among
those_same t u [] h = refl
those_same t u (p ∷ l) h =
    rw (h p.number (ap (λ b. b || among (numbers_of l) p.number) (eq-eqb p.number p.number refl)))
    (ap (λ x. cond (u p.number) (p ∷ x) x) (those_same t u l (λ k z. h k (ap (λ b. eqb k p.number || b) z ∙ or-true (eqb k p.number)))))

pub resends_those : (t : ℕ → Bool) (l : List Packet) (n : ℕ) → t n ≡ true → resends_of (those t l) n ≡ resends_of l n
unfolding those resends_of
resends_those t [] n h = refl
resends_those t (p ∷ l) n h = go (t p.number) refl (eqb n p.number) refl (resends_those t l n h)
  where
    go :
        (a : Bool) → t p.number ≡ a → (b : Bool) → eqb n p.number ≡ b → resends_of (those t l) n ≡ resends_of l n
        → resends_of (cond a (p ∷ those t l) (those t l)) n ≡ cond b p.resends (resends_of l n)
    go true e b f more = rw (f, more)
    go false e true f more = absurd (false≢true (sym e ∙ ap t (sym (eqb-true n p.number f)) ∙ h))
    go false e false f more = more

-- a test that takes all the numbers there
pub those_all : (t : ℕ → Bool) (l : List Packet) → ((k : ℕ) → among (numbers_of l) k ≡ true → t k ≡ true) → those t l ≡ l
unfolding those numbers_of among
those_all t [] h = refl
those_all t (p ∷ l) h =
    rw (h p.number (ap (λ b. b || among (numbers_of l) p.number) (eq-eqb p.number p.number refl)))
    (ap (λ x. p ∷ x) (those_all t l (λ k z. h k (ap (λ b. eqb k p.number || b) z ∙ or-true (eqb k p.number)))))

-- where numbers rise, the list without the packet of number n has all the others
pub without_those : (n : ℕ) (l : List Packet) → Rising (numbers_of l) → without n l ≡ those (λ k. not (eqb k n)) l
unfolding without those numbers_of
without_those n [] r = refl
without_those n (p ∷ l) r = go (eqb n p.number) refl (without_those n l r.1)
  where
    go :
        (b : Bool) → eqb n p.number ≡ b → without n l ≡ those (λ k. not (eqb k n)) l
        → cond b l (p ∷ without n l) ≡ cond (not (eqb p.number n)) (p ∷ those (λ k. not (eqb k n)) l) (those (λ k. not (eqb k n)) l)
    go true e more =
        let q : n ≡ p.number = eqb-true n p.number e in
        rw (eq-eqb p.number n (sym q))
        (sym (those_all (λ k. not (eqb k n)) l (λ k z. rw (ne_eqb k n (λ f. omega (arith, r.0 k z, f, q))))))
    go false e more =
        rw (ne_eqb p.number n (λ f. eqb-false n p.number e (sym f))) (ap (λ x. p ∷ x) more)
