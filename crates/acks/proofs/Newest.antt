-- What the received numbers of the window settle: two histories that share them report the same. Assumes nothing.
use mathlib.Core.Path.{◌≡◌, refl, sym, ap, ◌∙◌}
use mathlib.Core.Bool.{Bool, true, false, cond, ◌&&◌, ◌||◌, and-false, or-true}
use mathlib.Core.List.{List, [], ◌∷◌, map}
use mathlib.Core.Logic.{◌⊎◌, inl, inr, ⊎_elim}
use Prim.Native.Nat.{ℕ, zero, suc, ◌+◌, ◌-◌, ◌≤◌, ◌<◌, max, min}
use native.Mathlib.Omega.{arith}
use lib.Dec.{eqb}
use lib.ListN.{length, get_or}
use borrow.Author.Tests.{eq-eqb, ne_eqb, eqb-true, eqb-false, lt-leb, le-leb, lt-ltb, le-ltb}
use Rattle.acks.specs.Window.{falling, window, in_window, keep}
use Rattle.acks.specs.History.{highest_of, among}
use Rattle.acks.specs.Reporting.{report_of}
use Rattle.acks.proofs.Ring.{split}

-- the first number kept is not above the first
keep_head : (q : ℕ → Bool) (m k n : ℕ) (l : List ℕ) → keep q (falling m k) ≡ n ∷ l → (n ≤ m) × (0 < k)
unfolding keep falling
keep_head q m zero n l e = absurd (never e)
  where
    never : [] ≡ n ∷ l → ⊥
    never e = let z : ◌≡◌ {A = ℕ} 0 1 = cc in omega arith
keep_head q m (suc k) n l e = go (q m) e (keep_head q (m - 1) k n l)
  where
    go :
        (b : Bool) → cond b (m ∷ keep q (falling (m - 1) k)) (keep q (falling (m - 1) k)) ≡ n ∷ l
        → (keep q (falling (m - 1) k) ≡ n ∷ l → (n ≤ m - 1) × (0 < k)) → (n ≤ m) × (0 < suc k)
    go true e more = let z : m ≡ n = cc in (omega arith, omega arith)
    go false e more = let z = more e in (omega arith, omega arith)

-- what is kept of falling numbers says which were
pub keep_map : (p q : ℕ → Bool) (n k : ℕ) → k ≤ suc n → keep p (falling n k) ≡ keep q (falling n k) → map p (falling n k) ≡ map q (falling n k)
unfolding keep falling
keep_map p q n zero h e = refl
keep_map p q n (suc k) h e = go (p n) (q n) e (keep_map p q (n - 1) k (omega arith))
  where
    apart : (p q : ℕ → Bool) → n ∷ keep p (falling (n - 1) k) ≡ keep q (falling (n - 1) k) → ⊥
    apart p q e = let z = keep_head q (n - 1) k n (keep p (falling (n - 1) k)) (sym e) in omega arith

    go :
        (a b : Bool)
        → cond a (n ∷ keep p (falling (n - 1) k)) (keep p (falling (n - 1) k)) ≡ cond b (n ∷ keep q (falling (n - 1) k)) (keep q (falling (n - 1) k))
        → (keep p (falling (n - 1) k) ≡ keep q (falling (n - 1) k) → map p (falling (n - 1) k) ≡ map q (falling (n - 1) k))
        → a ∷ map p (falling (n - 1) k) ≡ b ∷ map q (falling (n - 1) k)
    go true true e more =
        let z : keep p (falling (n - 1) k) ≡ keep q (falling (n - 1) k) = cc in
        ap (λ l. true ∷ l) (more z)
    go false false e more = ap (λ l. false ∷ l) (more e)
    go true false e more = absurd (apart p q e)
    go false true e more = absurd (apart q p (sym e))

-- two tests that keep the same numbers of the window report the same
pub same_report : (top : ℕ) (p q : ℕ → Bool) → keep p (window top) ≡ keep q (window top) → report_of top p ≡ report_of top q
unfolding report_of window falling
same_report top p q e =
    let m : p top ∷ map p (falling (top - 1) (min top 254)) ≡ q top ∷ map q (falling (top - 1) (min top 254)) =
    keep_map p q top (suc (min top 254)) (omega arith) e in
    let a : p top ≡ q top = cc in
    let b : map p (falling (top - 1) (min top 254)) ≡ map q (falling (top - 1) (min top 254)) = cc in
    rw (a, b)

-- once a number was received the highest is among the received
pub highest_among : (l : List ℕ) → 0 < length l → among l (highest_of l) ≡ true
unfolding among highest_of
highest_among [] h = absurd (omega arith)
highest_among (n ∷ []) h = rw (eq-eqb (max n 0) n (omega arith))
highest_among (n ∷ (k ∷ l)) h =
    ⊎_elim
    (λ q.
    let e : max n (highest_of (k ∷ l)) ≡ highest_of (k ∷ l) = omega arith in
    ap (λ x. eqb x n || among (k ∷ l) x) e ∙ ap (λ b. eqb (highest_of (k ∷ l)) n || b) (highest_among (k ∷ l) (omega arith)) ∙ or-true (eqb (highest_of (k ∷ l)) n))
    (λ q. rw (eq-eqb (max n (highest_of (k ∷ l))) n (omega arith)))
    (split n (highest_of (k ∷ l)))

-- so of the received numbers of the window the first is the highest; where there is none it counts as 0
pub first_kept : (l : List ℕ) → get_or (keep (among l) (window (highest_of l))) 0 0 ≡ highest_of l
unfolding window falling keep
first_kept [] = unfold among highest_of in refl
first_kept (n ∷ l) = rw (highest_among (n ∷ l) (omega arith))

-- the numbers of the window are those that the test for it takes
falling_in : (n k x : ℕ) → x ≤ n → n < x + k → among (falling n k) x ≡ true
unfolding falling among
falling_in n zero x h g = absurd (omega arith)
falling_in n (suc k) x h g = go (eqb x n) refl (falling_in (n - 1) k x)
  where
    go : (b : Bool) → eqb x n ≡ b → (x ≤ n - 1 → n - 1 < x + k → among (falling (n - 1) k) x ≡ true) → (b || among (falling (n - 1) k) x) ≡ true
    go true e more = refl
    go false e more = let d : x ≡ n → ⊥ = eqb-false x n e in more (omega arith) (omega arith)

falling_out : (n k x : ℕ) → (n < x) ⊎ (x + k ≤ n) → among (falling n k) x ≡ false
unfolding falling among
falling_out n zero x h = refl
falling_out n (suc k) x h =
    ⊎_elim
    (λ l. rw (ne_eqb x n (λ e. omega arith)) (falling_out (n - 1) k x (inl (omega arith))))
    (λ l. rw (ne_eqb x n (λ e. omega arith)) (falling_out (n - 1) k x (inr (omega arith))))
    h

pub in_window_lem : (top n : ℕ) → among (window top) n ≡ in_window top n
unfolding window in_window
in_window_lem top n =
    ⊎_elim
    (λ l. falling_out top (suc (min top 254)) n (inl l) ∙ rw (lt-leb n top l))
    (λ l.
    ⊎_elim
    (λ g. falling_in top (suc (min top 254)) n l (omega arith) ∙ rw (le-leb n top l, lt-ltb top (n + 255) g))
    (λ g. falling_out top (suc (min top 254)) n (inr (omega arith)) ∙ rw (le-leb n top l, le-ltb top (n + 255) g))
    (split top (n + 255)))
    (split top n)

-- a number is among those kept exactly if it was there and the test takes it
pub among_keep : (p : ℕ → Bool) (l : List ℕ) (n : ℕ) → among (keep p l) n ≡ (among l n && p n)
unfolding among keep
among_keep p [] n = refl
among_keep p (m ∷ l) n = go (p m) refl (eqb n m) refl (among_keep p l n)
  where
    go :
        (a : Bool) → p m ≡ a → (b : Bool) → eqb n m ≡ b → among (keep p l) n ≡ (among l n && p n)
        → among (cond a (m ∷ keep p l) (keep p l)) n ≡ ((b || among l n) && p n)
    go true e true f more = rw f (sym (ap p (eqb-true n m f) ∙ e))
    go true e false f more = rw f more
    go false e true f more =
        let z : p n ≡ false = ap p (eqb-true n m f) ∙ e in
        more ∙ rw z (and-false (among l n))
    go false e false f more = more
