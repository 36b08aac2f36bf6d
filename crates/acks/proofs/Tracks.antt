-- A tracker that a history of calls made holds what the history means. Assumes nothing.
use mathlib.Core.Path.{◌≡◌, refl, sym, ap, ◌∙◌}
use mathlib.Core.Bool.{Bool, true, false, not, cond, ◌&&◌, ◌||◌, or-true}
use mathlib.Core.List.{List, [], ◌∷◌}
use mathlib.Core.Logic.{⊎_elim}
use Prim.Native.Nat.{ℕ, ◌+◌, ◌-◌, ◌%◌, ◌≤◌, ◌<◌, max}
use native.Mathlib.Omega.{arith}
use native.Mathlib.Nat.{eq-zero-or-pos}
use lib.Dec.{eqb}
use lib.ListN.{set, length, length-set, get_or-replicate}
use borrow.Author.Tests.{lt-leb, le-leb, le-ltb, lt-ltb, eq-eqb, ne_eqb, eqb-true, eqb-false}
use Rattle.acks.specs.declared.Tracker.{Tracker}
use Rattle.acks.specs.Window.{in_window}
use Rattle.acks.specs.History.{answer_to, highest_of, among, receive, noted, received_after, received}
use Rattle.acks.specs.Tracking.{mark, fresh, is_duplicate, clear_up, marks_after, accept_of, register_answer, register_of, register_all}
use Rattle.acks.proofs.Ring.{split, length_clear, mod_in, mark_same, mark_above, mark_below, clear_below, clear_in}

-- a tracker holds what was received: top is the highest number and got says which were
pub record Tracks (top : ℕ) (got : ℕ → Bool) (t : Tracker) : Type 0 where
  pub same : t.highest ≡ top
  pub long : length t.marks ≡ 255
  pub inside : (k : ℕ) → k ≤ top → top < k + 255 → mark t.marks k ≡ got k
  pub above : (k : ℕ) → top < k → got k ≡ false
  pub begun : 0 < top → (got top ≡ true) × (got 0 ≡ true)

module _ {top : ℕ} {got : ℕ → Bool} {t : Tracker} (w : Tracks top got t) where
  -- ---- asking
  held_got : (n : ℕ) → top < n + 255 → is_duplicate t.highest t.marks n ≡ got n
  unfolding is_duplicate in_window
  held_got n g =
      ⊎_elim
      (λ lt. rw (w.same, lt-leb n top lt) (sym (w.above n lt)))
      (λ le. rw (w.same, le-leb n top le, lt-ltb top (n + 255) g) (w.inside n le g))
      (split top n)

  pub held_is : (n : ℕ) → is_duplicate t.highest t.marks n ≡ (in_window top n && got n)
  unfolding is_duplicate in_window
  held_is n =
      ⊎_elim
      (λ lt. rw (w.same, lt-leb n top lt))
      (λ le.
      ⊎_elim
      (λ g. rw (w.same, le-leb n top le, lt-ltb top (n + 255) g) (w.inside n le g))
      (λ g. rw (w.same, le-leb n top le, le-ltb top (n + 255) g))
      (split top (n + 255)))
      (split top n)

  pub answer_is : (n : ℕ) → register_answer t n ≡ answer_to top got n
  unfolding register_answer answer_to
  answer_is n =
      ⊎_elim
      (λ g. rw (held_got n g, w.same))
      (λ g. rw (w.same, le-leb (n + 255) top g))
      (split top (n + 255))

  -- ---- the marks once n was accepted
  marks_new : (n : ℕ) → mark (marks_after t.marks top n) n ≡ true
  unfolding marks_after
  marks_new n =
      mark_same (clear_up (set t.marks (top % 255) 1) (top + 1) (n - top - 1)) n 1 (simp (length_clear, length-set) w.long)

  -- a number other than n keeps the mark that it had after the gap was cleared
  marks_other : (n k : ℕ) → n ≤ top + 255 → top < n + 255 → k ≤ max top n → max top n < k + 255 → (k ≡ n → ⊥)
      → mark (marks_after t.marks top n) k ≡ mark (clear_up (set t.marks (top % 255) 1) (top + 1) (n - top - 1)) k
  unfolding marks_after
  marks_other n k hi lo le lt ne =
      ⊎_elim
      (λ q. mark_below _ n k 1 q (omega arith))
      (λ q. mark_above _ n k 1 (omega arith) (omega arith))
      (split k n)

  marks_gap : (n k : ℕ) → n ≤ top + 255 → top < k → k < n
      → mark (clear_up (set t.marks (top % 255) 1) (top + 1) (n - top - 1)) k ≡ false
  marks_gap n k hi lo lt =
      clear_in _ (top + 1) (n - top - 1) k (length-set t.marks (top % 255) 1 ∙ w.long) (omega arith) (omega arith) (omega arith)

  marks_old : (n k : ℕ) → k ≤ top → top < k + 255 → n < k + 255
      → mark (clear_up (set t.marks (top % 255) 1) (top + 1) (n - top - 1)) k ≡ (eqb k 0 || got k)
  marks_old n k le lt lo =
      clear_below _ (top + 1) (n - top - 1) k (omega arith) (omega arith)
      ∙ ⊎_elim
      (λ q. mark_below t.marks top k 1 q lt ∙ w.inside k le lt ∙ zeroth q)
      (λ q. highest (omega arith))
      (split k top)
    where
      zeroth : k < top → got k ≡ (eqb k 0 || got k)
      zeroth q =
          ⊎_elim
          (λ z. rw z (w.begun (omega arith)).1)
          (λ z. rw (ne_eqb k 0 (λ e. omega arith)))
          (eq-zero-or-pos k)

      highest : k ≡ top → mark (set t.marks (top % 255) 1) k ≡ (eqb k 0 || got k)
      highest e =
          rw e
          (mark_same t.marks top 1 w.long
          ∙ ⊎_elim
          (λ z. rw (eq-eqb top 0 z))
          (λ z. rw (w.begun z).0 (sym (or-true (eqb top 0))))
          (eq-zero-or-pos top))

  marks_all : (n k : ℕ) → n ≤ top + 255 → top < n + 255 → k ≤ max top n → max top n < k + 255
      → mark (marks_after t.marks top n) k ≡ (eqb k n || (eqb k 0 || got k))
  marks_all n k hi lo le lt = go (eqb k n) refl
    where
      lt_of : (x y : ℕ) → (x ≡ y → ⊥) → x ≤ y → x < y
      lt_of x y ne l = omega arith

      go : (b : Bool) → eqb k n ≡ b → mark (marks_after t.marks top n) k ≡ (b || (eqb k 0 || got k))
      go true e = rw (eqb-true k n e) (marks_new n)
      go false e =
          marks_other n k hi lo le lt (eqb-false k n e)
          ∙ ⊎_elim
          (λ q. marks_gap n k hi q (lt_of k n (eqb-false k n e) (omega arith)) ∙ rw (ne_eqb k 0 (λ z. omega arith)) (sym (w.above k q)))
          (λ q. marks_old n k q (omega arith) (omega arith))
          (split top k)

  pub tracks_accept : (n : ℕ) → n ≤ top + 255 → top < n + 255 → Tracks (max top n) (λ k. eqb k n || (eqb k 0 || got k)) (accept_of t n)
  unfolding accept_of marks_after
  tracks_accept n hi lo =
      record {
        same = ap (λ x. max x n) w.same;
        long = simp (length-set, length_clear) w.long;
        inside = λ k le lt. rw w.same (marks_all n k hi lo le lt);
        above = λ k lt. rw (ne_eqb k n (λ e. omega arith), ne_eqb k 0 (λ e. omega arith)) (w.above k (omega arith));
        begun = λ h. (newest, or-true (eqb 0 n));
      }
    where
      newest : (eqb (max top n) n || (eqb (max top n) 0 || got (max top n))) ≡ true
      newest =
          ⊎_elim
          (λ q.
          let e : max top n ≡ top = omega arith in
          rw (e, (w.begun (omega arith)).0, or-true (eqb top 0), or-true (eqb top n)))
          (λ q. rw (eq-eqb (max top n) n (omega arith)))
          (split n top)

accepted : (top : ℕ) (got : ℕ → Bool) (n : ℕ) → answer_to top got n ≡ 0 → (n ≤ top + 255) × (top < n + 255)
unfolding answer_to
accepted top got n e = (
  ⊎_elim (λ q. absurd (forty q)) (λ q. q) (split (top + 255) n),
  ⊎_elim (λ q. q) (λ q. absurd (forty_two q)) (split top (n + 255)),
)
  where
    forty : top + 255 < n → ⊥
    forty q = let z : ◌≡◌ {A = ℕ} 40 0 = rw (lt-ltb (top + 255) n q) at e in omega arith

    forty_two : n + 255 ≤ top → ⊥
    forty_two q =
        let r : n ≤ top + 255 = omega arith in
        let z : ◌≡◌ {A = ℕ} 42 0 = rw (le-ltb (top + 255) n r, le-leb (n + 255) top q) at e in
        omega arith

-- ---- the received numbers as a list
-- none or some: the first counted number 0
pub record Follows (l : List ℕ) (t : Tracker) : Type 0 where
  pub tracks : Tracks (highest_of l) (among l) t
  pub zeroth : 0 < length l → among l 0 ≡ true

pub highest_receive : (l : List ℕ) (n : ℕ) → highest_of (receive l n) ≡ max (highest_of l) n
unfolding receive highest_of
highest_receive [] n = omega arith
highest_receive (k ∷ l) n = omega arith

among_receive : (l : List ℕ) → (0 < length l → among l 0 ≡ true) → (n k : ℕ) → among (receive l n) k ≡ (eqb k n || (eqb k 0 || among l k))
unfolding receive among
among_receive [] z n k = refl
among_receive (x ∷ l) z n k = ap (λ b. eqb k n || b) (go (eqb k 0) refl)
  where
    go : (b : Bool) → eqb k 0 ≡ b → among (x ∷ l) k ≡ (b || among (x ∷ l) k)
    go true e = ap (among (x ∷ l)) (eqb-true k 0 e) ∙ z (omega arith)
    go false e = refl

module _ {l : List ℕ} {t : Tracker} (f : Follows l t) (n : ℕ) where
  follows_accept : answer_to (highest_of l) (among l) n ≡ 0 → Follows (receive l n) (accept_of t n)
  follows_accept e =
      let a = accepted (highest_of l) (among l) n e in
      let g : among (receive l n) ≡ (λ k. eqb k n || (eqb k 0 || among l k)) = λ i k. among_receive l f.zeroth n k i in
      record {
        tracks = rw (highest_receive l n, g) (tracks_accept f.tracks n a.0 a.1);
        zeroth = λ h. among_receive l f.zeroth n 0 ∙ or-true (eqb 0 n);
      }

  pub follows_step : Follows (noted l n) (register_of t n).tracker
  unfolding noted register_of
  follows_step = go (eqb (answer_to (highest_of l) (among l) n) 0) refl
    where
      go : (b : Bool) → eqb (answer_to (highest_of l) (among l) n) 0 ≡ b → Follows (cond b (receive l n) l) (cond (eqb (register_answer t n) 0) (accept_of t n) t)
      go true e = rw (answer_is f.tracks n, e) (follows_accept (eqb-true _ 0 e))
      go false e = rw (answer_is f.tracks n, e) f

pub follows_all : {l : List ℕ} {t : Tracker} → Follows l t → (calls : List ℕ) → Follows (received_after l calls) (register_all t calls)
unfolding received_after register_all
follows_all f [] = f
follows_all {l = l} {t = t} f (n ∷ calls) = follows_all {l = noted l n} {t = (register_of t n).tracker} (follows_step f n) calls

follows_none : Follows [] fresh
unfolding fresh highest_of among mark
follows_none =
    record {
      tracks =
          record {
            same = refl;
            long = refl;
            inside = λ k le lt. ap (λ y. not (eqb y 0)) (get_or-replicate 255 (k % 255) 0 0 (mod_in k 255 refl));
            above = λ k lt. refl;
            begun = λ h. absurd (omega arith);
          };
      zeroth = λ h. absurd (omega arith);
    }

-- every history
pub follows : (calls : List ℕ) → Follows (received calls) (register_all fresh calls)
unfolding received
follows calls = follows_all follows_none calls
