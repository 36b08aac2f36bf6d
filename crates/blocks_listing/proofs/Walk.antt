-- The walk over a payload's blocks. Counting knows of the reader that a block that was read ends after its place and not past the end; filling knows also that its type and size stand at its place, and that they say how long it is. Assumes nothing.
use mathlib.Core.Path.{◌≡◌, refl, sym, ap, ◌∙◌, subst}
use mathlib.Core.Bool.{Bool, true, false, cond}
use mathlib.Core.List.{List, [], ◌∷◌, ◌++◌, append-nil}
use native.Mathlib.Numerals.{add-one}
use Rattle.std.proofs.Math.ListN.{drop_of_length-le}
use Prim.Native.Nat.{ℕ, zero, suc, ◌+◌, ◌-◌, ◌<◌, ◌≤◌}
use native.Mathlib.Omega.{arith}
use native.Mathlib.Nat.{zero-add, sub-zero}
use lib.Dec.{ltb, leb, eqb}
use lib.ListN.{length, get_or, drop, set}
use lib.Seq.{sets, sets-eq}
use borrow.Author.Tests.{ltb-true, ltb-false, leb-true, lt-ltb, le-ltb, le-leb, lt-leb, eqb-true, eqb-false}
use Rattle.blocks.specs.Outcomes.{Extent}
use Rattle.blocks.specs.Outcomes as End
use Rattle.blocks_listing.specs.declared.Entry.{Entry}
use Rattle.blocks_listing.specs.declared.Step.{Step}
use Rattle.blocks_listing.specs.Answers.{Answer}
use Rattle.blocks.specs.Extent.{kind_at, size_at, extent_at}
use Rattle.blocks.specs.Sound.{body_length}
use Rattle.blocks_listing.specs.Listing.{Listing, ok, no, entry, cons, onward, blocks_from, blocks_of, limited, listing, counts, refused_listing, listing_answer, entries_after, step_over, stays_at, step_at, entries_from}
use Rattle.blocks.specs.declared.Head.{Head}
use Rattle.blocks.proofs.Ends.{Headed, bounded}

-- what counting knows of the reader
pub goes_on : (s : List ℕ) (at k z next : ℕ) → extent_at s at ≡ End.Ends k z next → (at + 3 ≤ next) × (next ≤ length s)
goes_on s at k z next e = let b = bounded s at k z next e in (omega (arith, b.fields), b.inside)

-- steps beyond the bytes that are left change nothing
enough : (f g : ℕ) (s : List ℕ) (at : ℕ) → at < length s → length s - at ≤ f → length s - at ≤ g → blocks_from f s at ≡ blocks_from g s at
unfolding blocks_from
enough zero g s at h hf hg = absurd (omega arith)
enough (suc f) zero s at h hf hg = absurd (omega arith)
enough (suc f) (suc g) s at h hf hg = go (λ next i j. enough f g s next j (omega arith) (omega arith)) (extent_at s at) refl
  where
    Rest : Type 0
    Rest = (next : ℕ) → at + 3 ≤ next → next < length s → blocks_from f s next ≡ blocks_from g s next

    tail : Rest → (next : ℕ) → at + 3 ≤ next → (b : Bool) → ltb next (length s) ≡ b → cond b (blocks_from f s next) (ok []) ≡ cond b (blocks_from g s next) (ok [])
    tail same next i true q = same next i (ltb-true next (length s) q)
    tail same next i false q = refl

    go : Rest → (e : Extent) → extent_at s at ≡ e → onward s at (blocks_from f s) e ≡ onward s at (blocks_from g s) e
    go same (End.Ends k z next) q = ap (cons (entry at k z)) (tail same next (goes_on s at k z next q).0 (ltb next (length s)) refl)
    go same (End.Refused m p) q = refl

-- the blocks that are still to come at a place, none at the payload's end
abbrev pub rest : List ℕ → ℕ → Listing
rest s at = cond (ltb at (length s)) (blocks_from (length s - at) s at) (ok [])

pub at_end : (s : List ℕ) (at : ℕ) → length s ≤ at → rest s at ≡ ok []
at_end s at h = rw (le-ltb at (length s) h)

pub at_start : (s : List ℕ) → 0 < length s → rest s 0 ≡ blocks_of s
unfolding blocks_of
at_start s h = rw (lt-ltb 0 (length s) h, sub-zero)

module _ (s : List ℕ) (at : ℕ) (inside : at < length s) where
  one : blocks_from (length s - at) s at ≡ onward s at (blocks_from (length s - at - 1) s) (extent_at s at)
  unfolding blocks_from
  one = let e : length s - at ≡ suc (length s - at - 1) = omega arith in ap (λ (f : ℕ). blocks_from f s at) e

  pub turns : (k z next : ℕ) → extent_at s at ≡ End.Ends k z next → rest s at ≡ cons (entry at k z) (rest s next)
  turns k z next e =
      let h = goes_on s at k z next e in
      rw (lt-ltb at (length s) inside) (one ∙ ap (onward s at (blocks_from (length s - at - 1) s)) e ∙ ap (cons (entry at k z)) (tail h (ltb next (length s)) refl))
    where
      tail : (at + 3 ≤ next) × (next ≤ length s) → (b : Bool) → ltb next (length s) ≡ b → cond b (blocks_from (length s - at - 1) s next) (ok []) ≡ cond b (blocks_from (length s - next) s next) (ok [])
      tail h true q = enough (length s - at - 1) (length s - next) s next (ltb-true next (length s) q) (omega (arith, h.0)) (omega arith)
      tail h false q = refl

  pub refuses : (m p : ℕ) → extent_at s at ≡ End.Refused m p → rest s at ≡ no m p
  refuses m p e = rw (lt-ltb at (length s) inside) (one ∙ ap (onward s at (blocks_from (length s - at - 1) s)) e)

-- ---- counting

-- the answer where n blocks are counted already; `over` is the place of the first that has no record, once it was met
abbrev pub answer_from : ℕ → ℕ → ℕ → Listing → Answer
answer_from c n over (ok es) = cond (leb (n + length es) c) (counts (n + length es)) (refused_listing 10 (cond (ltb c n) over (get_or es (c - n) (entry 0 0 0)).place))
answer_from c n over (no m p) = refused_listing m p

pub none_yet : (c : ℕ) (l : Listing) → answer_from c 0 0 l ≡ listing_answer (limited c l)
none_yet c (ok es) = rw (zero-add, le-ltb c 0 (omega arith), sub-zero) (go (leb (length es) c))
  where
    go : (b : Bool) → cond b (counts (length es)) (refused_listing 10 (get_or es c (entry 0 0 0)).place) ≡ listing_answer (cond b (ok es) (no 10 (get_or es c (entry 0 0 0)).place))
    go true = refl
    go false = refl
none_yet c (no m p) = refl

-- one block more
pub one_more : (c n over : ℕ) (e : Entry) (l : Listing) → answer_from c n over (cons e l) ≡ answer_from c (n + 1) (cond (eqb n c) e.place over) l
one_more c n over e (no m p) = refl
one_more c n over e (ok es) =
    let q : n + suc (length es) ≡ n + 1 + length es = omega arith in
    rw q (ap (λ (z : ℕ). cond (leb (n + 1 + length es) c) (counts (n + 1 + length es)) (refused_listing 10 z)) (by (ltb n c) (eqb n c) refl refl))
  where
    by : (a b : Bool) → ltb n c ≡ a → eqb n c ≡ b → cond (ltb c n) over (get_or (e ∷ es) (c - n) (entry 0 0 0)).place ≡ cond (ltb c (n + 1)) (cond (eqb n c) e.place over) (get_or es (c - (n + 1)) (entry 0 0 0)).place
    by true b g _ =
        let h : n < c = ltb-true n c g in
        let d : c - n ≡ suc (c - (n + 1)) = omega arith in
        rw (le-ltb c n (omega arith), le-ltb c (n + 1) (omega arith), d)
    by false true g q =
        let h : c ≡ n = sym (eqb-true n c q) in
        let d : c - n ≡ 0 = omega arith in
        rw (le-ltb c n (omega arith), lt-ltb c (n + 1) (omega arith), q, d)
    by false false g q =
        let h : c ≤ n = ltb-false n c g in
        let d : c < n = omega (arith, eqb-false n c q) in
        rw (lt-ltb c n d, lt-ltb c (n + 1) (omega arith), q)

pub no_more_over : (c n over : ℕ) → c < n → answer_from c n over (ok []) ≡ refused_listing 10 over
no_more_over c n over h = rw (lt-leb (n + 0) c (omega arith), lt-ltb c n h)

pub no_more : (c n over : ℕ) → n ≤ c → answer_from c n over (ok []) ≡ counts n
no_more c n over h = rw (le-leb (n + 0) c (omega arith)) (ap counts (omega arith))

-- the empty payload
pub nothing : (c : ℕ) (s : List ℕ) → length s ≡ 0 → refused_listing 1 0 ≡ listing_answer (listing c s)
unfolding listing blocks_of blocks_from
nothing c s h = sym (ap (λ (f : ℕ). listing_answer (limited c (blocks_from f s 0))) h)

-- ---- filling

-- the step over a block that was read is to its end
steps : (s : List ℕ) (at k z next : ℕ) → extent_at s at ≡ End.Ends k z next → step_at s at ≡ record { entry = entry at k z; next = next }
unfolding step_at
steps s at k z next e =
    let b = bounded s at k z next e in
    let n : at + 3 + body_length (kind_at s at) (size_at s at) ≡ next = ap (λ (j : ℕ). at + 3 + body_length j (size_at s at)) b.is_kind ∙ ap (λ (j : ℕ). at + 3 + body_length k j) b.is_size ∙ sym b.length_is in
    rw (le-leb (at + 3 + body_length (kind_at s at) (size_at s at)) (length s) (omega (arith, n, b.inside))) (ap (λ (j : ℕ). record { entry = entry at (kind_at s at) (size_at s at); next = j }) n ∙ ap (λ (j : ℕ). record { entry = entry at j (size_at s at); next = next }) b.is_kind ∙ ap (λ (j : ℕ). record { entry = entry at k j; next = next }) b.is_size)

-- a step as the code finds it: without a head, past the end, over a body
pub no_step : (s : List ℕ) (at : ℕ) → length s < at + 3 + body_length (kind_at s at) (size_at s at) → stays_at at ≡ step_at s at
unfolding step_at
no_step s at h = rw (lt-leb (at + 3 + body_length (kind_at s at) (size_at s at)) (length s) h)

module _ (s : List ℕ) (at : ℕ) (g : Head) (h : Headed s at g) where
  -- the length of the body
  body : body_length g.kind g.size ≡ body_length (kind_at s at) (size_at s at)
  body = ap (λ (k : ℕ). body_length k g.size) h.is_kind ∙ ap (body_length (kind_at s at)) h.is_size

  pub step_past : {n : ℕ} → n ≡ body_length g.kind g.size → length s < at + 3 + n → stays_at at ≡ step_at s at
  step_past {n} e l = no_step s at (let b : n ≡ body_length (kind_at s at) (size_at s at) = e ∙ body in omega (arith, l, b))

  pub step_over_lem : {n : ℕ} → n ≡ body_length g.kind g.size → at + 3 + n ≤ length s → record { entry = entry at g.kind g.size; next = at + 3 + n } ≡ step_at s at
  unfolding step_at
  step_over_lem {n} e l =
      let b : n ≡ body_length (kind_at s at) (size_at s at) = e ∙ body in
      rw (h.is_kind, h.is_size, le-leb (at + 3 + body_length (kind_at s at) (size_at s at)) (length s) (omega (arith, l, b))) (ap (step_over s at) b)

-- where there is a listing, its records are those
pub listed : (f : ℕ) (s : List ℕ) (at : ℕ) (es : List Entry) → blocks_from f s at ≡ ok es → entries_from (length es) s at ≡ es
unfolding blocks_from
listed zero s at es e = let z : ◌≡◌ {A = ℕ} 0 1 = cc in absurd (omega arith)
listed (suc f) s at es e = go (λ next fs g. listed f s next fs g) (extent_at s at) refl e
  where
    Rest : Type 0
    Rest = (next : ℕ) (fs : List Entry) → blocks_from f s next ≡ ok fs → entries_from (length fs) s next ≡ fs

    more : (k z next : ℕ) → step_at s at ≡ record { entry = entry at k z; next = next } → (l : Listing) → ((fs : List Entry) → l ≡ ok fs → entries_from (length fs) s next ≡ fs) → cons (entry at k z) l ≡ ok es → entries_from (length es) s at ≡ es
    more k z next st (ok fs) ih g =
        let h : entry at k z ∷ fs ≡ es = cc in
        subst (λ (l : List Entry). entries_from (length l) s at ≡ l) h
        (ap (λ (t : Step). t.entry ∷ entries_from (length fs) s t.next) st ∙ ap (λ (l : List Entry). entry at k z ∷ l) (ih fs refl))
    more k z next st (no m p) ih g = let z : ◌≡◌ {A = ℕ} 0 1 = cc in absurd (omega arith)

    tail : Rest → (b : Bool) (next : ℕ) (fs : List Entry) → cond b (blocks_from f s next) (ok []) ≡ ok fs → entries_from (length fs) s next ≡ fs
    tail ih true next fs g = ih next fs g
    tail ih false next fs g = let h : [] ≡ fs = cc in subst (λ (l : List Entry). entries_from (length l) s next ≡ l) h refl

    go : Rest → (x : Extent) → extent_at s at ≡ x → onward s at (blocks_from f s) x ≡ ok es → entries_from (length es) s at ≡ es
    go ih (End.Ends k z next) q g = more k z next (steps s at k z next q) (cond (ltb next (length s)) (blocks_from f s next) (ok [])) (tail ih (ltb next (length s)) next) g
    go ih (End.Refused m p) q g = let z : ◌≡◌ {A = ℕ} 0 1 = cc in absurd (omega arith)

-- a list that is long enough holds them
within : (c : ℕ) (l : Listing) (es : List Entry) → limited c l ≡ ok es → (l ≡ ok es) × (length es ≤ c)
within c (ok fs) es e = go (leb (length fs) c) refl e
  where
    go : (b : Bool) → leb (length fs) c ≡ b → cond b (ok fs) (no 10 (get_or fs c (entry 0 0 0)).place) ≡ ok es → (ok fs ≡ ok es) × (length es ≤ c)
    go true h g = let q : fs ≡ es = cc in (g, subst (λ (l : List Entry). length l ≤ c) q (leb-true (length fs) c h))
    go false h g = let z : ◌≡◌ {A = ℕ} 0 1 = cc in absurd (omega arith)
within c (no m p) es e = let z : ◌≡◌ {A = ℕ} 0 1 = cc in absurd (omega arith)

-- as many stores as are counted, one after the other, fill the list
pub filling : (s : List ℕ) (ys : List Entry) → ((listing_answer (listing (length ys) s)).count ≤ length ys) × (sets ys 0 (entries_from (listing_answer (listing (length ys) s)).count s 0) ≡ entries_after (listing (length ys) s) ys)
unfolding listing blocks_of
filling s ys = go (limited (length ys) (blocks_from (length s) s 0)) refl
  where
    go : (l : Listing) → limited (length ys) (blocks_from (length s) s 0) ≡ l → ((listing_answer l).count ≤ length ys) × (sets ys 0 (entries_from (listing_answer l).count s 0) ≡ entries_after l ys)
    go (ok es) e =
        let h = within (length ys) (blocks_from (length s) s 0) es e in
        let r = listed (length s) s 0 es h.0 in
        (h.1, ap (λ (l : List Entry). sets ys 0 l) r ∙ sets-eq es ys 0 (omega arith) ∙ ap (λ (n : ℕ). es ++ drop n ys) (zero-add (length es)))
    go (no m p) e = (omega arith, refl)

-- as many records as are counted, and then what stood there, is the list as it is to be
pub filled : (s : List ℕ) (ys : List Entry) (n : ℕ) → counts n ≡ listing_answer (listing (length ys) s) → (n ≤ length ys) × (entries_from n s 0 ++ drop n ys ≡ entries_after (listing (length ys) s) ys)
unfolding listing blocks_of
filled s ys n = go (limited (length ys) (blocks_from (length s) s 0)) refl
  where
    go : (l : Listing) → limited (length ys) (blocks_from (length s) s 0) ≡ l → counts n ≡ listing_answer l → (n ≤ length ys) × (entries_from n s 0 ++ drop n ys ≡ entries_after l ys)
    go (ok es) e q =
        let many : n ≡ length es = ap (λ (a : Answer). a.count) q in
        let h = within (length ys) (blocks_from (length s) s 0) es e in
        rw many (h.1, ap (λ (l : List Entry). l ++ drop (length es) ys) (listed (length s) s 0 es h.0))
    go (no m p) e q = let none : n ≡ 0 = ap (λ (a : Answer). a.count) q in rw none (omega arith, refl)

-- a listing that is refused leaves the list
pub left_as_it_was : (s : List ℕ) (ys : List Entry) (m p : ℕ) → refused_listing m p ≡ listing_answer (listing (length ys) s) → ys ≡ entries_after (listing (length ys) s) ys
left_as_it_was s ys m p = go (listing (length ys) s)
  where
    go : (l : Listing) → refused_listing m p ≡ listing_answer l → ys ≡ entries_after l ys
    go (ok []) q = refl
    go (ok (e ∷ es)) q = let none : 0 ≡ length (e ∷ es) = ap (λ (a : Answer). a.count) q in absurd (omega arith)
    go (no i j) q = refl

entries_many : (k : ℕ) (s : List ℕ) (at : ℕ) → length (entries_from k s at) ≡ k
entries_many zero s at = refl
entries_many (suc k) s at = ap suc (entries_many k s (step_at s at).next)

-- before the first of n stores over as many records, and after the last
pub before_first : (s : List ℕ) (l : List Entry) (n : ℕ) → length l ≡ n → sets l 0 (entries_from (n - 0) s 0) ≡ entries_from n s 0
before_first s l n h =
    let long = entries_many n s 0 in
    rw (sub-zero n) (sets-eq (entries_from n s 0) l 0 (omega (arith, long)) ∙ ap (λ (r : List Entry). entries_from n s 0 ++ r) (drop_of_length-le l (omega (arith, long))) ∙ append-nil (entries_from n s 0))

pub after_last : (s : List ℕ) (l : List Entry) (i n at : ℕ) → n ≤ i → sets l i (entries_from (n - i) s at) ≡ l
after_last s l i n at h = let none : n - i ≡ 0 = omega arith in rw none refl

-- one more record stored, of the block at the place that the code has
pub one_stored : (s : List ℕ) (l : List Entry) (i n at : ℕ) (r : Step) → r ≡ step_at s at → i < n → sets (set l i r.entry) (i + 1) (entries_from (n - (i + 1)) s r.next) ≡ sets l i (entries_from (n - i) s at)
one_stored s l i n at r e h =
    let left : n - i ≡ suc (n - (i + 1)) = omega arith in
    rw (e, left, add-one i) refl
