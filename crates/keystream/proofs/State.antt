-- Laws of the block: a double round on 16 words, the first state from its words, the sums as bytes. Assumes nothing.
use Rattle.std.proofs.Common.{◌≡◌, ℕ, zero, suc, ◌+◌, ◌*◌, ◌<◌, ◌≤◌, List, [], ◌∷◌, ◌++◌, length, get_or, take, sym, refl, ap, ◌∙◌, ap₂, append_assoc, append-nil, add-one, arith, length-append, length-take-le, take_all, take-suc}
use Rattle.std.specs.Array.{IsFromFnResult, IsFromFnResultFrom}
use denote.Param.Members.{Mut, Called}
use mathlib.Core.Path.{subst}
use Rattle.wire.specs.Parts.{splice}
use Rattle.wire.specs.Numbers.{Bytes, little_at, little_bytes}
use Rattle.wire.proofs.Parts.{splice_join, splice_all}
use Rattle.wire.proofs.Slices.{splice_none}
use Rattle.wire.proofs.Numbers.{length_little, bytes_append, bytes_little}
use Rattle.keystream.specs.declared.rounds.Quad.{Quad}
use Rattle.keystream.specs.Chacha.{add32, quarter, quad_at, put_quad, qround, columns, diagonals, double_round, words, add_words, serialise}

-- what holds of every list of n elements, given as a function of the elements, holds of every list of length n
abbrev Each : ℕ → (List ℕ → Type 0) → Type 0
Each zero P = P []
Each (suc n) P = (a : ℕ) → Each n (λ (l : List ℕ). P (a ∷ l))

by_length : (n : ℕ) (P : List ℕ → Type 0) → Each n P → (l : List ℕ) → length l ≡ n → P l
by_length zero P h [] e = h
by_length zero P h (a ∷ l) e = absurd (omega arith)
by_length (suc n) P h [] e = absurd (omega arith)
by_length (suc n) P h (a ∷ l) e = by_length n (λ (l : List ℕ). P (a ∷ l)) (h a) l (omega arith)

-- the words of four quarters, taken on the diagonal
abbrev across : Quad → Quad → Quad → Quad → Quad
across p q r t = record { a = p.a; b = q.b; c = r.c; d = t.d }

-- four diagonals, laid out as a state
abbrev laid : Quad → Quad → Quad → Quad → List ℕ
laid e f g h =
    e.a ∷ f.a ∷ g.a ∷ h.a ∷ h.b ∷ e.b ∷ f.b ∷ g.b ∷ g.c ∷ h.c ∷ e.c ∷ f.c ∷ f.d ∷ g.d ∷ h.d ∷ e.d ∷ []

abbrev doubled : List ℕ → List ℕ
doubled s =
    let p = quarter (quad_at 0 4 8 12 s) in
    let q = quarter (quad_at 1 5 9 13 s) in
    let r = quarter (quad_at 2 6 10 14 s) in
    let t = quarter (quad_at 3 7 11 15 s) in
    laid (quarter (across p q r t)) (quarter (across q r t p)) (quarter (across r t p q)) (quarter (across t p q r))

doubled_is : (s : List ℕ) → length s ≡ 16 → doubled s ≡ double_round s
unfolding double_round columns diagonals qround put_quad
doubled_is = by_length 16 (λ (s : List ℕ). doubled s ≡ double_round s) (λ a b c d e f g h i j k l m n o p. refl)

-- a double round, from what each of its eight quarter rounds gave
pub round_by_quarters : (s : List ℕ) → length s ≡ 16 → {p q r t e f g h : Quad}
    → p ≡ quarter (quad_at 0 4 8 12 s) → q ≡ quarter (quad_at 1 5 9 13 s) → r ≡ quarter (quad_at 2 6 10 14 s) → t ≡ quarter (quad_at 3 7 11 15 s)
    → e ≡ quarter (across p q r t) → f ≡ quarter (across q r t p) → g ≡ quarter (across r t p q) → h ≡ quarter (across t p q r)
    → laid e f g h ≡ double_round s
round_by_quarters s n hp hq hr ht he hf hg hh = rw (he, hf, hg, hh, hp, hq, hr, ht) (doubled_is s n)

-- the words of some bytes, from what a closure that stays as it is gave at each index
words_from : {F : Type 0} (g : Mut F (ℕ × Unit {0}) ℕ) (f : F) (ws l : List ℕ) → ((i y : ℕ) (q : F) → Called g f (i, tt) y q → (y ≡ little_at 4 l (4 * i)) × (q ≡ f)) → (i n : ℕ) → IsFromFnResultFrom g f ws i n → (k : ℕ) → k < n → get_or ws (i + k) 0 ≡ little_at 4 l (4 * (i + k))
words_from g f ws l step i zero c k h = absurd (omega arith)
words_from g f ws l step i (suc n) c zero h =
    let e : i + 0 ≡ i = omega arith in
    rw e (c.2.1 0 ∙ (step i c.1 c.0 c.3).0)
words_from {F} g f ws l step i (suc n) c (suc k) h =
    let e : i + suc k ≡ i + 1 + k = omega arith in
    rw e (words_from g f ws l step (i + 1) n (subst (λ (z : F). IsFromFnResultFrom g z ws (i + 1) n) (step i c.1 c.0 c.3).1 c.4) k (omega arith))

words_at : (n o : ℕ) (l ws : List ℕ) → length ws ≡ n → ((i : ℕ) → i < n → get_or ws i 0 ≡ little_at 4 l (o + 4 * i)) → ws ≡ words n l o
unfolding words
words_at zero o l [] e h = refl
words_at zero o l (w ∷ ws) e h = absurd (omega arith)
words_at (suc n) o l [] e h = absurd (omega arith)
words_at (suc n) o l (w ∷ ws) e h =
    let z : o + 4 * 0 ≡ o = omega arith in
    let first : w ≡ little_at 4 l o = h 0 (omega arith) ∙ ap (little_at 4 l) z in
    let rest : ws ≡ words n l (o + 4) =
    words_at n (o + 4) l ws (omega arith)
    (λ i k. let s : o + 4 * suc i ≡ o + 4 + 4 * i = omega arith in h (suc i) (omega arith) ∙ ap (little_at 4 l) s)
    in
    cc

pub words_read : {F : Type 0} (g : Mut F (ℕ × Unit {0}) ℕ) (f : F) (ws l : List ℕ) (n : ℕ) → ((i y : ℕ) (q : F) → Called g f (i, tt) y q → (y ≡ little_at 4 l (4 * i)) × (q ≡ f)) → IsFromFnResult g f ws n → ws ≡ words n l 0
words_read g f ws l n step c =
    words_at n 0 l ws c.long
    (λ i h. let e : 0 + i ≡ i = omega arith in let s : 4 * (0 + i) ≡ 0 + 4 * i = omega arith in ap (λ (k : ℕ). get_or ws k 0) (sym e) ∙ words_from g f ws l step 0 n c.each i h ∙ ap (little_at 4 l) s)

-- ---- the sums of two states, as bytes

pub length_serialise : (s : List ℕ) → length (serialise s) ≡ 4 * length s
unfolding serialise
length_serialise [] = refl
length_serialise (w ∷ s) =
    let e : length (little_bytes 4 w ++ serialise s) ≡ length (little_bytes 4 w) + length (serialise s) = length-append (little_bytes 4 w) (serialise s) in
    omega (arith, length_little 4 w, length_serialise s)

pub bytes_serialise : (s : List ℕ) → Bytes (serialise s)
unfolding serialise
bytes_serialise [] i = omega arith
bytes_serialise (w ∷ s) i = bytes_append (little_bytes 4 w) (serialise s) (bytes_little 4 w) (bytes_serialise s) i

serialise_append : (s t : List ℕ) → serialise (s ++ t) ≡ serialise s ++ serialise t
unfolding serialise
serialise_append [] t = refl
serialise_append (w ∷ s) t =
    ap (λ (l : List ℕ). little_bytes 4 w ++ l) (serialise_append s t)
    ∙ sym (append_assoc (little_bytes 4 w) (serialise s) (serialise t))

-- one word more
serialise_more : (s : List ℕ) (i : ℕ) → i < length s → serialise (take (suc i) s) ≡ serialise (take i s) ++ little_bytes 4 (get_or s i 0)
unfolding serialise
serialise_more s i h =
    ap serialise (take-suc s i 0 h)
    ∙ serialise_append (take i s) (get_or s i 0 ∷ [])
    ∙ ap (λ (l : List ℕ). serialise (take i s) ++ l) (append-nil (little_bytes 4 (get_or s i 0)))

length_sum : (s t : List ℕ) → length s ≡ length t → length (add_words s t) ≡ length s
unfolding add_words
length_sum [] t e = refl
length_sum (a ∷ s) [] e = absurd (omega arith)
length_sum (a ∷ s) (b ∷ t) e = ap suc (length_sum s t (omega arith))

get_d_sum : (s t : List ℕ) (i : ℕ) → i < length s → i < length t → get_or (add_words s t) i 0 ≡ add32 (get_or s i 0) (get_or t i 0)
unfolding add_words
get_d_sum [] t i h g = absurd (omega arith)
get_d_sum (a ∷ s) [] i h g = absurd (omega arith)
get_d_sum (a ∷ s) (b ∷ t) zero h g = refl
get_d_sum (a ∷ s) (b ∷ t) (suc i) h g = get_d_sum s t i (omega arith) (omega arith)

-- the first i sums of two states stand at the front of the block
abbrev pub Filled : List ℕ → List ℕ → List ℕ → List ℕ → ℕ → Type 0
Filled s t o₀ o i = o ≡ splice o₀ 0 (serialise (take i (add_words s t)))

pub finish_none : (s t o₀ : List ℕ) → Filled s t o₀ o₀ 0
unfolding serialise
finish_none s t o₀ = sym (splice_none o₀ 0)

-- a turn of the loop over the words, and its end
module _ (s t o₀ : List ℕ) (hs : length s ≡ 16) (ht : length t ≡ 16) (ho : length o₀ ≡ 64) where
  sum_long : length (add_words s t) ≡ 16
  sum_long = length_sum s t (hs ∙ sym ht) ∙ hs

  pub finish_more : (o o' : List ℕ) (i r : ℕ) → i < 16 → Filled s t o₀ o i → r ≡ add32 (get_or s i 0) (get_or t i 0) → o' ≡ splice o (4 * i) (little_bytes 4 r) → Filled s t o₀ o' (i + 1)
  finish_more o o' i r h eo er e =
      let sums = add_words s t in
      let v = serialise (take i sums) in
      let lv : length v ≡ 4 * i = length_serialise (take i sums) ∙ ap (λ (n : ℕ). 4 * n) (length-take-le i sums (omega (arith, sum_long))) in
      let at : 4 * i ≡ 0 + length v = omega arith in
      let w = little_bytes 4 (get_or sums i 0) in
      let fits : 0 + length v + length w ≤ length o₀ = omega (arith, length_little 4 (get_or sums i 0)) in
      e
      ∙ ap (λ (x : ℕ). splice o (4 * i) (little_bytes 4 x)) (er ∙ sym (get_d_sum s t i (omega arith) (omega arith)))
      ∙ ap₂ (λ (l : List ℕ) (n : ℕ). splice l n w) eo at
      ∙ splice_join o₀ 0 v w fits
      ∙ ap (splice o₀ 0) (sym (serialise_more sums i (omega (arith, sum_long))))
      ∙ ap (λ (n : ℕ). splice o₀ 0 (serialise (take n sums))) (sym (add-one i))

  pub finish_all : (o : List ℕ) (i : ℕ) → i ≡ 16 → Filled s t o₀ o i → o ≡ serialise (add_words s t)
  finish_all o i e eo =
      let sums = add_words s t in
      let long : length (serialise sums) ≡ length o₀ = omega (arith, length_serialise sums, sum_long) in
      eo
      ∙ ap (λ (l : List ℕ). splice o₀ 0 (serialise l)) (take_all i sums (omega (arith, sum_long)))
      ∙ splice_all o₀ (serialise sums) long
