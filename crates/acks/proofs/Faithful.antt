-- What a report is: refused where the highest is not received, else faithful, so that it names exactly the received numbers of the window, falling; and its pairs are few. Assumes nothing.
use mathlib.Core.Path.{◌≡◌, refl, sym, ap, ◌∙◌}
use mathlib.Core.Bool.{Bool, true, false, cond}
use mathlib.Core.List.{List, [], ◌∷◌, ◌++◌, map}
use Prim.Native.Nat.{ℕ, suc, ◌+◌, ◌-◌, ◌%◌, ◌≤◌, ◌<◌, min}
use native.Mathlib.Omega.{arith}
use lib.ListN.{length, take, replicate, length-map}
use lib.Seq.{take-append_seam}
use Rattle.wire.specs.Parts.{splice}
use Rattle.acks.specs.declared.Tracker.{Tracker}
use Rattle.acks.specs.Window.{falling, window, keep}
use Rattle.acks.specs.History.{highest_of, among}
use Rattle.acks.specs.Tracking.{mark}
use Rattle.acks.specs.Runs.{runs, flags, named, whole_pairs, run_sum}
use Rattle.acks.specs.Reporting.{Report, padded, refused_report, silent, report_of_runs, report_of, ack_info, pair_bytes}
use Rattle.acks.specs.Expanding.{ack_numbers, expand_of, list_after}
use Rattle.acks.proofs.RunLengths.{flags_runs}
use Rattle.acks.proofs.Falling.{named_keep, length_falling, map_falling, window_size, length_keep}
use Rattle.acks.proofs.Counting.{runs_count, runs_short, length_flags, whole_even}
use Rattle.acks.proofs.Answers.{is_0}
use Rattle.acks.proofs.Tracks.{Tracks, Follows}

-- what holds of a report that is not refused
pub record Faithful (top : ℕ) (got : ℕ → Bool) (r : Report) : Type 0 where
  pub number_is : r.number ≡ 0
  pub through_is : r.through ≡ top
  pub names_are : ack_numbers r.through r.count (pair_bytes r) ≡ keep got (window top)
  -- 1, the count and all numbers of the pairs add up to the window's size
  pub adds_up : r.count + run_sum (whole_pairs (pair_bytes r)) ≡ min top 254
  pub even : length (pair_bytes r) % 2 ≡ 0
  pub few : length (pair_bytes r) ≤ 254
  pub sized : length (pair_bytes r) ≡ r.len

module _ (top : ℕ) (got : ℕ → Bool) (h : got top ≡ true) where
  abbrev below : List Bool
  below = map got (falling (top - 1) (min top 254))

  made : (cs : List ℕ) → cs ≡ runs true below → Faithful top got (report_of_runs top cs)
  unfolding report_of_runs padded pair_bytes window ack_numbers falling run_sum
  made [] e = absurd (omega (arith, (runs_count true below).0, ap length e))
  made (c ∷ ps) e =
      record {
        number_is = refl;
        through_is = refl;
        names_are =
            rw (front, whole_even ps pairs)
            (ap (λ l. named top (true ∷ l)) (ap (flags true) e ∙ flags_runs true below) ∙ all);
        adds_up = rw (front, whole_even ps pairs) sum;
        even = rw front pairs;
        few = rw front (omega (arith, pairs, size));
        sized = rw front refl;
      }
    where
      front : take (length ps) (ps ++ replicate (254 - length ps) 0) ≡ ps
      front = take-append_seam ps (replicate (254 - length ps) 0)

      size : suc (length ps) ≤ 256
      size =
          omega (
            arith,
            ap length e,
            runs_short true below,
            length-map (falling (top - 1) (min top 254)) got,
            length_falling (top - 1) (min top 254),
          )

      pairs : length ps % 2 ≡ 0
      pairs = less (length ps) (ap (λ l. length l % 2) e ∙ (runs_count true below).1)
        where
          less : (n : ℕ) → suc n % 2 ≡ 1 → n % 2 ≡ 0
          less n q = omega arith

      all : named top (true ∷ below) ≡ keep got (falling top (suc (min top 254)))
      all = ap (λ b. named top (b ∷ below)) (sym h) ∙ named_keep got top (suc (min top 254))

      sum : c + run_sum ps ≡ min top 254
      sum =
          sym (length_flags true (c ∷ ps))
          ∙ ap length (ap (flags true) e ∙ flags_runs true below)
          ∙ length-map (falling (top - 1) (min top 254)) got
          ∙ length_falling (top - 1) (min top 254)

  pub faithful : Faithful top got (report_of top got)
  unfolding report_of
  faithful = rw h (made (runs true below) refl)

-- where the highest is not received: the refusal
pub unheard : (top : ℕ) (got : ℕ → Bool) → got top ≡ false → report_of top got ≡ silent
unfolding report_of
unheard top got h = rw h

-- a tracker reports what it tracks
pub report_is : {top : ℕ} {got : ℕ → Bool} {t : Tracker} → Tracks top got t → ack_info t ≡ report_of top got
unfolding ack_info report_of
report_is {top} {got} {t} w =
    rw (w.same, w.inside top (omega arith) (omega arith), map_falling (mark t.marks) got (top - 1) (min top 254) inside)
  where
    inside : (x : ℕ) → x ≤ top - 1 → top - 1 < x + min top 254 → mark t.marks x ≡ got x
    inside x le lt = w.inside x (omega arith) (omega arith)

-- so a report of it that is not refused is a faithful one
pub told : {l : List ℕ} {t : Tracker} → Follows l t → (ack_info t).number ≡ 0 → Faithful (highest_of l) (among l) (ack_info t)
unfolding refused_report
told {l} {t} f given = go (among l (highest_of l)) refl
  where
    go : (b : Bool) → among l (highest_of l) ≡ b → Faithful (highest_of l) (among l) (ack_info t)
    go true e = rw (report_is f.tracks) (faithful (highest_of l) (among l) e)
    go false e =
        let q : (ack_info t).number ≡ 41 = ap (λ (x : Report). x.number) (report_is f.tracks ∙ unheard (highest_of l) (among l) e) in
        absurd (omega (arith, q, given))

-- a report, expanded into a list of at least 255 places
pub expands : (top : ℕ) (got : ℕ → Bool) (r : Report) → Faithful top got r → (list : List ℕ) → 255 ≤ length list →
    (expand_of r.through r.count (pair_bytes r) (length list) ≡ record { number = 0; count = length (keep got (window top)) })
    × (list_after r.through r.count (pair_bytes r) list ≡ splice list 0 (keep got (window top)))
expands top got r f list big =
    let low : r.count + run_sum (whole_pairs (pair_bytes r)) ≤ r.through = omega (arith, f.adds_up, f.through_is) in
    let few : length (ack_numbers r.through r.count (pair_bytes r)) ≤ length list =
    omega (arith, ap length f.names_are, length_keep got (window top), window_size top) in
    let z = is_0 r.through r.count (pair_bytes r) list low few in (
      sym z.0 ∙ ap (λ l. record { number = 0; count = length l }) f.names_are,
      sym z.1 ∙ ap (splice list 0) f.names_are,
    )

-- a report has at most 127 pairs, so that its 254 bytes hold them
pub at_most_254 : (top : ℕ) (got : ℕ → Bool) → (report_of top got).len ≤ 254
unfolding report_of report_of_runs refused_report
at_most_254 top got = go (got top) (runs true (map got (falling (top - 1) (min top 254)))) size (runs_count true _).1
  where
    size : length (runs true (map got (falling (top - 1) (min top 254)))) ≤ 256
    size =
        omega (
          arith,
          runs_short true (map got (falling (top - 1) (min top 254))),
          length-map (falling (top - 1) (min top 254)) got,
          length_falling (top - 1) (min top 254),
        )

    go : (b : Bool) (cs : List ℕ) → length cs ≤ 256 → length cs % 2 ≡ 1 → (cond b (report_of_runs top cs) silent).len ≤ 254
    go false cs h o = omega arith
    go true [] h o = omega arith
    go true (c ∷ ps) h o = omega arith

-- those that it has are its pair bytes
pub pairs_cut : (r : Report) → take r.len r.pairs ≡ pair_bytes r
unfolding pair_bytes
pairs_cut r = refl
