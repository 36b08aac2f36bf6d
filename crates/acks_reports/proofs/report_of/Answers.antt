use native.Mathlib.Omega.{arith}
use mathlib.Core.Path.{◌≡◌, sym, ◌∙◌}
use mathlib.Core.Bool.{Bool, true, false}
use mathlib.Core.List.{List}
use Prim.Native.Nat.{ℕ, ◌≤◌}
use Rattle.acks.specs.Tracking.{mark}
use Rattle.acks.specs.Runs.{leading}
use Rattle.acks.specs.Reporting.{view, report_of_runs}
use Rattle.acks.proofs.Pairs.{quiet, leading_view_le, after_count, reported}
use Rattle.acks_reports.proofs.report_of.Goals as goal

-- a run among the k numbers below top is no longer than k
within_k : (b : Bool) (m : List ℕ) (top k count : ℕ) → count ≡ leading b (view m top k) → count ≤ k
within_k b m top k count e = rw e (leading_view_le b m top k)

pub returns-then-not-is_marked : goal.returns-then-not-is_marked
returns-then-not-is_marked c =
    let a = c.args.seen in
    let e : mark a.marks.now a.top ≡ false = sym c.is_marked.ensures ∙ c.if-not-is_marked.true in
    sym (quiet a.marks.now a.top e)

pub overflow_sub-top : goal.overflow_sub-top
overflow_sub-top c = omega (arith, within_k _ _ _ _ _ c.run-count.ensures)

pub overflow_sub-k : goal.overflow_sub-k
overflow_sub-k c = omega (arith, within_k _ _ _ _ _ c.run-count.ensures)

pub pairs-pairs-requires : goal.pairs-pairs-requires
pairs-pairs-requires c =
    let a = c.args.seen in (
      omega (arith, within_k _ _ _ _ _ c.run-count.ensures),
      omega (arith, within_k _ _ _ _ _ c.run-count.ensures),
      after_count a.marks.now a.top c.min-k.result c.run-count.result c.run-count.ensures,
    )

pub overflow_cast-result : goal.overflow_cast-result
overflow_cast-result c = omega (arith, within_k _ _ _ _ _ c.run-count.ensures)

pub returns : goal.returns
unfolding report_of_runs
returns c =
    let a = c.args.seen in
    let e : mark a.marks.now a.top ≡ true = sym c.is_marked.ensures ∙ c.if-not-is_marked.false in
    sym
    (reported a.marks.now a.top c.min-k.result c.run-count.result e c.min-k.ensures c.run-count.ensures
    ∙ rw (c.pairs-pairs.ensures.0, c.pairs-pairs.ensures.1))
