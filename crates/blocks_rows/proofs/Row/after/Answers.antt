use mathlib.Core.Path.{sym, ap, ◌∙◌}
use Prim.Native.Nat.{ℕ, ◌/◌, ◌%◌}
use borrow.Author.Tests.{ne_eqb}
use Rattle.blocks.proofs.Rows.{after_by, after_digit}
use borrow.Author.Rules.{rules}
use Rattle.blocks_rows.proofs.Row.after.Goals as goal

pub returns-in-0 : goal.returns-in-0
unfolding after_by
returns-in-0 c = sym (ap after_by c.in-0.is) ∙ ap (λ (r : ℕ). after_by (r / 4294967296 % 8)) c.args.self.is_row ∙ after_digit c.args.self.kind (search rules)

pub returns-in-1 : goal.returns-in-1
unfolding after_by
returns-in-1 c = sym (ap after_by c.in-1.is) ∙ ap (λ (r : ℕ). after_by (r / 4294967296 % 8)) c.args.self.is_row ∙ after_digit c.args.self.kind (search rules)

pub returns-in-2 : goal.returns-in-2
unfolding after_by
returns-in-2 c = sym (ap after_by c.in-2.is) ∙ ap (λ (r : ℕ). after_by (r / 4294967296 % 8)) c.args.self.is_row ∙ after_digit c.args.self.kind (search rules)

pub returns-in-3 : goal.returns-in-3
unfolding after_by
returns-in-3 c = sym (ap after_by c.in-3.is) ∙ ap (λ (r : ℕ). after_by (r / 4294967296 % 8)) c.args.self.is_row ∙ after_digit c.args.self.kind (search rules)

pub returns-in_default : goal.returns-in_default
unfolding after_by
returns-in_default c =
    let n = c.in_default.in_default-own.rest in
    sym (rw (ne_eqb _ 0 n.0.0.0.1, ne_eqb _ 1 n.0.0.1, ne_eqb _ 2 n.0.1, ne_eqb _ 3 n.1)) ∙ ap (λ (r : ℕ). after_by (r / 4294967296 % 8)) c.args.self.is_row ∙ after_digit c.args.self.kind (search rules)
