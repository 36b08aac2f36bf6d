use mathlib.Core.Logic.{inl, inr, ⊎_elim}
use borrow.Author.Rules.{rules}
use borrow.Author.Tests.{ne_eqb}
use Rattle.blocks.specs.Layout.{sum, eight}
use Rattle.blocks.specs.Table.{look, widths, after_fields, typed, field_length}
use Rattle.blocks.specs.Packed.{packed, row_number}
use Rattle.blocks.proofs.Rows.{bytes_alone}
use Rattle.blocks_rows.proofs.number_of.Goals as goal

pub returns-in-0 : goal.returns-in-0
unfolding row_number packed eight widths after_fields typed look field_length sum
returns-in-0 c = ⊎_elim (λ e. rw e) (⊎_elim (λ e. rw e) (λ e. rw e)) c.in-0.is

pub returns-in-1 : goal.returns-in-1
unfolding row_number packed eight widths after_fields typed look field_length sum
returns-in-1 c = rw c.in-1.is

pub returns-in-2 : goal.returns-in-2
unfolding row_number packed eight widths after_fields typed look field_length sum
returns-in-2 c = rw c.in-2.is

pub returns-in-3 : goal.returns-in-3
unfolding row_number packed eight widths after_fields typed look field_length sum
returns-in-3 c = rw c.in-3.is

pub returns-in-4 : goal.returns-in-4
unfolding row_number packed eight widths after_fields typed look field_length sum
returns-in-4 c = rw c.in-4.is

pub returns-in-5 : goal.returns-in-5
unfolding row_number packed eight widths after_fields typed look field_length sum
returns-in-5 c = rw c.in-5.is

pub returns-in-6 : goal.returns-in-6
unfolding row_number packed eight widths after_fields typed look field_length sum
returns-in-6 c = rw c.in-6.is

pub returns-in-12 : goal.returns-in-12
unfolding row_number packed eight widths after_fields typed look field_length sum
returns-in-12 c = rw c.in-12.is

pub returns-in-13 : goal.returns-in-13
unfolding row_number packed eight widths after_fields typed look field_length sum
returns-in-13 c = rw c.in-13.is

pub returns-in-15 : goal.returns-in-15
unfolding row_number packed eight widths after_fields typed look field_length sum
returns-in-15 c = rw c.in-15.is

pub returns-in-17 : goal.returns-in-17
unfolding row_number packed eight widths after_fields typed look field_length sum
returns-in-17 c = rw c.in-17.is

pub returns-in-21 : goal.returns-in-21
unfolding row_number packed eight widths after_fields typed look field_length sum
returns-in-21 c = rw c.in-21.is

pub returns-in_default : goal.returns-in_default
unfolding row_number packed eight widths after_fields typed look field_length sum
returns-in_default c = let n = c.in_default.in_default-own.rest in let first = n.0.0.0.0.0.0.0.0.0.0.0.1 in bytes_alone c.args.kind (search rules) (simp (ne_eqb _ 0 (λ e. first (inl e)), ne_eqb _ 16 (λ e. first (inr (inl e))), ne_eqb _ 20 (λ e. first (inr (inr e))), ne_eqb _ 1 n.0.0.0.0.0.0.0.0.0.0.1, ne_eqb _ 2 n.0.0.0.0.0.0.0.0.0.1, ne_eqb _ 3 n.0.0.0.0.0.0.0.0.1, ne_eqb _ 4 n.0.0.0.0.0.0.0.1, ne_eqb _ 5 n.0.0.0.0.0.0.1, ne_eqb _ 6 n.0.0.0.0.0.1, ne_eqb _ 12 n.0.0.0.0.1, ne_eqb _ 13 n.0.0.0.1, ne_eqb _ 15 n.0.0.1, ne_eqb _ 17 n.0.1, ne_eqb _ 21 n.1))
