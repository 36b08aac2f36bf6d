use mathlib.Core.Path.{ap, ◌∙◌}
use mathlib.Core.List.{List}
use Prim.Native.Nat.{ℕ}
use Rattle.blocks.specs.Layout.{fits}
use Rattle.blocks.specs.Writing.{is_proper}
use borrow.Author.Rules.{rules}
use Rattle.blocks_writer.proofs.is_proper.Goals as goal

pub widths-requires : goal.widths-requires
unfolding is_proper
widths-requires c = search rules

pub fit_fields-requires : goal.fit_fields-requires
unfolding is_proper
fit_fields-requires c = search rules

pub is_allowed-requires : goal.is_allowed-requires
unfolding is_proper
is_allowed-requires c = search rules

pub bounds-fields-0 : goal.bounds-fields-0
unfolding is_proper
bounds-fields-0 c = search rules

pub is_known-requires : goal.is_known-requires
unfolding is_proper
is_known-requires c = search rules

pub returns : goal.returns
unfolding is_proper
returns c = rw (c.fit_fields.ensures ∙ ap (λ (ws : List ℕ). fits ws c.args.fields) c.widths.ensures, c.is_allowed.ensures, c.is_known.ensures)
