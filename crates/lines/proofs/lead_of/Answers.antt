use Rattle.std.proofs.Common.{ap, ◌∙◌, ℕ, Option, length, arith}
use Rattle.std.specs.Option.{unwrap_or}
use Rattle.lines.proofs.Scans.{lead_found, lead_le}
use Rattle.lines.proofs.lead_of.Goals as goal

pub returns : goal.returns
returns c =
    let text = c.args.text.now in
    let e = c.unwrap_or.ensures ∙ ap (λ (o : Option ℕ). unwrap_or o (length text)) c.first_end.ensures ∙ lead_found c.args.own text in
    record { value = e; bound = omega (arith, e, lead_le c.args.own text) }
