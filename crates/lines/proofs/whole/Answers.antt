use Rattle.std.proofs.Common.{◌≡◌, ℕ, ◌<◌, ◌≢◌, length, get_or, rules}
use Rattle.lines.proofs.Scans.{whole_found, whole_none}
use Rattle.lines.proofs.whole.Goals as goal

pub returns-in-Some-clause-value : goal.returns-in-Some-clause-value
returns-in-Some-clause-value c =
    let text = c.args.text.now in
    let i = c.in-Some.i in
    let e : get_or text i 0 ≡ 10 = search rules in
    let g : (k : ℕ) → i < k → k < length text → get_or text k 0 ≢ 10 = search rules in
    let n : i < length text = search rules in
    whole_found text i (length text) n e g

pub returns-in-None-clause-value : goal.returns-in-None-clause-value
returns-in-None-clause-value c =
    let text = c.args.text.now in
    let g : (k : ℕ) → k < length text → get_or text k 0 ≢ 10 = search rules in
    whole_none text (length text) g
