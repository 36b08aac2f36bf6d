use Rattle.std.proofs.Common.{◌∙◌, refl, rules, arith}
use lib.Bits.{xor_lt}
use Rattle.keystream.specs.Chacha.{add32}
use Rattle.keystream.proofs.Bits.{rotated_word}
use Rattle.keystream.proofs.rounds.line.Goals as goal

pub returns : goal.returns
unfolding add32
returns c =
    (refl, c.rotate_left.ensures ∙ rotated_word c.args.n _ c.requires (xor_lt 32 c.args.z _ (search rules) (omega arith)))
