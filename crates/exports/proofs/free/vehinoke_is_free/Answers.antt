use mathlib.Core.Path.{ap, ◌∙◌}
use Rattle.exports.specs.Words.{bit}
use Rattle.exports.proofs.WordLaws.{byte_bit}
use Rattle.exports.proofs.free.vehinoke_is_free.Goals as goal

pub returns : goal.returns
returns c = c.from.ensures ∙ (byte_bit _ ∙ ap bit c.is_free.ensures)
