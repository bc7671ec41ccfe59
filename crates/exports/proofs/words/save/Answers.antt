use mathlib.Core.Path.{◌∙◌}
use Rattle.exports.proofs.WordLaws.{byte_bit, saved}
use Rattle.exports.proofs.words.save.Goals as goal

pub returns : goal.returns
returns c = saved c.args.numbers _ _ _ _ (c.from-on.ensures ∙ byte_bit _) c.narrow-blocks.ensures c.narrow-count.ensures c.part_word-part.ensures
