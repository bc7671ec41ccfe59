use Rattle.exports.proofs.WordLaws.{loaded}
use Rattle.exports.proofs.words.load.Goals as goal

pub returns : goal.returns
returns c = loaded c.args.words.now _ _ c.part_in-nand.ensures c.fits-words
