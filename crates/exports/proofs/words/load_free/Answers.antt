use Rattle.exports.proofs.WordLaws.{loaded_free}
use Rattle.exports.proofs.words.load_free.Goals as goal

pub returns : goal.returns
returns c = loaded_free c.args.words.now _ c.args.free.now _ c.load-n.ensures
