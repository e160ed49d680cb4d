-- A word as a piece meets its contract: the blank and the word are added one after the other. Assumes nothing.
use Rattle.rail.proofs.Spaced.{word_added}
use Rattle.rail.proofs.WordPiece.add.Goals as goal

pub returns : goal.returns
returns c = word_added c.add.ensures c.add-2.ensures
