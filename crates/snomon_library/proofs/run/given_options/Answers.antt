-- What the words give is what the list of them gives.
use Rattle.snomon_library.proofs.run.given_options.Goals as goal

pub returns-in-Ok-clause-refused : goal.returns-in-Ok-clause-refused
returns-in-Ok-clause-refused g c = rw (c.in-Ok.is) c.read_words.ensures.refused
