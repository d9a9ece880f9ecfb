use Rattle.deck_lines.proofs.NextWord.{fits, has_words, ends_text, lies_within}
use Rattle.deck_lines.proofs.words.next_word.Goals as goal

pub slice_bounds-result-count : goal.slice_bounds-result-count
slice_bounds-result-count c = fits c.args.text.now c.from_word-from.result.now c.from_blank-behind.result.now c.from_word-from.ensures c.from_blank-behind.ensures

pub returns-clause-words : goal.returns-clause-words
returns-clause-words c = has_words c.args.text.now c.from_word-from.result.now c.from_blank-behind.result.now c.from_word-from.ensures c.from_blank-behind.ensures

pub returns-clause-none : goal.returns-clause-none
returns-clause-none c = ends_text c.args.text.now c.from_word-from.result.now c.from_blank-behind.result.now c.from_word-from.ensures c.from_blank-behind.ensures

pub returns-clause-within : goal.returns-clause-within
returns-clause-within c = lies_within c.args.text.now c.from_word-from.result.now c.from_blank-behind.result.now c.from_word-from.ensures c.from_blank-behind.ensures
