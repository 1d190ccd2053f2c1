-- `shell::words::put_zone_words` meets its contract: the text that it has is checked against the table, line by line.
use Rattle.shell.proofs.{Saying.{says_all}}
use Rattle.shell.specs.{Text.{bytes}, Words.{table, words_in, words_of, line_at}}
use Rattle.shell.proofs.words.put_zone_words.Goals as goal

pub put_line_of-requires : goal.put_line_of-requires
unfolding bytes line_at table words_in words_of
put_line_of-requires c =
    says_all 40 40 _ tt _ c.requires.0 c.requires.1
