use Rattle.night_archive.proofs.Cuts.{game_read, pgn_read, only, only_text}
use Rattle.night_archive.proofs.law.law_of_lines.Goals as goal

pub returns-clause-game : goal.returns-clause-game
returns-clause-game c = λ game pgn small h. game_read game pgn small h

pub returns-clause-pgn : goal.returns-clause-pgn
returns-clause-pgn c = λ game pgn small. pgn_read game pgn small

pub returns-clause-only : goal.returns-clause-only
returns-clause-only c = λ game line h. only game line h

pub returns-clause-text : goal.returns-clause-text
returns-clause-text c = λ game line h. only_text game line h
