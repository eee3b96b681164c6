use Rattle.night_games.proofs.Escaped.{none_is_markup, all_are_references}
use Rattle.night_games.proofs.law.law_of_texts.Goals as goal

pub returns-clause-markup : goal.returns-clause-markup
returns-clause-markup c = λ text. none_is_markup text

pub returns-clause-references : goal.returns-clause-references
returns-clause-references c = λ text. all_are_references text
