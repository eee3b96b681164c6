use Rattle.night_rounds.proofs.NotesBack.{note_back}
use Rattle.night_rounds.proofs.law.law_of_notes.Goals as goal

pub returns : goal.returns
returns c = λ n is. note_back n is
