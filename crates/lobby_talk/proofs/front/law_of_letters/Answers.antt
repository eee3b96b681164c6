use Rattle.lobby_talk.proofs.Frames.{letters_are, offers_are, is_seen, whole_are, cut_are}
use Rattle.lobby_talk.proofs.front.law_of_letters.Goals as goal

pub returns-clause-letters : goal.returns-clause-letters
returns-clause-letters c = λ key text rest four long few. letters_are key text rest four long few

pub returns-clause-offers : goal.returns-clause-offers
returns-clause-offers c = λ key text rest four long few. offers_are key text rest four long few

pub returns-clause-shown : goal.returns-clause-shown
returns-clause-shown c = λ key text rest few. is_seen key text rest few

pub returns-clause-whole : goal.returns-clause-whole
returns-clause-whole c = λ key text rest four few. whole_are key text rest four few

pub returns-clause-cut : goal.returns-clause-cut
returns-clause-cut c = λ key text count four few less. cut_are key text count four few less
