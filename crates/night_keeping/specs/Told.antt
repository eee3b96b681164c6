-- What everybody is told of an arbiter's decision about a board.
use Rattle.std.specs.Prelude.{ℕ, List, [], ◌++◌, length, codes, nat_le, Option, None, Some}
use Rattle.std.specs.Prelude.{if◌then◌else◌}
use Rattle.lobby_words.specs.declared.initials.NameForm.{NameForm}
use Rattle.lobby_words.specs.declared.initials.NameForm.TheVariants as forms
use Rattle.night_rounds.specs.declared.decisions.Verdict.{Verdict}
use Rattle.night_rounds.specs.Decisions.{Decided, Grounds, verdict_text}

-- ` (ARTICLE)`, where one was named
abbrev pub article_told : List ℕ → List ℕ
article_told article = if nat_le 1 (length article) then codes " (" ++ article ++ codes ")" else []

-- a verdict alone
abbrev pub verdict_told : Verdict → List ℕ
verdict_told verdict = codes "decided " ++ verdict_text verdict

-- `ARBITER decided VERDICT (ARTICLE): REASON`
abbrev pub ground_told : List ℕ → Grounds → List ℕ
ground_told verdict g = g.arbiter ++ codes " " ++ verdict ++ article_told g.article ++ codes ": " ++ g.reason

-- Where full names are told by initials it is the verdict alone, since the arbiter's is a full name, and names may
-- stand in the reason.
abbrev pub decision_told : NameForm → Decided → List ℕ
decision_told forms.Full d = ground_told (verdict_told d.head.verdict) d.ground
decision_told forms.Initials d = verdict_told d.head.verdict

-- the same of a board about which an arbiter may have decided
abbrev pub told_if : NameForm → Option Decided → List ℕ
told_if form None = []
told_if form (Some d) = decision_told form d
