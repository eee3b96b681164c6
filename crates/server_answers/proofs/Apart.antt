-- What was entered is not refused.
use Rattle.std.proofs.Common.{ℕ, ◌≡◌, Bool, true, false, List, Option, Some, None, codes, refl, sym, ap, ◌∙◌}
use Rattle.std.specs.Prelude.{is_some}
use Rattle.std.specs.Str.{bytes_eq}
use Rattle.std.proofs.lemmas.Bool.{false≢true}
use Rattle.server_answers.specs.declared.refusals.Refusal.{Refusal}
use Rattle.server_answers.specs.declared.refusals.Refusal.TheVariants as refusals
use Rattle.server_answers.specs.Fields.{field_of, line_of}
use Rattle.server_answers.specs.Entered.{Entered, Done, Opened, Joined, Moved, Offered, Accepted, Declined, Resigned, Claimed, ClaimedWrongly, Fallen, Dropped, done_fields, entered_in}
use Rattle.server_answers.specs.Refusals.{refusal_line, refusal_in}
use Rattle.server_answers.proofs.DoneActs.{entered_only}
use Rattle.server_answers.proofs.Refused.{refusal_only}

-- whether a line begins as a refusal
abbrev says_no : List ℕ → Bool
says_no line = bytes_eq (field_of line) (codes "no")

done_says : (game : ℕ) (done : Done) → says_no (line_of (done_fields game done)) ≡ false
done_says game Opened = refl
done_says game (Joined side) = refl
done_says game (Moved made) = refl
done_says game Offered = refl
done_says game (Accepted ending) = refl
done_says game Declined = refl
done_says game (Resigned ending) = refl
done_says game (Claimed ending) = refl
done_says game (ClaimedWrongly made) = refl
done_says game (Fallen ending) = refl
done_says game Dropped = refl

refusal_says : (r : Refusal) → says_no (refusal_line r) ≡ true
refusal_says (refusals.WrongPly ply) = refl
refusal_says refusals.BadLine = refl
refusal_says refusals.NoName = refl
refusal_says refusals.NoGame = refl
refusal_says refusals.NotSeated = refl
refusal_says refusals.NotStarted = refl
refusal_says refusals.Over = refl
refusal_says refusals.NotYourMove = refl
refusal_says refusals.BadMove = refl
refusal_says refusals.OfferStands = refl
refusal_says refusals.NoOffer = refl
refusal_says refusals.TooEarly = refl
refusal_says refusals.AlreadyClaimed = refl
refusal_says refusals.FlagUp = refl
refusal_says refusals.Taken = refl
refusal_says refusals.SamePlayer = refl
refusal_says refusals.BadFen = refl
refusal_says refusals.BadTime = refl
refusal_says refusals.TooManyGames = refl
refusal_says refusals.TooLong = refl
refusal_says refusals.NotOver = refl
refusal_says refusals.NoMemory = refl
refusal_says refusals.BadMoment = refl
refusal_says refusals.Finished = refl

none_at : (line : List ℕ) (e : Entered) (o : Option Refusal) → entered_in line ≡ Some e → refusal_in line ≡ o → o ≡ None
none_at line e None h k = refl
none_at line e (Some r) h k =
    absurd (false≢true (sym (ap says_no (entered_only line e h).0 ∙ done_says e.game e.done) ∙ (ap says_no (refusal_only line r k) ∙ refusal_says r)))

some_at : (line : List ℕ) (o : Option Entered) → entered_in line ≡ o → is_some o ≡ true → refusal_in line ≡ None
some_at line None h k = absurd (false≢true k)
some_at line (Some e) h k = none_at line e (refusal_in line) h refl

pub refusal_none : (line : List ℕ) → is_some (entered_in line) ≡ true → refusal_in line ≡ None
refusal_none line h = some_at line (entered_in line) refl h
