-- What an opening and a game that is kept make of an archive.
use Rattle.std.proofs.Common.{ℕ, ◌≡◌, ◌<◌, ◌≤◌, ◌+◌, ◌==◌, inl, inr, Bool, true, false, List, [], ◌∷◌, ◌++◌, length, map, drop, get_or, Some, refl, sym, ap, subst, ◌∙◌, append_assoc, append-nil}
use Rattle.std.specs.Prelude.{if◌then◌else◌}
use Rattle.std.proofs.lemmas.Bool.Decides.{Decides-eqb}
use Rattle.std.proofs.lemmas.List.{at_drop_more, at_drop_all}
use Rattle.night_files.specs.Lines.{IsRecord, text_of, records_in}
use Rattle.night_files.specs.File.{IsLeft, IsFront, IsShown}
use Rattle.night_files.specs.Runs.{View, IsOpened, IsPut, IsNotPut}
use Rattle.night_files.proofs.Records.{are_found, are-append, text-append, in_text, shown, front_self}
use Rattle.night_files.proofs.Passing.{left_along, left_none}
use Rattle.night_archive.specs.Files.{contains}
use Rattle.night_archive.specs.Laws.{IsOnce}
use Rattle.night_archive.proofs.Lists.{once_more, contains_more}
use Rattle.night_archive.specs.Line.{game_in}
use Rattle.night_archive.specs.Archive.{IsLine, AreLinesOf, Keeps}

-- a game stands there before, or it is one more
has_at : (b here : Bool) → (b ≡ true → here ≡ true) → here ≡ (if b then true else here)
has_at true here f = f refl
has_at false here f = refl

pub has_same : (game g : ℕ) (games : List ℕ) → contains game games ≡ true → contains g games ≡ (if game == g then true else contains g games)
has_same game g games h =
    has_at (game == g) (contains g games) (λ same. ap (λ (n : ℕ). contains n games) (sym ((Decides-eqb game g).0 same)) ∙ h)

pub has_more : (game g : ℕ) (games now : List ℕ) → now ≡ games ++ game ∷ [] → contains g now ≡ (if game == g then true else contains g games)
has_more game g games now e = ap (contains g) e ∙ contains_more g game games

-- one line more
pub lines_more : (games : List ℕ) (lines : List (List ℕ)) (game : ℕ) (line : List ℕ) → AreLinesOf games lines →
    game_in line ≡ Some game → AreLinesOf (games ++ game ∷ []) (lines ++ line ∷ [])
lines_more [] [] game line h e = (e, tt)
lines_more [] (l ∷ ls) game line h e = absurd h
lines_more (g ∷ gs) [] game line h e = absurd h
lines_more (g ∷ gs) (l ∷ ls) game line h e = (h.0, lines_more gs ls game line h.1 e)

-- the records of a line with its line feed
pub line_records : (text line : List ℕ) → IsRecord line → text ≡ line ++ 10 ∷ [] → records_in text ≡ line ∷ []
line_records text line h e = ap records_in e ∙ in_text (line ∷ []) (h, tt)

pub line_whole : (text line : List ℕ) → IsRecord line → text ≡ line ++ 10 ∷ [] → text ≡ text_of (records_in text)
line_whole text line h e = e ∙ sym (ap text_of (line_records text line h e))

kept_text : (lines : List (List ℕ)) (line safe pending now : List ℕ) → safe ≡ text_of lines → pending ≡ [] →
    now ≡ safe ++ (pending ++ text_of (line ∷ [])) → now ≡ text_of (lines ++ line ∷ [])
kept_text lines line safe pending now e f g =
    g ∙ (ap (λ xs. xs ++ (pending ++ text_of (line ∷ []))) e
    ∙ (ap (λ xs. text_of lines ++ (xs ++ text_of (line ∷ []))) f ∙ sym (text-append lines (line ∷ []))))

pub kept : (games now : List ℕ) (lines : List (List ℕ)) (game : ℕ) (line text : List ℕ) (old new : View) →
    Keeps old.safe old.pending games lines → IsLine game line → text ≡ line ++ 10 ∷ [] → contains game games ≡ false →
    now ≡ games ++ game ∷ [] → IsPut old (records_in text) new → Keeps new.safe new.pending now (lines ++ line ∷ [])
kept games now lines game line text old new h is e fresh games_are put =
    let one = line_records text line is.is e in
    record {
      are = are-append lines (line ∷ []) h.are (is.is, tt);
      text = kept_text lines line old.safe old.pending new.safe h.text h.settled
          (put.safe ∙ ap (λ rs. old.safe ++ (old.pending ++ text_of rs)) one);
      settled = put.pending;
      of = subst (λ gs. AreLinesOf gs (lines ++ line ∷ [])) (sym games_are) (lines_more games lines game line h.of is.names);
      once = subst IsOnce (sym games_are) (once_more game games h.once fresh);
    }

-- what a crash leaves where nothing was put
pub left_same : (games : List ℕ) (lines : List (List ℕ)) (line safe pending image : List ℕ) → Keeps safe pending games lines →
    IsLeft safe pending image → IsShown lines (lines ++ line ∷ []) (records_in image)
left_same games lines line safe pending image h l =
    subst (λ rs. IsShown lines (lines ++ line ∷ []) rs)
    (sym (ap records_in (left_none safe pending (text_of lines) image h.text h.settled l) ∙ in_text lines h.are))
    (front_self lines, (line ∷ [], refl))

-- where the line was put and is safe
pub left_put : (games : List ℕ) (lines : List (List ℕ)) (game : ℕ) (line text image : List ℕ) (old new : View) →
    Keeps old.safe old.pending games lines → IsLine game line → text ≡ line ++ 10 ∷ [] → IsPut old (records_in text) new →
    IsLeft new.safe new.pending image → IsShown lines (lines ++ line ∷ []) (records_in image)
left_put games lines game line text image old new h is e put l =
    let all = lines ++ line ∷ [] in
    let now : new.safe ≡ text_of all =
    kept_text lines line old.safe old.pending new.safe h.text h.settled
    (put.safe ∙ ap (λ rs. old.safe ++ (old.pending ++ text_of rs)) (line_records text line is.is e)) in
    subst (λ rs. IsShown lines all rs)
    (sym (ap records_in (left_none new.safe new.pending (text_of all) image now put.pending l)
    ∙ in_text all (are-append lines (line ∷ []) h.are (is.is, tt)))) ((line ∷ [], refl), front_self all)

-- and where the put has failed
pub left_failed : (games : List ℕ) (lines : List (List ℕ)) (game : ℕ) (line text image : List ℕ) (old new : View) →
    Keeps old.safe old.pending games lines → IsLine game line → text ≡ line ++ 10 ∷ [] → IsNotPut old (records_in text) new →
    IsLeft new.safe new.pending image → IsShown lines (lines ++ line ∷ []) (records_in image)
left_failed games lines game line text image old new h is e (inl same) l =
    left_same games lines line old.safe old.pending image h (subst (λ (v : View). IsLeft v.safe v.pending image) same.1 l)
left_failed games lines game line text image old new h is e (inr part) l =
    let one = line_records text line is.is e in
    let front : IsFront new.pending (text_of (line ∷ [])) =
    (part.pending.0, sym (ap (λ xs. xs ++ text_of (records_in text)) h.settled ∙ ap text_of one) ∙ part.pending.1) in
    shown lines (line ∷ []) new.pending image h.are (is.is, tt) front
    (left_along (text_of lines) new.pending new.safe new.pending image (part.safe ∙ h.text) refl l)

-- the lines of a list are looked at, one after the other
pub line_next : {A : Type 0} → (f : A → List ℕ) (lines : List A) (at : ℕ) (d : A) (games now : List ℕ) (game : ℕ) → at < length lines →
    ((more : List ℕ) → AreLinesOf more (map f (drop at lines)) → AreLinesOf (games ++ more) (map f lines)) →
    game_in (f (get_or lines at d)) ≡ Some game → now ≡ games ++ game ∷ [] → (more : List ℕ) →
    AreLinesOf more (map f (drop (at + 1) lines)) → AreLinesOf (now ++ more) (map f lines)
line_next f lines at d games now game l inv e new more h =
    subst (λ gs. AreLinesOf gs (map f lines)) (sym (ap (λ gs. gs ++ more) new ∙ append_assoc games (game ∷ []) more))
    (inv (game ∷ more) (subst (λ ls. AreLinesOf (game ∷ more) ls) (sym (at_drop_more (λ ls. map f ls) lines at d l)) (e, h)))

pub lines_end : {A : Type 0} → (f : A → List ℕ) (lines : List A) (at : ℕ) (games : List ℕ) → length lines ≤ at →
    ((more : List ℕ) → AreLinesOf more (map f (drop at lines)) → AreLinesOf (games ++ more) (map f lines)) →
    AreLinesOf games (map f lines)
lines_end f lines at games l inv =
    subst (λ gs. AreLinesOf gs (map f lines)) (append-nil games)
    (inv [] (subst (λ ls. AreLinesOf [] ls) (sym (at_drop_all (λ ls. map f ls) lines at l)) tt))

-- an archive is opened over a file that was read, and has these games
pub opened_over : (s p read_s read_p games bytes : List ℕ) (old new : View) → read_s ≡ s → read_p ≡ p → bytes ≡ s ++ p →
    IsOpened old (records_in (read_s ++ read_p)) new → AreLinesOf games (records_in bytes) → IsOnce games →
    Keeps new.safe new.pending games (records_in (s ++ p))
opened_over s p read_s read_p games bytes old new e f all h lines_of is_once = record {
  are = are_found (s ++ p);
  text = h.safe ∙ (ap (λ xs. text_of (records_in (xs ++ read_p))) e ∙ ap (λ xs. text_of (records_in (s ++ xs))) f);
  settled = h.pending;
  of = subst (λ xs. AreLinesOf games (records_in xs)) all lines_of;
  once = is_once;
}
