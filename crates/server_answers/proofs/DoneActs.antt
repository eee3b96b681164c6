-- An act that was entered is read as it was meant, and nothing else is read so.
use Rattle.std.proofs.Common.{ℕ, zero, suc, ◌≡◌, ◌<◌, ◌^◌, ◌==◌, Bool, true, false, ◌&&◌, List, [], ◌∷◌, length, Option, Some, None, codes, decimal, refl, sym, ap, subst, ◌∙◌, arith}
use Rattle.std.specs.Prelude.{if◌then◌else◌}
use Rattle.std.specs.Str.{bytes_eq}
use Rattle.std.proofs.lemmas.Bool.Decides.{nat_tests}
use Rattle.std.proofs.lemmas.Option.{none-some, same_Some}
use Rattle.std.proofs.lemmas.Slice.Eq.{bytes_eq-Decides}
use Rattle.text_parts.proofs.Cuts.{Lacks}
use Rattle.server_answers.specs.declared.values.Side.{Side}
use Rattle.server_answers.specs.declared.values.Side.TheVariants as sides
use Rattle.server_answers.specs.declared.values.Ending.{Ending}
use Rattle.server_answers.specs.Fields.{rest_of, first_fields, field_count, line_of}
use Rattle.server_answers.specs.Values.{score_text, article_text, u32_in, told, end_in}
use Rattle.server_answers.specs.Entered.{Made, Done, Opened, Joined, Moved, Offered, Accepted, Declined, Resigned, Claimed, ClaimedWrongly, Fallen, Dropped, Entered, IsMade, IsDone, IsEntered, end_fields, ending_fields, made_fields, seat_word, ok_fields, done_fields, entered_line, done_by_word, seat_side, joined, done_with_word, made_from, made_with, moved, claimed_wrongly, fallen, done_at_end, move_or_end, if_move, if_wrong, entered_with, if_ok, by_3, by_4, by_5, by_6, by_7, by_8, entered_at, entered_in}
use Rattle.server_answers.proofs.Joined.{EachLacks, count_joined, joined_at, fields_joined, field_lacks}
use Rattle.server_answers.proofs.Spelled.{pick, u32_only, u32_read, u32_lacks, end_read, end_only, score_lacks, article_lacks}

-- ---- a line of so many fields

line_of_3 : (a b c : List ℕ) → EachLacks (a ∷ b ∷ c ∷ []) → entered_in (line_of (a ∷ b ∷ c ∷ [])) ≡ by_3 (a ∷ b ∷ c ∷ [])
unfolding entered_in
line_of_3 a b c lack =
    let line = line_of (a ∷ b ∷ c ∷ []) in
    ap (λ (n : ℕ). entered_at n line) (count_joined a (b ∷ c ∷ []) lack) ∙ ap by_3 (fields_joined a (b ∷ c ∷ []) lack)

line_of_4 : (a b c d : List ℕ) → EachLacks (a ∷ b ∷ c ∷ d ∷ []) → entered_in (line_of (a ∷ b ∷ c ∷ d ∷ [])) ≡ by_4 (a ∷ b ∷ c ∷ d ∷ [])
unfolding entered_in
line_of_4 a b c d lack =
    let line = line_of (a ∷ b ∷ c ∷ d ∷ []) in
    ap (λ (n : ℕ). entered_at n line) (count_joined a (b ∷ c ∷ d ∷ []) lack) ∙ ap by_4 (fields_joined a (b ∷ c ∷ d ∷ []) lack)

line_of_5 : (a b c d e : List ℕ) → EachLacks (a ∷ b ∷ c ∷ d ∷ e ∷ []) →
    entered_in (line_of (a ∷ b ∷ c ∷ d ∷ e ∷ [])) ≡ by_5 (a ∷ b ∷ c ∷ d ∷ e ∷ [])
unfolding entered_in
line_of_5 a b c d e lack =
    let line = line_of (a ∷ b ∷ c ∷ d ∷ e ∷ []) in
    ap (λ (n : ℕ). entered_at n line) (count_joined a (b ∷ c ∷ d ∷ e ∷ []) lack) ∙ ap by_5 (fields_joined a (b ∷ c ∷ d ∷ e ∷ []) lack)

line_of_6 : (a b c d e f : List ℕ) → EachLacks (a ∷ b ∷ c ∷ d ∷ e ∷ f ∷ []) →
    entered_in (line_of (a ∷ b ∷ c ∷ d ∷ e ∷ f ∷ [])) ≡ by_6 (a ∷ b ∷ c ∷ d ∷ e ∷ f ∷ [])
unfolding entered_in
line_of_6 a b c d e f lack =
    let line = line_of (a ∷ b ∷ c ∷ d ∷ e ∷ f ∷ []) in
    ap (λ (n : ℕ). entered_at n line) (count_joined a (b ∷ c ∷ d ∷ e ∷ f ∷ []) lack)
    ∙ ap by_6 (fields_joined a (b ∷ c ∷ d ∷ e ∷ f ∷ []) lack)

line_of_7 : (a b c d e f g : List ℕ) → EachLacks (a ∷ b ∷ c ∷ d ∷ e ∷ f ∷ g ∷ []) →
    entered_in (line_of (a ∷ b ∷ c ∷ d ∷ e ∷ f ∷ g ∷ [])) ≡ by_7 (a ∷ b ∷ c ∷ d ∷ e ∷ f ∷ g ∷ [])
unfolding entered_in
line_of_7 a b c d e f g lack =
    let line = line_of (a ∷ b ∷ c ∷ d ∷ e ∷ f ∷ g ∷ []) in
    ap (λ (n : ℕ). entered_at n line) (count_joined a (b ∷ c ∷ d ∷ e ∷ f ∷ g ∷ []) lack)
    ∙ ap by_7 (fields_joined a (b ∷ c ∷ d ∷ e ∷ f ∷ g ∷ []) lack)

line_of_8 : (a b c d e f g h : List ℕ) → EachLacks (a ∷ b ∷ c ∷ d ∷ e ∷ f ∷ g ∷ h ∷ []) →
    entered_in (line_of (a ∷ b ∷ c ∷ d ∷ e ∷ f ∷ g ∷ h ∷ [])) ≡ by_8 (a ∷ b ∷ c ∷ d ∷ e ∷ f ∷ g ∷ h ∷ [])
unfolding entered_in
line_of_8 a b c d e f g h lack =
    let line = line_of (a ∷ b ∷ c ∷ d ∷ e ∷ f ∷ g ∷ h ∷ []) in
    ap (λ (n : ℕ). entered_at n line) (count_joined a (b ∷ c ∷ d ∷ e ∷ f ∷ g ∷ h ∷ []) lack)
    ∙ ap by_8 (fields_joined a (b ∷ c ∷ d ∷ e ∷ f ∷ g ∷ h ∷ []) lack)

-- ---- what is spelled is read

with_game : (game : ℕ) (o : Option Done) (done : Done) → game < 2 ^ 32 → o ≡ Some done →
    entered_with (u32_in (decimal game)) o ≡ Some (record { game = game; done = done })
with_game game o done small is = rw (u32_read game small) (rw is refl)

made_read : (made : Made) (ending : Option (Option Ending)) → IsMade made → ending ≡ Some made.ending →
    made_with (decimal made.ply) made.san ending ≡ Some made
made_read made ending is e = rw (u32_read made.ply is.ply) (rw e (rw is.some refl))

told_read : (ending : Ending) → told (end_in (score_text ending.result) (article_text ending.article)) ≡ Some (Some ending)
told_read ending = ap told (end_read ending)

side_read : (side : Side) → joined (seat_side (seat_word side)) ≡ Some (Joined side)
side_read sides.White = refl
side_read sides.Black = refl

seat_word_lacks : (side : Side) → Lacks 32 (seat_word side)
seat_word_lacks sides.White = refl
seat_word_lacks sides.Black = refl

word_lacks : (word : List ℕ) (game : ℕ) (more : List (List ℕ)) → Lacks 32 word → game < 2 ^ 32 → EachLacks more →
    EachLacks (ok_fields word game more)
word_lacks word game more lacks small rest = (refl, (lacks, (u32_lacks game small, rest)))

end_lacks : (ending : Ending) → EachLacks (end_fields ending)
end_lacks ending = (score_lacks ending.result, (article_lacks ending.article, tt))

made_lacks : (made : Made) (more : List (List ℕ)) → IsMade made → EachLacks more → EachLacks (decimal made.ply ∷ made.san ∷ more)
made_lacks made more is rest = (u32_lacks made.ply is.ply, (is.field, rest))

moved_read : (game : ℕ) (made : Made) (ending : Option Ending) → game < 2 ^ 32 → IsMade made → made.ending ≡ ending →
    entered_in (line_of (ok_fields (codes "move") game (decimal made.ply ∷ made.san ∷ ending_fields ending))) ≡
    Some (record { game = game; done = Moved made })
moved_read game made None small is e =
    line_of_5 (codes "ok") (codes "move") (decimal game) (decimal made.ply) made.san
    (word_lacks (codes "move") game (decimal made.ply ∷ made.san ∷ []) refl small (made_lacks made [] is tt))
    ∙ with_game game (moved (made_with (decimal made.ply) made.san (Some None))) (Moved made) small
    (ap moved (made_read made (Some None) is (ap Some (sym e))))
moved_read game made (Some ending) small is e =
    line_of_7 (codes "ok") (codes "move") (decimal game) (decimal made.ply) made.san (score_text ending.result) (article_text ending.article)
    (word_lacks (codes "move") game (decimal made.ply ∷ made.san ∷ end_fields ending) refl small (made_lacks made (end_fields ending) is (end_lacks ending)))
    ∙ with_game game (moved (made_with (decimal made.ply) made.san (told (end_in (score_text ending.result) (article_text ending.article))))) (Moved made) small
    (ap moved (made_read made (told (end_in (score_text ending.result) (article_text ending.article))) is (told_read ending ∙ ap Some (sym e))))

wrong_read : (game : ℕ) (made : Made) (ending : Option Ending) → game < 2 ^ 32 → IsMade made → made.ending ≡ ending →
    entered_in (line_of (ok_fields (codes "claim") game (codes "wrong" ∷ decimal made.ply ∷ made.san ∷ ending_fields ending))) ≡
    Some (record { game = game; done = ClaimedWrongly (Some made) })
wrong_read game made None small is e =
    line_of_6 (codes "ok") (codes "claim") (decimal game) (codes "wrong") (decimal made.ply) made.san
    (word_lacks (codes "claim") game (codes "wrong" ∷ decimal made.ply ∷ made.san ∷ []) refl small (refl, made_lacks made [] is tt))
    ∙ with_game game (claimed_wrongly (made_with (decimal made.ply) made.san (Some None))) (ClaimedWrongly (Some made)) small
    (ap claimed_wrongly (made_read made (Some None) is (ap Some (sym e))))
wrong_read game made (Some ending) small is e =
    line_of_8 (codes "ok") (codes "claim") (decimal game) (codes "wrong") (decimal made.ply) made.san (score_text ending.result) (article_text ending.article)
    (word_lacks (codes "claim") game (codes "wrong" ∷ decimal made.ply ∷ made.san ∷ end_fields ending) refl small (refl, made_lacks made (end_fields ending) is (end_lacks ending)))
    ∙ with_game game (claimed_wrongly (made_with (decimal made.ply) made.san (told (end_in (score_text ending.result) (article_text ending.article))))) (ClaimedWrongly (Some made)) small
    (ap claimed_wrongly (made_read made (told (end_in (score_text ending.result) (article_text ending.article))) is (told_read ending ∙ ap Some (sym e))))

alone_read : (word : List ℕ) (done : Done) (game : ℕ) → Lacks 32 word → game < 2 ^ 32 → done_by_word word ≡ Some done →
    entered_in (line_of (ok_fields word game [])) ≡ Some (record { game = game; done = done })
alone_read word done game lacks small is =
    line_of_3 (codes "ok") word (decimal game) (word_lacks word game [] lacks small tt) ∙ with_game game (done_by_word word) done small is

-- an act that ends the game
ended_read : (word : List ℕ) (done : Ending → Done) (ending : Ending) (game : ℕ) → Lacks 32 word → game < 2 ^ 32 →
    ((first second : List ℕ) → move_or_end word first second ≡ done_at_end word (end_in first second)) →
    done_at_end word (Some ending) ≡ Some (done ending) →
    entered_in (line_of (ok_fields word game (end_fields ending))) ≡ Some (record { game = game; done = done ending })
ended_read word done ending game lacks small plain is =
    line_of_5 (codes "ok") word (decimal game) (score_text ending.result) (article_text ending.article)
    (word_lacks word game (end_fields ending) lacks small (end_lacks ending))
    ∙ with_game game (move_or_end word (score_text ending.result) (article_text ending.article)) (done ending) small
    (plain (score_text ending.result) (article_text ending.article) ∙ (ap (done_at_end word) (end_read ending) ∙ is))

done_read : (game : ℕ) (done : Done) → game < 2 ^ 32 → IsDone done →
    entered_in (line_of (done_fields game done)) ≡ Some (record { game = game; done = done })
done_read game Opened small is = alone_read (codes "open") Opened game refl small refl
done_read game (Joined side) small is =
    line_of_4 (codes "ok") (codes "join") (decimal game) (seat_word side)
    (word_lacks (codes "join") game (seat_word side ∷ []) refl small (seat_word_lacks side, tt))
    ∙ with_game game (joined (seat_side (seat_word side))) (Joined side) small (side_read side)
done_read game (Moved made) small is = moved_read game made made.ending small is refl
done_read game Offered small is = alone_read (codes "offer") Offered game refl small refl
done_read game (Accepted ending) small is = ended_read (codes "accept") Accepted ending game refl small (λ a b. refl) refl
done_read game Declined small is = alone_read (codes "decline") Declined game refl small refl
done_read game (Resigned ending) small is = ended_read (codes "resign") Resigned ending game refl small (λ a b. refl) refl
done_read game (Claimed ending) small is = ended_read (codes "claim") Claimed ending game refl small (λ a b. refl) refl
done_read game (ClaimedWrongly None) small is =
    line_of_4 (codes "ok") (codes "claim") (decimal game) (codes "wrong")
    (word_lacks (codes "claim") game (codes "wrong" ∷ []) refl small (refl, tt))
    ∙ with_game game (Some (ClaimedWrongly None)) (ClaimedWrongly None) small refl
done_read game (ClaimedWrongly (Some made)) small is = wrong_read game made made.ending small is refl
done_read game (Fallen ending) small is =
    line_of_4 (codes "fallen") (decimal game) (score_text ending.result) (article_text ending.article)
    (refl, (u32_lacks game small, end_lacks ending))
    ∙ with_game game (fallen (end_in (score_text ending.result) (article_text ending.article))) (Fallen ending) small
    (ap fallen (end_read ending))
done_read game Dropped small is = alone_read (codes "drop") Dropped game refl small refl

pub entered_read : (e : Entered) → IsEntered e → entered_in (entered_line e) ≡ Some e
entered_read e is = done_read e.game e.done is.game is.done

-- ---- nothing else is read

branch_at : {A : Type 0} (Q : Type 0) (field word : List ℕ) (o more : Option A) (y : A) (b : Bool) → bytes_eq field word ≡ b →
    (field ≡ word → o ≡ Some y → Q) → (more ≡ Some y → Q) → (if b then o else more) ≡ Some y → Q
branch_at Q field word o more y true e here other h = here ((bytes_eq-Decides field word).0 e) h
branch_at Q field word o more y false e here other h = other h

branch : {A : Type 0} (Q : Type 0) (field word : List ℕ) (o more : Option A) (y : A) → (field ≡ word → o ≡ Some y → Q) → (more ≡ Some y → Q) →
    (if bytes_eq field word then o else more) ≡ Some y → Q
branch Q field word o more y here other h = branch_at Q field word o more y (bytes_eq field word) refl here other h

both_at : {A : Type 0} (Q : Type 0) (first one second two : List ℕ) (o : Option A) (y : A) (b c : Bool) → bytes_eq first one ≡ b → bytes_eq second two ≡ c →
    (first ≡ one → second ≡ two → o ≡ Some y → Q) → (if b && c then o else None) ≡ Some y → Q
both_at Q first one second two o y true true e f here h = here ((bytes_eq-Decides first one).0 e) ((bytes_eq-Decides second two).0 f) h
both_at Q first one second two o y true false e f here h = absurd (none-some y h)
both_at Q first one second two o y false c e f here h = absurd (none-some y h)

both : {A : Type 0} (Q : Type 0) (first one second two : List ℕ) (o : Option A) (y : A) → (first ≡ one → second ≡ two → o ≡ Some y → Q) →
    (if bytes_eq first one && bytes_eq second two then o else None) ≡ Some y → Q
both Q first one second two o y here h = both_at Q first one second two o y (bytes_eq first one) (bytes_eq second two) refl refl here h

-- the fields of a line spell an act
abbrev SpellsDone : List (List ℕ) → ℕ → Done → Type 0
SpellsDone fields game done = (fields ≡ done_fields game done) × IsDone done

as_done : (fields : List (List ℕ)) (game : ℕ) (x d : Done) → Some x ≡ Some d → fields ≡ done_fields game x → IsDone x → SpellsDone fields game d
as_done fields game x d h is sound = subst (SpellsDone fields game) (same_Some x d h) (is, sound)

alone_only : (word : List ℕ) (game : ℕ) (d : Done) → done_by_word word ≡ Some d → SpellsDone (ok_fields word game []) game d
alone_only word game d h =
    let Q = SpellsDone (ok_fields word game []) game d in
    branch Q word (codes "open") (Some Opened) _ d (λ is k. as_done _ game Opened d k (ap (λ (w : List ℕ). ok_fields w game []) is) tt) (λ h2.
    branch Q word (codes "offer") (Some Offered) _ d (λ is k. as_done _ game Offered d k (ap (λ (w : List ℕ). ok_fields w game []) is) tt) (λ h3.
    branch Q word (codes "decline") (Some Declined) _ d (λ is k. as_done _ game Declined d k (ap (λ (w : List ℕ). ok_fields w game []) is) tt) (λ h4.
    branch Q word (codes "drop") (Some Dropped) None d (λ is k. as_done _ game Dropped d k (ap (λ (w : List ℕ). ok_fields w game []) is) tt)
    (λ none. absurd (none-some d none)) h4) h3) h2) h

seat_word_only : (word : List ℕ) (side : Side) → seat_side word ≡ Some side → word ≡ seat_word side
seat_word_only word side h =
    pick seat_word word sides.White side _ (λ g. pick seat_word word sides.Black side None (λ none. absurd (none-some side none)) g) h

joined_only : (word last : List ℕ) (game : ℕ) (d : Done) (o : Option Side) → word ≡ codes "join" → seat_side last ≡ o → joined o ≡ Some d →
    SpellsDone (ok_fields word game (last ∷ [])) game d
joined_only word last game d None is e h = absurd (none-some d h)
joined_only word last game d (Some side) is e h =
    as_done _ game (Joined side) d h (rw is (rw (seat_word_only last side e) refl)) tt

with_word_only : (word last : List ℕ) (game : ℕ) (d : Done) → done_with_word word last ≡ Some d → SpellsDone (ok_fields word game (last ∷ [])) game d
with_word_only word last game d h =
    let Q = SpellsDone (ok_fields word game (last ∷ [])) game d in
    branch Q word (codes "join") (joined (seat_side last)) _ d (λ is k. joined_only word last game d (seat_side last) is refl k) (λ h2.
    both Q word (codes "claim") last (codes "wrong") (Some (ClaimedWrongly None)) d
    (λ is wrong k. as_done _ game (ClaimedWrongly None) d k (rw is (rw wrong refl)) tt) h2) h

-- a move that was made, by its fields
record IsMadeOf (ply san : List ℕ) (ending : Option (Option Ending)) (made : Made) : Type 0 where
  ply_is : ply ≡ decimal made.ply
  san_is : san ≡ made.san
  ending_is : ending ≡ Some made.ending
  sound : IsMade made

made_some : (ply san : List ℕ) (n : ℕ) (e : Option Ending) (made : Made) (b : Bool) → u32_in ply ≡ Some n → Lacks 32 san → (length san == 0) ≡ b →
    (if b then None else Some (record { ply = n; san = san; ending = e })) ≡ Some made → IsMadeOf ply san (Some e) made
made_some ply san n e made true num lacks empty h = absurd (none-some made h)
made_some ply san n e made false num lacks some h =
    let number = u32_only ply n num in
    subst (IsMadeOf ply san (Some e)) (same_Some _ made h) (record {
      ply_is = number.spelled;
      san_is = refl;
      ending_is = refl;
      sound = record { ply = number.small; some = some; field = lacks };
    })

made_at : (ply san : List ℕ) (o : Option ℕ) (ending : Option (Option Ending)) (made : Made) → u32_in ply ≡ o → Lacks 32 san →
    made_from o san ending ≡ Some made → IsMadeOf ply san ending made
made_at ply san None ending made num lacks h = absurd (none-some made h)
made_at ply san (Some n) None made num lacks h = absurd (none-some made h)
made_at ply san (Some n) (Some e) made num lacks h = made_some ply san n e made (length san == 0) num lacks refl h

made_only : (ply san : List ℕ) (ending : Option (Option Ending)) (made : Made) → Lacks 32 san → made_with ply san ending ≡ Some made →
    IsMadeOf ply san ending made
made_only ply san ending made lacks h = made_at ply san (u32_in ply) ending made refl lacks h

-- with an ending that is told, or without one
told_fields : (score article : List ℕ) (made : Made) (o : Option Ending) → end_in score article ≡ o → told o ≡ Some made.ending →
    score ∷ article ∷ [] ≡ ending_fields made.ending
told_fields score article made None e h = absurd (none-some made.ending h)
told_fields score article made (Some ending) e h =
    let both = end_only score article ending e in
    subst (λ (x : Option Ending). score ∷ article ∷ [] ≡ ending_fields x) (same_Some (Some ending) made.ending h) (rw both.0 (rw both.1 refl))

open_fields : (made : Made) → Some None ≡ Some made.ending → [] ≡ ending_fields made.ending
open_fields made h = ap ending_fields (same_Some {A = Option Ending} None made.ending h)

spelled_made : (ply san : List ℕ) (ending : Option (Option Ending)) (made : Made) (more : List (List ℕ)) → IsMadeOf ply san ending made →
    more ≡ ending_fields made.ending → ply ∷ san ∷ more ≡ made_fields made
spelled_made ply san ending made more is rest = rw is.ply_is (rw is.san_is (rw rest refl))

moved_only : (ply san word : List ℕ) (game : ℕ) (ending : Option (Option Ending)) (more : List (List ℕ)) (d : Done) (o : Option Made) → word ≡ codes "move" →
    Lacks 32 san → ((made : Made) → ending ≡ Some made.ending → more ≡ ending_fields made.ending) → made_with ply san ending ≡ o → moved o ≡ Some d →
    SpellsDone (ok_fields word game (ply ∷ san ∷ more)) game d
moved_only ply san word game ending more d None is lacks rest e h = absurd (none-some d h)
moved_only ply san word game ending more d (Some made) is lacks rest e h =
    let only = made_only ply san ending made lacks e in
    as_done _ game (Moved made) d h
    (rw is (ap (ok_fields (codes "move") game) (spelled_made ply san ending made more only (rest made only.ending_is)))) only.sound

wrong_only : (ply san word wrong : List ℕ) (game : ℕ) (ending : Option (Option Ending)) (more : List (List ℕ)) (d : Done) (o : Option Made) → word ≡ codes "claim" →
    wrong ≡ codes "wrong" → Lacks 32 san → ((made : Made) → ending ≡ Some made.ending → more ≡ ending_fields made.ending) →
    made_with ply san ending ≡ o → claimed_wrongly o ≡ Some d → SpellsDone (ok_fields word game (wrong ∷ ply ∷ san ∷ more)) game d
wrong_only ply san word wrong game ending more d None is it lacks rest e h = absurd (none-some d h)
wrong_only ply san word wrong game ending more d (Some made) is it lacks rest e h =
    let only = made_only ply san ending made lacks e in
    as_done _ game (ClaimedWrongly (Some made)) d h
    (rw is (rw it (ap (λ (fs : List (List ℕ)). ok_fields (codes "claim") game (codes "wrong" ∷ fs))
    (spelled_made ply san ending made more only (rest made only.ending_is))))) only.sound

end_done : (word score article : List ℕ) (game : ℕ) (d : Done) (o : Option Ending) → end_in score article ≡ o → done_at_end word o ≡ Some d →
    SpellsDone (ok_fields word game (score ∷ article ∷ [])) game d
end_done word score article game d None e h = absurd (none-some d h)
end_done word score article game d (Some ending) e h =
    let ends = end_only score article ending e in
    let Q = SpellsDone (ok_fields word game (score ∷ article ∷ [])) game d in
    branch Q word (codes "accept") (Some (Accepted ending)) _ d
    (λ is k. as_done _ game (Accepted ending) d k (rw is (rw ends.0 (rw ends.1 refl))) tt) (λ h2.
    branch Q word (codes "resign") (Some (Resigned ending)) _ d
    (λ is k. as_done _ game (Resigned ending) d k (rw is (rw ends.0 (rw ends.1 refl))) tt) (λ h3.
    branch Q word (codes "claim") (Some (Claimed ending)) None d
    (λ is k. as_done _ game (Claimed ending) d k (rw is (rw ends.0 (rw ends.1 refl))) tt) (λ none. absurd (none-some d none)) h3) h2) h

move_or_end_only : (word third fourth : List ℕ) (game : ℕ) (d : Done) → Lacks 32 fourth → move_or_end word third fourth ≡ Some d →
    SpellsDone (ok_fields word game (third ∷ fourth ∷ [])) game d
move_or_end_only word third fourth game d lacks h =
    branch (SpellsDone (ok_fields word game (third ∷ fourth ∷ [])) game d) word (codes "move") (moved (made_with third fourth (Some None))) _ d
    (λ is k. moved_only third fourth word game (Some None) [] d (made_with third fourth (Some None)) is lacks (λ made e. open_fields made e) refl k)
    (λ k. end_done word third fourth game d (end_in third fourth) refl k) h

-- ---- a whole line

pub record IsEnteredAs (fields : List (List ℕ)) (e : Entered) : Type 0 where
  pub spelled : fields ≡ done_fields e.game e.done
  pub sound : IsEntered e

record Parts (game : Option ℕ) (done : Option Done) (e : Entered) : Type 0 where
  game_is : game ≡ Some e.game
  done_is : done ≡ Some e.done

with_parts : (game : Option ℕ) (done : Option Done) (e : Entered) → entered_with game done ≡ Some e → Parts game done e
with_parts None what e h = absurd (none-some e h)
with_parts (Some game) None e h = absurd (none-some e h)
with_parts (Some game) (Some done) e h =
    let same = same_Some _ e h in
    record { game_is = ap (λ (x : Entered). Some x.game) same; done_is = ap (λ (x : Entered). Some x.done) same }

ok_only : (first word game : List ℕ) (more : List (List ℕ)) (o : Option Done) (e : Entered) →
    ((d : Done) → o ≡ Some d → SpellsDone (ok_fields word e.game more) e.game d) → if_ok first game o ≡ Some e →
    IsEnteredAs (first ∷ word ∷ game ∷ more) e
ok_only first word game more o e spells h =
    branch (IsEnteredAs (first ∷ word ∷ game ∷ more) e) first (codes "ok") (entered_with (u32_in game) o) None e
    (λ is k. let parts = with_parts (u32_in game) o e k in let number = u32_only game e.game parts.game_is in let done = spells e.done parts.done_is in
    record { spelled = rw is (rw number.spelled done.0); sound = record { game = number.small; done = done.1 } })
    (λ none. absurd (none-some e none)) h

fallen_only : (first word game last : List ℕ) (e : Entered) (o : Option Ending) → first ≡ codes "fallen" → end_in game last ≡ o →
    entered_with (u32_in word) (fallen o) ≡ Some e → IsEnteredAs (first ∷ word ∷ game ∷ last ∷ []) e
fallen_only first word game last e None is f h = absurd (none-some e.done (with_parts (u32_in word) None e h).done_is)
fallen_only first word game last e (Some ending) is f h =
    let parts = with_parts (u32_in word) (Some (Fallen ending)) e h in
    let number = u32_only word e.game parts.game_is in
    let ends = end_only game last ending f in
    let done = as_done (first ∷ word ∷ game ∷ last ∷ []) e.game (Fallen ending) e.done parts.done_is
    (rw is (rw number.spelled (rw ends.0 (rw ends.1 refl)))) tt in
    record { spelled = done.0; sound = record { game = number.small; done = done.1 } }

only_3 : (a b c : List ℕ) (e : Entered) → by_3 (a ∷ b ∷ c ∷ []) ≡ Some e → IsEnteredAs (a ∷ b ∷ c ∷ []) e
only_3 a b c e h = ok_only a b c [] (done_by_word b) e (λ d k. alone_only b e.game d k) h

only_4 : (a b c d : List ℕ) (e : Entered) → by_4 (a ∷ b ∷ c ∷ d ∷ []) ≡ Some e → IsEnteredAs (a ∷ b ∷ c ∷ d ∷ []) e
only_4 a b c d e h =
    branch (IsEnteredAs (a ∷ b ∷ c ∷ d ∷ []) e) a (codes "fallen") (entered_with (u32_in b) (fallen (end_in c d))) _ e
    (λ is k. fallen_only a b c d e (end_in c d) is refl k)
    (λ k. ok_only a b c (d ∷ []) (done_with_word b d) e (λ x l. with_word_only b d e.game x l) k) h

only_5 : (a b c d f : List ℕ) (e : Entered) → Lacks 32 f → by_5 (a ∷ b ∷ c ∷ d ∷ f ∷ []) ≡ Some e → IsEnteredAs (a ∷ b ∷ c ∷ d ∷ f ∷ []) e
only_5 a b c d f e lacks h = ok_only a b c (d ∷ f ∷ []) (move_or_end b d f) e (λ x k. move_or_end_only b d f e.game x lacks k) h

only_6 : (a b c d f g : List ℕ) (e : Entered) → Lacks 32 g → by_6 (a ∷ b ∷ c ∷ d ∷ f ∷ g ∷ []) ≡ Some e →
    IsEnteredAs (a ∷ b ∷ c ∷ d ∷ f ∷ g ∷ []) e
only_6 a b c d f g e lacks h =
    ok_only a b c (d ∷ f ∷ g ∷ []) (if_wrong b d (made_with f g (Some None))) e
    (λ x k. both (SpellsDone (ok_fields b e.game (d ∷ f ∷ g ∷ [])) e.game x) b (codes "claim") d (codes "wrong") (claimed_wrongly (made_with f g (Some None))) x
    (λ is it l. wrong_only f g b d e.game (Some None) [] x (made_with f g (Some None)) is it lacks (λ made m. open_fields made m) refl l) k) h

only_7 : (a b c d f g i : List ℕ) (e : Entered) → Lacks 32 f → by_7 (a ∷ b ∷ c ∷ d ∷ f ∷ g ∷ i ∷ []) ≡ Some e →
    IsEnteredAs (a ∷ b ∷ c ∷ d ∷ f ∷ g ∷ i ∷ []) e
only_7 a b c d f g i e lacks h =
    let end = told (end_in g i) in
    ok_only a b c (d ∷ f ∷ g ∷ i ∷ []) (if_move b (made_with d f end)) e
    (λ x k. branch (SpellsDone (ok_fields b e.game (d ∷ f ∷ g ∷ i ∷ [])) e.game x) b (codes "move") (moved (made_with d f end)) None x
    (λ is l. moved_only d f b e.game end (g ∷ i ∷ []) x (made_with d f end) is lacks (λ made m. told_fields g i made (end_in g i) refl m) refl l)
    (λ none. absurd (none-some x none)) k) h

only_8 : (a b c d f g i j : List ℕ) (e : Entered) → Lacks 32 g → by_8 (a ∷ b ∷ c ∷ d ∷ f ∷ g ∷ i ∷ j ∷ []) ≡ Some e →
    IsEnteredAs (a ∷ b ∷ c ∷ d ∷ f ∷ g ∷ i ∷ j ∷ []) e
only_8 a b c d f g i j e lacks h =
    let end = told (end_in i j) in
    ok_only a b c (d ∷ f ∷ g ∷ i ∷ j ∷ []) (if_wrong b d (made_with f g end)) e
    (λ x k. both (SpellsDone (ok_fields b e.game (d ∷ f ∷ g ∷ i ∷ j ∷ [])) e.game x) b (codes "claim") d (codes "wrong") (claimed_wrongly (made_with f g end)) x
    (λ is it l. wrong_only f g b d e.game end (i ∷ j ∷ []) x (made_with f g end) is it lacks (λ made m. told_fields i j made (end_in i j) refl m) refl l) k) h

-- by how many fields there are
case_at : {A : Type 0} (Q : Type 0) (n k : ℕ) (o more : Option A) (y : A) (b : Bool) → (n == k) ≡ b → (n ≡ k → o ≡ Some y → Q) → (more ≡ Some y → Q) →
    (if b then o else more) ≡ Some y → Q
case_at Q n k o more y true e here other h = here (grind (arith, nat_tests)) h
case_at Q n k o more y false e here other h = other h

case : {A : Type 0} (Q : Type 0) (n k : ℕ) (o more : Option A) (y : A) → (n ≡ k → o ≡ Some y → Q) → (more ≡ Some y → Q) →
    (if n == k then o else more) ≡ Some y → Q
case Q n k o more y here other h = case_at Q n k o more y (n == k) refl here other h

abbrev IsLineAs : List ℕ → Entered → Type 0
IsLineAs line e = (line ≡ entered_line e) × IsEntered e

whole : (n : ℕ) (line : List ℕ) (e : Entered) → field_count line ≡ suc n → IsEnteredAs (first_fields (suc n) line) e → IsLineAs line e
whole n line e count is = (joined_at n line count ∙ ap line_of is.spelled, is.sound)

-- what stands behind so many fields
abbrev behind : ℕ → List ℕ → List ℕ
behind zero line = line
behind (suc n) line = behind n (rest_of line)

pub entered_only : (line : List ℕ) (e : Entered) → entered_in line ≡ Some e → IsLineAs line e
unfolding entered_in
entered_only line e h =
    let Q = IsLineAs line e in
    let n = field_count line in
    case Q n 3 (by_3 (first_fields 3 line)) _ e (λ c k. whole 2 line e c (only_3 _ _ _ e k)) (λ h4.
    case Q n 4 (by_4 (first_fields 4 line)) _ e (λ c k. whole 3 line e c (only_4 _ _ _ _ e k)) (λ h5.
    case Q n 5 (by_5 (first_fields 5 line)) _ e (λ c k. whole 4 line e c (only_5 _ _ _ _ _ e (field_lacks (behind 4 line)) k)) (λ h6.
    case Q n 6 (by_6 (first_fields 6 line)) _ e (λ c k. whole 5 line e c (only_6 _ _ _ _ _ _ e (field_lacks (behind 5 line)) k)) (λ h7.
    case Q n 7 (by_7 (first_fields 7 line)) _ e (λ c k. whole 6 line e c (only_7 _ _ _ _ _ _ _ e (field_lacks (behind 4 line)) k)) (λ h8.
    case Q n 8 (by_8 (first_fields 8 line)) None e (λ c k. whole 7 line e c (only_8 _ _ _ _ _ _ _ _ e (field_lacks (behind 5 line)) k))
    (λ none. absurd (none-some e none)) h8) h7) h6) h5) h4) h
