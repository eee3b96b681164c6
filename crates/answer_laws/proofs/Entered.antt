-- The answer to an act that becomes an entry is read as what was done.
use Rattle.std.proofs.Common.{ℕ, ◌≡◌, ◌<◌, ◌≤◌, ◌+◌, ◌^◌, Bool, true, false, List, [], ◌∷◌, ◌++◌, Option, Some, None, codes, decimal, refl, ap, ◌∙◌, arith}
use Rattle.chess_bits.specs.declared.men.Colour.{Colour}
use Rattle.chess_bits.specs.declared.men.Colour.TheVariants as colours
use Rattle.chess_board.specs.declared.moves.Move.{Move}
use Rattle.chess_end.specs.declared.ending.Ending as end
use Rattle.rec_codec.specs.declared.record.Event.{Event}
use Rattle.rec_codec.specs.declared.record.Event.TheVariants as event
use Rattle.chess_entry.specs.State.{GameState, position_of, ply_of}
use Rattle.chess_entry.specs.Story.{stated}
use Rattle.chess_entry.specs.Outcome.{is_granted, claimed_draw, agreed, resigned, flag_fallen, ending_with}
use Rattle.chess_entry.specs.Words.{colour_word}
use Rattle.chess_entry.specs.Bounds.{IsGame}
use Rattle.chess_answer.specs.Fields.{ok_text, end_fields}
use Rattle.chess_answer.specs.Acts.{free_side, TellsMove, IsClaimLine, IsGameLine}
use Rattle.server_answers.specs.Fields.{line_of}
use Rattle.server_answers.specs.Entered.{Made, Done, Opened, Joined, Moved, Offered, Accepted, Declined, Resigned, Claimed, ClaimedWrongly, Fallen, Dropped, IsMade, IsDone, done_fields, ending_fields, made_fields, seat_word, ok_fields, entered_in}
use Rattle.server_answers.proofs.DoneActs.{entered_read}
use Rattle.answer_laws.specs.Told.{side_as, end_as, ending_as}
use Rattle.answer_laws.specs.Acts.{IsClaimedAs, IsDoneAs, IsReadAs}
use Rattle.answer_laws.proofs.Joined.{joined_with}
use Rattle.answer_laws.proofs.Games.{score_same, article_same}
use Rattle.answer_laws.proofs.Sans.{san_field}

-- a line of these fields is read
line_read : (game : ℕ) (done : Done) (text : List ℕ) → game < 2 ^ 32 → IsDone done → text ≡ line_of (done_fields game done) →
    entered_in text ≡ Some (record { game = game; done = done })
line_read game done text small sound is =
    ap entered_in is ∙ entered_read (record { game = game; done = done }) (record { game = small; done = sound })

ok_same : (word : List ℕ) (number : ℕ) (fields : List (List ℕ)) → ok_text word number fields ≡ line_of (ok_fields word number fields)
ok_same word number fields = joined_with (codes "ok") (word ∷ decimal number ∷ fields)

both_same : (a a2 b b2 : List ℕ) → a ≡ a2 → b ≡ b2 → a ∷ b ∷ [] ≡ a2 ∷ b2 ∷ []
both_same a a2 b b2 e f = ap (λ (x : List ℕ). x ∷ b ∷ []) e ∙ ap (λ (x : List ℕ). a2 ∷ x ∷ []) f

end_same : (ending : Option end.Ending) → end_fields ending ≡ ending_fields (ending_as ending)
end_same None = refl
end_same (Some ending) = both_same _ _ _ _ (score_same ending.result) (article_same ending.article)

seat_same : (side : Colour) → colour_word side ≡ seat_word (side_as side)
seat_same colours.White = refl
seat_same colours.Black = refl

-- ---- a move

short : (ply : ℕ) → ply ≤ 20000 → ply + 1 < 2 ^ 32
short ply most = omega (arith, most)

abbrev told_made : (game : GameState) (m : Move) (san : List ℕ) → Made
told_made game m san = record { ply = ply_of game + 1; san = san; ending = ending_as (ending_with game.start game.moves (Some m)) }

sound_made : (game : GameState) (m : Move) (before after : List ℕ) → IsGame 20000 game → (t : TellsMove game m before after) →
    IsMade (told_made game m t.san)
sound_made game m before after is t =
    let field = san_field (position_of game) m t.san t.is_san in
    record { ply = short (ply_of game) is.short; some = field.some; field = field.field }

-- behind these fields
told_same : (game : GameState) (m : Move) (front : List (List ℕ)) (san : List ℕ) →
    line_of (codes "ok" ∷ (front ++ decimal (ply_of game + 1) ∷ san ∷ end_fields (ending_with game.start game.moves (Some m)))) ≡
    line_of (codes "ok" ∷ (front ++ made_fields (told_made game m san)))
told_same game m front san =
    ap (λ (fs : List (List ℕ)). line_of (codes "ok" ∷ (front ++ decimal (ply_of game + 1) ∷ san ∷ fs)))
    (end_same (ending_with game.start game.moves (Some m)))

moved_read : (game : GameState) (m : Move) (text : List ℕ) → IsGame 20000 game →
    (t : TellsMove game m (ok_text (codes "move") game.number []) text) →
    entered_in text ≡ Some (record { game = game.number; done = Moved (told_made game m t.san) })
moved_read game m text is t =
    let front = codes "move" ∷ decimal game.number ∷ [] in
    line_read game.number (Moved (told_made game m t.san)) text is.number (sound_made game m _ text is t)
    (t.told ∙ (joined_with (codes "ok") (front ++ decimal (ply_of game + 1) ∷ t.san ∷ end_fields (ending_with game.start game.moves (Some m)))
    ∙ told_same game m front t.san))

wrong_read : (game : GameState) (m : Move) (text : List ℕ) → IsGame 20000 game →
    (t : TellsMove game m (ok_text (codes "claim") game.number (codes "wrong" ∷ [])) text) →
    entered_in text ≡ Some (record { game = game.number; done = ClaimedWrongly (Some (told_made game m t.san)) })
wrong_read game m text is t =
    let front = codes "claim" ∷ decimal game.number ∷ codes "wrong" ∷ [] in
    line_read game.number (ClaimedWrongly (Some (told_made game m t.san))) text is.number (sound_made game m _ text is t)
    (t.told ∙ (joined_with (codes "ok") (front ++ decimal (ply_of game + 1) ∷ t.san ∷ end_fields (ending_with game.start game.moves (Some m)))
    ∙ told_same game m front t.san))

-- ---- each act

plain_read : (game : GameState) (e : Event) (word : List ℕ) (done : Done) (text : List ℕ) → IsGame 20000 game → IsDone done →
    ok_fields word game.number [] ≡ done_fields game.number done → IsDoneAs game e done → text ≡ ok_text word game.number [] → IsReadAs game e text
plain_read game e word done text is sound fields does told = record {
  done = done;
  is_done = does;
  read = line_read game.number done text is.number sound (told ∙ (ok_same word game.number [] ∙ ap line_of fields));
}

ended_read : (game : GameState) (e : Event) (word : List ℕ) (ending : end.Ending) (done : Done) (text : List ℕ) → IsGame 20000 game → IsDone done →
    ok_fields word game.number (ending_fields (Some (end_as ending))) ≡ done_fields game.number done → IsDoneAs game e done →
    text ≡ ok_text word game.number (end_fields (Some ending)) → IsReadAs game e text
ended_read game e word ending done text is sound fields does told = record {
  done = done;
  is_done = does;
  read = line_read game.number done text is.number sound
      (told ∙ (ok_same word game.number (end_fields (Some ending))
      ∙ (ap (λ (fs : List (List ℕ)). line_of (ok_fields word game.number fs)) (end_same (Some ending)) ∙ ap line_of fields)));
}

record IsClaimRead (game : GameState) (correct fifty : Bool) (mv : Option Move) (text : List ℕ) : Type 0 where
  done : Done
  is_done : IsClaimedAs correct game fifty mv done
  read : entered_in text ≡ Some (record { game = game.number; done = done })

claim_read : (correct : Bool) (game : GameState) (fifty : Bool) (mv : Option Move) (text : List ℕ) → IsGame 20000 game →
    IsClaimLine correct game fifty mv text → IsClaimRead game correct fifty mv text
claim_read true game fifty mv text is told = record {
  done = Claimed (end_as (claimed_draw fifty));
  is_done = refl;
  read = line_read game.number (Claimed (end_as (claimed_draw fifty))) text is.number tt
      (told ∙ (ok_same (codes "claim") game.number (end_fields (Some (claimed_draw fifty)))
      ∙ ap (λ (fs : List (List ℕ)). line_of (ok_fields (codes "claim") game.number fs)) (end_same (Some (claimed_draw fifty)))));
}
claim_read false game fifty None text is told = record {
  done = ClaimedWrongly None;
  is_done = refl;
  read = line_read game.number (ClaimedWrongly None) text is.number tt (told ∙ ok_same (codes "claim") game.number (codes "wrong" ∷ []));
}
claim_read false game fifty (Some m) text is told = record {
  done = ClaimedWrongly (Some (told_made game m told.san));
  is_done = record {
    made = told_made game m told.san;
    is_made = record { ply = refl; san = told.is_san; ending = refl };
    is = refl;
  };
  read = wrong_read game m text is told;
}

pub act_read : (game : GameState) (e : Event) (text : List ℕ) → IsGame 20000 game → IsGameLine game e text → IsReadAs game e text
act_read game (event.Open opening) text is told = absurd told
act_read game (event.Join name) text is told = record {
  done = Joined (side_as (free_side game));
  is_done = refl;
  read = line_read game.number (Joined (side_as (free_side game))) text is.number tt
      (told ∙ (ok_same (codes "join") game.number (colour_word (free_side game) ∷ [])
      ∙ ap (λ (w : List ℕ). line_of (ok_fields (codes "join") game.number (w ∷ []))) (seat_same (free_side game))));
}
act_read game (event.Move made) text is told = record {
  done = Moved (told_made game made.mv told.san);
  is_done = record {
    made = told_made game made.mv told.san;
    is_made = record { ply = refl; san = told.is_san; ending = refl };
    is = refl;
  };
  read = moved_read game made.mv text is told;
}
act_read game (event.Offer by) text is told = plain_read game (event.Offer by) (codes "offer") Offered text is tt refl refl told
act_read game (event.Accept by) text is told =
    ended_read game (event.Accept by) (codes "accept") agreed (Accepted (end_as agreed)) text is tt refl refl told
act_read game (event.Decline by) text is told = plain_read game (event.Decline by) (codes "decline") Declined text is tt refl refl told
act_read game (event.Resign by) text is told =
    ended_read game (event.Resign by) (codes "resign") (resigned by) (Resigned (end_as (resigned by))) text is tt refl refl told
act_read game (event.Claim claim) text is told =
    let r = claim_read (is_granted claim.fifty game.start (game.moves ++ stated claim.mv)) game claim.fifty claim.mv text is told in
    record { done = r.done; is_done = r.is_done; read = r.read }
act_read game event.Fallen text is told =
    let ending = flag_fallen (position_of game) in record {
      done = Fallen (end_as ending);
      is_done = refl;
      read = line_read game.number (Fallen (end_as ending)) text is.number tt
          (told ∙ (joined_with (codes "fallen") (decimal game.number ∷ end_fields (Some ending))
          ∙ ap (λ (fs : List (List ℕ)). line_of (codes "fallen" ∷ decimal game.number ∷ fs)) (end_same (Some ending))));
    }
act_read game event.Drop text is told = plain_read game event.Drop (codes "drop") Dropped text is tt refl refl told

pub open_read : (number : ℕ) → number < 2 ^ 32 →
    entered_in (ok_text (codes "open") number []) ≡ Some (record { game = number; done = Opened })
open_read number small = line_read number Opened _ small tt (ok_same (codes "open") number [])
