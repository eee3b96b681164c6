-- Worked lists of entries that are lawful: each entry is the verdict on a command, computed.
use Rattle.std.specs.Prelude.{ℕ, Bool, true, List, [], ◌∷◌, ◌++◌, Some, None, refl}
use Rattle.std.proofs.Common.{arith, inr}
use Rattle.chess_bits.specs.declared.men.Colour.TheVariants.{White, Black}
use Rattle.chess_bits.specs.Square.{squares}
use Rattle.chess_bits.specs.Table.{at, put}
use Rattle.chess_board.specs.Initial.{initial}
use Rattle.chess_board.specs.Next.{placement_after, rights_after, target_after, halfmove_after}
use Rattle.chess_board.proofs.Deciding.{Decides-is_legal}
use Rattle.chess_notation.specs.Naming.{Names}
use Rattle.arrayvec.specs.ArrayString.{ArrayString}
use Rattle.rec_codec.specs.declared.limits.Limits.{Limits}
use Rattle.rec_codec.specs.declared.record.Event.TheVariants as event
use Rattle.rec_codec.specs.declared.record.Entry.{Entry}
use Rattle.player_name.specs.Name.{IsName}
use Rattle.rec_codec.specs.Records.{entry}
use Rattle.chess_entry.specs.declared.commands.Act.{Act}
use Rattle.chess_entry.specs.declared.commands.Act.TheVariants as act
use Rattle.chess_entry.specs.declared.commands.Command.{Command}
use Rattle.chess_entry.specs.Parsed.{parsed}
use Rattle.chess_entry.specs.Lawful.{IsWithin, IsEntered, IsLawful}
use Rattle.chess_entry.proofs.Examples.{opening, e2e4}
use Rattle.chess_entry.proofs.LawfulLists.{IsLawful-none, IsLawful-more}

limits : Limits
limits = record { games = 10; plies = 100 }

-- an act by "A", or by "B"
by_a : ℕ → Act → Command
by_a moment wanted = record { at = moment; who = Some (65 ∷ []); act = wanted }

by_b : ℕ → Act → Command
by_b moment wanted = record { at = moment; who = Some (66 ∷ []); act = wanted }

a-named : IsName (65 ∷ [])
a-named = record { some = omega arith; short = omega arith; bytes = refl }

b-named : IsName (66 ∷ [])
b-named = record { some = omega arith; short = omega arith; bytes = refl }

within : IsWithin limits limits
unfolding limits
within = record {
  in_range = record { some_game = omega arith; few_games = omega arith; some_ply = omega arith; few_plies = omega arith };
  games = omega arith;
  plies = omega arith;
}

-- ---- opened, joined, an offer, a wrong claim, and Black resigns

opened : List Entry
opened = entry 1 0 (event.Open (opening None)) ∷ []

joined : List Entry
joined = opened ++ entry 1 1000 (event.Join (66 ∷ [])) ∷ []

offered : List Entry
offered = joined ++ entry 1 2000 (event.Offer White) ∷ []

claimed : List Entry
claimed = offered ++ entry 1 3000 (event.Claim (record { by = White; fifty = true; mv = None; ply = 0 })) ∷ []

resigned : List Entry
resigned = claimed ++ entry 1 9000 (event.Resign Black) ∷ []

-- opens all that the verdicts compute with
opens : Bool
unfolding limits opening e2e4 by_a by_b opened joined offered claimed resigned
opens = true

-- the board's definitions besides
board_opens : Bool
unfolding opens at put squares placement_after rights_after target_after halfmove_after
board_opens = true

open-entered : IsEntered limits [] (entry 1 0 (event.Open (opening None)))
unfolding board_opens
open-entered = record {
  earlier = limits;
  within = within;
  command = by_a 0 (act.NewGame White 60 2 None None);
  named = a-named;
  entered = record { parsed = parsed (Some initial) None; is_parsed = (refl, refl); is = refl };
}

join-entered : IsEntered limits opened (entry 1 1000 (event.Join (66 ∷ [])))
unfolding opens
join-entered = record {
  earlier = limits;
  within = within;
  command = by_b 1000 (act.Join 1);
  named = b-named;
  entered = record { parsed = parsed None None; is_parsed = (refl, refl); is = refl };
}

offer-entered : IsEntered limits joined (entry 1 2000 (event.Offer White))
unfolding opens
offer-entered = record {
  earlier = limits;
  within = within;
  command = by_a 2000 (act.Offer 1);
  named = a-named;
  entered = record { parsed = parsed None None; is_parsed = (refl, refl); is = refl };
}

claim-entered : IsEntered limits offered
    (entry 1 3000 (event.Claim (record { by = White; fifty = true; mv = None; ply = 0 })))
unfolding opens
claim-entered = record {
  earlier = limits;
  within = within;
  command = by_a 3000 (act.Claim 1 0 true None);
  named = a-named;
  entered = record { parsed = parsed None None; is_parsed = (refl, refl); is = refl };
}

resign-entered : IsEntered limits claimed (entry 1 9000 (event.Resign Black))
unfolding opens
resign-entered = record {
  earlier = limits;
  within = within;
  command = by_b 9000 (act.Resign 1);
  named = b-named;
  entered = record { parsed = parsed None None; is_parsed = (refl, refl); is = refl };
}

opened-lawful : IsLawful limits opened
unfolding opened
opened-lawful = IsLawful-more limits [] (entry 1 0 (event.Open (opening None))) (IsLawful-none limits) open-entered

joined-lawful : IsLawful limits joined
unfolding joined
joined-lawful = IsLawful-more limits opened (entry 1 1000 (event.Join (66 ∷ []))) opened-lawful join-entered

offered-lawful : IsLawful limits offered
unfolding offered
offered-lawful = IsLawful-more limits joined (entry 1 2000 (event.Offer White)) joined-lawful offer-entered

claimed-lawful : IsLawful limits claimed
unfolding claimed
claimed-lawful =
    IsLawful-more limits offered (entry 1 3000 (event.Claim (record { by = White; fifty = true; mv = None; ply = 0 })))
    offered-lawful claim-entered

resigned-lawful : IsLawful limits resigned
unfolding resigned
resigned-lawful = IsLawful-more limits claimed (entry 1 9000 (event.Resign Black)) claimed-lawful resign-entered

-- ---- opened, joined and 1. e4, which comes in with an earlier moment than the join: its entry has that of the join

e2e4-text : ArrayString
e2e4-text = record { bytes = 101 ∷ 50 ∷ 101 ∷ 52 ∷ []; spare = [] }

e2e4-named : Names initial (101 ∷ 50 ∷ 101 ∷ 52 ∷ []) e2e4
unfolding board_opens
e2e4-named = record {
  legal = (Decides-is_legal initial e2e4).0 refl;
  told = inr (record {
    letter = [];
    from_on_board = record { file_from = omega arith; file_to = omega arith; rank_from = omega arith; rank_to = omega arith };
    to_on_board = record { file_from = omega arith; file_to = omega arith; rank_from = omega arith; rank_to = omega arith };
    promotion = refl;
    joined = refl;
  });
}

move-entered : IsEntered limits joined (entry 1 1000 (event.Move (record { mv = e2e4; ply = 0 })))
unfolding opens e2e4-text
move-entered = record {
  earlier = limits;
  within = within;
  command = by_a 500 (act.Play 1 0 e2e4-text);
  named = a-named;
  entered = record { parsed = parsed None (Some e2e4); is_parsed = (refl, e2e4-named); is = refl };
}

moved-lawful : IsLawful limits (joined ++ entry 1 1000 (event.Move (record { mv = e2e4; ply = 0 })) ∷ [])
moved-lawful =
    IsLawful-more limits joined (entry 1 1000 (event.Move (record { mv = e2e4; ply = 0 }))) joined-lawful move-entered
