use Rattle.chess_table.proofs.CheckLemmas.{move-parsed, claim-parsed}
use Rattle.chess_table.proofs.judging.parsed_by.Goals as goal

pub returns-in-Play : goal.returns-in-Play
returns-in-Play c = λ table found.
    move-parsed table c.args.act.now _ _ c.in-Play.text _ c.move_parsed.result c.in-Play.is found c.move_parsed.ensures

pub returns-in-Claim : goal.returns-in-Claim
returns-in-Claim c = λ table found.
    claim-parsed table c.args.act.now _ _ _ c.in-Claim.text _ c.stated_parsed.result c.in-Claim.is found
    c.stated_parsed.ensures
