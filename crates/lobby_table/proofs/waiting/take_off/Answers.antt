use Rattle.std.proofs.Common.{not, ◌==◌, rules}
use Rattle.std.proofs.lemmas.Fn.{filter_same}
use Rattle.lobby_words.specs.declared.listing.Seat.{Seat}
use Rattle.lobby_table.proofs.waiting.take_off.Goals as goal

pub returns : goal.returns
returns c = filter_same _ (λ (w : Seat). not (w.game == c.args.game)) _ (λ x b f' k. search rules) _ _ c.retain.ensures.filtered
