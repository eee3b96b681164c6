use Rattle.std.proofs.Common.{not, map, ap, ◌∙◌, rules}
use Rattle.std.specs.Str.{bytes_eq}
use Rattle.std.proofs.lemmas.Fn.{filter_same}
use Rattle.lobby_offers.specs.declared.offer.Offer.{Offer}
use Rattle.lobby_offers.specs.Offers.{Offered, offered}
use Rattle.lobby_offers.proofs.Values.{filter_seen}
use Rattle.lobby_offers.proofs.noting.take_off.Goals as goal

pub returns : goal.returns
returns c =
    ap (map offered) (filter_same _ (λ (o : Offer). not (bytes_eq o.by c.args.name.now)) _ (λ x b f' k. search rules) _ _ c.retain.ensures.filtered)
    ∙ filter_seen offered (λ (o : Offered). not (bytes_eq o.by c.args.name.now)) _
