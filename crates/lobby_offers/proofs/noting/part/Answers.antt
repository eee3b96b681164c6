use Rattle.std.proofs.Common.{not, map, ap, ◌∙◌, rules}
use Rattle.std.proofs.lemmas.Fn.{filter_same}
use Rattle.lobby_offers.specs.declared.offer.Offer.{Offer}
use Rattle.lobby_offers.specs.Offers.{Offered, offered, is_between}
use Rattle.lobby_offers.proofs.Values.{filter_seen}
use Rattle.lobby_offers.proofs.noting.part.Goals as goal

pub returns : goal.returns
returns c =
    ap (map offered) (filter_same _ (λ (o : Offer). not (is_between c.args.one.now c.args.other.now (offered o))) _ (λ x b f' k. search rules) _ _ c.retain.ensures.filtered)
    ∙ filter_seen offered (λ (o : Offered). not (is_between c.args.one.now c.args.other.now o)) c.args.offers.now.items
