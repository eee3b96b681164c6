-- What the last element spells.
use Rattle.std.proofs.Common.{◌≡◌, ◌∙◌, ℕ, List, None, Some, refl, ap, subst}
use Rattle.std.specs.Net.Grammar.{IsIpText}
use Rattle.std.specs.declared.net.ip_addr.IpAddr.{IpAddr}
use Rattle.lobby_web.specs.Forwarding.{Spells}
use Rattle.lobby_web.specs.Requests.{last_element}
use Rattle.lobby_web.proofs.answer.forwarded.Goals as goal

pub returns-in-Ok : goal.returns-in-Ok
returns-in-Ok c =
    let text = c.last_element-text.ensures ∙ ap last_element c.last_field.ensures in record {
      said = Some c.in-Ok.address;
      spelled = subst (λ (l : List ℕ). Spells l (Some c.in-Ok.address)) text c.in-Ok.ensures;
      is = refl;
    }

pub returns-in-Err : goal.returns-in-Err
returns-in-Err c =
    let text = c.last_element-text.ensures ∙ ap last_element c.last_field.ensures in
    record { said = None; spelled = subst (λ (l : List ℕ). Spells l None) text c.in-Err.ensures; is = refl }
