-- How far a head is while bytes come.
use Rattle.std.proofs.Common.{ℕ, ◌≡◌, List, [], ◌∷◌, ◌++◌, refl, sym, ap, ◌∙◌}
use Rattle.http_server.specs.declared.state.Config.{Config}
use Rattle.http_server.specs.History.{History, after_read}
use Rattle.lobby_web.specs.declared.site.Site.{Site}
use Rattle.lobby_web.specs.declared.browser.Stage.{Stage}
use Rattle.lobby_web.specs.declared.browser.Stage.TheVariants as At
use Rattle.lobby_web.specs.declared.heading.Heading.{Heading}
use Rattle.lobby_web.specs.Heading.{fresh, further, heading_after, heading_of}
use Rattle.lobby_web.specs.Browsing.{Answers, IsHeaded}

heading_more : (h : Heading) (front bytes : List ℕ) → heading_after h (front ++ bytes) ≡ heading_after (heading_after h front) bytes
heading_more h [] bytes = refl
heading_more h (b ∷ front) bytes = heading_more (further h b) front bytes

-- once more bytes have come
pub heading_read : (now : History) (bytes : List ℕ) (old new : Heading) → old ≡ heading_of now.received → new ≡ heading_after old bytes →
    new ≡ heading_of (after_read now bytes).received
heading_read now bytes old new was is =
    is ∙ ap (λ (h : Heading). heading_after h bytes) was ∙ sym (heading_more fresh now.received bytes)

-- to answer takes no bytes
pub headed_answers : (config : Config) (site : Site) (now : History) (stage : Stage) (heading : Heading) →
    heading ≡ heading_of now.received → Answers config site now stage → IsHeaded stage heading
headed_answers config site now (At.Http connection) heading is (same, serves, goes_on) =
    is ∙ ap heading_of (sym serves.received.0)
headed_answers config site now (At.Socket socket) heading is hands = refl
headed_answers config site now At.Over heading is any = refl
