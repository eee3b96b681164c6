-- What the calls of a service say of a site's answers.
use Rattle.std.proofs.Common.{◌≡◌, [], ◌∷◌, ◌++◌, true, false, sym, ap, ◌∙◌, append_assoc, subst}
use Rattle.http_server.specs.declared.state.Config.{Config}
use Rattle.http_server.specs.declared.state.State.TheVariants.{Upgraded}
use Rattle.http_server.specs.Exchange.{Calls}
use Rattle.http_server.specs.History.{History, IsServed, Rests, IsQuiet}
use Rattle.lobby_web.specs.declared.site.Site.{Site}
use Rattle.lobby_web.specs.declared.answer.Asked.{Asked}
use Rattle.lobby_web.specs.declared.socket.Socket.{Socket}
use Rattle.lobby_web.specs.Answering.{IsGranted}
use Rattle.lobby_web.specs.Asking.{Replies}
use Rattle.lobby_web.specs.Talking.{IsFresh}
use Rattle.lobby_web.specs.Browsing.{AreAnswered, Serves, HandsOver}
use Rattle.lobby_web.proofs.GrantLemmas.{granted}
use Rattle.lobby_web.specs.Forwarding.{AreToldBy}
use Rattle.lobby_web.proofs.ChainLemmas.{chain-answers, chain-told, chain-switch}

pub serves : (config : Config) (site : Site) (before after : Asked) (old new : History) → before.site.now ≡ site → ∥ IsServed config new ∥₁
    → Calls Replies before after old.calls new.calls → Rests config new → IsQuiet old new
    → (all : Serves config site old new) × AreToldBy all.calls before.forwarded after.forwarded
serves config site before after old new asked served calls rests quiet = (
  record {
    served = served;
    calls = calls.0;
    called = calls.1;
    answered = subst (λ (s : Site). AreAnswered s calls.0) asked (chain-answers before after calls.0 calls.2);
    rests = rests;
    received = (quiet.0, quiet.2);
  },
  chain-told before after calls.0 calls.2,
)

pub hands-over : (config : Config) (site : Site) (before after : Asked) (old new : History) (socket : Socket) → before.site.now ≡ site
    → before.has_switched ≡ false → after.has_switched ≡ true → ∥ IsServed config new ∥₁ → Calls Replies before after old.calls new.calls
    → Rests config new → IsQuiet old new → new.state ≡ Upgraded → IsFresh socket → socket.input.items ≡ new.unread → socket.output.items ≡ new.pending
    → (all : HandsOver config site old socket) × AreToldBy all.serves.calls before.forwarded after.forwarded
hands-over config site before after old new socket asked was is served calls rests quiet state fresh input output =
    let ends = chain-switch before after calls.0 calls.2 was is in
    let split : new.calls ≡ (old.calls ++ ends.front) ++ ends.last ∷ [] =
    calls.1 ∙ ap (λ l. old.calls ++ l) ends.split ∙ sym (append_assoc old.calls ends.front (ends.last ∷ [])) in
    let all = serves config site before after old new asked served calls rests quiet in (
      record {
        last = new;
        serves = all.0;
        upgraded = state;
        granted = (
          old.calls ++ ends.front,
          ends.last,
          split,
          ends.switch,
          subst (λ (s : Site). IsGranted s ends.last.0) asked (granted before.site.now ends.last.0 ends.last.1 ends.answer ends.switch),
        );
        fresh = fresh;
        input = input;
        output = output;
      },
      all.1,
    )
