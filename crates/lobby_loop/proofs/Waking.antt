-- Browsers that come, and sockets that may be ready, one after the other.
use Rattle.std.proofs.Common.{ℕ, ◌≡◌, ◌≤◌, ◌+◌, ◌++◌, inl, inr, List, [], ◌∷◌, Option, None, Some, length, refl, ap, ◌∙◌, subst, arith}
use Rattle.std.specs.Prelude.{◌==◌, ◌-◌, ◌^◌, min}
use Rattle.std.specs.declared.net.ip_addr.IpAddr.{IpAddr}
use Rattle.std.specs.List.{AllZip}
use Rattle.lobby_guests.specs.declared.guest.Guest.{Guest}
use Rattle.lobby_loop.specs.declared.hall.Hall.{Hall}
use Rattle.lobby_talk.specs.declared.link.Link.{Link}
use Rattle.lobby_guests.specs.Guests.{IsLeftAlone, ComesFrom}
use Rattle.lobby_guests.specs.Origins.{IsFrom}
use Rattle.lobby_guests.proofs.Catching.{same_guest, visit_twice}
use Rattle.lobby_loop.specs.Turning.{IsServerAsBefore, IsHallAsBefore, JudgesAsBefore, Admits, next_look, ComesIn, ComesBy, IsTurnedAway, NamesNext, Comer, IsReceived}
use Rattle.lobby_loop.specs.Living.{IsWoken}

less : (a b c k : ℕ) → c ≡ b → b ≡ k + 1 → k ≡ a → a ≤ c
less a b c k one two named = omega (arith, one, two, named)

pub name_grows : (a b k : ℕ) → k ≡ a → b ≡ k + 1 → a ≤ b
name_grows a b k is next = omega (arith, is, next)

pub name_stays : (a b : ℕ) → b ≡ a → a ≤ b
name_stays a b is = omega (arith, is)

module _ {S : Type 0} where
  pub all_alone : (guests : List (Guest S)) → AllZip IsLeftAlone guests guests
  all_alone [] = tt
  all_alone (guest ∷ guests) = (same_guest guest, all_alone guests)

  alone_twice : (x y z : Guest S) → IsLeftAlone x y → IsLeftAlone y z → IsLeftAlone x z
  alone_twice x y z one next =
      let was = one.before.still in
      let is = next.before.still in
      record {
        before = record {
          still = record {
            number = is.number ∙ was.number;
            stream = is.stream ∙ was.stream;
            browser = is.browser ∙ was.browser;
            waits = is.waits ∙ was.waits;
            visit = visit_twice x y z was.visit is.visit;
          };
          paid = next.before.paid ∙ one.before.paid;
          logins = next.before.logins ∙ one.before.logins;
          more = next.before.more ∙ one.before.more;
        };
        lost = next.lost ∙ one.lost;
      }

  all_alone_twice : (xs ys zs : List (Guest S)) → AllZip IsLeftAlone xs ys → AllZip IsLeftAlone ys zs → AllZip IsLeftAlone xs zs
  all_alone_twice [] [] [] none all = tt
  all_alone_twice [] [] (z ∷ zs) none none_such = absurd none_such
  all_alone_twice [] (y ∷ ys) zs none_such all = absurd none_such
  all_alone_twice (x ∷ xs) [] zs none_such all = absurd none_such
  all_alone_twice (x ∷ xs) (y ∷ ys) [] all none_such = absurd none_such
  all_alone_twice (x ∷ xs) (y ∷ ys) (z ∷ zs) (one, all) (next, more) =
      (alone_twice x y z one next, all_alone_twice xs ys zs all more)

  -- by what a hall judges is as it was
  pub judges_so : (hall : Hall S) → JudgesAsBefore hall hall
  judges_so hall = record { come = refl; away = refl; look = refl; proxy = refl; asks = refl }

  judges_twice : (a b c : Hall S) → JudgesAsBefore a b → JudgesAsBefore b c → JudgesAsBefore a c
  judges_twice a b c one next = record {
    come = next.come ∙ one.come;
    away = next.away ∙ one.away;
    look = next.look ∙ one.look;
    proxy = next.proxy ∙ one.proxy;
    asks = next.asks ∙ one.asks;
  }

  pub server_as_before : (server : Option (Link S)) → IsServerAsBefore server server
  server_as_before None = refl
  server_as_before (Some link) = (link, refl, refl, record { held = refl; lost = λ goes. goes })

  server_twice : (a b c : Option (Link S)) → IsServerAsBefore a b → IsServerAsBefore b c → IsServerAsBefore a c
  server_twice None b c is more = subst (λ (s : Option (Link S)). IsServerAsBefore s c) is more
  server_twice (Some link) b c (next, is, stream, kept) more =
      let (last, is_last, last_stream, last_kept) = subst (λ (s : Option (Link S)). IsServerAsBefore s c) is more in (
        last,
        is_last,
        last_stream ∙ stream,
        record {
          held = last_kept.held ∙ kept.held;
          lost = λ goes. kept.lost (last_kept.lost goes);
        },
      )

  pub woken_none : (hall : Hall S) → IsWoken hall hall
  woken_none hall = record {
    guests = all_alone hall.guests.items;
    talk = refl;
    server = server_as_before hall.server;
    site = refl;
    door = record { judges = judges_so hall; names = refl };
  }

  pub woken_more : (a b c : Hall S) → IsWoken a b → IsWoken b c → IsWoken a c
  woken_more a b c one next = record {
    guests = all_alone_twice a.guests.items b.guests.items c.guests.items one.guests next.guests;
    talk = next.talk ∙ one.talk;
    server = server_twice a.server b.server c.server one.server next.server;
    site = next.site ∙ one.site;
    door = record { judges = judges_twice a b c one.door.judges next.door.judges; names = next.door.names ∙ one.door.names };
  }

  -- a browser comes to a hall that is as before
  admits_behind : (stream : S) (a b c : Hall S) → IsHallAsBefore a b → Admits stream b c → Admits stream a c
  admits_behind stream a b c same admits = record {
    guests = elim admits.guests [
      | inl none ↦ inl (none ∙ ap (λ gs. gs.items) same.guests)
      | inr more ↦ inr (more.0, more.1, more.2 ∙ ap (λ gs. gs.items ++ more.0 ∷ []) same.guests)
    ];
    talk = admits.talk ∙ same.talk;
    server = admits.server ∙ same.server;
    site = admits.site ∙ same.site;
  }

  away_behind : (a b c : Hall S) → IsHallAsBefore a b → b.turned_away ≡ a.turned_away → IsTurnedAway b c → IsTurnedAway a c
  away_behind a b c same counted away = record {
    guests = away.guests ∙ ap (λ gs. gs.items) same.guests;
    judges = judges_twice a b c same.judges away.judges;
    counted = away.counted ∙ ap (λ (n : ℕ). min (n + 1) (2 ^ 64 - 1)) counted;
  }

  -- who has the next name comes in
  comes_behind : (key : ℕ) (peer : IpAddr) (at : ℕ) (a b c : Hall S) → IsHallAsBefore a b → key ≡ a.next_key → ComesIn key peer at b c →
      ComesIn a.next_key peer at a c
  comes_behind key peer at a b c same named comes = record {
    guest = comes.guest;
    behind = comes.behind ∙ ap (λ gs. gs.items ++ comes.guest ∷ []) same.guests;
    plain = comes.plain;
    plain_is = comes.plain_is;
    from = subst (λ (o : Option IpAddr). IsFrom o comes.plain comes.guest.origin) same.judges.proxy comes.from;
    comes = subst (λ (n : ℕ). ComesFrom n comes.guest.origin at comes.guest) named comes.comes;
    come = comes.come;
    away = comes.away ∙ same.judges.away;
    look = comes.look
        ∙ ap (λ gs. next_look (length gs.items == 0) b.look_at at) same.guests
        ∙ ap (λ (n : ℕ). next_look (length a.guests.items == 0) n at) same.judges.look;
    proxy = comes.proxy ∙ same.judges.proxy;
    asks = comes.asks ∙ same.judges.asks;
  }

  -- a browser comes, or is turned away where that is refused, behind the one name that was given
  pub received : (at key : ℕ) (comer : Comer S) (a b c : Hall S) → IsHallAsBefore a b → NamesNext (Some key) a b →
      b.turned_away ≡ a.turned_away → Admits comer.stream b c → ComesBy key comer.peer at b c → c.next_key ≡ b.next_key →
      IsReceived at comer a c
  received at key comer a b c same (room, is, next) counted admits by names = record {
    admits = admits_behind comer.stream a b c same admits;
    comes = elim by [
      | inl comes ↦ inl (
        room,
        names ∙ (next ∙ ap (λ (n : ℕ). n + 1) is),
        comes_behind key comer.peer at a b c same is comes,
      )
      | inr away ↦ inr (less a.next_key b.next_key c.next_key key names next is, away_behind a b c same counted away)
    ];
  }

  -- nobody comes
  pub turned_away : (at : ℕ) (comer : Comer S) (a b c : Hall S) → IsHallAsBefore a b → a.next_key ≤ b.next_key →
      b.turned_away ≡ a.turned_away → IsHallAsBefore b c → c.next_key ≡ b.next_key →
      c.turned_away ≡ min (b.turned_away + 1) (2 ^ 64 - 1) → IsReceived at comer a c
  turned_away at comer a b c same grows counted away names count = record {
    admits = record {
      guests = inl (ap (λ gs. gs.items) (away.guests ∙ same.guests));
      talk = away.talk ∙ same.talk;
      server = away.server ∙ same.server;
      site = away.site ∙ same.site;
    };
    comes = inr (
      omega (arith, grows, names),
      away_behind a b c same counted
          (record { guests = ap (λ gs. gs.items) away.guests; judges = away.judges; counted = count }),
    );
  }
