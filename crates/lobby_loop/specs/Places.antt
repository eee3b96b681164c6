-- Who has a place, and who makes room for whom: connections in the order in which they came.
use Rattle.std.specs.Prelude.{ℕ, ◌≡◌, ◌≤◌, ◌<◌, ◌-◌, ◌⊎◌, ◌==◌, ◌&&◌, Bool, true, false, List, [], ◌∷◌, Option}
use Rattle.std.specs.Prelude.{None, Some, length, count_by, nat_le, nat_lt, max, min, if◌then◌else◌}
use Rattle.std.specs.BTreeMap.{BTreeMap, get}
use Rattle.std.specs.List.{AllZip}
use Rattle.std.specs.Map.{count_at}
use Rattle.std.specs.Ordering.{nat_cmp}
use Rattle.std.specs.Str.{bytes_eq}
use Rattle.lobby_guests.specs.declared.place.Place.{Place}
use Rattle.lobby_guests.specs.declared.place.Role.{Role}
use Rattle.lobby_guests.specs.declared.place.Role.TheVariants as roles
use Rattle.lobby_guests.specs.declared.place.Work.{Work}
use Rattle.lobby_guests.specs.declared.place.Work.TheVariants as works
pub use Rattle.lobby_guests.specs.Paces.{number_of}
use Rattle.lobby_guests.specs.Place.{is_gone}
use Rattle.lobby_loop.specs.declared.places.Class.{Class}
use Rattle.lobby_loop.specs.declared.places.Class.TheVariants.{Gone, Players, Nameless, Idle, Aged, Own}

-- ---- which connections are counted

abbrev pub is_player : Role → Bool
is_player roles.Gone = false
is_player roles.Player = true
is_player roles.Newcomer = false

-- It acts for nobody.
abbrev pub is_nameless : Role → Bool
is_nameless roles.Gone = false
is_nameless roles.Player = false
is_nameless roles.Newcomer = true

-- Its requests were answered, and nothing more is there.
abbrev pub is_idle : Work → Bool
is_idle works.Answering = false
is_idle works.Idle = true
is_idle works.Awaited = false

-- So long a nameless one has: 20 seconds, and where it is being answered 20 more.
abbrev pub patience : Work → ℕ
patience works.Answering = 40000
patience works.Idle = 20000
patience works.Awaited = 20000

-- It acts for the player of this name.
abbrev pub is_of : List ℕ → Option (List ℕ) → Bool
is_of name None = false
is_of name (Some player) = bytes_eq player name

abbrev pub is_in : Class → Place → Bool
is_in Gone p = is_gone p.role
is_in Players p = is_player p.role
is_in Nameless p = is_nameless p.role
is_in Idle p = is_nameless p.role && is_idle p.work
is_in (Aged at) p = is_nameless p.role && nat_le (patience p.work) (at - p.since)
is_in (Own name) p = is_player p.role && is_of name p.player

-- It counts for this address; without one all do.
abbrev pub has_address : ℕ → Option ℕ → Bool
has_address a None = false
has_address a (Some b) = b == a

abbrev pub is_at : Option ℕ → Place → Bool
is_at None p = true
is_at (Some a) p = has_address a p.address

abbrev pub counted : Option ℕ → Class → Place → Bool
counted address class p = is_at address p && is_in class p

-- how many of a class are there, at an address or in all
abbrev pub count_of : Option ℕ → Class → List Place → ℕ
count_of address class ps = count_by (counted address class) ps

-- ---- who is to be closed

abbrev pub gone : Place → Place
gone p = record p { role = roles.Gone }

-- the first of them, so many at most
abbrev pub leave : (Place → Bool) → ℕ → List Place → List Place
leave P n [] = []
leave P n (p ∷ ps) = if nat_lt 0 n && P p then gone p ∷ leave P (n - 1) ps else p ∷ leave P n ps

-- For one player 16 connections act at most: who came first makes room.
abbrev pub own_room : Option (List ℕ) → List Place → List Place
own_room None ps = ps
own_room (Some name) ps = leave (counted None (Own name)) (count_of None (Own name) ps - 16) ps

abbrev pub each_own : List Place → List Place → List Place
each_own [] ps = ps
each_own (q ∷ qs) ps = each_own qs (own_room q.player ps)

-- For no player more act than are told under his name's number, but that 17 stand for any more.
abbrev pub IsTalliedByName : BTreeMap ℕ ℕ → List Place → Type 0
IsTalliedByName tally ps =
    (name : List ℕ) → min 17 (count_of None (Own name) ps) ≤ count_at (get nat_cmp tally) (number_of name)

-- Nameless connections make room until so many are left: of those that are idle who came first, and where these are
-- too few of the others.
abbrev pub make_room : Option ℕ → ℕ → List Place → List Place
make_room address most ps =
    let rest = leave (counted address Idle) (count_of address Nameless ps - most) ps in
    leave (counted address Nameless) (count_of address Nameless rest - most) rest

-- An address has at most 32 nameless ones.
abbrev pub room_at : Option ℕ → List Place → List Place
room_at None ps = ps
room_at (Some a) ps = make_room (Some a) 32 ps

abbrev pub room_for : Place → List Place → List Place
room_for q ps = if is_nameless q.role then room_at q.address ps else ps

abbrev pub each_room : List Place → List Place → List Place
each_room [] ps = ps
each_room (q ∷ qs) ps = each_room qs (room_for q ps)

-- At no address there are more nameless ones than this tells, but that 33 stand for any more.
abbrev pub IsTallied : BTreeMap ℕ ℕ → List Place → Type 0
IsTallied tally ps = (a : ℕ) → min 33 (count_of (Some a) Nameless ps) ≤ count_at (get nat_cmp tally) a

-- A nameless one has its time, of which 20 seconds are from this moment on if it came before.
abbrev pub in_time : ℕ → ℕ → List Place → List Place
in_time at from ps = if nat_le 20000 (at - from) then leave (counted None (Aged at)) (length ps) ps else ps

-- Of a thousand places 600 at most are for nameless ones, those that no player has; but 40 at least.
abbrev pub most_nameless : ℕ → ℕ
most_nameless players = max 40 (min 600 (1000 - players))

-- all of it, at a moment
abbrev pub judged : ℕ → ℕ → List Place → List Place
judged at from ps =
    let late = in_time at from ps in
    let spread = each_room late late in
    make_room None (most_nameless (count_of None Players spread)) spread

-- ---- what is promised of it

-- It is as it was, or it is to be closed.
abbrev pub IsKeptOrGone : Place → Place → Type 0
IsKeptOrGone old new = (new ≡ old) ⊎ (new ≡ gone old)

-- Among these 16 connections are of a player.
abbrev pub HasOwn : Option (List ℕ) → List Place → Type 0
HasOwn None behind = ⊥
HasOwn (Some name) behind = 16 ≤ count_of None (Own name) behind

-- Each is as it was, or 16 of its player's came behind it.
abbrev pub AreSpared : List Place → List Place → Type 0
AreSpared [] new = Unit {0}
AreSpared (p ∷ ps) [] = ⊥
AreSpared (p ∷ ps) (q ∷ qs) = ((q ≡ p) ⊎ HasOwn p.player ps) × AreSpared ps qs

-- Each is as it was, or to be closed, who acts for a player; and for each player 16 act at most. Who came first is
-- closed, and none where no more than 16 are there: so 16 of more than these stay.
pub record IsOwned (old new : List Place) : Type 0 where
  pub kept : AllZip (λ (p q : Place). (q ≡ p) ⊎ ((is_player p.role ≡ true) × (q ≡ gone p))) old new
  pub few : (name : List ℕ) → count_of None (Own name) new ≤ 16
  pub spared : AreSpared old new

-- It is as it was, or it is to be closed, which befalls who is nameless alone.
abbrev pub IsKeptOrClosed : Place → Place → Type 0
IsKeptOrClosed old new = (new ≡ old) ⊎ ((is_nameless old.role ≡ true) × (new ≡ gone old))

-- a nameless one whose time is not over
abbrev pub IsYoung : ℕ → Place → Type 0
IsYoung at p = (is_nameless p.role ≡ true) × (at - p.since < patience p.work)

-- the same of one that is being answered, or of which something is awaited
abbrev pub IsActive : ℕ → Place → Type 0
IsActive at p = IsYoung at p × (is_idle p.work ≡ false)

-- Among these 32 nameless ones are of an address.
abbrev pub HasCrowd : Option ℕ → List Place → Type 0
HasCrowd None behind = ⊥
HasCrowd (Some a) behind = 32 ≤ count_of (Some a) Nameless behind

-- It stays; or behind it so many nameless ones came as may be there, in all or from its address.
abbrev pub HasChance : ℕ → Place → List Place → Place → Type 0
HasChance most old behind new = (new ≡ old) ⊎ ((most ≤ count_of None Nameless behind) ⊎ HasCrowd old.address behind)

-- So it is of each whose time is not over and which is not idle: in that time it is answered, or may show a token.
abbrev pub HaveChance : ℕ → ℕ → List Place → List Place → Type 0
HaveChance at most [] new = Unit {0}
HaveChance at most (p ∷ ps) [] = ⊥
HaveChance at most (p ∷ ps) (q ∷ qs) = (IsActive at p → HasChance most p ps q) × HaveChance at most ps qs

-- More nameless ones are there than may be, in all or from this address.
abbrev pub IsPressed : ℕ → Option ℕ → List Place → Type 0
IsPressed most None ps = most < count_of None Nameless ps
IsPressed most (Some a) ps = (most < count_of None Nameless ps) ⊎ (32 < count_of (Some a) Nameless ps)

-- One that is idle makes room only where that has to be made, and another only where no idle one is left: in all, or of
-- its address.
abbrev pub MakesRoom : ℕ → List Place → List Place → Place → Type 0
MakesRoom most before after p =
    (is_idle p.work ≡ true → IsPressed most p.address before)
    × (is_idle p.work ≡ false → count_of p.address Idle after ≡ 0)

-- Each whose time is not over stays, or makes room.
abbrev pub StayOrMakeRoom : ℕ → ℕ → List Place → List Place → Type 0
StayOrMakeRoom at most old new =
    AllZip (λ (p q : Place). IsYoung at p → (q ≡ p) ⊎ MakesRoom most old new p) old new

-- what holds of the connections that stay
pub record IsFair (at from : ℕ) (old new : List Place) : Type 0 where
  pub kept : AllZip IsKeptOrClosed old new
  pub nameless : count_of None Nameless new ≤ most_nameless (count_of None Players new)
  pub addresses : (a : ℕ) → count_of (Some a) Nameless new ≤ 32
  pub chance : HaveChance at (most_nameless (count_of None Players new)) old new
  pub room : StayOrMakeRoom at (most_nameless (count_of None Players new)) old new
  pub in_time : 20000 ≤ at - from → count_of None (Aged at) new ≡ 0
