-- Where a connection comes from.
use Rattle.std.specs.Prelude.{ℕ, ◌≡◌, ◌↔◌, ◌⊎◌, ◌+◌, ◌*◌, true, false, List, Option, None, Some, IfSome, slice_index}
use Rattle.std.specs.declared.net.ip_addr.IpAddr.{IpAddr}
use Rattle.std.specs.declared.net.ip_addr.IpAddr.TheVariants.{V4, V6}
use Rattle.std.specs.Net.Addr.{ipv4_bits, ipv6_segments, IsCanonicalOf, MatchIp, IsLoopbackV4, IsLoopbackV6}
use Rattle.lobby_guests.specs.declared.origin.Origin.{Origin}

-- the first half of an address of IPv6
abbrev pub first_half : List ℕ → ℕ
first_half s =
    (slice_index s 0 * 65536 + slice_index s 1) * 4294967296 + (slice_index s 2 * 65536 + slice_index s 3)

-- the number for which an address counts
abbrev pub number_of : IpAddr → ℕ
number_of (V4 a) = ipv4_bits a
number_of (V6 a) = first_half (ipv6_segments a)

-- An address of IPv4 within one of IPv6 is that of IPv4.
abbrev pub IsPlain : IpAddr → IpAddr → Type 0
IsPlain (V4 a) plain = plain ≡ V4 a
IsPlain (V6 a) plain = IsCanonicalOf a plain

-- It is of this machine.
abbrev pub IsLoopback : IpAddr → Type 0
IsLoopback address = MatchIp address IsLoopbackV4 IsLoopbackV6

-- Where a peer of this address comes from: it is the trusted proxy's just where that has this address, and it counts
-- for its address; but the proxy's for none yet, and one of this machine for none.
pub record IsFrom (proxy : Option IpAddr) (peer : IpAddr) (origin : Origin) : Type 0 where
  pub trusted : (origin.is_proxy ≡ true) ↔ (proxy ≡ Some peer)
  pub none : (proxy ≡ Some peer) ⊎ IsLoopback peer → origin.address ≡ None
  pub other : ¬ (proxy ≡ Some peer) → ¬ (IsLoopback peer) → origin.address ≡ Some (number_of peer)

-- A proxy's connection counts for this address.
abbrev pub CountsFor : Origin → IpAddr → Type 0
CountsFor origin address =
    (plain : IpAddr) × IsPlain address plain × (origin ≡ record { address = Some (number_of plain); is_proxy = true })

-- Where a connection comes from once a request of it says that a proxy asks for an address, or none did: that counts of
-- the trusted proxy alone, and there it does.
pub record IsToldOrigin (forwarded : Option IpAddr) (old new : Origin) : Type 0 where
  pub untrusted : old.is_proxy ≡ false → new ≡ old
  pub nothing : forwarded ≡ None → new ≡ old
  pub told : old.is_proxy ≡ true → IfSome forwarded (CountsFor new)
