-- What a site has: its hosts and its files.
use Rattle.std.specs.Prelude.{ℕ, ◌≡◌, ◌≢◌, ◌-◌, Bool, List, [], ◌∷◌, ◌++◌, Option, bytes_eq, codes, drop, find}
use Rattle.std.specs.Prelude.{if◌then◌else◌, length, take}
use Rattle.std.specs.List.{list_any, position}
use Rattle.http1.specs.Text.{eq_ignore_case}
use Rattle.lobby_web.specs.declared.site.Site.{Site}
use Rattle.lobby_web.specs.declared.site.File.{File}
use Rattle.lobby_web.specs.declared.site.Kind.{Kind}
use Rattle.hex.specs.Hex.{encode_lower}

-- the entity tag by this mark: its hex digits, in quotes
abbrev pub tag_of : List ℕ → List ℕ
tag_of mark = 34 ∷ encode_lower mark ++ 34 ∷ []

-- The file is of this path, this kind and these bytes, with the tag by this mark.
pub record IsFile (place : List ℕ) (sort : Kind) (content mark : List ℕ) (file : File) : Type 0 where
  pub path : file.path.items ≡ place
  pub kind : file.kind ≡ sort
  pub bytes : file.bytes ≡ content
  pub tag : file.tag.items ≡ tag_of mark

-- a host without this port behind it, as `:80`
abbrev pub without_port : List ℕ → List ℕ → List ℕ
without_port port host =
    if bytes_eq (drop (length host - length port) host) port then take (length host - length port) host else host

-- Two hosts are one by a scheme whose port this is: a host without a port has that one (RFC 9110, 4.2.1 and 4.2.2), and
-- small and capital letters are the same in a host (4.2.3).
abbrev pub is_same_host : List ℕ → List ℕ → List ℕ → Bool
is_same_host port one other = eq_ignore_case (without_port port one) (without_port port other)

-- the host is one of those that are taken, by HTTP, whose port is 80
abbrev pub has_host : Site → List ℕ → Bool
has_host site host = list_any (λ taken. is_same_host (codes ":80") taken.items host) site.hosts.items

-- the first file of this path
abbrev pub file_at : Site → List ℕ → Option File
file_at site path = find (λ file. bytes_eq file.path.items path) site.files.items

-- where that file stands
abbrev pub place_of : Site → List ℕ → Option ℕ
place_of site path = position (λ file. bytes_eq file.path.items path) site.files.items

-- The path has this file, or none, and every other path what it had. The hosts are the same.
pub record Changes (path : List ℕ) (file : Option File) (old new : Site) : Type 0 where
  pub hosts : new.hosts ≡ old.hosts
  pub there : file_at new path ≡ file
  pub others : (other : List ℕ) → other ≢ path → file_at new other ≡ file_at old other

-- Hosts and files are the same.
abbrev pub IsSameSite : Site → Site → Type 0
IsSameSite old new = (new.hosts ≡ old.hosts) × (new.files.items ≡ old.files.items)
