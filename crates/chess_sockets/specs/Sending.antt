-- What waits to be written on a connection.
use Rattle.std.specs.Prelude.{ℕ, ◌≡◌, List, ◌++◌, Option, drop}
use Rattle.std.specs.Io.KnownBytes.{Appends}
use Rattle.chess_sockets.specs.declared.outgoing.Outgoing.{Outgoing}

-- the bytes that wait
abbrev pub waiting : Outgoing → List ℕ
waiting o = drop o.sent o.text.items

-- A front of what waited was written, and the rest waits on.
pub record HandsOn (before after : Option (List ℕ)) (old new : List ℕ) : Type 0 where
  pub front : List ℕ
  pub appended : Appends before after front
  pub split : old ≡ front ++ new
