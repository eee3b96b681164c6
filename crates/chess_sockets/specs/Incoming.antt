-- What a peer has sent that its session was not given yet.
use Rattle.std.specs.Prelude.{ℕ, List}
use Rattle.chess_sockets.specs.declared.incoming.Incoming.{Incoming}

-- the bytes that are held back
abbrev pub held : Incoming → List ℕ
held incoming = incoming.bytes.items
