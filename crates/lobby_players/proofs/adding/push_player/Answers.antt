use Rattle.hex.proofs.HexLemmas.{decode_sized-encode_lower}
use Rattle.lobby_players.proofs.adding.push_player.Goals as goal

pub returns-clause-digits : goal.returns-clause-digits
returns-clause-digits c = decode_sized-encode_lower c.args.sum.now 32 c.told-sum c.fits-sum
