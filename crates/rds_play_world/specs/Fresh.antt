-- Parts of a world of which nothing has happened. Source: this project's own.
use Rattle.std.specs.Prelude.{◌≡◌, ℕ, None, []}
use Rattle.rds_play_hosts.specs.declared.host.ScriptHost.{ScriptHost}
use Rattle.rds_play_hosts.specs.Telling.{TellsHost}
use Rattle.rds_play_world.specs.declared.peer_map.PeerMap.{PeerMap}

-- of a host, whichever it is, nothing has happened
abbrev pub IsNewHost : ScriptHost → Type 0
IsNewHost x = (h : ℕ) → TellsHost h [] x

-- no map of a peer was read
pub record IsUnread (p : PeerMap) : Type 0 where
  pub no_map : p.map ≡ None
  pub none_read : p.version ≡ 0
