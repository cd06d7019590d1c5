-- A world in which nothing has happened.
use Rattle.std.proofs.Common.{◌≡◌, ℕ, ◌+◌, ◌*◌, ◌≤◌, Some, None, [], length, refl, sym, subst, arith}
use Rattle.std.specs.List.{All}
use Rattle.std.proofs.lemmas.List.Elements.{All-get_or}
use Rattle.rds_model.specs.declared.entry.TheConstants.{MAX_SLOTS}
use Rattle.rds_play_pair.specs.Ends.{JointEnd, blank}
use Rattle.rds_play_mesh.specs.Ends.{IsNewMesh}
use Rattle.rds_play_world.specs.declared.peer_map.PeerMap.{PeerMap}
use Rattle.rds_play_world.specs.Fresh.{IsNewHost, IsUnread}
use Rattle.rds_play_world.specs.Telling.{State, Tells, TellsEnd, TellsPeer}

end_begins : (limit h k : ℕ) (e : JointEnd) → e ≡ blank MAX_SLOTS limit → TellsEnd limit h k None [] e
end_begins limit h k e is = subst (TellsEnd limit h k None []) (sym is) (record {
  slots_are = refl;
  journal_is = refl;
  limit_is = refl;
  waiting_is = refl;
  flying_is = refl;
  within = λ stream on. let no : None ≡ Some stream = on in cc;
})

peer_begins : (h k : ℕ) (p : PeerMap) → IsUnread p → TellsPeer h k [] p
peer_begins h k p new = record { map_is = new.no_map; version_is = new.none_read }

pub tells_nothing : (limit count : ℕ) (s : State) → count ≤ 8 → s.limit ≡ limit → s.count ≡ count → s.text ≡ [] → length s.hosts ≡ count →
    All IsNewHost s.hosts → IsNewMesh count limit s.mesh → length s.peers ≡ 64 → All IsUnread s.peers → Tells limit count [] s
tells_nothing limit count s few limit_is count_is text_is housed hosts mesh known peers = record {
  limit_is = limit_is;
  count_is = count_is;
  text_is = text_is;
  hosts_are = λ h h_in x is. subst IsNewHost (sym is) (All-get_or IsNewHost s.hosts h x (omega (arith, housed, h_in)) hosts) h;
  ends_are = λ h k h_in k_in apart. end_begins limit h k _ (mesh.blank_ends h k h_in k_in apart);
  peers_are = λ h k h_in k_in p is. peer_begins h k p (subst IsUnread (sym is) (All-get_or IsUnread s.peers (8 * h + k) p (omega (arith, known, few, h_in, k_in)) peers));
}
