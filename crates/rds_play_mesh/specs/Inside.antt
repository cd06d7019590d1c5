-- How contracts see the fields of a mesh.
use Rattle.std.specs.Prelude.{◌≡◌, ◌≤◌, length}
use Rattle.rds_text.specs.declared.host.TheConstants.{MAX_HOSTS}
use Rattle.rds_play_mesh.specs.declared.mesh.Mesh.TheInside.{Inside}
use Rattle.rds_play_mesh.specs.Places.{triangle}
use Rattle.rds_play_mesh.specs.Ends.{MeshView}

abbrev pub mesh_view : Inside → MeshView
mesh_view m = record { count = m.count; joints = m.joints.items }

-- there is a joint for each two hosts
pub record MeshInvariant (m : Inside) : Type 0 where
  pub few : m.count ≤ MAX_HOSTS
  pub full : length m.joints.items ≡ triangle m.count
