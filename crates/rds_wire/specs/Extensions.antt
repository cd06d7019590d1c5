-- Extensions of a header: a byte with the type, then the data of that type, one extension after another. Types and
-- sizes are this project's profile after rds.h.
use Rattle.std.specs.Prelude.{◌≡◌, ℕ, ◌+◌, ◌≤◌, ◌<◌, ◌^◌, List, ◌∷◌, ◌++◌, length, take, drop}
use Rattle.byteorder.specs.Endian.{big_bytes}
use Rattle.rds_wire.specs.declared.ext.Ext.{Ext}
use Rattle.rds_wire.specs.declared.ext.Ext.TheVariants.{Version, RdmaKey, RdmaDest, Paths, Generation}

-- the type byte and the data of an extension
abbrev pub ext_bytes : Ext → List ℕ
ext_bytes (Version version) = 1 ∷ big_bytes 4 version
ext_bytes (RdmaKey key) = 2 ∷ big_bytes 4 key
ext_bytes (RdmaDest key offset) = 3 ∷ (big_bytes 4 key ++ big_bytes 4 offset)
ext_bytes (Paths paths) = 5 ∷ big_bytes 2 paths
ext_bytes (Generation generation) = 6 ∷ big_bytes 4 generation

-- each number fits its bytes
abbrev pub IsExt : Ext → Type 0
IsExt (Version version) = version < 2 ^ 32
IsExt (RdmaKey key) = key < 2 ^ 32
IsExt (RdmaDest key offset) = (key < 2 ^ 32) × (offset < 2 ^ 32)
IsExt (Paths paths) = paths < 2 ^ 16
IsExt (Generation generation) = generation < 2 ^ 32

-- the bytes begin with the extension, whole
pub record BeginsWith (list : List ℕ) (e : Ext) : Type 0 where
  pub fits : IsExt e
  pub within : length (ext_bytes e) ≤ length list
  pub bytes : take (length (ext_bytes e)) list ≡ ext_bytes e

-- the extension stands in the area at this place, whole
pub record StandsAt (area : List ℕ) (pos : ℕ) (e : Ext) : Type 0 where
  pub fits : IsExt e
  pub within : pos + length (ext_bytes e) ≤ length area
  pub bytes : take (length (ext_bytes e)) (drop pos area) ≡ ext_bytes e
