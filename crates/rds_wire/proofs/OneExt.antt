-- No two extensions stand at one place.
use Rattle.std.proofs.Common.{◌≡◌, ℕ, ◌<◌, ◌^◌, List, ◌∷◌, length, take, drop, get_or, sym, ap, ◌∙◌, arith}
use Rattle.std.proofs.lemmas.List.{get_or-take}
use Rattle.byteorder.specs.Endian.{big_bytes}
use Rattle.rds_wire.specs.declared.ext.Ext.{Ext}
use Rattle.rds_wire.specs.declared.ext.Ext.TheVariants.{Version, RdmaKey, RdmaDest, Paths, Generation}
use Rattle.rds_wire.specs.Extensions.{ext_bytes, IsExt, StandsAt}
use Rattle.rds_wire.specs.HeaderLaws.{big_bytes-injective}

-- the number of the type
type_of : Ext → ℕ
type_of (Version version) = 1
type_of (RdmaKey key) = 2
type_of (RdmaDest key offset) = 3
type_of (Paths paths) = 5
type_of (Generation generation) = 6

-- it is the first byte
first-type : (list : List ℕ) (e : Ext) → take (length (ext_bytes e)) list ≡ ext_bytes e → get_or list 0 0 ≡ type_of e
unfolding type_of
first-type list (Version version) is = sym (get_or-take 5 list 0 0 (omega arith)) ∙ ap (λ (b : List ℕ). get_or b 0 0) is
first-type list (RdmaKey key) is = sym (get_or-take 5 list 0 0 (omega arith)) ∙ ap (λ (b : List ℕ). get_or b 0 0) is
first-type list (RdmaDest key offset) is = sym (get_or-take 9 list 0 0 (omega arith)) ∙ ap (λ (b : List ℕ). get_or b 0 0) is
first-type list (Paths paths) is = sym (get_or-take 3 list 0 0 (omega arith)) ∙ ap (λ (b : List ℕ). get_or b 0 0) is
first-type list (Generation generation) is = sym (get_or-take 5 list 0 0 (omega arith)) ∙ ap (λ (b : List ℕ). get_or b 0 0) is

-- the number after the type byte
number-after : (a b x y : ℕ) → x < 2 ^ 32 → y < 2 ^ 32 → a ∷ big_bytes 4 x ≡ b ∷ big_bytes 4 y → x ≡ y
number-after a b x y fits_x fits_y same = big_bytes-injective 4 x y fits_x fits_y (ap (λ (z : List ℕ). drop 1 z) same)

one_beginning : (list : List ℕ) (d e : Ext) → IsExt d → IsExt e
    → take (length (ext_bytes d)) list ≡ ext_bytes d → take (length (ext_bytes e)) list ≡ ext_bytes e → d ≡ e
unfolding type_of
one_beginning list (Version x) (Version y) fits_x fits_y is_x is_y =
    ap Version (number-after 1 1 x y fits_x fits_y (sym is_x ∙ is_y))
one_beginning list (RdmaKey x) (RdmaKey y) fits_x fits_y is_x is_y =
    ap RdmaKey (number-after 2 2 x y fits_x fits_y (sym is_x ∙ is_y))
one_beginning list (RdmaDest x v) (RdmaDest y w) fits_x fits_y is_x is_y =
    let same : ext_bytes (RdmaDest x v) ≡ ext_bytes (RdmaDest y w) = sym is_x ∙ is_y in
    let keys = big_bytes-injective 4 x y fits_x.0 fits_y.0 (ap (λ (z : List ℕ). take 4 (drop 1 z)) same) in
    let offsets = big_bytes-injective 4 v w fits_x.1 fits_y.1 (ap (λ (z : List ℕ). drop 5 z) same) in
    λ i. RdmaDest (keys i) (offsets i)
one_beginning list (Paths x) (Paths y) fits_x fits_y is_x is_y =
    ap Paths (big_bytes-injective 2 x y fits_x fits_y (ap (λ (z : List ℕ). drop 1 z) (sym is_x ∙ is_y)))
one_beginning list (Generation x) (Generation y) fits_x fits_y is_x is_y =
    ap Generation (number-after 6 6 x y fits_x fits_y (sym is_x ∙ is_y))
one_beginning list d e fits_d fits_e is_d is_e =
    let types : type_of d ≡ type_of e = sym (first-type list d is_d) ∙ first-type list e is_e in
    absurd (omega (arith, types))

pub one_StandsAt : (area : List ℕ) (pos : ℕ) (d e : Ext) → StandsAt area pos d → StandsAt area pos e → d ≡ e
one_StandsAt area pos d e first second = one_beginning (drop pos area) d e first.fits second.fits first.bytes second.bytes
