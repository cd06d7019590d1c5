-- Laws, each proved: proofs in other crates use them. Nothing here has to be believed.
-- The bytes of a header, and the fields that they show.
use Rattle.std.proofs.Common.{◌≡◌, ℕ, zero, suc, ◌/◌, ◌%◌, ◌<◌, ◌^◌, List, [], ◌++◌, length, take, drop, sym, ap, ◌∙◌, arith, append_assoc, length-append}
use Rattle.std.proofs.lemmas.List.{take_at, drop_at}
use Rattle.std.proofs.lemmas.List.Elements.{All-nil, All-cons, All-append}
use Rattle.std.proofs.Math.Nat.{mod-lt}
use Rattle.byteorder.specs.Endian.{big_bytes, big_number}
use Rattle.byteorder.specs.Numbers.{big_number-reads_back}
use Rattle.rds_wire.specs.declared.header.Header.{Header}
use Rattle.rds_wire.specs.Bytes.{header_bytes, IsHeader, IsBytes}

-- a number of n bytes is known by its bytes
pub big_bytes-injective : (n x y : ℕ) → x < 256 ^ n → y < 256 ^ n → big_bytes n x ≡ big_bytes n y → x ≡ y
big_bytes-injective n x y fits_x fits_y same =
    sym (big_number-reads_back n x [] fits_x) ∙ ap (λ (b : List ℕ). big_number n (b ++ [])) same ∙ big_number-reads_back n y [] fits_y

-- the bytes of a number are bytes
pub IsBytes-big_bytes : (n x : ℕ) → IsBytes (big_bytes n x)
IsBytes-big_bytes zero x = All-nil (λ b. b < 256)
IsBytes-big_bytes (suc zero) x =
    All-cons (λ b. b < 256) (x % 256) [] (mod-lt x (omega arith)) (All-nil (λ b. b < 256))
IsBytes-big_bytes (suc (suc n)) x =
    All-cons (λ b. b < 256) (x / 256 ^ suc n % 256) (big_bytes (suc n) x) (mod-lt (x / 256 ^ suc n) (omega arith)) (IsBytes-big_bytes (suc n) x)

-- a header has 48 bytes
pub length-header_bytes : (h : Header) → IsHeader h → length (header_bytes h) ≡ 48
unfolding header_bytes
length-header_bytes h is =
    simp length-append (omega (arith, is.padding.0, is.ext.0))

-- they are bytes
pub IsBytes-header_bytes : (h : Header) → IsHeader h → IsBytes (header_bytes h)
unfolding header_bytes
IsBytes-header_bytes h is =
    let both = λ (xs ys : List ℕ) (is_xs : IsBytes xs) (is_ys : IsBytes ys). All-append (λ x. x < 256) xs ys is_xs is_ys in
    let number = λ (n x : ℕ). IsBytes-big_bytes n x in
    let a = big_bytes 8 h.sequence ++ big_bytes 8 h.ack in
    let b = a ++ big_bytes 4 h.len in
    let c = b ++ big_bytes 2 h.sport ++ big_bytes 2 h.dport in
    let d = c ++ big_bytes 1 h.flags ++ big_bytes 1 h.credit in
    let is_a = both (big_bytes 8 h.sequence) (big_bytes 8 h.ack) (number 8 h.sequence) (number 8 h.ack) in
    let is_b = both a (big_bytes 4 h.len) is_a (number 4 h.len) in
    let is_c =
    both (b ++ big_bytes 2 h.sport) (big_bytes 2 h.dport) (both b (big_bytes 2 h.sport) is_b (number 2 h.sport)) (number 2 h.dport) in
    let is_d =
    both (c ++ big_bytes 1 h.flags) (big_bytes 1 h.credit) (both c (big_bytes 1 h.flags) is_c (number 1 h.flags)) (number 1 h.credit) in
    both (d ++ h.padding ++ big_bytes 2 h.csum) h.ext
    (both (d ++ h.padding) (big_bytes 2 h.csum) (both d h.padding is_d is.padding.1) (number 2 h.csum)) is.ext.1

-- two headers with the same bytes are the same
pub header_bytes-injective : (g h : Header) → IsHeader g → IsHeader h → header_bytes g ≡ header_bytes h → g ≡ h
unfolding header_bytes
header_bytes-injective g h is_g is_h same =
    let sequence : big_bytes 8 g.sequence ≡ big_bytes 8 h.sequence = ap (take 8) same in
    let ack : big_bytes 8 g.ack ≡ big_bytes 8 h.ack = ap (λ (b : List ℕ). take 8 (drop 8 b)) same in
    let len : big_bytes 4 g.len ≡ big_bytes 4 h.len = ap (λ (b : List ℕ). take 4 (drop 16 b)) same in
    let sport : big_bytes 2 g.sport ≡ big_bytes 2 h.sport = ap (λ (b : List ℕ). take 2 (drop 20 b)) same in
    let dport : big_bytes 2 g.dport ≡ big_bytes 2 h.dport = ap (λ (b : List ℕ). take 2 (drop 22 b)) same in
    let flags : big_bytes 1 g.flags ≡ big_bytes 1 h.flags = ap (λ (b : List ℕ). take 1 (drop 24 b)) same in
    let credit : big_bytes 1 g.credit ≡ big_bytes 1 h.credit = ap (λ (b : List ℕ). take 1 (drop 25 b)) same in
    let rest : g.padding ++ big_bytes 2 g.csum ++ g.ext ≡ h.padding ++ big_bytes 2 h.csum ++ h.ext = ap (drop 26) same in
    let tail_g : g.padding ++ big_bytes 2 g.csum ++ g.ext ≡ g.padding ++ (big_bytes 2 g.csum ++ g.ext) = append_assoc g.padding (big_bytes 2 g.csum) g.ext in
    let tail_h : h.padding ++ big_bytes 2 h.csum ++ h.ext ≡ h.padding ++ (big_bytes 2 h.csum ++ h.ext) = append_assoc h.padding (big_bytes 2 h.csum) h.ext in
    let both : g.padding ++ (big_bytes 2 g.csum ++ g.ext) ≡ h.padding ++ (big_bytes 2 h.csum ++ h.ext) = sym tail_g ∙ rest ∙ tail_h in
    let padding : g.padding ≡ h.padding =
    sym (take_at g.padding (big_bytes 2 g.csum ++ g.ext) 4 is_g.padding.0) ∙ ap (take 4) both ∙ take_at h.padding (big_bytes 2 h.csum ++ h.ext) 4 is_h.padding.0 in
    let after : big_bytes 2 g.csum ++ g.ext ≡ big_bytes 2 h.csum ++ h.ext =
    sym (drop_at g.padding (big_bytes 2 g.csum ++ g.ext) 4 is_g.padding.0) ∙ ap (drop 4) both ∙ drop_at h.padding (big_bytes 2 h.csum ++ h.ext) 4 is_h.padding.0 in
    let csum : big_bytes 2 g.csum ≡ big_bytes 2 h.csum = ap (take 2) after in
    let ext : g.ext ≡ h.ext = ap (drop 2) after in
    let s = big_bytes-injective 8 _ _ is_g.sequence is_h.sequence sequence in
    let a = big_bytes-injective 8 _ _ is_g.ack is_h.ack ack in
    let l = big_bytes-injective 4 _ _ is_g.len is_h.len len in
    let sp = big_bytes-injective 2 _ _ is_g.sport is_h.sport sport in
    let dp = big_bytes-injective 2 _ _ is_g.dport is_h.dport dport in
    let f = big_bytes-injective 1 _ _ is_g.flags is_h.flags flags in
    let c = big_bytes-injective 1 _ _ is_g.credit is_h.credit credit in
    let cs = big_bytes-injective 2 _ _ is_g.csum is_h.csum csum in
    λ i. record {
      sequence = s i;
      ack = a i;
      len = l i;
      sport = sp i;
      dport = dp i;
      flags = f i;
      credit = c i;
      padding = padding i;
      csum = cs i;
      ext = ext i;
    }

-- nor do two headers with the same bytes differ where something follows them
pub header_bytes-append : (g h : Header) (xs ys : List ℕ) → IsHeader g → IsHeader h
    → header_bytes g ++ xs ≡ header_bytes h ++ ys → (g ≡ h) × (xs ≡ ys)
header_bytes-append g h xs ys is_g is_h same =
    let len_g = length-header_bytes g is_g in
    let len_h = length-header_bytes h is_h in
    let fronts = sym (take_at (header_bytes g) xs 48 len_g) ∙ ap (take 48) same ∙ take_at (header_bytes h) ys 48 len_h in
    let backs = sym (drop_at (header_bytes g) xs 48 len_g) ∙ ap (drop 48) same ∙ drop_at (header_bytes h) ys 48 len_h in
    (header_bytes-injective g h is_g is_h fronts, backs)
